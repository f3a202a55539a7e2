-- The session is closed, and one caller alone merges what workers made.
use Rattle.std.proofs.Common.{◌≡◌, ◌∙◌, ◌+◌, ◌*◌, false, List, length, sym, ap, subst}
use Rattle.std.specs.Prelude.{Err, IfErr, IfOk, Ok, Result}
use Rattle.std.specs.List.{sum_by}
use Rattle.xet_clean.specs.Closing.{IsAtMost}
use Rattle.xet_clean.specs.Merging.{IsUnmerged, MayMergeAll, MergesAll, Part}
use Rattle.xet_clean.specs.declared.info.Cleaned.{Cleaned}
use Rattle.xet_clean.specs.declared.working.Working.{Working}
use Rattle.xet_hash.specs.declared.error.StoreError.{StoreError}
use Rattle.xet_store.specs.Alone.{AloneState, IsAlone, alone_of}
use Rattle.xet_store.specs.Holders.{Follows, Holder}
use Rattle.xet_store.specs.Recorded.{RecordedState}
use Rattle.xet_workers.specs.internal.Ending.{MergedAlone, UnmergedAlone}

-- ---- results

pub at_ok : {T E : Type 0} (r : Result T E) (P : T → Type 0) (x : T) → r ≡ Ok x → P x → IfOk r P
at_ok {T} {E} r P x is p = subst (λ (s : Result T E). IfOk s P) (sym is) p

-- ---- a store that was lent to one caller and given back

first_alone : (old : RecordedState) (first : AloneState) → first.start ≡ old → first.store ≡ old → first.stopped ≡ false → alone_of first.start first.store first.stopped ≡ alone_of old old false
first_alone old first start_is store_is going = λ i. alone_of (start_is i) (store_is i) (going i)

pub may_first : (old : RecordedState) (first : AloneState) → first.start ≡ old → first.store ≡ old → first.stopped ≡ false → (ps : List Part) (ws : List Working) → MayMergeAll (alone_of old old false) ps ws
    → MayMergeAll (alone_of first.start first.store first.stopped) ps ws
may_first old first start_is store_is going ps ws may = subst (λ (h : Holder). MayMergeAll h ps ws) (sym (first_alone old first start_is store_is going)) may

module _ (old new : RecordedState) (first last : AloneState) (start_is : first.start ≡ old) (store_is : first.store ≡ old) (going : first.stopped ≡ false) (given : new ≡ last.store)
    (is : IsAlone last.start last.store last.stopped) (follows : Follows (alone_of first.start first.store first.stopped) (alone_of last.start last.store last.stopped)) where
  began : last.start ≡ old
  began = ap (λ (h : Holder). h.origin) follows.is ∙ start_is

  alone_is : IsAlone old new last.stopped
  alone_is = subst (λ (s : RecordedState). IsAlone s new last.stopped) began (subst (λ (s : RecordedState). IsAlone last.start s last.stopped) (sym given) is)

  last_is : alone_of last.start last.store last.stopped ≡ alone_of old new last.stopped
  last_is = λ i. alone_of (began i) (sym given i) last.stopped

  moved : (P : Holder → Holder → Type 0) → P (alone_of first.start first.store first.stopped) (alone_of last.start last.store last.stopped) → P (alone_of old old false) (alone_of old new last.stopped)
  moved P p =
      subst (λ (h : Holder). P h (alone_of old new last.stopped)) (first_alone old first start_is store_is going) (subst (λ (h : Holder). P (alone_of first.start first.store first.stopped) h) last_is p)

  pub merged_alone : (ps : List Part) (r : Result Cleaned StoreError)
      → IfOk r (λ c. MergesAll ps (alone_of first.start first.store first.stopped) (alone_of last.start last.store last.stopped) c.infos.items c.choices.items c.metrics)
      → IfOk r (λ c. MergedAlone old new ps c.infos.items c.choices.items c.metrics)
  merged_alone ps (Ok c) m = record { stopped = last.stopped; alone = alone_is; merged = moved (λ x y. MergesAll ps x y c.infos.items c.choices.items c.metrics) m }
  merged_alone ps (Err e) m = tt

  pub unmerged_alone : (ps : List Part) (ws : List Working) (r : Result Cleaned StoreError)
      → IfErr r (IsUnmerged ps (alone_of first.start first.store first.stopped) (alone_of last.start last.store last.stopped))
      → IsAtMost (sum_by (λ w. 2 * length w.aggregate.chunks + 2 * length w.aggregate.files) ws) (alone_of first.start first.store first.stopped) (alone_of last.start last.store last.stopped)
      → IfErr r (UnmergedAlone old new ps ws)
  unmerged_alone ps ws (Ok c) u few = tt
  unmerged_alone ps ws (Err e) u few = record {
    stopped = last.stopped;
    alone = alone_is;
    refused = moved (λ x y. IsUnmerged ps x y e) u;
    few = moved (λ x y. IsAtMost (sum_by (λ (w : Working). 2 * length w.aggregate.chunks + 2 * length w.aggregate.files) ws) x y) few;
  }
