-- What follows when all sources were cleaned and the aggregate was closed.
use Rattle.std.proofs.Common.{◌≡◌, ◌∙◌, inl, inr, ℕ, ◌+◌, ◌*◌, ◌≤◌, false, List, [], ◌∷◌, ◌++◌, length, map, refl, sym, ap, subst, length-append, arith}
use Rattle.std.proofs.lemmas.List.{length-map}
use Rattle.std.specs.List.{AllByRecursion, sum_by}
use Rattle.xet_aggregate.specs.Aggregate.{Aggregate}
use Rattle.xet_aggregate.specs.declared.metrics.DeduplicationMetrics.{DeduplicationMetrics}
use Rattle.xet_base.specs.theorems.Elements.{all_more}
use Rattle.xet_choices.specs.Calls.{Call, registered_chunks}
use Rattle.xet_choices.specs.Choices.{new_chunks}
use Rattle.xet_choices.specs.declared.choice.Choice.{Choice}
use Rattle.xet_choices.specs.theorems.Calls.{registered_chunks-append}
use Rattle.xet_history.specs.declared.entry.Entry.{Entry}
use Rattle.xet_shard_format.specs.declared.record.MDBFileInfo.{MDBFileInfo}
use Rattle.xet_store_disk.specs.Separate.{Among}
use Rattle.xet_store_disk.specs.declared.info.XetFileInfo.{XetFileInfo}
use Rattle.xet_store.specs.Holders.{Follows, Holder, calls_in}
use Rattle.xet_store.specs.theorems.Following.{calls_in-append, follows_then}
use Rattle.xet_xorb_chunk.specs.Chunks.{chunk_leaf}
use Rattle.xet_clean.specs.Cleaning.{RegistersFew, close_of}
use Rattle.xet_clean.specs.Closing.{Closes, filled_files, recorded_in}
use Rattle.xet_clean.specs.Working.{AreRecorded, IsWorking, Planned, WasPlanned}
use Rattle.xet_clean.specs.theorems.Adding.{Adds, adds_closed_last, recorded_in-append}
use Rattle.xet_clean.specs.theorems.Keeping.{was_planned_follows}
use Rattle.xet_clean.specs.theorems.Records.{records_filled}

-- ---- elements of a list that is made of another

module _ {X Y : Type 0} (f : X → Y) where
  pub among_made : (xs : List X) (x : X) → Among xs x → Among (map f xs) (f x)
  among_made [] x a = absurd a
  among_made (y ∷ xs) x (inl e) = inl (ap f e)
  among_made (y ∷ xs) x (inr a) = inr (among_made xs x a)

  pub made_of : (xs : List X) (y : Y) → Among (map f xs) y → (x : X) × Among xs x × (f x ≡ y)
  made_of [] y a = absurd a
  made_of (x ∷ xs) y (inl e) = (x, inl refl, e)
  made_of (x ∷ xs) y (inr a) = let r = made_of xs y a in (r.0, inr r.1, r.2)

-- ---- the end

-- All files were cleaned since the start, and each that is not empty is recorded once, in order; no other is.
pub record IsEnded (start now : Holder) (files : List Planned) : Type 0 where
  pub follows : Follows start now
  pub going : now.stopped ≡ false
  pub planned : AllByRecursion (WasPlanned start now) files
  pub records : AreRecorded files (recorded_in follows.own)
  pub registered : registered_chunks (calls_in follows.own) ≡ sum_by (λ f. new_chunks f.plan.choices) files
  pub registers : RegistersFew (calls_in follows.own)
  pub bound : length follows.own ≤ 3 * sum_by (λ f. length f.plan.leaves) files + 2 * length files

pub last_chunks : (leaves : List (List ℕ × ℕ)) → registered_chunks (close_of leaves) ≡ length leaves
last_chunks [] = refl
last_chunks (m ∷ ms) = omega arith

module _ (start before now : Holder) (files : List Planned) (infos : List XetFileInfo) (choices : List (List Choice)) (metrics : DeduplicationMetrics) (a : Aggregate)
    (w : IsWorking start before files infos choices metrics a) (closes : Closes a [] before now) where
  abbrev last : List (List ℕ × ℕ)
  last = map chunk_leaf a.chunks

  closed : Adds (close_of (map chunk_leaf a.chunks)) (filled_files a) (2 * length a.chunks + 2 * length a.files) before now
  closed = adds_closed_last a before now closes

  records_all : AreRecorded files (recorded_in (w.follows.own ++ closed.follows.own))
  records_all =
      subst (AreRecorded files)
      (sym (recorded_in-append w.follows.own closed.follows.own ∙ ap (λ (l : List MDBFileInfo). recorded_in w.follows.own ++ l) closed.records))
      (records_filled a files (recorded_in w.follows.own) w.records)

  pub ended : IsEnded start now files
  unfolding follows_then
  ended =
      let own : List (ℕ × Entry) = w.follows.own in
      let more : List (ℕ × Entry) = closed.follows.own in
      let calls : calls_in (own ++ more) ≡ calls_in own ++ close_of last = calls_in-append own more ∙ ap (λ (l : List Call). calls_in own ++ l) closed.are in
      record {
        follows = follows_then start before now w.follows closed.follows;
        going = closed.going ∙ w.going;
        planned = all_more (WasPlanned start before) (WasPlanned start now) files (was_planned_follows before now closed.follows start) w.planned;
        records = records_all;
        registered = omega (arith, ap registered_chunks calls, registered_chunks-append (calls_in own) (close_of last), last_chunks last, length-map a.chunks chunk_leaf, w.new);
        registers = record { before = calls_in own; last = last; is = calls; lands = w.lands };
        bound = omega (arith, length-append own more, closed.few, w.bound);
      }
