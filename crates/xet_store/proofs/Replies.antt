-- Completed queries and registrations of a holder, for the deduplication of a file.
use Rattle.std.proofs.Common.{◌≡◌, ◌∙◌, ℕ, ◌+◌, ◌<◌, Bool, true, false, All, List, [], ◌∷◌, ◌++◌, length, take, Option, Some, None, IfSome, option_map, refl, sym, ap, subst, arith}
use Rattle.xet_choices.specs.Calls.{Call, entries_of}
use Rattle.xet_choices.specs.Calls.Call.{Registered}
use Rattle.xet_dedup_queries.specs.Interface.{IsFoundRun, asked}
use Rattle.xet_history.specs.History.{query_entries, register_entries}
use Rattle.xet_history.specs.Sound.{IsStanding, IsUsableRun}
use Rattle.xet_history.specs.declared.entry.Entry.{Entry}
use Rattle.xet_shard_format.specs.declared.record.FileDataSequenceEntry.{FileDataSequenceEntry as Segment}
use Rattle.xet_store.specs.Interface.{Stands}
use Rattle.xet_store.specs.Holders.{FollowsAsking, Holder, IsHolder, calls_of, core_at, core_found, grown, lengths_in, numbered, seen}
use Rattle.xet_store.specs.Stepping.{SawQuery, SawRegister}
use Rattle.xet_store.proofs.Calls.{Calling, entries_before, query_calling, register_calling}
use Rattle.xet_store.proofs.Following.{asking_grown}
use Rattle.xet_store.specs.theorems.Following.{calls_in-append}
use Rattle.xet_store.proofs.Listing.{found_of}

-- the call that some entries are is among the calls of a holder that has grown by them
module _ (h : Holder) (others added : List Entry) (calls : ℕ → List Call) (calling : Calling added calls 0) where
  abbrev at : ℕ
  at = length (seen h) + length others

  grown_asking : FollowsAsking h (grown h others added)
  grown_asking = let few = calling.few at in asking_grown h others added (calls at) calling.all (calling.are at) (omega (arith, few))

  grown_calls : calls_of (grown h others added) ≡ calls_of h ++ calls at
  grown_calls = calls_in-append h.own (numbered at added) ∙ ap (λ (l : List Call). calls_of h ++ l) (calling.are at)

-- what a query found, as the interface has it
abbrev OwnRun : Type 0
OwnRun = ℕ × Segment × Bool

abbrev own_run : ℕ × Segment → OwnRun
own_run r = (r.0, r.1, false)

module _ (hashes : List (List ℕ)) (old new : Holder) (reply : Option (ℕ × Segment)) (saw : SawQuery hashes old new reply) where
  counted : (run : ℕ × Segment) → reply ≡ Some run → run.1.chunk_index_end ≡ run.1.chunk_index_start + run.0
  counted run is = (subst (λ (o : Option (ℕ × Segment)). IfSome o (IsUsableRun (core_at new).xorbs hashes)) is saw.usable).lies.count

  calling : Calling (query_entries old.number hashes reply) (λ n. asked n hashes (option_map (λ r. r.0) reply)) 0
  calling = query_calling old.number hashes reply counted

  pub asking_query : FollowsAsking old new
  asking_query = subst (FollowsAsking old) (sym saw.is) (grown_asking old saw.others (query_entries old.number hashes reply) (λ n. asked n hashes (option_map (λ r. r.0) reply)) calling)

  stand : new.tells ≡ true → IfSome reply (λ run. IsStanding (core_at new) (take run.0 hashes) run.1)
  stand told = saw.stands (sym (ap (λ (h : Holder). h.tells) saw.is) ∙ told)

  module _ (found : Option OwnRun) (is : found ≡ option_map own_run reply) where
    pub found_reply : IfSome found (λ r. IsFoundRun (lengths_in (core_at new)) (Stands new) hashes r.0 r.1)
    found_reply = subst (λ (o : Option OwnRun). IfSome o (λ r. IsFoundRun (lengths_in (core_at new)) (Stands new) hashes r.0 r.1)) (sym is) (go reply saw.usable stand)
      where
        go : (o : Option (ℕ × Segment)) → IfSome o (IsUsableRun (core_at new).xorbs hashes) → (new.tells ≡ true → IfSome o (λ run. IsStanding (core_at new) (take run.0 hashes) run.1))
            → IfSome (option_map own_run o) (λ r. IsFoundRun (lengths_in (core_at new)) (Stands new) hashes r.0 r.1)
        go None usable stands = tt
        go (Some run) usable stands = found_of (core_at new) (Stands new) hashes run usable stands

    counts : (o : Option (ℕ × Segment)) → option_map (λ (r : ℕ × Segment). r.0) o ≡ option_map (λ (r : OwnRun). r.0) (option_map own_run o)
    counts None = refl
    counts (Some run) = refl

    pub asked_reply : IsHolder old → (entry : ℕ) × All (λ n. n < entry) (entries_of (calls_of old)) × (calls_of new ≡ calls_of old ++ asked entry hashes (option_map (λ r. r.0) found))
    asked_reply holds = (
      length (seen old) + length saw.others,
      entries_before old saw.others holds.own,
      ap calls_of saw.is
          ∙ grown_calls old saw.others (query_entries old.number hashes reply) (λ n. asked n hashes (option_map (λ r. r.0) reply)) calling
          ∙ ap (λ (o : Option ℕ). calls_of old ++ asked (length (seen old) + length saw.others) hashes o) (counts reply ∙ ap (option_map (λ (r : OwnRun). r.0)) (sym is)),
    )

module _ (leaves next : List (List ℕ × ℕ)) (old new : Holder) (added : Bool) (saw : SawRegister leaves next old new added) where
  abbrev entries : List Entry
  entries = register_entries old.number (core_found old saw.others) old.limits.shard_target leaves next

  registering : Calling entries (λ n. Registered leaves next ∷ []) 0
  registering = register_calling old.number (core_found old saw.others) old.limits.shard_target leaves next

  pub asking_register : FollowsAsking old new
  asking_register = subst (FollowsAsking old) (sym saw.is) (grown_asking old saw.others entries (λ n. Registered leaves next ∷ []) registering)

  pub registered_calls : calls_of new ≡ calls_of old ++ Registered leaves next ∷ []
  registered_calls = ap calls_of saw.is ∙ grown_calls old saw.others entries (λ n. Registered leaves next ∷ []) registering
