-- What the deduplication of a file adds by a call.
use Rattle.std.proofs.Common.{◌≡◌, ◌∙◌, ℕ, suc, ◌+◌, ◌≤◌, Bool, true, false, List, [], ◌∷◌, ◌++◌, length, refl, ap, length-append, if◌then◌else◌, arith}
use Rattle.std.specs.List.{AllByRecursion}
use Rattle.xet_choices.specs.Calls.{Call}
use Rattle.xet_dedup_queries.specs.Counting.{entries_at_most}
use Rattle.xet_history.specs.declared.entry.Entry.{Entry}
use Rattle.xet_store.specs.Holders.{FollowsAsking, Holder, IsCall, calls_in, calls_of, ended, grown, numbered, seen}
use Rattle.xet_store.specs.theorems.Following.{calls_in-append, length-numbered}

numbered_all : (n : ℕ) (es : List Entry) → AllByRecursion IsCall es → AllByRecursion (λ p. IsCall p.1) (numbered n es)
numbered_all n [] all = tt
numbered_all n (e ∷ es) all = (all.0, numbered_all (suc n) es all.1)

module _ (h : Holder) (others added : List Entry) where
  abbrev pub at : ℕ
  at = length (seen h) + length others

  abbrev own : List (ℕ × Entry)
  own = numbered at added

  -- entries of a completed step
  pub asking_grown : (calls : List Call) → AllByRecursion IsCall added → calls_in own ≡ calls → length added ≤ entries_at_most calls → FollowsAsking h (grown h others added)
  asking_grown calls all are few = record {
    follows = record { since = others ++ added; own = own; is = refl };
    none = numbered_all at added all;
    calls = calls;
    added = calls_in-append h.own own ∙ ap (λ (l : List Call). calls_of h ++ l) are;
    few = omega (arith, few, length-numbered at added);
    still = λ s. s;
  }

  -- entries of a step that failed
  pub asking_ended : AllByRecursion IsCall added → calls_in own ≡ [] → length added ≤ 2 → (h.stopped ≡ true → (ended h others added).own ≡ h.own) → FollowsAsking h (ended h others added)
  asking_ended all none few still = record {
    follows = record { since = others ++ added; own = own; is = refl };
    none = numbered_all at added all;
    calls = [];
    added = calls_in-append h.own own ∙ ap (λ (l : List Call). calls_of h ++ l) none;
    few = go h.stopped still;
    still = λ s. refl;
  }
    where
      go : (b : Bool) → (b ≡ true → h.own ++ own ≡ h.own) → length own ≤ 0 + (if b then 0 else 2)
      go true same = omega (arith, length-append h.own own, ap (λ (l : List (ℕ × Entry)). length l) (same refl))
      go false same = omega (arith, few, length-numbered at added)
