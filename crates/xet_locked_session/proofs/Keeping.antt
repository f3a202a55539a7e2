-- What a pass that makes steps is after one of them.
use Rattle.std.proofs.Common.{◌≡◌, ◌∙◌, ℕ, suc, ◌+◌, ◌≤◌, Bool, false, List, [], ◌∷◌, drop, length, map, slice_get, refl, sym, ap, subst, arith, length-append}
use Rattle.std.specs.List.{AllByRecursion}
use Rattle.std.specs.List.Sorted.{IsStrictlyIncreasing}
use Rattle.std.proofs.lemmas.List.{drop_all, drop_at}
use Rattle.xet_base.specs.theorems.Elements.{all_back, all_both, all_more}
use Rattle.xet_history.specs.History.{Legal}
use Rattle.xet_history.specs.declared.entry.Entry.{Entry}
use Rattle.xet_locked_session.specs.Passes.{IsSeen, IsThere}
use Rattle.xet_store.specs.Holders.{Follows, Holder, IsDueEntry, IsHolder, IsOwn, core_at, grown, numbered, seen, xorb_limits}
use Rattle.xet_locked_session.specs.Passing.{IsPassing, passing_of}
use Rattle.xet_locked_session.proofs.Carrying.{follows_new, grown_is, later, seen_here, still_new}
use Rattle.xet_locked_session.proofs.Fronts.{ascend_rest, legal_rest}

-- an entry that was added since a pass began
abbrev pub IsSince : Holder → (ℕ × Entry) → Type 0
IsSince start p = (length (seen start) ≤ p.0) × IsDueEntry (xorb_limits start.limits) p.1

module _ (start : Holder) (since : List Entry) (own : List (ℕ × Entry)) (was b : Bool) where
  abbrev now : Holder
  now = later start since own was

  abbrev here : Holder
  here = passing_of start now b

  all_own : (ps : List (ℕ × Entry)) → AllByRecursion (IsThere now) ps → AllByRecursion (IsSince start) ps → AllByRecursion (IsOwn here) ps
  all_own [] there all = tt
  all_own (p ∷ ps) there all = (
    record {
      there = ap (λ (h : List Entry). slice_get h p.0) (seen_here start since own was b) ∙ there.0.there;
      later = all.0.0;
      pass = there.0.made;
      due = all.0.1;
    },
    all_own ps there.1 all.1,
  )

  holds_here : IsSeen now → AllByRecursion (IsSince start) (drop (length start.own) now.own) → IsHolder here
  holds_here is all =
      let rest : drop (length start.own) now.own ≡ own = drop_at start.own own (length start.own) refl in
      record {
        legal = subst (Legal start.tells (core_at start)) (sym (drop_at start.since since (length start.since) refl)) (legal_rest start.tells start.base start.since since is.legal);
        own = subst (AllByRecursion (IsOwn here)) (sym rest) (all_own own (all_back (IsThere now) start.own own is.own) (subst (AllByRecursion (IsSince start)) rest all));
        ascend = subst (λ (ps : List (ℕ × Entry)). IsStrictlyIncreasing (map (λ p. p.0) ps)) (sym rest) (ascend_rest start.own own is.ascend);
      }

-- a pass, by what is known of its session and of its entries since it began
pub holds_of : (start now : Holder) (follows : Follows start now) (b : Bool) → IsSeen now → AllByRecursion (IsSince start) (drop (length start.own) now.own) → IsHolder (passing_of start now b)
holds_of start now follows b =
    subst (λ (h : Holder). IsSeen h → AllByRecursion (IsSince start) (drop (length start.own) h.own) → IsHolder (passing_of start h b)) (sym follows.is) (holds_here start follows.since follows.own now.stopped b)

-- it has added none yet
pub since_nothing : (start : Holder) → AllByRecursion (IsSince start) (drop (length start.own) start.own)
since_nothing start = subst (AllByRecursion (IsSince start)) (sym (drop_all (length start.own) start.own (omega arith))) tt

since_numbered : (start : Holder) (n : ℕ) (es : List Entry) → length (seen start) ≤ n → AllByRecursion (IsDueEntry (xorb_limits start.limits)) es → AllByRecursion (IsSince start) (numbered n es)
since_numbered start n [] le due = tt
since_numbered start n (e ∷ es) le due = ((le, due.0), since_numbered start (suc n) es (omega (arith, le)) due.1)

module _ (start old new : Holder) (others added : List Entry) (was : IsPassing start old false) (grew : new ≡ grown old others added) where
  abbrev before : Holder
  before = passing_of start old false

  since_all : AllByRecursion (IsDueEntry (xorb_limits start.limits)) added → AllByRecursion (IsSince start) (drop (length start.own) new.own)
  since_all due =
      let first : ℕ = length (seen before) + length others in
      subst (AllByRecursion (IsSince start)) (sym (ap (λ (h : Holder). h.own) (grown_is start old was.follows new others added grew false)))
      (all_both (IsSince start) before.own (numbered first added) (all_more (IsOwn before) (IsSince start) before.own (λ p is. (is.later, is.due)) was.holds.own)
      (since_numbered start first added (omega (arith, length-append (seen start) before.since)) due))

  pub passing_more : (b : Bool) → IsSeen new → AllByRecursion (IsDueEntry (xorb_limits start.limits)) added → IsPassing start new b
  passing_more b is due =
      let follows : Follows start new = follows_new start old was.follows new others added grew in
      record {
        follows = follows;
        holds = holds_of start new follows b is (since_all due);
        going = was.going;
        still = still_new start old was.follows new others added grew ∙ was.still;
      }
