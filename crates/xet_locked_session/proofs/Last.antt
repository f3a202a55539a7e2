-- The number of the entry of the last query, after a step.
use Rattle.std.proofs.Common.{◌≡◌, ◌≢◌, ◌∙◌, ℕ, ◌+◌, ◌-◌, Bool, false, List, [], ◌∷◌, ◌++◌, length, Option, option_map, refl, sym, ap, arith, length-append}
use Rattle.std.proofs.lemmas.List.{append-nil, drop_all}
use Rattle.xet_choices.specs.Calls.{Call, entries_of}
use Rattle.xet_choices.specs.Calls.Call.{Asked, Registered}
use Rattle.xet_choices.specs.theorems.Calls.{entries_of-append}
use Rattle.xet_history.specs.History.{query_entries, reply_of, stated}
use Rattle.xet_history.specs.declared.entry.Entry.{Entry}
use Rattle.xet_shard_format.specs.declared.record.FileDataSequenceEntry.{FileDataSequenceEntry as Segment}
use Rattle.xet_store.specs.Holders.{Follows, Holder, calls_in, calls_of, grown, numbered, run_count, seen}
use Rattle.xet_store.specs.theorems.Following.{calls_in-append}
use Rattle.xet_locked_session.specs.Passing.{passing_of}
use Rattle.xet_locked_session.specs.internal.Kept.{IsLast}
use Rattle.xet_locked_session.proofs.Carrying.{grown_is, seen_same}

no_last : (before : List ℕ) (n : ℕ) → [] ≡ before ++ n ∷ [] → ⊥
no_last [] n is = cc is
no_last (b ∷ before) n is = cc is

-- two lists that are the same have the same last number
same_last : (xs ys : List ℕ) (x y : ℕ) → xs ++ x ∷ [] ≡ ys ++ y ∷ [] → x ≡ y
same_last [] [] x y is = cc is
same_last [] (b ∷ ys) x y is = let rest : [] ≡ ys ++ y ∷ [] = cc is in absurd (no_last ys y rest)
same_last (a ∷ xs) [] x y is = let rest : [] ≡ xs ++ x ∷ [] = cc is in absurd (no_last xs x rest)
same_last (a ∷ xs) (b ∷ ys) x y is = same_last xs ys x y (cc is)

-- there is none yet
pub last_begins : (start : Holder) (last : ℕ) (b : Bool) → IsLast (passing_of start start b) last
last_begins start last b = λ before entry is. absurd (no_last before entry (sym (ap (λ (ps : List (ℕ × Entry)). entries_of (calls_in ps)) (drop_all (length start.own) start.own (omega arith))) ∙ is))

module _ (start old new : Holder) (follows : Follows start old) (others added : List Entry) (grew : new ≡ grown old others added) where
  abbrev first : ℕ
  first = length (seen (passing_of start old false)) + length others

  abbrev calls_old : List Call
  calls_old = calls_of (passing_of start old false)

  calls_new : calls_old ++ calls_in (numbered first added) ≡ calls_of (passing_of start new false)
  calls_new = sym (ap (λ (h : Holder). calls_in h.own) (grown_is start old follows new others added grew false) ∙ calls_in-append (passing_of start old false).own (numbered first added))

  entries_new : entries_of calls_old ++ entries_of (calls_in (numbered first added)) ≡ entries_of (calls_of (passing_of start new false))
  entries_new = sym (entries_of-append calls_old (calls_in (numbered first added))) ∙ ap entries_of calls_new

  -- after a step that asks nothing
  last_stays : (last : ℕ) → entries_of (calls_in (numbered first added)) ≡ [] → IsLast (passing_of start old false) last → IsLast (passing_of start new false) last
  last_stays last none is = λ before entry ends.
      is before entry (sym (append-nil (entries_of calls_old)) ∙ ap (λ (es : List ℕ). entries_of calls_old ++ es) (sym none) ∙ entries_new ∙ ends)

  -- after a step that is no call of the deduplication of a file
  pub last_kept : (last : ℕ) → ((n : ℕ) → calls_in (numbered n added) ≡ []) → IsLast (passing_of start old false) last → IsLast (passing_of start new false) last
  last_kept last none is = last_stays last (ap entries_of (none first)) is

  -- after a registration
  pub last_other : (last : ℕ) (leaves next : List (List ℕ × ℕ)) → ((n : ℕ) → calls_in (numbered n added) ≡ Registered leaves next ∷ []) → IsLast (passing_of start old false) last → IsLast (passing_of start new false) last
  last_other last leaves next one is = last_stays last (ap entries_of (one first)) is

  -- after a query: its entry is the last one that is seen
  seen_one : length added ≡ 1 → length (seen new) ≡ first + 1
  seen_one count =
      omega (
        arith,
        ap (λ (h : Holder). length (seen h)) grew,
        ap (λ (h : List Entry). length h) (seen_same start old follows false),
        length-append old.before (old.since ++ (others ++ added)),
        length-append old.before old.since,
        length-append old.since (others ++ added),
        length-append others added,
        count,
      )

  last_query : (last : ℕ) (hs : List (List ℕ)) (r : Option ℕ) → calls_in (numbered first added) ≡ Asked first hs r ∷ [] → length added ≡ 1 → last ≡ length (seen new) - 1 → IsLast (passing_of start new false) last
  last_query last hs r one count is = λ before entry ends.
      let at : first ≡ entry = same_last (entries_of calls_old) before first entry (ap (λ (cs : List Call). entries_of calls_old ++ entries_of cs) (sym one) ∙ entries_new ∙ ends) in
      omega (arith, at, seen_one count, is)

module _ (start old new : Holder) (follows : Follows start old) (others : List Entry) (pass : ℕ) where
  pub last_nothing_asked : (hashes : List (List ℕ)) (reply : Option (ℕ × Segment)) → new ≡ grown old others (query_entries pass hashes reply) → (last : ℕ) → hashes ≡ [] → IsLast (passing_of start old false) last
      → IsLast (passing_of start new false) last
  last_nothing_asked [] reply grew last none is = last_kept start old new follows others [] grew last (λ n. refl) is
  last_nothing_asked (h ∷ hs) reply grew last none is = absurd (cc none)

  pub last_asked : (hashes : List (List ℕ)) (reply : Option (ℕ × Segment)) → new ≡ grown old others (query_entries pass hashes reply) → (last : ℕ) → hashes ≢ [] → last ≡ length (seen new) - 1 → IsLast (passing_of start new false) last
  last_asked [] reply grew last some at = absurd (some refl)
  last_asked (h ∷ hs) reply grew last some at =
      last_query start old new follows others (query_entries pass (h ∷ hs) reply) grew last (stated (h ∷ hs) reply) (option_map run_count (reply_of reply)) refl refl at
