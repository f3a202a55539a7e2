-- What a holder has seen only grows, and what the deduplication of a file adds; calls among numbered entries.
use Rattle.std.proofs.Common.{◌≡◌, ◌∙◌, ℕ, suc, ◌+◌, ◌≤◌, Bool, true, false, List, [], ◌∷◌, ◌++◌, length, Option, refl, sym, ap, add-zero, append_assoc, length-append, if◌then◌else◌, arith}
use Rattle.std.proofs.lemmas.Bool.{false≢true}
use Rattle.std.proofs.lemmas.List.{append-nil}
use Rattle.xet_base.specs.theorems.Elements.{all_both}
use Rattle.xet_choices.specs.Calls.{Call}
use Rattle.xet_dedup_queries.specs.Counting.{entries_at_most}
use Rattle.xet_dedup_queries.specs.Interface.{Extends}
use Rattle.xet_dedup_queries.specs.theorems.Counting.{entries_at_most-append}
use Rattle.xet_hash.specs.declared.error.StoreError.{StoreError}
use Rattle.xet_hash.specs.declared.error.StoreError.TheVariants.{OutOfMemory}
use Rattle.xet_history.specs.declared.entry.Entry.{Entry}
use Rattle.xet_shard_format.specs.declared.record.FileDataSequenceEntry.{FileDataSequenceEntry as Segment}
use Rattle.xet_store.specs.Interface.{IsRefused}
use Rattle.xet_store.specs.Holders.{Follows, FollowsAsking, Holder, IsCall, call_at, calls_in, calls_of, numbered}

-- ---- numbered entries, and the calls among them

pub numbered-append : (n : ℕ) (xs ys : List Entry) → numbered n (xs ++ ys) ≡ numbered n xs ++ numbered (n + length xs) ys
numbered-append n [] ys = ap (λ (k : ℕ). numbered k ys) (sym (add-zero n))
numbered-append n (x ∷ xs) ys =
    ap (λ (l : List (ℕ × Entry)). (n, x) ∷ l) (numbered-append (suc n) xs ys ∙ ap (λ (k : ℕ). numbered (suc n) xs ++ numbered k ys) (omega arith))

pub length-numbered : (n : ℕ) (es : List Entry) → length (numbered n es) ≡ length es
length-numbered n [] = refl
length-numbered n (e ∷ es) = ap suc (length-numbered (suc n) es)

pub calls_in-append : (xs ys : List (ℕ × Entry)) → calls_in (xs ++ ys) ≡ calls_in xs ++ calls_in ys
calls_in-append [] ys = refl
calls_in-append (x ∷ xs) ys = ap (λ (l : List Call). call_at x.0 x.1 ++ l) (calls_in-append xs ys) ∙ sym (append_assoc (call_at x.0 x.1) (calls_in xs) (calls_in ys))

-- ---- what is seen

abbrev with_parts : Holder → List Entry → List (ℕ × Entry) → Bool → Holder
with_parts h since own stopped = record h { since = since; own = own; stopped = stopped }

unfoldable pub follows_nothing : (h : Holder) → Follows h h
follows_nothing h = record {
  since = [];
  own = [];
  is = ap (λ (s : List Entry). with_parts h s h.own h.stopped) (sym (append-nil h.since)) ∙ ap (λ (o : List (ℕ × Entry)). with_parts h (h.since ++ []) o h.stopped) (sym (append-nil h.own));
}

unfoldable pub follows_then : (a b c : Holder) → Follows a b → Follows b c → Follows a c
follows_then a b c m n = record {
  since = m.since ++ n.since;
  own = m.own ++ n.own;
  is = n.is
      ∙ ap (λ (x : Holder). with_parts x (x.since ++ n.since) (x.own ++ n.own) c.stopped) m.is
      ∙ ap (λ (s : List Entry). with_parts a s ((a.own ++ m.own) ++ n.own) c.stopped) (append_assoc a.since m.since n.since)
      ∙ ap (λ (o : List (ℕ × Entry)). with_parts a (a.since ++ (m.since ++ n.since)) o c.stopped) (append_assoc a.own m.own n.own);
}

-- the entries of a step that failed
abbrev failed_entries : Bool → Bool → ℕ
failed_entries old new = if new then (if old then 0 else 2) else 0

few_both : (a b c : Bool) (i j k l : ℕ) → (a ≡ true → b ≡ true) → (b ≡ true → c ≡ true) → i ≤ k + failed_entries a b → j ≤ l + failed_entries b c → i + j ≤ k + l + failed_entries a c
few_both true true true i j k l p q m n = omega (arith, m, n)
few_both true true false i j k l p q m n = absurd (false≢true (q refl))
few_both true false c i j k l p q m n = absurd (false≢true (p refl))
few_both false true true i j k l p q m n = omega (arith, m, n)
few_both false true false i j k l p q m n = absurd (false≢true (q refl))
few_both false false true i j k l p q m n = omega (arith, m, n)
few_both false false false i j k l p q m n = omega (arith, m, n)

unfoldable pub asking_nothing : (h : Holder) → FollowsAsking h h
unfolding follows_nothing
asking_nothing h = record {
  follows = follows_nothing h;
  none = tt;
  calls = [];
  added = sym (append-nil (calls_of h));
  few = omega arith;
  still = λ s. s;
}

pub asking_then : (a b c : Holder) → FollowsAsking a b → FollowsAsking b c → FollowsAsking a c
unfolding follows_then
asking_then a b c m n = record {
  follows = follows_then a b c m.follows n.follows;
  none = all_both (λ p. IsCall p.1) m.follows.own n.follows.own m.none n.none;
  calls = m.calls ++ n.calls;
  added = n.added ∙ ap (λ (l : List Call). l ++ n.calls) m.added ∙ append_assoc (calls_of a) m.calls n.calls;
  few = omega (
    arith,
    few_both a.stopped b.stopped c.stopped (length m.follows.own) (length n.follows.own) (entries_at_most m.calls) (entries_at_most n.calls) m.still n.still m.few n.few,
    length-append m.follows.own n.follows.own,
    entries_at_most-append m.calls n.calls,
  );
  still = λ s. n.still (m.still s);
}

-- What no call takes back says that a holder only grew: an error for which nothing is said, since the new state, is one since
-- the old state.
pub extends_asking : {I : Type 0} (holder : I → Holder) (listing : I → List ℕ → Option (List ℕ)) (standing : I → List (List ℕ) → Segment → Type 0) (limiting : I → ℕ × ℕ) (old new : I)
    → Extends listing standing (λ a b. IsRefused (holder a) (holder b)) limiting old new → FollowsAsking (holder old) (holder new)
extends_asking holder listing standing limiting old new e = (e.earlier new OutOfMemory (asking_nothing (holder new), tt)).0
