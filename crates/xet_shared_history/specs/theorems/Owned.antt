-- The own entries of a holder, when the history grows.
use Rattle.std.proofs.Common.{◌≡◌, ℕ, zero, suc, ◌+◌, ◌≤◌, List, [], ◌∷◌, ◌++◌, length, refl, sym, ap, ◌∙◌, subst, arith, append_assoc, length-append}
use Rattle.std.specs.List.{AllByRecursion}
use Rattle.std.proofs.lemmas.List.{append-nil}
use Rattle.std.proofs.lemmas.Option.{slice_get_within}
use mathlib.Core.List.{IsPrefix}
use Rattle.xet_history.specs.History.{pass_of}
use Rattle.xet_history.specs.declared.entry.Entry.{Entry}
use Rattle.xet_shared_history.specs.Owned.{AreOwn, IsEntryOf, numbers_from}
use Rattle.xet_shared_history.specs.theorems.Prefixes.{get_last, prefix_get, prefix_length}

pub length-numbers_from : (n k : ℕ) → length (numbers_from n k) ≡ k
length-numbers_from n zero = refl
length-numbers_from n (suc k) = ap suc (length-numbers_from (n + 1) k)

module _ (pass : ℕ) where
  -- an own entry of a prefix is one of the whole
  pub entry_later : (seen now : List Entry) (n : ℕ) → IsPrefix seen now → IsEntryOf pass seen n → IsEntryOf pass now n
  entry_later seen now n prefix is = record { entry = is.entry; there = prefix_get seen now n is.entry prefix is.there; made = is.made }

  pub own_later : (seen now : List Entry) (from : ℕ) (own : List ℕ) → IsPrefix seen now → AreOwn pass seen from own → AreOwn pass now from own
  own_later seen now from [] prefix are = omega (arith, are, prefix_length seen now prefix)
  own_later seen now from (n ∷ own) prefix are = (are.0, entry_later seen now n prefix are.1, own_later seen now (n + 1) own prefix are.2)

  -- one entry more, after what was seen
  own_more : (seen now : List Entry) (from : ℕ) (own : List ℕ) (n : ℕ) → IsPrefix seen now → AreOwn pass seen from own → length seen ≤ n → IsEntryOf pass now n → AreOwn pass now from (own ++ n ∷ [])
  own_more seen now from [] n prefix are later is = (omega (arith, are, later), is, omega (arith, slice_get_within now n is.entry is.there))
  own_more seen now from (m ∷ own) n prefix are later is = (are.0, entry_later seen now m prefix are.1, own_more seen now (m + 1) own n prefix are.2 later is)

  -- all entries that were added
  pub own_added : (from : ℕ) (seen added : List Entry) (own : List ℕ) → AllByRecursion (λ e. pass_of e ≡ pass) added → AreOwn pass seen from own → AreOwn pass (seen ++ added) from (own ++ numbers_from (length seen) (length added))
  own_added from seen [] own mine are =
      subst (λ (h : List Entry). AreOwn pass h from (own ++ [])) (sym (append-nil seen)) (subst (AreOwn pass seen from) (sym (append-nil own)) are)
  own_added from seen (e ∷ added) own mine are =
      let n : ℕ = length seen in
      let next : List Entry = seen ++ e ∷ [] in
      let one : AreOwn pass next from (own ++ n ∷ []) = own_more seen next from own n (e ∷ [], refl) are (omega arith) (record { entry = e; there = get_last seen e n refl; made = mine.0 }) in
      let rest : AreOwn pass (next ++ added) from ((own ++ n ∷ []) ++ numbers_from (length next) (length added)) = own_added from next added (own ++ n ∷ []) mine.1 one in
      let numbers : (own ++ n ∷ []) ++ numbers_from (length next) (length added) ≡ own ++ numbers_from n (length (e ∷ added)) =
      ap (λ (k : ℕ). (own ++ n ∷ []) ++ numbers_from k (length added)) (length-append seen (e ∷ [])) ∙ append_assoc own (n ∷ []) (numbers_from (n + 1) (length added)) in
      subst (λ (h : List Entry). AreOwn pass h from (own ++ numbers_from n (length (e ∷ added)))) (append_assoc seen (e ∷ []) added) (subst (AreOwn pass (next ++ added) from) numbers rest)
