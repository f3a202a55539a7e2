-- Lists and tables that grow, and what is among their elements.
use Rattle.std.proofs.Common.{◌≡◌, ◌≢◌, ℕ, zero, suc, ◌<◌, length, get_or, append_assoc, Bool, true, false, cond, List, [], ◌∷◌, ◌++◌, Option, Some, None, IsSome, is_some, nat_eq, refl, sym, ap, subst, arith, ◌∙◌}
use Rattle.std.specs.List.{AllByRecursion}
use Rattle.std.specs.Cmp.Lexicographic.{bytes_decides, pointwise}
use Rattle.std.proofs.lemmas.List.{append-nil}
use Rattle.std.proofs.lemmas.List.Quantifiers.{all_pairs_push}
use Rattle.indexmap.specs.IndexMap.{IndexMap, get, insert_entry}
use Rattle.indexmap.proofs.CallerLemmas.{insert_entry-new}
use Rattle.xet_folder.specs.Xorbs.{found}
use Rattle.xet_folder.specs.theorems.Tables.{found_kept}
use Rattle.xet_store_disk.specs.Store.{Differ}
use Rattle.xet_store_disk.specs.theorems.Rows.{is_some_found}

-- ---- among the elements of a list

-- ---- rows of tables

-- ---- rows of one hash

module _ {X : Type 0} where
  apart_at : (rows : List (List ℕ × X)) (h : List ℕ) → found rows h ≡ None → (k : ℕ) (d : List ℕ × X) → k < length rows → (get_or rows k d).0 ≢ h
  apart_at [] h none k d below same = omega (arith, below)
  apart_at (r ∷ rows) h none zero d below same = go (pointwise nat_eq h r.0) ((bytes_decides h r.0).1 (sym same)) none
    where
      go : (b : Bool) → b ≡ true → cond b (Some r.1) (found rows h) ≡ None → ⊥
      go true e bad = cc bad
      go false e bad = cc e
  apart_at (r ∷ rows) h none (suc k) d below same = go (pointwise nat_eq h r.0) none (λ rest. apart_at rows h rest k d (omega (arith, below)) same)
    where
      go : (b : Bool) → cond b (Some r.1) (found rows h) ≡ None → (found rows h ≡ None → ⊥) → ⊥
      go true bad later = cc bad
      go false rest later = later rest

  -- one row more under a hash that a table lacks
  pub differ_more : (rows : List (List ℕ × X)) (h : List ℕ) (v : X) → found rows h ≡ None → Differ rows → Differ (rows ++ (h, v) ∷ [])
  differ_more rows h v none differ = all_pairs_push (λ a b. a.0 ≢ b.0) rows (h, v) differ (λ k d below. apart_at rows h none k d below)

  pub differ_none : Differ {X = X} []
  differ_none i j d lt below = absurd (omega (arith, below))

  pub found_more : (rows added : List (List ℕ × X)) (h : List ℕ) → IsSome (found rows h) → IsSome (found (rows ++ added) h)
  found_more rows added h is = go (found rows h) refl is
    where
      go : (o : Option X) → found rows h ≡ o → IsSome o → IsSome (found (rows ++ added) h)
      go None e bad = absurd (cc bad)
      go (Some v) e ok = is_some_found (rows ++ added) h v (found_kept rows added h v e)

  -- what a longer table lacks its parts lack
  pub absent_first : (rows added : List (List ℕ × X)) (h : List ℕ) → found (rows ++ added) h ≡ None → found rows h ≡ None
  absent_first rows added h none = go (found rows h) refl
    where
      go : (o : Option X) → found rows h ≡ o → found rows h ≡ None
      go None e = e
      go (Some v) e = absurd (cc (sym (found_kept rows added h v e) ∙ none))

  pub absent_rest : (rows added : List (List ℕ × X)) (h : List ℕ) → found (rows ++ added) h ≡ None → found added h ≡ None
  absent_rest [] added h none = none
  absent_rest (r ∷ rows) added h none = go (pointwise nat_eq h r.0) none (absent_rest rows added h)
    where
      go : (b : Bool) → cond b (Some r.1) (found (rows ++ added) h) ≡ None → (found (rows ++ added) h ≡ None → found added h ≡ None) → found added h ≡ None
      go true bad later = absurd (cc bad)
      go false none later = later none

  -- what is found after others is found in a longer table
  pub found_later : (rows added : List (List ℕ × X)) (h : List ℕ) → IsSome (found added h) → IsSome (found (rows ++ added) h)
  found_later [] added h is = is
  found_later (r ∷ rows) added h is = go (pointwise nat_eq h r.0) (found_later rows added h is)
    where
      go : (b : Bool) → IsSome (found (rows ++ added) h) → IsSome (cond b (Some r.1) (found (rows ++ added) h))
      go true is = refl
      go false is = is

  -- the first of several rows differs from the rest
  absent_more : (rows : List (List ℕ × X)) (h : List ℕ) (r : List ℕ × X) → found rows h ≡ None → r.0 ≢ h → found (rows ++ r ∷ []) h ≡ None
  absent_more [] h r none apart = go (pointwise nat_eq h r.0) refl
    where
      go : (b : Bool) → pointwise nat_eq h r.0 ≡ b → cond b (Some r.1) None ≡ None
      go true e = absurd (apart (sym ((bytes_decides h r.0).0 e)))
      go false e = refl
  absent_more (q ∷ rows) h r none apart = go (pointwise nat_eq h q.0) none (λ rest. absent_more rows h r rest apart)
    where
      go : (b : Bool) → cond b (Some q.1) (found rows h) ≡ None → (found rows h ≡ None → found (rows ++ r ∷ []) h ≡ None) → cond b (Some q.1) (found (rows ++ r ∷ []) h) ≡ None
      go true bad later = absurd (cc bad)
      go false rest later = later rest

  -- the rows after the first differ
  differ_rest : (r : List ℕ × X) (rows : List (List ℕ × X)) → Differ (r ∷ rows) → Differ rows
  differ_rest r rows differ i j d lt below = differ (suc i) (suc j) d (omega (arith, lt)) (omega (arith, below))

  abbrev pub Lacks : List (List ℕ × X) → List ℕ × X → Type 0
  Lacks rows r = found rows r.0 ≡ None

  lacks_more : (rows : List (List ℕ × X)) (r : List ℕ × X) (added : List (List ℕ × X)) → ((k : ℕ) (d : List ℕ × X) → k < length added → r.0 ≢ (get_or added k d).0)
      → AllByRecursion (Lacks rows) added → AllByRecursion (Lacks (rows ++ r ∷ [])) added
  lacks_more rows r [] apart all = tt
  lacks_more rows r (a ∷ added) apart all = (absent_more rows a.0 r all.0 (apart 0 r (omega arith)), lacks_more rows r added (λ k d below. apart (suc k) d (omega (arith, below))) all.1)

  -- rows of different hashes after others of other hashes
  pub differ_then : (rows added : List (List ℕ × X)) → Differ rows → Differ added → AllByRecursion (Lacks rows) added → Differ (rows ++ added)
  differ_then rows [] first rest all = subst (λ (l : List (List ℕ × X)). Differ l) (sym (append-nil rows)) first
  differ_then rows (r ∷ added) first rest all =
      subst (λ (l : List (List ℕ × X)). Differ l) (append_assoc rows (r ∷ []) added)
      (differ_then (rows ++ r ∷ []) added (differ_more rows r.0 r.1 all.0 first) (differ_rest r added rest)
      (lacks_more rows r added (λ k d below. rest 0 (suc k) d (omega arith) (omega (arith, below))) all.1))

-- what holds of all holds of one
pub all_at : {X : Type 0} (P : X → Type 0) (xs : List X) (x : X) (ys : List X) → AllByRecursion P (xs ++ x ∷ ys) → P x
all_at P [] x ys h = h.0
all_at P (y ∷ xs) x ys h = all_at P xs x ys h.1

none_from : {X : Type 0} (o : Option X) → false ≡ is_some o → o ≡ None
none_from None e = refl
none_from (Some x) e = absurd (cc e)

-- a row that is put under a hash that a table lacks
module _ {X S : Type 0} (m : IndexMap (List ℕ) X S) (h : List ℕ) where
  pub absent : false ≡ is_some (get (pointwise nat_eq) m h) → found m.entries h ≡ None
  absent e = none_from (get (pointwise nat_eq) m h) e

  pub rows_inserted : (es n : List (List ℕ × X)) (v : X) → found m.entries h ≡ None → es ≡ m.entries → n ≡ insert_entry (pointwise nat_eq) es h v → n ≡ m.entries ++ (h, v) ∷ []
  rows_inserted es n v none same e =
      e ∙ ap (λ (l : List (List ℕ × X)). insert_entry (pointwise nat_eq) l h v) same ∙ insert_entry-new (pointwise nat_eq) m h v none

-- under a hash by another name
module _ {X S : Type 0} (m : IndexMap (List ℕ) X S) (h k : List ℕ) where
  pub absent_at : h ≡ k → false ≡ is_some (get (pointwise nat_eq) m h) → found m.entries k ≡ None
  absent_at same e = ap (found m.entries) (sym same) ∙ absent m h e

  pub recorded_at : (es n : List (List ℕ × X)) (v w : X) → h ≡ k → v ≡ w → found m.entries k ≡ None → es ≡ m.entries → n ≡ insert_entry (pointwise nat_eq) es h v → n ≡ m.entries ++ (k, w) ∷ []
  recorded_at es n v w same value none entries e =
      rows_inserted m h es n v (ap (found m.entries) same ∙ none) entries e ∙ (λ i. m.entries ++ (same i, value i) ∷ [])
