-- Tables of records under their hashes, and what is put last in them.
use Rattle.std.proofs.Common.{◌≡◌, ◌≢◌, ◌<◌, ◌^◌, ◌∙◌, ℕ, Bool, true, false, cond, not, List, [], ◌∷◌, ◌++◌, filter, length, nat_eq, None, Some, refl, sym, ap, subst, arith}
use Rattle.std.proofs.lemmas.Bool.{true≢false}
use Rattle.std.proofs.lemmas.List.{map-append}
use Rattle.std.specs.Cmp.Lexicographic.{bytes_decides, nat_list_eq_equiv, pointwise}
use Rattle.std.specs.List.{AllByRecursion}
use Rattle.std.specs.Map.{lookup, remove_entry, values_of}
use Rattle.xet_shard_format.specs.declared.record.MDBFileInfo.{MDBFileInfo}
use Rattle.xet_shard_format.specs.declared.record.MDBXorbInfo.{MDBXorbInfo}
use Rattle.xet_shard.specs.Held.{DifferBy, Held, IsHeld, Keyed, held, nothing, record_of, with_last}
use Rattle.xet_hash.specs.Hash.{sentinel}
use Rattle.xet_shard_format.specs.Records.{IsFile, IsXorb, file_record_hash, file_section, xorb_record_hash, xorb_section}
use Rattle.xet_base.specs.theorems.Elements.{all_filtered, all_push}
use Rattle.xet_shard.specs.theorems.Holding.{all_last, is_other}

same : (a b : List ℕ) → pointwise nat_eq a b ≡ true → a ≡ b
same a b = (bytes_decides a b).0

differs : (a b : List ℕ) → a ≢ b → pointwise nat_eq a b ≡ false
differs a b unequal = by (pointwise nat_eq a b) refl
  where
    by : (t : Bool) → pointwise nat_eq a b ≡ t → t ≡ false
    by true e = absurd (unequal (same a b e))
    by false e = refl

other_differs : {X : Type 0} (hash : X → List ℕ) (x y : X) → is_other hash (hash x) y ≡ true → hash y ≢ hash x
other_differs hash x y test e = absurd (true≢false (sym test ∙ ap not ((bytes_decides (hash y) (hash x)).1 e)))

pub differ_last : {X : Type 0} (hash : X → List ℕ) (xs : List X) (x : X) → DifferBy hash xs → DifferBy hash (with_last hash xs x)
differ_last hash [] x differ = (tt, tt)
differ_last {X} hash (y ∷ ys) x differ = by (test y) refl (differ_last hash ys x differ.1)
  where
    test : X → Bool
    test z = not (pointwise nat_eq (hash z) (hash x))

    by : (b : Bool) → test y ≡ b → DifferBy hash (filter test ys ++ x ∷ []) → DifferBy hash (cond b (y ∷ filter test ys) (filter test ys) ++ x ∷ [])
    by true e later = (
      all_push (λ z. hash y ≢ hash z) (filter test ys) x (all_filtered (λ z. hash y ≢ hash z) test ys differ.0) (other_differs hash x y e),
      later,
    )
    by false e later = later

-- nothing goes where no other record has the hash
filter_all : {X : Type 0} (hash : X → List ℕ) (h : List ℕ) (xs : List X) → AllByRecursion (λ y. h ≢ hash y) xs → filter (is_other hash h) xs ≡ xs
filter_all hash h [] all = refl
filter_all {X} hash h (x ∷ xs) all =
    let rest : List X = filter (is_other hash h) xs in
    ap (λ b. cond (not b) (x ∷ rest) rest) (differs (hash x) h (λ e. all.0 (sym e))) ∙ ap (λ l. x ∷ l) (filter_all hash h xs all.1)

-- without the entry of a hash, the records are those of other hashes
pub values_removed : {X : Type 0} (hash : X → List ℕ) (h : List ℕ) (es : List (List ℕ × X)) → Keyed hash es → DifferBy hash (values_of es)
    → values_of (remove_entry (pointwise nat_eq h) es) ≡ filter (is_other hash h) (values_of es)
values_removed hash h [] keyed differ = refl
values_removed {X} hash h (e ∷ es) keyed differ = by (pointwise nat_eq h e.0) refl (values_removed hash h es keyed.1 differ.1)
  where
    rest : List X
    rest = filter (λ y. not (pointwise nat_eq (hash y) h)) (values_of es)

    turned : (b : Bool) → pointwise nat_eq h e.0 ≡ b → pointwise nat_eq (hash e.1) h ≡ b
    turned b t = nat_list_eq_equiv.symm (hash e.1) h ∙ ap (pointwise nat_eq h) (sym keyed.0) ∙ t

    by : (b : Bool) → pointwise nat_eq h e.0 ≡ b → values_of (remove_entry (pointwise nat_eq h) es) ≡ rest → values_of (cond b es (e ∷ remove_entry (pointwise nat_eq h) es)) ≡ filter (is_other hash h) (e.1 ∷ values_of es)
    by true t later =
        sym (filter_all hash h (values_of es) (subst (λ (k : List ℕ). AllByRecursion (λ y. k ≢ hash y) (values_of es)) (sym (same h e.0 t ∙ keyed.0)) differ.0))
        ∙ sym (ap (λ c. cond (not c) (e.1 ∷ rest) rest) (turned true t))
    by false t later = ap (λ l. e.1 ∷ l) later ∙ sym (ap (λ c. cond (not c) (e.1 ∷ rest) rest) (turned false t))

keyed_removed : {X : Type 0} (hash : X → List ℕ) (test : List ℕ → Bool) (es : List (List ℕ × X)) → Keyed hash es → Keyed hash (remove_entry test es)
keyed_removed hash test [] keyed = tt
keyed_removed hash test (e ∷ es) keyed =
    elim (test e.0) as (λ b. Keyed hash (cond b es (e ∷ remove_entry test es))) [
      | true ↦ keyed.1
      | false ↦ (keyed.0, keyed_removed hash test es keyed.1)
    ]

-- a record that was put last
module _ {X : Type 0} (hash : X → List ℕ) (old kept new : List (List ℕ × X)) (h : List ℕ) (v : X)
    (keyed : Keyed hash old) (own : h ≡ hash v) (removed : kept ≡ remove_entry (pointwise nat_eq h) old) (put : new ≡ kept ++ (h, v) ∷ []) where
  pub keyed_put : Keyed hash new
  keyed_put =
      subst (Keyed hash) (sym (put ∙ ap (λ es. es ++ (h, v) ∷ []) removed))
      (all_push (λ e. e.0 ≡ hash e.1) (remove_entry (pointwise nat_eq h) old) (h, v) (keyed_removed hash (pointwise nat_eq h) old keyed) own)

  pub values_put : DifferBy hash (values_of old) → values_of new ≡ with_last hash (values_of old) v
  values_put differ =
      ap values_of put ∙ map-append (λ e. e.1) kept ((h, v) ∷ [])
      ∙ ap (λ l. l ++ v ∷ []) (ap values_of removed ∙ values_removed hash h old keyed differ ∙ ap (λ k. filter (is_other hash k) (values_of old)) own)

-- a shard in memory with one more record
pub held_with_block : (h : Held) (block : MDBXorbInfo) → IsHeld h → IsXorb block → xorb_record_hash block ≢ sentinel
    → length (xorb_section (with_last xorb_record_hash h.blocks block)) < 2 ^ 32 → IsHeld (held (with_last xorb_record_hash h.blocks block) h.files)
held_with_block h block is form hash few = record {
  blocks = all_last (λ x. (xorb_record_hash x ≢ sentinel) × IsXorb x) xorb_record_hash h.blocks block is.blocks (hash, form);
  files = is.files;
  blocks_differ = differ_last xorb_record_hash h.blocks block is.blocks_differ;
  files_differ = is.files_differ;
  few_blocks = few;
  few_files = is.few_files;
}

pub held_with_file : (h : Held) (file : MDBFileInfo) → IsHeld h → IsFile file → file_record_hash file ≢ sentinel
    → length (file_section (with_last file_record_hash h.files file)) < 2 ^ 32 → IsHeld (held h.blocks (with_last file_record_hash h.files file))
held_with_file h file is form hash few = record {
  blocks = is.blocks;
  files = all_last (λ f. (file_record_hash f ≢ sentinel) × IsFile f) file_record_hash h.files file is.files (hash, form);
  blocks_differ = is.blocks_differ;
  files_differ = differ_last file_record_hash h.files file is.files_differ;
  few_blocks = is.few_blocks;
  few_files = few;
}

-- a hash that is not there is not taken out
pub removed_none : {X : Type 0} (test : List ℕ → Bool) (es : List (List ℕ × X)) → lookup test es ≡ None → remove_entry test es ≡ es
removed_none test [] none = refl
removed_none {X} test (e ∷ es) none = by (test e.0) none (removed_none test es)
  where
    by : (b : Bool) → cond b (Some e.1) (lookup test es) ≡ None → (lookup test es ≡ None → remove_entry test es ≡ es) → cond b es (e ∷ remove_entry test es) ≡ e ∷ es
    by true n later = absurd cc
    by false n later = ap (λ l. e ∷ l) (later n)

filter_none : {X : Type 0} (hash : X → List ℕ) (h : List ℕ) (es : List (List ℕ × X)) → Keyed hash es → lookup (pointwise nat_eq h) es ≡ None → filter (is_other hash h) (values_of es) ≡ values_of es
filter_none hash h [] keyed none = refl
filter_none {X} hash h (e ∷ es) keyed none = by (pointwise nat_eq h e.0) refl none (filter_none hash h es keyed.1)
  where
    rest : List X
    rest = filter (is_other hash h) (values_of es)

    by : (b : Bool) → pointwise nat_eq h e.0 ≡ b → cond b (Some e.1) (lookup (pointwise nat_eq h) es) ≡ None → (lookup (pointwise nat_eq h) es ≡ None → rest ≡ values_of es)
        → filter (is_other hash h) (e.1 ∷ values_of es) ≡ e.1 ∷ values_of es
    by true t n later = absurd cc
    by false t n later =
        ap (λ c. cond (not c) (e.1 ∷ rest) rest) (nat_list_eq_equiv.symm (hash e.1) h ∙ ap (pointwise nat_eq h) (sym keyed.0) ∙ t)
        ∙ ap (λ l. e.1 ∷ l) (later n)

-- nothing goes for a record of a new hash
pub last_new : {X : Type 0} (hash : X → List ℕ) (es : List (List ℕ × X)) (x : X) → Keyed hash es → lookup (pointwise nat_eq (hash x)) es ≡ None → with_last hash (values_of es) x ≡ values_of es ++ x ∷ []
last_new hash es x keyed none = ap (λ l. l ++ x ∷ []) (filter_none hash (hash x) es keyed none)

pub nothing_held : IsHeld nothing
nothing_held = record { blocks = tt; files = tt; blocks_differ = tt; files_differ = tt; few_blocks = omega arith; few_files = omega arith }

-- a look-up finds the record of a hash
pub record_found : {X : Type 0} (hash : X → List ℕ) (h : List ℕ) (es : List (List ℕ × X)) → Keyed hash es → lookup (pointwise nat_eq h) es ≡ record_of hash h (values_of es)
record_found hash h [] keyed = refl
record_found {X} hash h (e ∷ es) keyed = λ j. cond (pointwise nat_eq h (keyed.0 j)) (Some e.1) (record_found hash h es keyed.1 j)
