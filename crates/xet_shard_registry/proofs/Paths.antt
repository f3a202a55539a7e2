-- The numbers of shards under the digests of their paths.
use Rattle.std.proofs.Common.{◌≡◌, ◌≢◌, ◌∙◌, ◌++◌, ◌∷◌, [], ◌||◌, ℕ, nat_eq, Bool, true, false, List, None, get_or, refl, sym, subst}
use Rattle.std.proofs.lemmas.Bool.{true≢false}
use Rattle.std.proofs.lemmas.List.Elements.{All-push}
use Rattle.std.specs.Cmp.Lexicographic.{pointwise}
use Rattle.std.specs.List.{list_any}
use Rattle.std.specs.Map.{keys_of, lookup}
use Rattle.std.specs.Prelude.{All}
use Rattle.indexmap.specs.IndexMap.{insert_entry}
use Rattle.xet_hash.specs.Merkle.{chunk_hash}
use Rattle.xet_shard_directory.specs.declared.shard_file.MDBShardFile.{MDBShardFile}
use Rattle.xet_shard_registry.proofs.Keys.{key_same}
use Rattle.xet_shard_registry.specs.Paths.{HavePaths}

-- the digest of a path under which there is no number
abbrev pub HasNone : List ℕ → List (List ℕ × ℕ) → Type 0
HasNone digest numbers = list_any (pointwise nat_eq digest) (keys_of numbers) ≡ false

pub none_under : (test : List ℕ → Bool) (numbers : List (List ℕ × ℕ)) → lookup test numbers ≡ None → list_any test (keys_of numbers) ≡ false
none_under test [] none = refl
none_under test (e ∷ es) none = by (test e.0) refl (none_under test es)
  where
    by : (b : Bool) → test e.0 ≡ b → (lookup test es ≡ None → list_any test (keys_of es) ≡ false) → list_any test (keys_of (e ∷ es)) ≡ false
    by true here later = absurd (cc (here, none))
    by false other later = rw other (later (rw other at none))

-- such a path is that of no shard file
pub no_path : (files : List MDBShardFile) (numbers : List (List ℕ × ℕ)) (path : List ℕ) → HavePaths files numbers → HasNone (chunk_hash path) numbers → All (λ s. s.path ≢ path) files
no_path files numbers path have none = λ i d lt same.
    true≢false (sym (subst (λ (p : List ℕ). list_any (pointwise nat_eq (chunk_hash p)) (keys_of numbers) ≡ true) same (have i d lt)) ∙ none)

-- after a number was put under one more digest
or_more : (b x y : Bool) → (b || x) ≡ true → (x ≡ true → y ≡ true) → (b || y) ≡ true
or_more true x y there more = refl
or_more false x y there more = more there

stays : (h digest : List ℕ) (number : ℕ) (numbers : List (List ℕ × ℕ)) → list_any (pointwise nat_eq h) (keys_of numbers) ≡ true → list_any (pointwise nat_eq h) (keys_of (insert_entry (pointwise nat_eq) numbers digest number)) ≡ true
stays h digest number [] there = absurd (cc there)
stays h digest number (e ∷ es) there = by (pointwise nat_eq digest e.0) refl (stays h digest number es)
  where
    more : List (List ℕ × ℕ)
    more = insert_entry (pointwise nat_eq) es digest number

    by : (b : Bool) → pointwise nat_eq digest e.0 ≡ b → (list_any (pointwise nat_eq h) (keys_of es) ≡ true → list_any (pointwise nat_eq h) (keys_of more) ≡ true)
        → list_any (pointwise nat_eq h) (keys_of (insert_entry (pointwise nat_eq) (e ∷ es) digest number)) ≡ true
    by true here later = rw here there
    by false other later = rw other (or_more (pointwise nat_eq h e.0) (list_any (pointwise nat_eq h) (keys_of es)) (list_any (pointwise nat_eq h) (keys_of more)) there later)

inserted : (digest : List ℕ) (number : ℕ) (numbers : List (List ℕ × ℕ)) → list_any (pointwise nat_eq digest) (keys_of (insert_entry (pointwise nat_eq) numbers digest number)) ≡ true
inserted digest number [] = rw (key_same digest) refl
inserted digest number (e ∷ es) = by (pointwise nat_eq digest e.0) refl (inserted digest number es)
  where
    by : (b : Bool) → pointwise nat_eq digest e.0 ≡ b → list_any (pointwise nat_eq digest) (keys_of (insert_entry (pointwise nat_eq) es digest number)) ≡ true
        → list_any (pointwise nat_eq digest) (keys_of (insert_entry (pointwise nat_eq) (e ∷ es) digest number)) ≡ true
    by true here later = rw here (rw here refl)
    by false other later = rw other (rw other later)

pub have_more : (files : List MDBShardFile) (numbers : List (List ℕ × ℕ)) (file : MDBShardFile) (number : ℕ) → HavePaths files numbers → HavePaths (files ++ file ∷ []) (insert_entry (pointwise nat_eq) numbers (chunk_hash file.path) number)
have_more files numbers file number have =
    All-push (λ s. list_any (pointwise nat_eq (chunk_hash s.path)) (keys_of (insert_entry (pointwise nat_eq) numbers (chunk_hash file.path) number)) ≡ true) files file
    (λ i d lt. stays (chunk_hash (get_or files i d).path) (chunk_hash file.path) number numbers (have i d lt)) (inserted (chunk_hash file.path) number numbers)
