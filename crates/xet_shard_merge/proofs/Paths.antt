-- The paths of shards as a set.
use Rattle.std.proofs.Common.{◌≡◌, ◌≢◌, ◌⊎◌, ◌∙◌, ◌||◌, ◌+◌, ◌<◌, inl, inr, ℕ, nat_eq, Bool, true, false, List, [], ◌∷◌, ◌++◌, cond, get_or, length, take, Bor, refl, sym, ap, subst}
use Rattle.std.proofs.lemmas.List.{take_more}
use Rattle.std.proofs.lemmas.List.Folds.{list_any-append}
use Rattle.std.specs.Cmp.Lexicographic.{other_text, pointwise, same_text}
use Rattle.std.specs.List.{list_any}
use Rattle.indexmap.specs.IndexSet.{insert_key}
use Rattle.xet_shard_directory.specs.declared.shard_file.MDBShardFile.{MDBShardFile}

tells : (a b : List ℕ) → ((pointwise nat_eq a b ≡ true) × (a ≡ b)) ⊎ ((pointwise nat_eq a b ≡ false) × (a ≢ b))
tells a b = by (pointwise nat_eq a b) refl
  where
    by : (r : Bool) → pointwise nat_eq a b ≡ r → ((pointwise nat_eq a b ≡ true) × (a ≡ b)) ⊎ ((pointwise nat_eq a b ≡ false) × (a ≢ b))
    by true e = inl (e, same_text a b (sym e))
    by false e = inr (e, other_text a b (sym e))

pub swapped : (a b : List ℕ) → pointwise nat_eq a b ≡ pointwise nat_eq b a
swapped a b = by (tells a b) (tells b a)
  where
    by : ((pointwise nat_eq a b ≡ true) × (a ≡ b)) ⊎ ((pointwise nat_eq a b ≡ false) × (a ≢ b)) → ((pointwise nat_eq b a ≡ true) × (b ≡ a)) ⊎ ((pointwise nat_eq b a ≡ false) × (b ≢ a)) → pointwise nat_eq a b ≡ pointwise nat_eq b a
    by (inl p) (inl q) = p.0 ∙ sym q.0
    by (inl p) (inr q) = absurd (q.1 (sym p.1))
    by (inr p) (inl q) = absurd (p.1 (sym q.1))
    by (inr p) (inr q) = p.0 ∙ sym q.0

or_false : (b : Bool) → (b || false) ≡ b
or_false true = refl
or_false false = refl

abbrev Key : Type 0
Key = Bor (List ℕ)

abbrev same : Key → Key → Bool
same a b = pointwise nat_eq a.now b.now

-- whether a path is among the keys
abbrev pub has : List ℕ → List Key → Bool
has path keys = list_any (λ (k : Key). pointwise nat_eq path k.now) keys

-- whether it is that of one of the shards
abbrev pub is_path_of : List ℕ → List MDBShardFile → Bool
is_path_of path shards = list_any (λ (r : MDBShardFile). pointwise nat_eq r.path path) shards

has_inserted : (path : List ℕ) (keys : List Key) (key : Key) → has path (insert_key same keys key) ≡ (has path keys || pointwise nat_eq key.now path)
has_inserted path keys key = by (list_any (same key) keys) refl
  where
    there : list_any (same key) keys ≡ true → ((pointwise nat_eq key.now path ≡ true) × (key.now ≡ path)) ⊎ ((pointwise nat_eq key.now path ≡ false) × (key.now ≢ path))
        → has path keys ≡ (has path keys || pointwise nat_eq key.now path)
    there found (inl p) =
        let known : has path keys ≡ true = subst (λ (q : List ℕ). has q keys ≡ true) p.1 found in
        known ∙ sym (ap (λ (b : Bool). b || pointwise nat_eq key.now path) known)
    there found (inr p) = sym (ap (λ (b : Bool). has path keys || b) p.0 ∙ or_false (has path keys))

    by : (known : Bool) → list_any (same key) keys ≡ known → has path (cond known keys (keys ++ key ∷ [])) ≡ (has path keys || pointwise nat_eq key.now path)
    by true found = there found (tells key.now path)
    by false absent =
        list_any-append (λ (k : Key). pointwise nat_eq path k.now) keys (key ∷ [])
        ∙ ap (λ (b : Bool). has path keys || b) (or_false (pointwise nat_eq path key.now) ∙ swapped path key.now)

-- the path of one more shard is inserted
pub has_more : (path : List ℕ) (keys : List Key) (key : Key) (shards : List MDBShardFile) (i : ℕ) (shard : MDBShardFile) → i < length shards → shard ≡ get_or shards i shard → key.now ≡ shard.path
    → has path keys ≡ is_path_of path (take i shards) → has path (insert_key same keys key) ≡ is_path_of path (take (i + 1) shards)
has_more path keys key shards i shard below is named so_far =
    let next : is_path_of path (take (i + 1) shards) ≡ (is_path_of path (take i shards) || pointwise nat_eq shard.path path) =
    ap (is_path_of path) (take_more shards i shard below) ∙ list_any-append (λ (r : MDBShardFile). pointwise nat_eq r.path path) (take i shards) (get_or shards i shard ∷ [])
    ∙ ap (λ (b : Bool). is_path_of path (take i shards) || b) (or_false (pointwise nat_eq (get_or shards i shard).path path) ∙ ap (λ (r : MDBShardFile). pointwise nat_eq r.path path) (sym is)) in
    has_inserted path keys key ∙ ap (λ (b : Bool). b || pointwise nat_eq key.now path) so_far ∙ ap (λ (p : List ℕ). is_path_of path (take i shards) || pointwise nat_eq p path) named ∙ sym next
