-- Without collisions among the data seen, a recorded file of a sound session resolves to its chunks.
use Rattle.std.proofs.Common.{◌≡◌, inl, inr, ◌∙◌, ℕ, suc, ◌<◌, Bool, true, false, cond, List, [], ◌∷◌, length, Option, Some, None, IsSome, option_map, refl, sym, ap, subst, arith, nat_eq}
use Rattle.std.specs.List.{AllByRecursion}
use Rattle.std.specs.Cmp.Lexicographic.{pointwise, bytes_decides}
use Rattle.xet_hash.specs.Merkle.{chunk_hash, file_hash, leaf_of, leaves_of}
use Rattle.xet_shard_format.specs.declared.record.MDBFileInfo.{MDBFileInfo}
use Rattle.xet_folder.specs.Plan.{Resolves}
use Rattle.xet_folder.specs.Stored.{IsStored}
use Rattle.xet_folder.specs.Xorbs.{IsListed, found}
use Rattle.xet_folder.specs.Contents.{IsRecord}
use Rattle.xet_store_disk.specs.Store.{State, Sound}
use Rattle.xet_store_disk.specs.Separate.{Among, Apart, HasChunks, MetChunk, Separate}
use Rattle.xet_store_disk.specs.theorems.Plans.{resolves_more, resolves_map, resolves_among}

pub same_key : (a b : List ℕ) → pointwise nat_eq a b ≡ true → a ≡ b
same_key a b e = (bytes_decides a b).0 e

-- what is found has what all have
pub found_has : {X : Type 0} (P : List ℕ × X → Type 0) (es : List (List ℕ × X)) (h : List ℕ) (x : X) → AllByRecursion P es → found es h ≡ Some x → P (h, x)
found_has P [] h x all e = absurd (cc e)
found_has {X} P (y ∷ ys) h x all e = go (pointwise nat_eq h y.0) refl e (λ at. found_has P ys h x all.1 at)
  where
    go : (b : Bool) → pointwise nat_eq h y.0 ≡ b → cond b (Some y.1) (found ys h) ≡ Some x → (found ys h ≡ Some x → P (h, x)) → P (h, x)
    go true t at later =
        let value : y.1 ≡ x = cc in
        let key : y.0 ≡ h = sym (same_key h y.0 t) in
        let whole : y ≡ (h, x) = λ i. (key i, value i) in
        subst P whole all.0
    go false t at later = later at

-- equal leaves of met chunks are those of equal chunks
pub same_chunks : (Met : List ℕ → Type 0) → Apart chunk_hash Met → (xs ys : List (List ℕ)) → ((b : List ℕ) → Among xs b → Met b) → ((b : List ℕ) → Among ys b → Met b)
    → leaves_of xs ≡ leaves_of ys → xs ≡ ys
same_chunks Met apart [] [] mx my e = refl
same_chunks Met apart [] (y ∷ ys) mx my e = let l : 0 ≡ suc (length (leaves_of ys)) = ap length e in absurd (omega arith)
same_chunks Met apart (x ∷ xs) [] mx my e = let l : suc (length (leaves_of xs)) ≡ 0 = ap length e in absurd (omega arith)
same_chunks Met apart (x ∷ xs) (y ∷ ys) mx my e =
    let whole : (chunk_hash x, length x) ∷ leaves_of xs ≡ (chunk_hash y, length y) ∷ leaves_of ys = e in
    let tails : leaves_of xs ≡ leaves_of ys = cc in
    let pair : (chunk_hash x, length x) ≡ (chunk_hash y, length y) = cc in
    let heads : chunk_hash x ≡ chunk_hash y = ap (λ (p : List ℕ × ℕ). p.0) pair in
    let here : x ≡ y = apart.same x y (mx x (inl refl)) (my y (inl refl)) heads in
    let rest : xs ≡ ys = same_chunks Met apart xs ys (λ b a. mx b (inr a)) (λ b a. my b (inr a)) tails in
    ap (λ (b : List ℕ). b ∷ xs) here ∙ ap (λ (l : List (List ℕ)). y ∷ l) rest

-- what was made of a value that is there
pub mapped : {X Y : Type 0} (f : X → Y) (o : Option X) (y : Y) → option_map f o ≡ Some y → (x : X) × (o ≡ Some x) × (f x ≡ y)
mapped f None y e = absurd (cc e)
mapped f (Some x) y e = (x, refl, cc e)

pub has_file : (s : State) (files : List (List (List ℕ))) (chunks : List (List ℕ)) (f : MDBFileInfo)
    → Sound s → s.tells ≡ true → Separate s files → Among files chunks → 0 < length chunks
    → found s.records (file_hash (leaves_of chunks)) ≡ Some f → Resolves (IsStored s.files s.folder) length f.segments chunks
has_file s files chunks f sound tells apart given some there =
    let r = found_has (IsRecord s.xorbs) s.records (file_hash (leaves_of chunks)) f sound.recorded there in
    let ms = r.leaves in
    let list : ms ≡ leaves_of chunks = apart.lists.same ms (leaves_of chunks) (inl (file_hash (leaves_of chunks), f, there, r.resolves)) (inr (chunks, given, some, refl)) r.hash in
    let whole = resolves_map leaf_of (IsListed s.xorbs) (HasChunks s) (λ (m : List ℕ × ℕ). m.1)
    (λ h leaves listed. let b = sound.backed tells h leaves listed in (b.chunks, (subst (λ (o : Option (List (List ℕ × ℕ))). IsSome o) (sym listed) refl, b.stored), b.same)) f.segments ms r.resolves in
    let same : whole.0 ≡ chunks = same_chunks (MetChunk s files) apart.chunks whole.0 chunks
    (λ b a. let from = resolves_among (HasChunks s) length f.segments whole.0 b whole.1 a in inl (from.0, from.1, from.2, from.3)) (λ b a. inr (chunks, given, a)) (whole.2 ∙ list) in
    subst (λ (l : List (List ℕ)). Resolves (IsStored s.files s.folder) length f.segments l) same (resolves_more (HasChunks s) (IsStored s.files s.folder) length (λ h c x. x.1) f.segments whole.0 whole.1)
