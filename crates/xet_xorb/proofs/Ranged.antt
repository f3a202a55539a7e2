-- Bytes between two places that are fed block by block.
use Rattle.std.proofs.Common.{◌≡◌, ◌∙◌, ◌⊎◌, ℕ, ◌+◌, ◌-◌, ◌≤◌, List, ◌++◌, Err, drop, take, slice_range, sym, ap, subst, inl, inr, arith}
use Rattle.std.proofs.Math.Seq.{take-add}
use Rattle.std.proofs.lemmas.List.{drop-drop}
use Rattle.xet_hash.specs.declared.error.Place.TheVariants.{Input}
use Rattle.xet_hash.specs.declared.error.StoreError.{StoreError}
use Rattle.xet_hash.specs.declared.error.StoreError.TheVariants.{Io}
use Rattle.xet_codec.specs.Stops.{StopsWriting}
use Rattle.xet_xorb_chunk.specs.Passing.{RefusesMore}
use Rattle.xet_xorb_chunk.specs.Stream.{Decodes}
use Rattle.xet_xorb_chunk.specs.theorems.Streamed.{decodes_longer}

-- a range of a list is that to a place in it and that from there
pub range_split : {X : Type 0} (xs : List X) (from at to : ℕ) → from ≤ at → at ≤ to → slice_range xs from to ≡ slice_range xs from at ++ slice_range xs at to
range_split {X = X} xs from at to first then =
    let count : to - from ≡ (at - from) + (to - at) = omega arith in
    let place : from + (at - from) ≡ at = omega arith in
    ap (λ (n : ℕ). take n (drop from xs)) count ∙ take-add (at - from) (to - at) (drop from xs)
    ∙ ap (λ (r : List X). slice_range xs from at ++ take (to - at) r) (drop-drop (at - from) from xs ∙ ap (λ (k : ℕ). drop k xs) place)

-- one more block was read
pub block_added : (bytes seen fed piece : List ℕ) (from at n m : ℕ) → from ≤ at → seen ≡ bytes → m ≡ n → fed ≡ slice_range bytes from at → piece ≡ take m (drop at seen)
    → fed ++ piece ≡ slice_range bytes from (at + n)
block_added bytes seen fed piece from at n m first same size is read =
    let count : m ≡ at + n - at = omega arith in
    let part : piece ≡ slice_range bytes at (at + n) = read ∙ ap (λ (b : List ℕ). take m (drop at b)) same ∙ ap (λ (k : ℕ). take k (drop at bytes)) count in
    ap (λ (x : List ℕ). x ++ piece) is ∙ ap (λ (x : List ℕ). slice_range bytes from at ++ x) part ∙ sym (range_split bytes from at (at + n) first (omega arith))

-- what was refused of the bytes up to a place is refused of all
pub refused_between : (bytes fed : List ℕ) (from at to max_chunk : ℕ) (chunks : List (List ℕ)) (told : Type 0) (before now : List ℕ) (e : StoreError) → from ≤ at → at ≤ to → fed ≡ slice_range bytes from at
    → RefusesMore max_chunk fed chunks told before now e → ((all : List (List ℕ)) × Decodes max_chunk 0 (slice_range bytes from to) all (Err e)) ⊎ (StopsWriting e ⊎ (e ≡ Io Input))
refused_between bytes fed from at to max_chunk chunks told before now e first then is (inl r) =
    let whole : fed ++ slice_range bytes at to ≡ slice_range bytes from to = ap (λ (x : List ℕ). x ++ slice_range bytes at to) is ∙ sym (range_split bytes from at to first then) in
    inl (chunks ++ r.0, subst (λ (b : List ℕ). Decodes max_chunk 0 b (chunks ++ r.0) (Err e)) whole (decodes_longer max_chunk 0 fed (slice_range bytes at to) (chunks ++ r.0) e r.1))
refused_between bytes fed from at to max_chunk chunks told before now e first then is (inr r) = inr (inl r.0)
