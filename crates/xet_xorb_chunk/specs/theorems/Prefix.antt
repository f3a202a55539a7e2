-- The stored chunk with which a list of bytes begins.
use Rattle.std.proofs.Common.{◌≡◌, ◌∙◌, ℕ, ◌+◌, ◌-◌, ◌*◌, ◌<◌, ◌≤◌, ◌^◌, ◌/◌, ◌%◌, List, [], ◌∷◌, ◌++◌, length, get_or, drop, take, slice_range, refl, ap, arith, length-append}
use Rattle.std.proofs.lemmas.List.{length-drop, length-take-le, take-append-drop, drop-drop}
use Rattle.xet_xorb_chunk.specs.ChunkEncoding.{encoded_chunk}

-- the header at the front is that of a chunk of so many bytes
pub record IsHeaderOf (n : ℕ) (encoding : List ℕ) : Type 0 where
  pub version : get_or encoding 0 0 ≡ 0
  pub scheme : get_or encoding 4 0 ≡ 0
  pub stored : get_or encoding 1 0 + get_or encoding 2 0 * 256 + get_or encoding 3 0 * 65536 ≡ n
  pub plain : get_or encoding 5 0 + get_or encoding 6 0 * 256 + get_or encoding 7 0 * 65536 ≡ n
  pub within : 8 + n ≤ length encoding

-- the first eight bytes, one by one
pub eight : (encoding : List ℕ) → 8 ≤ length encoding
    → encoding ≡ get_or encoding 0 0 ∷ get_or encoding 1 0 ∷ get_or encoding 2 0 ∷ get_or encoding 3 0 ∷ get_or encoding 4 0 ∷ get_or encoding 5 0 ∷ get_or encoding 6 0 ∷ get_or encoding 7 0 ∷ drop 8 encoding
eight (a ∷ b ∷ c ∷ d ∷ e ∷ f ∷ g ∷ h ∷ rest) long = refl
eight (a ∷ b ∷ c ∷ d ∷ e ∷ f ∷ g ∷ []) long = absurd (omega arith)
eight (a ∷ b ∷ c ∷ d ∷ e ∷ f ∷ []) long = absurd (omega arith)
eight (a ∷ b ∷ c ∷ d ∷ e ∷ []) long = absurd (omega arith)
eight (a ∷ b ∷ c ∷ d ∷ []) long = absurd (omega arith)
eight (a ∷ b ∷ c ∷ []) long = absurd (omega arith)
eight (a ∷ b ∷ []) long = absurd (omega arith)
eight (a ∷ []) long = absurd (omega arith)
eight [] long = absurd (omega arith)

-- three bytes from their number
digits : (a b c n : ℕ) → a < 256 → b < 256 → c < 256 → a + b * 256 + c * 65536 ≡ n → (a ≡ n % 256) × (b ≡ n / 256 % 256) × (c ≡ n / 65536 % 256)
digits a b c n la lb lc e = (omega arith, omega arith, omega arith)

-- a stored chunk stands behind its header
pub prefix_is : (encoding : List ℕ) (n : ℕ) → ((i : ℕ) → get_or encoding i 0 < 256) → IsHeaderOf n encoding → encoding ≡ encoded_chunk (slice_range encoding 8 (8 + n)) ++ drop (8 + n) encoding
unfolding encoded_chunk
prefix_is encoding n bytes h =
    let body : List ℕ = slice_range encoding 8 (8 + n) in
    let stored = digits _ _ _ n (bytes 1) (bytes 2) (bytes 3) h.stored in
    let plain = digits _ _ _ n (bytes 5) (bytes 6) (bytes 7) h.plain in
    let size : 8 + n - 8 ≡ n = omega arith in
    let long : n ≤ length (drop 8 encoding) = omega (arith, h.within, length-drop 8 encoding) in
    let is : body ≡ take n (drop 8 encoding) = ap (λ (m : ℕ). take m (drop 8 encoding)) size in
    let len : length body ≡ n = ap length is ∙ length-take-le n (drop 8 encoding) long in
    let seam : take n (drop 8 encoding) ++ drop n (drop 8 encoding) ≡ drop 8 encoding = take-append-drop n (drop 8 encoding) in
    let tail : drop n (drop 8 encoding) ≡ drop (8 + n) encoding = drop-drop n 8 encoding in
    let head = eight encoding (omega (arith, h.within)) in
    cc

-- what a stored chunk at the front shows
pub header_is : (bytes rest encoding : List ℕ) → length bytes < 2 ^ 24 → encoding ≡ encoded_chunk bytes ++ rest → IsHeaderOf (length bytes) encoding
unfolding encoded_chunk
header_is bytes rest encoding small e =
    let at = λ (i : ℕ). ap (λ (t : List ℕ). get_or t i 0) e in
    record {
      version = at 0;
      scheme = at 4;
      stored = omega (arith, at 1, at 2, at 3);
      plain = omega (arith, at 5, at 6, at 7);
      within = omega (arith, ap length e, length-append bytes rest);
    }
