-- The text form of a hash determines it.
use Rattle.std.proofs.Common.{◌≡◌, ℕ, zero, suc, ◌+◌, ◌*◌, List, [], ◌∷◌, ◌++◌, length, slice_index, refl, sym, ap, subst, ◌∙◌, arith}
use Rattle.std.proofs.lemmas.Nat.{be_bytes_8}
use Rattle.std.specs.Int.{w64, from_le_bytes, from_be_bytes, to_be_bytes}
use Rattle.hex.specs.Hex.{IsBytes, decode_of}
use Rattle.hex.proofs.HexLemmas.{decode_of-encode_lower}
use Rattle.xet_hash.specs.Hash.{hash_text, hash_word, shown_words}
use Rattle.xet_hash.specs.Order.{flipped, flipped-flipped}
use Rattle.xet_hash.specs.theorems.Words.{reads_all}

-- the bytes of word i, the high one first
abbrev pub word_bytes : List ℕ → ℕ → List ℕ
word_bytes h i =
    slice_index h (8 * i + 7) ∷ slice_index h (8 * i + 6) ∷ slice_index h (8 * i + 5) ∷ slice_index h (8 * i + 4)
    ∷ slice_index h (8 * i + 3) ∷ slice_index h (8 * i + 2) ∷ slice_index h (8 * i + 1) ∷ slice_index h (8 * i) ∷ []

pub word_is_bytes : (h : List ℕ) (i : ℕ) → IsBytes h → IsBytes (word_bytes h i)
word_is_bytes h i b zero = b (8 * i + 7)
word_is_bytes h i b (suc zero) = b (8 * i + 6)
word_is_bytes h i b (suc (suc zero)) = b (8 * i + 5)
word_is_bytes h i b (suc (suc (suc zero))) = b (8 * i + 4)
word_is_bytes h i b (suc (suc (suc (suc zero)))) = b (8 * i + 3)
word_is_bytes h i b (suc (suc (suc (suc (suc zero))))) = b (8 * i + 2)
word_is_bytes h i b (suc (suc (suc (suc (suc (suc zero)))))) = b (8 * i + 1)
word_is_bytes h i b (suc (suc (suc (suc (suc (suc (suc zero))))))) = b (8 * i)
word_is_bytes h i b (suc (suc (suc (suc (suc (suc (suc (suc k)))))))) = omega arith

turned : (a b c d e f g h : ℕ) → from_le_bytes w64 (a ∷ b ∷ c ∷ d ∷ e ∷ f ∷ g ∷ h ∷ []) ≡ from_be_bytes w64 (h ∷ g ∷ f ∷ e ∷ d ∷ c ∷ b ∷ a ∷ [])
turned a b c d e f g h = omega arith

shown_word : (h : List ℕ) (i : ℕ) → IsBytes h → to_be_bytes w64 (hash_word h i) ≡ word_bytes h i
shown_word h i b =
    be_bytes_8 (word_bytes h i) (hash_word h i) refl (word_is_bytes h i b)
    (turned (slice_index h (8 * i)) (slice_index h (8 * i + 1)) (slice_index h (8 * i + 2)) (slice_index h (8 * i + 3))
    (slice_index h (8 * i + 4)) (slice_index h (8 * i + 5)) (slice_index h (8 * i + 6)) (slice_index h (8 * i + 7)))

pub bytes-append : (xs ys : List ℕ) → IsBytes xs → IsBytes ys → IsBytes (xs ++ ys)
bytes-append [] ys bx by i = by i
bytes-append (x ∷ xs) ys bx by zero = bx 0
bytes-append (x ∷ xs) ys bx by (suc i) = bytes-append xs ys (λ k. bx (suc k)) by i

pub shown_is_bytes : (h : List ℕ) → IsBytes h → (n : ℕ) → IsBytes (shown_words h n)
unfolding shown_words
shown_is_bytes h b zero = λ i. omega arith
shown_is_bytes h b (suc n) =
    bytes-append (shown_words h n) (to_be_bytes w64 (hash_word h n)) (shown_is_bytes h b n)
    (subst IsBytes (sym (shown_word h n b)) (word_is_bytes h n b))

-- the words of a hash, the high byte of each first, are its bytes flipped
pub shown_is_flipped : (h : List ℕ) → length h ≡ 32 → IsBytes h → shown_words h 4 ≡ flipped h
unfolding shown_words
shown_is_flipped h len b =
    (λ j. ((([] ++ shown_word h 0 b j) ++ shown_word h 1 b j) ++ shown_word h 2 b j) ++ shown_word h 3 b j)
    ∙ ap flipped (sym (reads_all h 32 len))

-- hashes of equal texts are equal
pub hash_text_determines : (a b : List ℕ) → length a ≡ 32 → IsBytes a → length b ≡ 32 → IsBytes b → hash_text a ≡ hash_text b → a ≡ b
hash_text_determines a b la ba lb bb e =
    let decoded = sym (decode_of-encode_lower (shown_words a 4) (shown_is_bytes a ba 4)) ∙ ap decode_of e ∙ decode_of-encode_lower (shown_words b 4) (shown_is_bytes b bb 4) in
    let same : shown_words a 4 ≡ shown_words b 4 = cc decoded in
    sym (flipped-flipped a) ∙ ap flipped (sym (shown_is_flipped a la ba) ∙ same ∙ shown_is_flipped b lb bb) ∙ flipped-flipped b
