-- Header and footer, read from the first and the last bytes of a shard alone.
use Rattle.std.proofs.Common.{inl, inr, ◌≤◌, ◌<◌, leb, min, ◌≡◌, ℕ, ◌-◌, ◌+◌, List, length, take, drop, refl, ap, ◌∙◌, arith}
use Rattle.std.proofs.lemmas.Bool.{cases_Bool, leb-false, leb-true}
use Rattle.std.proofs.lemmas.List.{drop-take, length-drop, take-take, take_all}
use Rattle.std.specs.Int.{w32, w64, from_le_bytes}
use Rattle.xet_codec.specs.Numbers.{half_word, word}
use Rattle.xet_shard_format.specs.Reading.{shard_footer_at, shard_header_at}
use Rattle.xet_shard_format.specs.Ends.{footer_of_last, header_of_first}

pub header_of_first_is : (bytes : List ℕ) → header_of_first (length bytes) bytes ≡ shard_header_at bytes
unfolding shard_header_at header_of_first
header_of_first_is bytes = refl

pub footer_is : (bytes : List ℕ) → footer_of_last (length bytes) (drop (length bytes - 200) bytes) ≡ shard_footer_at bytes
unfolding shard_footer_at footer_of_last
footer_is bytes = refl

-- a word that lies within the first bytes, and half a word
pub word_first : (at m : ℕ) (bytes : List ℕ) → at + 8 ≤ m → word (take m bytes) at ≡ word bytes at
word_first at m bytes le =
    let split : m ≡ at + (m - at) = omega arith in
    ap (λ (k : ℕ). word (take k bytes) at) split ∙ ap (λ (t : List ℕ). from_le_bytes w64 (take 8 t)) (drop-take at (m - at) bytes)
    ∙ ap (from_le_bytes w64) (take-take 8 (m - at) (drop at bytes) (omega arith))

pub half_word_first : (at m : ℕ) (bytes : List ℕ) → at + 4 ≤ m → half_word (take m bytes) at ≡ half_word bytes at
half_word_first at m bytes le =
    let split : m ≡ at + (m - at) = omega arith in
    ap (λ (k : ℕ). half_word (take k bytes) at) split ∙ ap (λ (t : List ℕ). from_le_bytes w32 (take 4 t)) (drop-take at (m - at) bytes)
    ∙ ap (from_le_bytes w32) (take-take 4 (m - at) (drop at bytes) (omega arith))

pub header_first : (len : ℕ) (bytes : List ℕ) → header_of_first len (take 48 bytes) ≡ header_of_first len bytes
unfolding header_of_first
header_first len bytes = rw (take-take 32 48 bytes (omega arith), word_first 32 48 bytes (omega arith), word_first 40 48 bytes (omega arith)) refl

-- the header of bytes of which as many of the first 48 as there are were read
pub header_from : (len count : ℕ) (bytes first : List ℕ) → len ≡ length bytes → count ≡ min len 48 → first ≡ take count (drop 0 bytes) → header_of_first len first ≡ shard_header_at bytes
header_from len count bytes first e few is = elim (cases_Bool (leb len 48)) [
  | inl short ↦
      let le : len ≤ 48 = leb-true len 48 short in
      let all : first ≡ bytes = is ∙ take_all count bytes (omega (arith, few, e, le)) in
      ap (header_of_first len) all ∙ ap (λ (n : ℕ). header_of_first n bytes) e ∙ header_of_first_is bytes
  | inr long ↦
      let gt : 48 < len = leb-false len 48 long in
      let all : count ≡ 48 = omega (arith, few, gt) in
      let prefix : first ≡ take 48 bytes = is ∙ ap (λ (n : ℕ). take n bytes) all in
      ap (header_of_first len) prefix ∙ header_first len bytes ∙ ap (λ (n : ℕ). header_of_first n bytes) e ∙ header_of_first_is bytes
]

-- the footer of bytes of which the last 200 were read
pub footer_from : (len : ℕ) (bytes last : List ℕ) → len ≡ length bytes → last ≡ take 200 (drop (len - 200) bytes) → footer_of_last len last ≡ shard_footer_at bytes
footer_from len bytes last e is =
    let end : last ≡ drop (len - 200) bytes = is ∙ take_all 200 (drop (len - 200) bytes) (omega (arith, e, length-drop (len - 200) bytes)) in
    ap (footer_of_last len) end ∙ ap (λ (n : ℕ). footer_of_last n (drop (n - 200) bytes)) e ∙ footer_is bytes
