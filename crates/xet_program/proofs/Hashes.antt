-- The hash of a text form.
use Rattle.std.proofs.Common.{◌≡◌, ◌∙◌, ℕ, Bool, true, false, List, length, Some, None, Ok, refl, sym, ap}
use Rattle.std.specs.Result.{is_ok}
use Rattle.std.specs.Str.{str_to_ascii_lowercase}
use Rattle.hex.specs.Hex.{IsBytes, decode_sized}
use Rattle.hex.proofs.HexLemmas.{IsOk-decode_sized, decode_sized-encode_lower}
use Rattle.xet_hash.specs.Hash.{IsHashText, hash_text, shown_words}
use Rattle.xet_hash.specs.Order.{flipped, flipped-flipped}
use Rattle.xet_hash.specs.theorems.Texts.{shown_is_bytes, shown_is_flipped}
use Rattle.xet_hash.specs.theorems.Words.{reads_all}
use Rattle.xet_program.specs.Words.{hash_of_text}

length-flipped : (h : List ℕ) → length h ≡ 32 → length (flipped h) ≡ 32
length-flipped h len = ap (λ (x : List ℕ). length (flipped x)) (reads_all h 32 len)

pub hash_some : (text h : List ℕ) → IsHashText text → hash_text h ≡ str_to_ascii_lowercase text → length h ≡ 32 → IsBytes h → hash_of_text text ≡ Some h
unfolding hash_of_text
hash_some text h digits lower len bytes =
    let ok : is_ok (decode_sized text 32) ≡ true = (IsOk-decode_sized text 32).1 digits in
    let shown = shown_is_flipped h len bytes in
    let read : decode_sized (str_to_ascii_lowercase text) 32 ≡ Ok (shown_words h 4) =
    ap (λ (t : List ℕ). decode_sized t 32) (sym lower) ∙ decode_sized-encode_lower (shown_words h 4) 32 (ap length shown ∙ length-flipped h len) (shown_is_bytes h bytes 4) in
    rw (ok, read) (ap Some (ap flipped shown ∙ flipped-flipped h))

pub hash_none : (text : List ℕ) → (IsHashText text → ⊥) → hash_of_text text ≡ None
unfolding hash_of_text
hash_none text never = go (is_ok (decode_sized text 32)) refl
  where
    go : (b : Bool) → is_ok (decode_sized text 32) ≡ b → hash_of_text text ≡ None
    go true e = absurd (never ((IsOk-decode_sized text 32).0 e))
    go false e = rw e refl
