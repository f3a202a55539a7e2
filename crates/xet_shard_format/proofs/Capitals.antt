-- Texts without capital letters.
use Rattle.std.proofs.Common.{IfOk, IfSome, Result, Ok, Err, ◌≡◌, ◌∙◌, ℕ, zero, suc, ◌/◌, ◌%◌, Bool, true, false, ◌||◌, List, [], ◌∷◌, ◌++◌, refl, sym, ap, arith}
use Rattle.std.proofs.lemmas.Bool.Decides.{nat_tests}
use Rattle.std.proofs.lemmas.List.{append_cancel_right}
use Rattle.std.proofs.lemmas.Bool.{true≢false}
use Rattle.std.specs.Char.{is_ascii_uppercase, to_ascii_lowercase}
use Rattle.std.specs.Prelude.{codes, slice_index}
use Rattle.std.specs.Result.{result_ok}
use Rattle.std.specs.Str.{str_to_ascii_lowercase}
use Rattle.std.specs.Str.Pattern.{StripsSuffix, FindsTextSuffix}
use Rattle.hex.specs.Hex.{encode_lower, encode_with, lower_digits}
use Rattle.xet_hash.specs.Hash.{hash_text, shown_words}
use Rattle.xet_shard_format.specs.internal.Names.{has_capitals}
use Rattle.xet_shard_format.specs.Names.{shard_name}

neither : (a b : Bool) → (a || b) ≡ false → (a ≡ false) × (b ≡ false)
neither false false e = (refl, refl)
neither false true e = absurd (true≢false e)
neither true b e = absurd (true≢false e)

letter_same : (c : ℕ) → is_ascii_uppercase c ≡ false → to_ascii_lowercase c ≡ c
letter_same c e = grind (arith, nat_tests)

-- a text without capitals stays in lower case
pub lower_same : (text : List ℕ) → has_capitals text ≡ false → str_to_ascii_lowercase text ≡ text
lower_same [] e = refl
lower_same (c ∷ cs) e =
    let parts = neither (is_ascii_uppercase c) (has_capitals cs) e in
    λ i. letter_same c parts.0 i ∷ lower_same cs parts.1 i

digit_small : (n : ℕ) → is_ascii_uppercase (slice_index lower_digits n) ≡ false
digit_small zero = refl
digit_small (suc zero) = refl
digit_small (suc (suc zero)) = refl
digit_small (suc (suc (suc zero))) = refl
digit_small (suc (suc (suc (suc zero)))) = refl
digit_small (suc (suc (suc (suc (suc zero))))) = refl
digit_small (suc (suc (suc (suc (suc (suc zero)))))) = refl
digit_small (suc (suc (suc (suc (suc (suc (suc zero))))))) = refl
digit_small (suc (suc (suc (suc (suc (suc (suc (suc zero)))))))) = refl
digit_small (suc (suc (suc (suc (suc (suc (suc (suc (suc zero))))))))) = refl
digit_small (suc (suc (suc (suc (suc (suc (suc (suc (suc (suc zero)))))))))) = refl
digit_small (suc (suc (suc (suc (suc (suc (suc (suc (suc (suc (suc zero))))))))))) = refl
digit_small (suc (suc (suc (suc (suc (suc (suc (suc (suc (suc (suc (suc zero)))))))))))) = refl
digit_small (suc (suc (suc (suc (suc (suc (suc (suc (suc (suc (suc (suc (suc zero))))))))))))) = refl
digit_small (suc (suc (suc (suc (suc (suc (suc (suc (suc (suc (suc (suc (suc (suc zero)))))))))))))) = refl
digit_small (suc (suc (suc (suc (suc (suc (suc (suc (suc (suc (suc (suc (suc (suc (suc zero))))))))))))))) = refl
digit_small (suc (suc (suc (suc (suc (suc (suc (suc (suc (suc (suc (suc (suc (suc (suc (suc n)))))))))))))))) = refl

-- hexadecimal digits in lower case
pub encoded_small : (bytes : List ℕ) → has_capitals (encode_lower bytes) ≡ false
unfolding encode_with
encoded_small [] = refl
encoded_small (b ∷ bytes) = λ i. digit_small (b / 16) i || (digit_small (b % 16) i || encoded_small bytes i)

abbrev mdb_suffix : List ℕ
mdb_suffix = codes ".mdb"

pub name_is : (name text : List ℕ) → StripsSuffix (FindsTextSuffix mdb_suffix) name text → name ≡ text ++ mdb_suffix
name_is name text (n, finds, is, len) = finds.1 ∙ ap (λ (t : List ℕ). t ++ mdb_suffix) (sym is)

-- the text before the ending of a shard's name
pub text_is : (name text hash : List ℕ) → StripsSuffix (FindsTextSuffix mdb_suffix) name text → name ≡ shard_name hash → text ≡ encode_lower (shown_words hash 4)
text_is name text hash strips e = append_cancel_right text (encode_lower (shown_words hash 4)) mdb_suffix (sym (name_is name text strips) ∙ e)

-- a name whose front reads as a hash, and has no capitals, is that hash's
pub found_is : {E : Type 0} (name text : List ℕ) (r : Result (List ℕ) E) → StripsSuffix (FindsTextSuffix mdb_suffix) name text → has_capitals text ≡ false
    → IfOk r (λ h. hash_text h ≡ str_to_ascii_lowercase text) → IfSome (result_ok r) (λ h. name ≡ shard_name h)
found_is name text (Ok h) strips small reads = name_is name text strips ∙ ap (λ (t : List ℕ). t ++ mdb_suffix) (sym (reads ∙ lower_same text small))
found_is name text (Err e) strips small reads = tt
