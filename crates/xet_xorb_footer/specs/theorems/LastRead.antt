-- Round trip of a footer at the end of other bytes.
use Rattle.std.proofs.Common.{◌≡◌, ◌∙◌, ℕ, ◌+◌, ◌-◌, ◌*◌, ◌^◌, ◌<◌, nat_le, true, List, ◌++◌, Ok, ap, append_assoc, arith, drop, length, length-append, refl, sym, take}
use Rattle.std.proofs.Math.Seq.{drop-append_seam}
use Rattle.std.proofs.lemmas.Bool.{le-leb}
use Rattle.std.proofs.lemmas.Nat.{from_le_bytes-to_le_bytes_4}
use Rattle.xet_xorb_footer.specs.declared.info.XorbObjectInfoV0.{XorbObjectInfoV0}
use Rattle.xet_xorb_footer.specs.declared.info.XorbObjectInfoV1.{XorbObjectInfoV1}
use Rattle.xet_xorb_footer.specs.Ends.{last_footer, footer_length}
use Rattle.xet_xorb_footer.specs.Laws.{IsStandard, IsStandardV0}
use Rattle.xet_xorb_footer.specs.Reading.{footer_at}
use Rattle.xet_codec.specs.Numbers.{number}
use Rattle.xet_xorb_footer.specs.FooterEncoding.{of_v0, footer_bytes_v0, footer_bytes_v1}
use Rattle.xet_xorb_footer.specs.theorems.Endings.{footer_length_is}
use Rattle.xet_xorb_footer.specs.theorems.Readback.{length_is_known, written_is_read}
use Rattle.xet_xorb_footer.specs.theorems.ReadbackV0.{length_is_known_v0, written_is_read_v0}

-- what is behind so many bytes
behind : (prefix back : List ℕ) (n : ℕ) → n ≡ length prefix → drop n (prefix ++ back) ≡ back
behind prefix back n is = ap (λ (k : ℕ). drop k (prefix ++ back)) is ∙ drop-append_seam prefix back

-- the last four bytes tell a number
footer_length_back : (prefix : List ℕ) (n : ℕ) → n < 2 ^ 32 → footer_length (prefix ++ number n) ≡ Ok n
footer_length_back prefix n small =
    let all : List ℕ = prefix ++ number n in
    let len : length all ≡ length prefix + 4 = length-append prefix (number n) in
    let last : number n ≡ take 4 (drop (length all - 4) all) = sym (ap (take 4) (behind prefix (number n) (length all - 4) (omega arith))) in
    footer_length_is (length all) all (number n) refl (omega arith) last ∙ ap Ok (from_le_bytes-to_le_bytes_4 n small)

-- a text of so many bytes, which is read as a footer
last_back : (info : XorbObjectInfoV1) (prefix encoding : List ℕ) (n : ℕ) → length encoding ≡ n → n < 2 ^ 32 → footer_at (encoding ++ number n) ≡ Ok (info, number n) → last_footer (prefix ++ (encoding ++ number n)) ≡ Ok (info, n)
unfolding last_footer
last_back info prefix encoding n len small read =
    let all : List ℕ = prefix ++ (encoding ++ number n) in
    let long : length all ≡ length prefix + (n + 4) = omega (arith, length-append prefix (encoding ++ number n), length-append encoding (number n)) in
    let told : footer_length all ≡ Ok n = ap footer_length (sym (append_assoc prefix encoding (number n))) ∙ footer_length_back (prefix ++ encoding) n small in
    let enough : nat_le (n + 4) (length all) ≡ true = le-leb (n + 4) (length all) (omega arith) in
    let here : drop (length all - (n + 4)) all ≡ encoding ++ number n = behind prefix (encoding ++ number n) (length all - (n + 4)) (omega arith) in
    rw (told, enough, here, read) refl

pub last_is_read : (i : XorbObjectInfoV1) (prefix : List ℕ) → IsStandard i → last_footer (prefix ++ (footer_bytes_v1 i ++ number (92 + 40 * i.num_chunks))) ≡ Ok (i, 92 + 40 * i.num_chunks)
last_is_read i prefix s =
    let n : ℕ = 92 + 40 * i.num_chunks in
    last_back i prefix (footer_bytes_v1 i) n (length_is_known i s) (omega (arith, s.few)) (written_is_read i (number n) s)

pub last_is_read_v0 : (i : XorbObjectInfoV0) (prefix : List ℕ) → IsStandardV0 i → last_footer (prefix ++ (footer_bytes_v0 i ++ number (60 + 36 * i.num_chunks))) ≡ Ok (of_v0 i, 60 + 36 * i.num_chunks)
last_is_read_v0 i prefix s =
    let n : ℕ = 60 + 36 * i.num_chunks in
    last_back (of_v0 i) prefix (footer_bytes_v0 i) n (length_is_known_v0 i s) (omega (arith, s.few)) (written_is_read_v0 i (number n) s)
