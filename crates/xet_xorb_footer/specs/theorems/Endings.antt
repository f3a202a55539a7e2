-- The length in the last four bytes.
use Rattle.std.proofs.Common.{◌≡◌, ◌∙◌, ℕ, ◌-◌, ◌≤◌, nat_le, true, List, Ok, ap, arith, drop, length, refl, sym, take}
use Rattle.std.proofs.lemmas.Bool.{le-leb}
use Rattle.std.specs.Int.{w32, from_le_bytes}
use Rattle.xet_xorb_footer.specs.Ends.{footer_length}

pub footer_length_is : (len : ℕ) (bytes last : List ℕ) → len ≡ length bytes → 4 ≤ len → last ≡ take 4 (drop (len - 4) bytes) → footer_length bytes ≡ Ok (from_le_bytes w32 last)
unfolding footer_length
footer_length_is len bytes last e le is =
    let enough : nat_le 4 (length bytes) ≡ true = le-leb 4 (length bytes) (omega arith) in
    let prefix : take 4 (drop (length bytes - 4) bytes) ≡ last = ap (λ (n : ℕ). take 4 (drop (n - 4) bytes)) (sym e) ∙ sym is in
    rw (enough, prefix) refl
