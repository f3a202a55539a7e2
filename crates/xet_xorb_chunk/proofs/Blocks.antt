-- Bytes that are taken block by block.
use Rattle.std.proofs.Common.{◌≡◌, ◌∙◌, ◌-◌, ◌≤◌, ℕ, List, ◌++◌, ap, append_assoc, arith, drop, length, length-drop, sym, take}
use Rattle.std.proofs.Math.Seq.{take-append_seam}
use Rattle.std.proofs.lemmas.List.{take-append-drop, take_all, take_at}

-- a whole block was taken behind the first bytes, into room that was made for it
pub block_taken : (whole left rest old fresh room new tail : List ℕ) (filled size count len : ℕ) → whole ≡ old ++ left → take filled new ≡ take filled room
    → room ≡ take size old ++ fresh → length old ≡ filled → filled ≤ size → left ≡ take count (drop filled new) ++ rest → length new - filled ≤ count → len ≡ length new
    → whole ≡ take len (new ++ tail) ++ rest
block_taken whole left rest old fresh room new tail filled size count len read prefix is long fits next full e =
    let all : take len (new ++ tail) ≡ new = ap (λ (n : ℕ). take n (new ++ tail)) e ∙ take-append_seam new tail in
    let block : take count (drop filled new) ≡ drop filled new = take_all count (drop filled new) (omega (arith, length-drop filled new)) in
    let kept : take size old ≡ old = take_all size old (omega arith) in
    let first : take filled new ≡ old = prefix ∙ ap (take filled) (is ∙ ap (λ (x : List ℕ). x ++ fresh) kept) ∙ take_at old fresh filled long in
    read ∙ ap (λ (x : List ℕ). old ++ x) next ∙ ap (λ (x : List ℕ). old ++ (x ++ rest)) block ∙ sym (append_assoc old (drop filled new) rest)
    ∙ ap (λ (x : List ℕ). x ++ drop filled new ++ rest) (sym first) ∙ ap (λ (x : List ℕ). x ++ rest) (take-append-drop filled new ∙ sym all)
