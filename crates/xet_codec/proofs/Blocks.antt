-- Fields that are taken from a block.
use Rattle.std.proofs.Common.{◌≡◌, ◌∙◌, ℕ, ◌+◌, ◌-◌, ◌≤◌, List, [], ◌++◌, ap, arith, drop, length, length-drop, sym, take}
use Rattle.std.proofs.Math.Seq.{drop-drop, take-add}
use Rattle.std.proofs.lemmas.List.{append-nil, drop-take, drop_all, length-take, take-append-le, take-take}
use Rattle.std.proofs.lemmas.List.Edits.{take-paste}
use Rattle.std.specs.List.{copy_within}
use borrow.Rule.Slice.PartMut.{post_of}
use Rattle.xet_codec.specs.declared.block.Block.{Block}
use Rattle.xet_codec.specs.Blocks.{HasBytes, IsPart}

-- a part of the first so many
inner : (k n m : ℕ) (bytes : List ℕ) → k + n ≤ m → take n (drop k (take m bytes)) ≡ take n (drop k bytes)
inner k n m bytes le = sym (drop-take k n (take m bytes)) ∙ ap (drop k) (take-take (k + n) m bytes le) ∙ drop-take k n bytes

pub part_is : (b : Block) (bytes : List ℕ) (at n : ℕ) → IsPart b bytes → HasBytes b at n → take n (drop (at - b.from) b.bytes.items) ≡ take n (drop at bytes)
part_is b bytes at n part has =
    let k : ℕ = at - b.from in
    let here : b.from + k ≡ at = omega (arith, has.from) in
    ap (λ (xs : List ℕ). take n (drop k xs)) part.is ∙ inner k n (length b.bytes.items) (drop b.from bytes) (omega (arith, has.from, has.to))
    ∙ ap (take n) (drop-drop k b.from bytes ∙ ap (λ (i : ℕ). drop i bytes) here)

-- the bytes that are moved to the front
pub kept_is : (b : Block) (bytes moved : List ℕ) (at n len : ℕ) → IsPart b bytes → HasBytes b at n → at - b.from + n ≡ length b.bytes.items → len ≡ length b.bytes.items → moved ≡ copy_within b.bytes.items (at - b.from) len 0 → take n moved ≡ take n (drop at bytes)
kept_is b bytes moved at n len part has to all_of is =
    let items : List ℕ = b.bytes.items in
    let k : ℕ = at - b.from in
    let left : length items - k ≡ n = omega arith in
    let long : length (drop k items) ≡ n = omega (arith, length-drop k items) in
    let all : n ≡ 0 + (length items - k) = omega arith in
    ap (λ (m : ℕ). take m moved) all ∙ ap (take (0 + (length items - k))) (is ∙ ap (λ (m : ℕ). copy_within items k m 0) all_of) ∙ take-paste items 0 (drop k items) (length items - k) (omega arith) (omega arith)
    ∙ ap (λ (m : ℕ). take m (drop k items)) left ∙ part_is b bytes at n part has

-- fewer bytes of the same
pub fewer : (n m : ℕ) (xs ys : List ℕ) → n ≤ m → take m xs ≡ take m ys → take n xs ≡ take n ys
fewer n m xs ys le same = sym (take-take n m xs le) ∙ ap (take n) same ∙ take-take n m ys le

-- the bytes that were kept, with those that were read behind them
pub refilled_is : (at kept size : ℕ) (bytes old more resized read : List ℕ) → kept ≤ size → kept ≤ length old → take kept old ≡ take kept (drop at bytes) → resized ≡ take size old ++ more → length resized ≡ size
    → read ≡ take (size - kept) (drop (at + kept) bytes) → take kept resized ++ (read ++ post_of kept (length resized - kept) resized) ≡ take size (drop at bytes)
refilled_is at kept size bytes old more resized read le few same is long got =
    let none : post_of kept (length resized - kept) resized ≡ [] = drop_all (length resized - kept) (drop kept resized) (omega (arith, length-drop kept resized)) in
    let first : take kept resized ≡ take kept (drop at bytes) = ap (take kept) is ∙ take-append-le kept (take size old) more (omega (arith, length-take size old)) ∙ take-take kept size old le ∙ same in
    let sum : kept + (size - kept) ≡ size = omega arith in
    ap (λ (t : List ℕ). take kept resized ++ (read ++ t)) none ∙ ap (λ (t : List ℕ). take kept resized ++ t) (append-nil read ∙ got)
    ∙ ap (λ (t : List ℕ). t ++ take (size - kept) (drop (at + kept) bytes)) first
    ∙ ap (λ (t : List ℕ). take kept (drop at bytes) ++ take (size - kept) t) (sym (drop-drop kept at bytes))
    ∙ sym (take-add kept (size - kept) (drop at bytes)) ∙ ap (λ (n : ℕ). take n (drop at bytes)) sum
