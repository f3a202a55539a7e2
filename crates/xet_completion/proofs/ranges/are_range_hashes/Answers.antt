use Rattle.std.proofs.Common.{◌≡◌, ◌∙◌, ◌+◌, ℕ, Bool, IsTrue, List, map, min, length, drop, take, sym, ap, subst, arith}
use Rattle.std.proofs.lemmas.List.{drop_min, take_min}
use Rattle.xet_hash.specs.Merkle.{range_hash}
use Rattle.xet_dedup.specs.Records.{range_hashes, run_len}
use Rattle.xet_completion.proofs.RangeRows.{first_hash, length-range_hashes, rows_left, rows_right}
use Rattle.xet_completion.proofs.ranges.are_range_hashes.Goals as goal

pub returns-then-rows-segments : goal.returns-then-rows-segments
returns-then-rows-segments c = (λ t. absurd (cc t), λ same. absurd (omega (arith, ap length same, length-range_hashes c.args.segments.now c.args.leaves.now)))

pub returns-then-not-has_range_hash : goal.returns-then-not-has_range_hash
returns-then-not-has_range_hash c =
    let s = c.index-segments-i.result in
    let rest = c.loop-i.rest.now in
    let within = c.min.ensures ∙ ap (λ (n : ℕ). min n (length rest)) c.run_len.ensures in
    let front : c.split_at.result.0.now ≡ take (run_len s) rest = c.split_at.ensures.front ∙ ap (λ (n : ℕ). take n rest) within ∙ take_min (run_len s) rest in (
      λ t. absurd (cc t),
      λ same.
          let left = rows_left c.args.rows.now c.args.segments.now c.loop-i.i c.index-rows-i.result s c.loop-i-test.true (omega arith) c.index-rows-i.is c.index-segments-i.is rest (c.loop-i.invariant.0 same) in
          subst (λ (b : Bool). IsTrue b) c.if-not-has_range_hash.true (c.has_range_hash.ensures.1 (left.0 ∙ ap (λ (l : List (List ℕ × ℕ)). range_hash (map (λ m. m.0) l)) (sym front))),
    )

pub loop-i-preserved : goal.loop-i-preserved
loop-i-preserved c =
    let s = c.index-segments-i.result in
    let rest = c.loop-i.rest.now in
    let within = c.min.ensures ∙ ap (λ (n : ℕ). min n (length rest)) c.run_len.ensures in
    let front : c.split_at.result.0.now ≡ take (run_len s) rest = c.split_at.ensures.front ∙ ap (λ (n : ℕ). take n rest) within ∙ take_min (run_len s) rest in
    let back : c.split_at.result.1.now ≡ drop (run_len s) rest = c.split_at.ensures.back ∙ ap (λ (n : ℕ). drop n rest) within ∙ drop_min (run_len s) rest in
    let here : c.index-rows-i.result.range_hash ≡ first_hash s rest = c.has_range_hash.ensures.0 c.if-not-has_range_hash.false ∙ ap (λ (l : List (List ℕ × ℕ)). range_hash (map (λ m. m.0) l)) front in
    let after = ap (range_hashes (drop (c.loop-i.i + 1) c.args.segments.now)) back in (
      λ same. (rows_left c.args.rows.now c.args.segments.now c.loop-i.i c.index-rows-i.result s c.loop-i-test.true (omega arith) c.index-rows-i.is c.index-segments-i.is rest (c.loop-i.invariant.0 same)).1 ∙ sym after,
      λ more. c.loop-i.invariant.1 (rows_right c.args.rows.now c.args.segments.now c.loop-i.i c.index-rows-i.result s c.loop-i-test.true (omega arith) c.index-rows-i.is c.index-segments-i.is rest here (more ∙ after)),
    )
