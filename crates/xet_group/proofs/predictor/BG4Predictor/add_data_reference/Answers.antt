use Rattle.std.proofs.Common.{◌≡◌, ◌+◌, ◌%◌, ◌<◌, ◌^◌, drop, ap, get_or, count_ones, add-zero, arith, refl}
use Rattle.std.proofs.lemmas.Nat.{ones-le}
use Rattle.xet_group.proofs.Counts.{counted_none, one_counted, one_fits, put_shape, table_from}
use Rattle.xet_group.specs.Histogram.{count_of, byte_counts}
use Rattle.xet_group.proofs.predictor.BG4Predictor.add_data_reference.Goals as goal

pub loop-i-init : goal.loop-i-init
loop-i-init c = record {
  shape = c.self.invariant;
  counts = λ g k low less. rw add-zero refl;
}

few : (c : goal.After-self-1) → count_ones (get_or c.args.b.now c.loop-i.i 0) < 9
few c = omega (arith, ones-le 8 (get_or c.args.b.now c.loop-i.i 0) (c.type_inv.b c.loop-i.i).fits)

pub overflow_add-self-in-loop-i : goal.overflow_add-self-in-loop-i
overflow_add-self-in-loop-i c =
    let g = (c.args.offset % 4 + c.loop-i.i) % 4 in
    let k = count_ones (get_or c.args.b.now c.loop-i.i 0) in
    let less : g < 4 = omega arith in
    let total : count_of c.self.inside.counts g k + byte_counts (c.args.offset % 4) c.args.b.now g k < 2 ^ 32 = rw c.self.view_is (c.requires g k less (few c)) in
    record { fits = one_fits c.loop-i.self-inside.counts c.args.b.now (c.args.offset % 4 + c.loop-i.i) c.loop-i.i _ c.loop-i-test.true total (c.loop-i.invariant.counts g k less (few c)) }

pub loop-i-preserved : goal.loop-i-preserved
loop-i-preserved c = record {
  shape = put_shape _ _ _ _ c.loop-i.invariant.shape (omega arith);
  counts = λ g k low less.
      one_counted c.loop-i.self-inside.counts c.args.b.now (c.args.offset % 4 + c.loop-i.i) _ c.loop-i.i g k _ c.loop-i.invariant.shape (few c) c.loop-i-test.true (omega arith)
      (c.loop-i.invariant.counts g k low less);
}

pub returns : goal.returns
returns c =
    table_from c.loop-i.self-inside.counts (λ g k. count_of c.args.self.now g k + byte_counts (c.args.offset % 4) c.args.b.now g k) c.loop-i.invariant.shape (λ g k low less.
    let rest : byte_counts (c.args.offset % 4 + c.loop-i.i) (drop c.loop-i.i c.args.b.now) g k ≡ 0 = counted_none (c.args.offset % 4 + c.loop-i.i) c.args.b.now c.loop-i.i g k c.loop-i-test.false in
    let same : count_of c.self.inside.counts g k ≡ count_of c.args.self.now g k = ap (λ t. count_of t g k) c.self.view_is in
    omega (arith, rest, same, c.loop-i.invariant.counts g k low less))
