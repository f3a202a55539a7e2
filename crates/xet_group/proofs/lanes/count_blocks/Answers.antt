use Rattle.std.proofs.Common.{◌≡◌, ◌+◌, ◌-◌, ◌%◌, ◌<◌, arith}
use Rattle.xet_group.proofs.Tallies.{part_counted}
use Rattle.xet_group.proofs.lanes.count_blocks.Goals as goal

pub add_counts-requires-clause-fits : goal.add_counts-requires-clause-fits
add_counts-requires-clause-fits c g k low less =
    let place = (c.args.start + g) % 4 in
    let low' : place < 4 = omega arith in
    omega (
      arith,
      part_counted c.args.b.now c.counts_of.result c.args.start c.parts.done c.min-part.result g k c.counts_of.ensures low less (omega arith),
      c.parts.invariant.counts place k low' less,
      c.requires.fits place k low' less,
    )

pub parts-preserved : goal.parts-preserved
parts-preserved c = record {
  done = omega arith;
  shape = c.add_counts.ensures.shape;
  counts = λ g k low less.
      let r = (g + 4 - c.args.start) % 4 in
      let low' : r < 4 = omega arith in
      let same : (c.args.start + r) % 4 ≡ g = omega (arith, c.requires.start) in
      let new = rw same at (c.add_counts.ensures.counts r k low' less) in
      let part = rw same at (part_counted c.args.b.now c.counts_of.result c.args.start c.parts.done c.min-part.result r k c.counts_of.ensures low' less (omega arith)) in
      omega (arith, new, part, c.parts.invariant.counts g k low less);
}
