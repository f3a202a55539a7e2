use Rattle.std.proofs.Common.{arith, rules}
use Rattle.xet_xorb_chunk.specs.theorems.Prefixes.{prefix_few}
use Rattle.xet_xorb_chunk.proofs.decoder.ChunkDecoder.new.Goals as goal

pub invariant_of-result : goal.invariant_of-result
invariant_of-result c = record {
  small = search rules;
  short = λ w. prefix_few c.args.max_chunk _ (search rules);
  fits = λ w. omega (arith, c.new-2.ensures.stored, c.new.ensures.len);
}
