use Rattle.std.proofs.Common.{ap, arith, length}
use Rattle.xet_xorb.specs.theorems.OfLeaves.{length-ends, length-hashes}
use Rattle.xet_xorb.proofs.footers.new_footer.Goals as goal

pub returns-clause-lists : goal.returns-clause-lists
returns-clause-lists c =
    let ms = c.args.leaves.now in let hashes = ap length c.in_ok-hashes.ensures.hashes in
    let stored = ap length c.in_ok-stored.ensures.ends in let plain = ap length c.in_ok-plain.ensures.ends in
    rw c.from_lists.ensures (record {
      hashes = omega arith;
      stored = omega (arith, hashes, stored, length-hashes ms, length-ends 8 0 ms);
      plain = omega (arith, hashes, plain, length-hashes ms, length-ends 0 0 ms);
    })

pub returns-clause-short : goal.returns-clause-short
returns-clause-short c =
    let ms = c.args.leaves.now in let hashes = ap length c.in_ok-hashes.ensures.hashes in
    let stored = ap length c.in_ok-stored.ensures.ends in let plain = ap length c.in_ok-plain.ensures.ends in
    rw c.from_lists.ensures (record {
      hashes = omega (arith, hashes, length-hashes ms, c.requires.few);
      stored = omega (arith, stored, length-ends 8 0 ms, c.requires.few);
      plain = omega (arith, plain, length-ends 0 0 ms, c.requires.few);
    })
