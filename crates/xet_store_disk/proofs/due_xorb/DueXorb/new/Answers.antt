use Rattle.std.proofs.Common.{◌∙◌, rules}
use Rattle.xet_store_disk.proofs.Encoding.{due_below, due_block, due_of_raw, due_raw}
use Rattle.xet_store_disk.proofs.due_xorb.DueXorb.new.Goals as goal

pub from_vec-requires : goal.from_vec-requires
from_vec-requires c = due_below c.args.raw c.requires.new c.hash-hash.result c.hash-hash.ensures c.in_ok-leaves_of_raw.field-0.items c.in_ok-leaves_of_raw.ensures.leaves

pub from_xorb_in-requires : goal.from_xorb_in-requires
from_xorb_in-requires c = due_raw c.args.raw c.requires.new c.hash-hash.result c.hash-hash.ensures c.in_ok-leaves_of_raw.field-0.items c.in_ok-leaves_of_raw.ensures.leaves

pub invariant_of-result : goal.invariant_of-result
invariant_of-result c =
    let leaves = c.in_ok-leaves.ensures.pairs ∙ c.in_ok-leaves_of_raw.ensures.leaves in (
      due_of_raw c.args.raw c.requires.new c.hash-hash.result c.hash-hash.ensures c.in_ok-leaves.leaves leaves c.into_vec.result.items (search rules),
      c.in_ok-block.ensures.copy ∙ due_block c.args.raw c.requires.new c.hash-hash.result c.hash-hash.ensures c.in_ok-leaves.leaves leaves,
    )
