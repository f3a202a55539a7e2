use Rattle.std.proofs.Common.{refl}
use Rattle.xet_shard_index.specs.internal.Lengths.{AreRuns}
use Rattle.xet_shard_index.proofs.Places.{index_of_none}
use Rattle.xet_shard_index.proofs.packed_index.PackedIndex.new.Goals as goal

pub invariant_of-result : goal.invariant_of-result
unfolding AreRuns
invariant_of-result c = rw c.new.ensures.items (tt, refl, λ _ some. cc)

pub returns : goal.returns
returns c = rw c.new.ensures.items index_of_none
