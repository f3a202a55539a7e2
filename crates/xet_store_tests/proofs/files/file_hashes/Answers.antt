use Rattle.std.proofs.Common.{◌∙◌}
use Rattle.xet_store_tests.proofs.Xorbs.{total_small}
use Rattle.xet_store_tests.proofs.files.file_hashes.Goals as goal

pub file_hash-requires : goal.file_hash-requires
file_hash-requires c = total_small c.deref.result.now c.chunks.result (c.deref.ensures.value ∙ c.in_ok-leaves.ensures.leaves) c.chunks.ensures
