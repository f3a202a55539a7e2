use Rattle.std.proofs.Common.{◌≡◌, ◌+◌, ◌-◌, ◌≤◌, drop, length, map}
use Rattle.xet_xorb_chunk.specs.Chunks.{chunk_leaf}
use Rattle.xet_open_block.specs.OpenBlock.{run_from}
use Rattle.xet_open_block.proofs.block.OpenBlock.run_length.Given as goal

abbrev pub invariant-loop-count : goal.invariant-loop-count
invariant-loop-count l = record {
  count : l.count + run_from (drop l.count l.hashes) (l.start + l.count) (map chunk_leaf l.self-inside.chunks.items) ≡ run_from l.hashes l.start (map chunk_leaf l.self-inside.chunks.items);
  few : l.count ≤ length l.hashes;
  within : l.start + l.count ≤ length l.self-inside.chunks.items;
}

abbrev pub decreases-loop-count : goal.decreases-loop-count
decreases-loop-count l = length l.hashes - l.count
