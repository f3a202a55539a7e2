use Rattle.std.proofs.Common.{◌≡◌, ℕ, ◌-◌, ◌<◌, ◌≤◌, List, length, false}
use Rattle.xet_hash_files.specs.internal.FileHasher.{IsHashing}
use Rattle.xet_hash_files.specs.internal.Sources.{Takes}
use Rattle.xet_hash_files.proofs.reading.read_into.Given as goal

-- the bytes that were taken so far are those of the file
abbrev pub invariant-loop-count : goal.invariant-loop-count
invariant-loop-count g l = record {
  read : (bytes : List ℕ) × Takes false (g.S.Source.tells l.fn.source) (g.S.Source.left l.fn.source) (g.S.Source.left l.source) bytes
      × IsHashing l.hasher.chunker l.hasher.leaves.items l.hasher.byte_count l.hasher.max_bytes bytes;
  settings : l.hasher.chunker.settings ≡ l.fn.hasher.chunker.settings;
  most : l.hasher.max_bytes ≡ l.fn.hasher.max_bytes;
  number : l.hasher.number ≡ l.fn.hasher.number;
  tells : g.S.Source.tells l.source ≡ g.S.Source.tells l.fn.source;
  later : g.S.Source.faults l.fn.source ≤ g.S.Source.faults l.source;
  some : 0 < length l.block;
}

abbrev pub decreases-loop-count : goal.decreases-loop-count
decreases-loop-count g l = l.fn.hasher.max_bytes - l.hasher.byte_count
