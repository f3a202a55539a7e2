use Rattle.std.proofs.Common.{◌≡◌, ◌<◌, ◌≤◌, ◌-◌, ◌++◌, ℕ, List, length, take}
use Rattle.xet_clean.specs.Cleaner.{IsCleaning}
use Rattle.xet_clean.specs.Policies.{HasBytesBy}
use Rattle.xet_store.specs.Holders.{FollowsAsking}
use Rattle.xet_single_file.proofs.pieces.add_pieces.Given as goal

-- the pieces so far were added
abbrev pub invariant-pieces : goal.invariant-pieces
invariant-pieces g l = record {
  some : 0 < l.most;
  within : l.from ≤ length l.bytes;
  start : l.cleaner.deduper.start.value ≡ l.fn.cleaner.deduper.start.value;
  number : l.cleaner.number ≡ l.fn.cleaner.number;
  id : l.cleaner.deduper.file_id ≡ l.fn.cleaner.deduper.file_id;
  follows : FollowsAsking (g.S.Stepping.holder l.fn.cleaner.deduper.interface.steps) (g.S.Stepping.holder l.cleaner.deduper.interface.steps);
  added : (before : List ℕ) → IsCleaning (g.S.Stepping.holder l.fn.cleaner.deduper.start.value.steps) (g.S.Stepping.holder l.fn.cleaner.deduper.interface.steps) l.fn.cleaner.deduper.whole l.fn.cleaner.deduper.plan l.fn.cleaner.deduper.global l.fn.cleaner.chunker l.fn.cleaner.byte_count before
      → IsCleaning (g.S.Stepping.holder l.cleaner.deduper.start.value.steps) (g.S.Stepping.holder l.cleaner.deduper.interface.steps) l.cleaner.deduper.whole l.cleaner.deduper.plan l.cleaner.deduper.global l.cleaner.chunker l.cleaner.byte_count (before ++ take l.from l.bytes);
  hashed : (before : List ℕ) → HasBytesBy l.fn.policy l.fn.generator before → HasBytesBy l.fn.policy l.generator (before ++ take l.from l.bytes);
}

abbrev pub decreases-pieces : goal.decreases-pieces
decreases-pieces g l = length l.bytes - l.from
