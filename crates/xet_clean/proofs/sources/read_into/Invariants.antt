use Rattle.std.proofs.Common.{◌≡◌, ℕ, ◌-◌, ◌≤◌, List, false}
use Rattle.xet_clean.specs.Policies.{IfComputed}
use Rattle.xet_store.specs.Holders.{FollowsAsking}
use Rattle.xet_clean.specs.Cleaner.{IsCleaning}
use Rattle.xet_clean.specs.Sources.{Takes}
use Rattle.xet_clean.proofs.sources.read_into.Given as goal

-- the bytes that were taken so far are those of the file
abbrev pub invariant-loop-block : goal.invariant-loop-block
invariant-loop-block g l = record {
  read : (bytes : List ℕ) × Takes false (g.R.Source.tells l.fn.source) (g.R.Source.left l.fn.source) (g.R.Source.left l.source) bytes
      × IsCleaning (g.S.Stepping.holder l.cleaner.deduper.start.value.steps) (g.S.Stepping.holder l.cleaner.deduper.interface.steps) l.cleaner.deduper.whole l.cleaner.deduper.plan l.cleaner.deduper.global l.cleaner.chunker l.cleaner.byte_count bytes × IfComputed l.fn.policy (g.H.FileDigest.has l.digest bytes);
  start : l.cleaner.deduper.start.value ≡ l.fn.cleaner.deduper.start.value;
  id : l.cleaner.deduper.file_id ≡ l.fn.cleaner.deduper.file_id;
  number : l.cleaner.number ≡ l.fn.number;
  follows : FollowsAsking (g.S.Stepping.holder l.fn.cleaner.deduper.interface.steps) (g.S.Stepping.holder l.cleaner.deduper.interface.steps);
  tells : g.R.Source.tells l.source ≡ g.R.Source.tells l.fn.source;
  later : g.R.Source.faults l.fn.source ≤ g.R.Source.faults l.source;
}

abbrev pub decreases-loop-block : goal.decreases-loop-block
decreases-loop-block g l = (g.S.Stepping.holder l.fn.cleaner.deduper.interface.steps).limits.max_source_bytes - l.cleaner.byte_count
