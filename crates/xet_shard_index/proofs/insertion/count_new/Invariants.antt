use Rattle.std.proofs.Common.{◌≡◌, count_by, is_none, take}
use Rattle.xet_shard_index.specs.Runs.{Item, merged}
use Rattle.xet_shard_index.proofs.Merging.{at}
use Rattle.xet_shard_index.proofs.insertion.count_new.Given as goal

abbrev pub invariant-loop-word : goal.invariant-loop-word
invariant-loop-word g l = l.added ≡ count_by (λ (i : Item). is_none (at i.0 (merged l.runs))) (take l.word-index l.items)
