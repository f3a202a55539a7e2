use Rattle.std.proofs.Common.{◌≡◌, ◌++◌, Bor, drop, map}
use Rattle.xet_shard.specs.internal.Merging.{Rises}
use Rattle.xet_shard.specs.Union.{Agree}
use Rattle.xet_shard.proofs.Merging.{merged}
use Rattle.xet_shard.proofs.union.merge.Given as goal

abbrev pub invariant-loop-this : goal.invariant-loop-this
invariant-loop-this g l =
    record {
      ours : Rises g.R.Record.hash_of (drop l.this-index l.ours);
      theirs : Rises g.R.Record.hash_of l.rest;
      so_far : map (λ (r : Bor g.row.R.Denot). r.now) l.found.items ++ merged g.R.Record.hash_of (drop l.this-index l.ours) l.rest ≡ merged g.R.Record.hash_of l.ours l.theirs;
      agree : Agree g.R.Record.hash_of (drop l.this-index l.ours) l.rest → Agree g.R.Record.hash_of l.ours l.theirs;
      disagree : Agree g.R.Record.hash_of l.ours l.theirs → Agree g.R.Record.hash_of (drop l.this-index l.ours) l.rest;
    }
