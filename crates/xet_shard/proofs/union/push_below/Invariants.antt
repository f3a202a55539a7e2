use Rattle.std.proofs.Common.{◌≡◌, ◌++◌, Bor, drop, map}
use Rattle.xet_shard.specs.internal.Merging.{below, not_below}
use Rattle.xet_shard.proofs.union.push_below.Given as goal

abbrev pub invariant-loop-next : goal.invariant-loop-next
invariant-loop-next g l =
    record {
      here : l.rest ≡ drop l.next-index l.records;
      pushed : map (λ (r : Bor g.row.R.Denot). r.now) l.found.items ++ below g.R.Record.hash_of l.hash (drop l.next-index l.records) ≡ map (λ (r : Bor g.row.R.Denot). r.now) l.fn.found.items ++ below g.R.Record.hash_of l.hash l.records;
      others : not_below g.R.Record.hash_of l.hash (drop l.next-index l.records) ≡ not_below g.R.Record.hash_of l.hash l.records;
    }
