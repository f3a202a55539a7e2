use Rattle.std.proofs.Common.{◌≡◌, ◌++◌, Bor, drop, map}
use Rattle.xet_shard.proofs.union.push_all.Given as goal

abbrev pub invariant-loop-next : goal.invariant-loop-next
invariant-loop-next g l = map (λ (r : Bor g.row.R.Denot). r.now) l.found.items ++ drop l.next-index l.records ≡ map (λ (r : Bor g.row.R.Denot). r.now) l.fn.found.items ++ l.records
