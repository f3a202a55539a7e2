use Rattle.xet_shard.proofs.Merging.{behind_first_other, behind_first_same, behind_nothing, hashes_differ, hashes_equal}
use Rattle.xet_shard.proofs.union.behind.Goals as goal

pub returns-in_default-clause-rest : goal.returns-in_default-clause-rest
returns-in_default-clause-rest g c = behind_nothing g.R.Record.hash_of _ c.args.records.now c.in_default.ensures.cases

pub returns-then-ne-clause-rest : goal.returns-then-ne-clause-rest
returns-then-ne-clause-rest g c =
    behind_first_other g.R.Record.hash_of _ c.args.records.now c.in-Some.first.now c.in-Some.others.now c.in-Some.ensures.cases.0 (hashes_differ c.ne.result c.hash.result c.hash-2.result _ _ c.if-ne.true c.ne.ensures c.hash.ensures c.hash-2.ensures)

pub returns-clause-rest : goal.returns-clause-rest
returns-clause-rest g c =
    behind_first_same g.R.Record.hash_of _ c.args.records.now c.in-Some.first.now c.in-Some.others.now c.in-Some.ensures.cases.0 (hashes_equal c.ne.result c.hash.result c.hash-2.result _ _ c.if-ne.false c.ne.ensures c.hash.ensures c.hash-2.ensures)
