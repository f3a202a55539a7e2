use Rattle.xet_store_disk.proofs.Runs.{usable_run}
use Rattle.xet_store_disk.proofs.store.asking.is_usable.Goals as goal

pub returns-then-is_plain-clause-usable : goal.returns-then-is_plain-clause-usable
returns-then-is_plain-clause-usable c = λ is. usable_run _ c.args.query.now c.args.count c.args.segment.now (c.is_plain.ensures.0 c.if-is_plain.true) c.is_listed.ensures.small (c.is_listed.ensures.listed.0 is)
