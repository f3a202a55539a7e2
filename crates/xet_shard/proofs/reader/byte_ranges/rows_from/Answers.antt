use Rattle.std.proofs.Common.{arith, rules}
use Rattle.xet_shard.proofs.OneRecord.{end_past, row_past, rows_left, rows_past}
use Rattle.xet_shard.proofs.reader.byte_ranges.rows_from.Goals as goal
use Rattle.xet_shard.proofs.reader.byte_ranges.rows_from.Goals.{then-count-via-then-count, then-count-via-else-count+then-row-count}

pub returns-then-count-clause-exact : goal.returns-then-count-clause-exact
returns-then-count-clause-exact g c = λ told.
    let whole = g.R.ReadAt.bytes c.args.reader.now in
    elim c.then-count.branch [
      | then-count-via-then-count w ↦ rows_past whole c.args.at c.args.count c.args.row (omega arith)
      | then-count-via-else-count+then-row-count w ↦ row_past whole c.args.at c.args.count c.args.row (omega arith)
    ]

pub returns-in-Some-clause-exact : goal.returns-in-Some-clause-exact
returns-in-Some-clause-exact g c = λ told.
    rows_left (g.R.ReadAt.bytes c.args.reader.now) c.args.at c.args.count c.args.row (omega arith) (omega arith) (omega (arith, c.in_ok-end.ensures.told told, c.in-Some.ensures.some))

pub returns-in-None-clause-exact : goal.returns-in-None-clause-exact
returns-in-None-clause-exact g c = λ told.
    end_past (g.R.ReadAt.bytes c.args.reader.now) c.args.at c.args.count c.args.row (omega arith) (omega arith) (omega (arith, c.in_ok-end.ensures.told told, c.in-None.ensures.none (search rules)))
