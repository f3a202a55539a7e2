use Rattle.xet_aggregate.specs.Aggregate.{shifted_file}
use Rattle.xet_aggregate.proofs.InPlace.{changed_more}
use Rattle.xet_aggregate.proofs.aggregator.shift_files.Goals as goal

pub loop-file-preserved : goal.loop-file-preserved
loop-file-preserved c =
    changed_more (shifted_file c.args.count) c.args.files.now c.loop-file.files c.loop-file.file-index c.file-item.result c.shift_file.new.file c.loop-file-test.true c.loop-file.invariant c.shift_file.ensures
