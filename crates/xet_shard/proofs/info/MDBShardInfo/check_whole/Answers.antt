use Rattle.std.proofs.Common.{◌∙◌, rules}
use Rattle.xet_shard_format.specs.Reading.{all_of}
use Rattle.xet_shard_format.specs.theorems.Refusing.{all_answers, cause_before, gives_all, refuses}
use Rattle.xet_shard.proofs.info.MDBShardInfo.check_whole.Goals as goal

pub returns-in-Ok-clause-exact : goal.returns-in-Ok-clause-exact
returns-in-Ok-clause-exact g c = λ told.
    gives_all _ c.read_shard.result c.deref.result.now (g.R.ReadAt.bytes c.args.reader.now) (c.deref.ensures.value ∙ c.in-Ok.ensures.told told) c.read_shard.ensures.exact

pub returns-in-Ok-clause-errors : goal.returns-in-Ok-clause-errors
returns-in-Ok-clause-errors g c = refuses _ c.read_shard.result (all_of c.deref.result.now) (all_answers c.deref.result.now) c.read_shard.ensures.exact

pub returns-in-Ok-clause-frame : goal.returns-in-Ok-clause-frame
returns-in-Ok-clause-frame g c =
    let cause = cause_before _ c.read_shard.result (all_of c.deref.result.now) _ _ (all_answers c.deref.result.now) c.read_shard.ensures.exact c.in-Ok.ensures.frame.later in
    record { same = search rules; tells = search rules; later = cause.later; rose = cause.rose; lent = search rules }
