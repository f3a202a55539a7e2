use Rattle.std.proofs.Common.{◌∙◌, Err}
use Rattle.xet_shard_format.specs.Ends.{footer_of_last, header_of_first}
use Rattle.xet_shard_format.proofs.EndsAlone.{ends_error, passed, stopped}
use Rattle.xet_shard_format.specs.theorems.Refusing.{a_first, a_last}
use Rattle.xet_shard_format.proofs.header_footer.read_footer_of_ends.Goals as goal

pub returns-in-Ok-clause-exact : goal.returns-in-Ok-clause-exact
returns-in-Ok-clause-exact c = λ bytes len first last. c.footer_of_last.ensures.exact ∙ passed c.args.len bytes c.args.first.now c.args.last.now tt len first last c.in-Ok.ensures.exact

pub returns-in-Ok-clause-error : goal.returns-in-Ok-clause-error
returns-in-Ok-clause-error c = ends_error c.footer_of_last.result (footer_of_last c.args.len c.args.last.now) (a_last c.args.len c.args.last.now) c.footer_of_last.ensures.exact

pub returns-in-Err-clause-exact : goal.returns-in-Err-clause-exact
returns-in-Err-clause-exact c = λ bytes len first last. stopped c.args.len bytes c.args.first.now c.in-Err.error len first c.in-Err.ensures.exact

pub returns-in-Err-clause-error : goal.returns-in-Err-clause-error
returns-in-Err-clause-error c = ends_error (Err c.in-Err.error) (header_of_first c.args.len c.args.first.now) (a_first c.args.len c.args.first.now) c.in-Err.ensures.exact
