use Rattle.std.proofs.Common.{arith, rules}
use Rattle.xet_shard_format.specs.Ends.{footer_of_last}
use Rattle.xet_shard_format.specs.theorems.FirstLast.{footer_from}
use Rattle.xet_shard_format.specs.theorems.Refusing.{a_last, cause_before, gives_whole, gives_input_error}
use Rattle.xet_shard.proofs.reader.sections.read_footer.Goals as goal

pub returns-clause-exact : goal.returns-clause-exact
returns-clause-exact g c = λ told len.
    let bytes = g.R.ReadAt.bytes c.args.reader.now in
    gives_whole (λ f. f) c.footer_of_last.result (footer_of_last c.args.len c.fill.new.buf) _ (a_last c.args.len c.fill.new.buf)
    (footer_from c.args.len bytes c.fill.new.buf len (c.in_ok-fill.ensures.told told (omega (arith, len, c.requires)))) c.footer_of_last.ensures.gives

pub returns-clause-errors : goal.returns-clause-errors
returns-clause-errors g c = gives_input_error c.footer_of_last.result _ (a_last c.args.len c.fill.new.buf) c.footer_of_last.ensures.exact

pub returns-clause-frame : goal.returns-clause-frame
returns-clause-frame g c = let cause = cause_before (λ f. f) c.footer_of_last.result _ _ _ (a_last c.args.len c.fill.new.buf) c.footer_of_last.ensures.gives c.in_ok-fill.ensures.frame.later in
    record { same = search rules; tells = search rules; later = cause.later; rose = cause.rose; lent = search rules }
