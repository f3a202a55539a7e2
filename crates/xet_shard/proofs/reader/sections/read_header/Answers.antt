use Rattle.std.proofs.Common.{◌∙◌, arith, rules}
use Rattle.xet_shard_format.specs.Ends.{header_of_first}
use Rattle.xet_shard_format.specs.theorems.FirstLast.{header_from}
use Rattle.xet_shard_format.specs.theorems.Refusing.{a_first, cause_before, gives_whole, gives_input_error}
use Rattle.xet_shard.proofs.reader.sections.read_header.Goals as goal

pub returns-clause-exact : goal.returns-clause-exact
returns-clause-exact g c = λ told len.
    let bytes = g.R.ReadAt.bytes c.args.reader.now in
    gives_whole (λ _. tt) c.header_of_first.result (header_of_first c.args.len c.fill.new.buf) _ (a_first c.args.len c.fill.new.buf)
    (header_from c.args.len _ bytes c.fill.new.buf len (c.split_at_mut-first.ensures.front_len ∙ c.min.ensures) (c.in_ok-fill.ensures.told told (omega (arith, len, c.min.ensures, c.split_at_mut-first.ensures.front_len)))) c.header_of_first.ensures.gives

pub returns-clause-errors : goal.returns-clause-errors
returns-clause-errors g c = gives_input_error c.header_of_first.result _ (a_first c.args.len c.fill.new.buf) c.header_of_first.ensures.exact

pub returns-clause-frame : goal.returns-clause-frame
returns-clause-frame g c = let cause = cause_before (λ _. tt) c.header_of_first.result _ _ _ (a_first c.args.len c.fill.new.buf) c.header_of_first.ensures.gives c.in_ok-fill.ensures.frame.later in
    record { same = search rules; tells = search rules; later = cause.later; rose = cause.rose; lent = search rules }
