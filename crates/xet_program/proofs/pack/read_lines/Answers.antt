use Rattle.std.proofs.Common.{◌∙◌, sym}
use Rattle.std.proofs.lemmas.Result.{err_from_is_err_and}
use Rattle.xet_program.proofs.Outcomes.{early_good, early_range, stop_parsing, stop_unread}
use Rattle.xet_program.proofs.pack.read_lines.Goals as goal

pub returns-in_err-bytes-clause-stop : goal.returns-in_err-bytes-clause-stop
returns-in_err-bytes-clause-stop g c =
    let p = err_from_is_err_and c.from_residual.result c.from_residual.ensures.1 in
    rw (p.1, p.2) (stop_unread _ _ _ c.in_err-bytes.field-0.0 c.in_err-bytes.ensures.told)

pub returns-in_err-lines-clause-stop : goal.returns-in_err-lines-clause-stop
returns-in_err-lines-clause-stop g c =
    let p = err_from_is_err_and c.from_residual-in_err-lines.result c.from_residual-in_err-lines.ensures.1 in
    rw (p.1, p.2)
    (stop_parsing _ _ _ (λ told. let read = c.in_ok-bytes.ensures.told told in (c.deref.ensures.value ∙ read.0, read.2)) c.in_err-lines.field-0.0 c.in_err-lines.ensures.stop)

pub returns-then-not-are_good-clause-stop : goal.returns-then-not-are_good-clause-stop
returns-then-not-are_good-clause-stop g c = λ told.
    let read = c.in_ok-bytes.ensures.told told in
    let says = c.in_ok-lines.ensures in
    early_range _ _ (c.deref.ensures.value ∙ read.0) read.2 c.in_ok-lines.lines (says.good, says.said) (sym c.are_good.ensures ∙ c.if-not-are_good.true)

pub returns-clause-said : goal.returns-clause-said
returns-clause-said g c = λ told.
    let read = c.in_ok-bytes.ensures.told told in
    let says = c.in_ok-lines.ensures in
    early_good _ _ (c.deref.ensures.value ∙ read.0) read.2 c.in_ok-lines.lines (says.good, says.said) (sym c.are_good.ensures ∙ c.if-not-are_good.false)

pub returns-clause-bytes : goal.returns-clause-bytes
returns-clause-bytes g c =
    let bytes = c.in_ok-bytes.bytes.items in
    let says = c.in_ok-lines.ensures in
    (bytes, early_good bytes _ c.deref.ensures.value c.in_ok-bytes.ensures.short c.in_ok-lines.lines (says.good, says.said) (sym c.are_good.ensures ∙ c.if-not-are_good.false))
