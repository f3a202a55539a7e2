use Rattle.std.proofs.Common.{IfErr, inr, subst, sym}
use Rattle.std.proofs.lemmas.Result.{IfErr-weaker}
use Rattle.xet_clean.specs.Errors.{IsCleanerError}
use Rattle.xet_store.specs.Interface.{IsErrorSince}
use Rattle.xet_store.specs.theorems.Following.{asking_nothing}
use Rattle.xet_single_file.proofs.Piecewise.{few_before}
use Rattle.xet_single_file.proofs.pieces.add_all.Goals as goal

pub returns-then-bytes-most-clause-follows : goal.returns-then-bytes-most-clause-follows
returns-then-bytes-most-clause-follows g c = asking_nothing (g.S.Stepping.holder c.args.cleaner.now.deduper.interface.steps)

pub returns-then-bytes-most-clause-few : goal.returns-then-bytes-most-clause-few
returns-then-bytes-most-clause-few g c = λ before cleaning. few_before _ _ _ _ _ _ _ _ cleaning c.args.bytes.now

pub returns-in-Some-clause-refused : goal.returns-in-Some-clause-refused
returns-in-Some-clause-refused g c =
    let d = c.args.cleaner.now in
    let old = g.S.Stepping.holder d.deduper.interface.steps in
    let new = g.S.Stepping.holder c.add_pieces-added.new.cleaner.deduper.interface.steps in
    let made = c.add_pieces-added.result in
    subst (λ x. IfErr made (IsCleanerError d.number d.byte_count c.args.bytes.now old (g.S.Stepping.holder x.deduper.interface.steps))) (sym c.release.ensures)
    (IfErr-weaker made (IsErrorSince old new) (IsCleanerError d.number d.byte_count c.args.bytes.now old new) (λ e is. inr is) c.add_pieces-added.ensures.refused)

pub returns-in_default-clause-refused : goal.returns-in_default-clause-refused
returns-in_default-clause-refused g c =
    let d = c.args.cleaner.now in
    let old = g.S.Stepping.holder d.deduper.interface.steps in
    let new = g.S.Stepping.holder c.add_pieces-added.new.cleaner.deduper.interface.steps in
    IfErr-weaker c.add_pieces-added.result (IsErrorSince old new) (IsCleanerError d.number d.byte_count c.args.bytes.now old new) (λ e is. inr is) c.add_pieces-added.ensures.refused
