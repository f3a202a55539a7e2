use Rattle.std.proofs.Common.{◌∙◌, sym, rules}
use Rattle.std.proofs.lemmas.Result.{err_from_is_err_and}
use Rattle.xet_shard.proofs.Asking.{file_fails, file_found, file_other, other_word}
use Rattle.xet_shard_format.specs.Records.{first_word}
use Rattle.xet_shard.proofs.query.reader.file_of.Goals as goal

pub returns-then-item-word-clause-exact : goal.returns-then-item-word-clause-exact
returns-then-item-word-clause-exact g c = λ told.
    other_word c.args.f.now c.args.hash.now (first_word c.args.hash.now) (g.R.ReadAt.bytes c.args.reader.now) c.args.item (λ e. c.if-item-word.true (e ∙ sym c.word.ensures))

pub returns-in_err-file-clause-exact : goal.returns-in_err-file-clause-exact
returns-in_err-file-clause-exact g c = λ told.
    let p = err_from_is_err_and c.from_residual.result c.from_residual.ensures.1 in
    rw (p.1, p.2) (file_fails c.args.f.now c.args.hash.now (first_word c.args.hash.now) (g.R.ReadAt.bytes c.args.reader.now) c.args.item c.in_err-file.field-0.0 (c.if-item-word.false ∙ c.word.ensures) (c.in_err-file.ensures.exact told))

pub returns-then-eq-clause-exact : goal.returns-then-eq-clause-exact
returns-then-eq-clause-exact g c = λ told.
    file_found c.args.f.now c.args.hash.now (first_word c.args.hash.now) (g.R.ReadAt.bytes c.args.reader.now) c.args.item c.in_ok-file.file c.hash.result (c.if-item-word.false ∙ c.word.ensures) (c.in_ok-file.ensures.exact told) c.hash.ensures (search rules)

pub returns-else-eq-clause-exact : goal.returns-else-eq-clause-exact
returns-else-eq-clause-exact g c = λ told.
    file_other c.args.f.now c.args.hash.now (first_word c.args.hash.now) (g.R.ReadAt.bytes c.args.reader.now) c.args.item c.in_ok-file.file c.hash.result (c.if-item-word.false ∙ c.word.ensures) (c.in_ok-file.ensures.exact told) c.hash.ensures (search rules)
