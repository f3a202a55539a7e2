use Rattle.std.proofs.Common.{◌∙◌, ap, sym, subst, List, None, Option, Result, Ok, Some, ℕ}
use Rattle.std.proofs.lemmas.Result.{err_from_is_err_and}
use Rattle.xet_hash.specs.declared.error.StoreError.{StoreError}
use Rattle.xet_shard_format.specs.declared.record.FileDataSequenceEntry.{FileDataSequenceEntry}
use Rattle.xet_shard.specs.Queries.{run_in}
use Rattle.xet_codec.specs.Parsing.{GivesUnlessFault}
use Rattle.xet_shard.proofs.Asking.{run_by, run_by_fails}
use Rattle.xet_shard.proofs.query.reader.run_of_word.Goals as goal

pub returns-in_err-row-clause-exact : goal.returns-in_err-row-clause-exact
returns-in_err-row-clause-exact g c = λ told.
    let p = err_from_is_err_and c.from_residual.result c.from_residual.ensures.1 in
    let found = c.in_err-row.ensures.exact told in
    (found.0, found.1, rw (p.1, p.2) (run_by_fails (λ (place : Option (ℕ × ℕ)). place) c.args.info.now.metadata c.args.query.now c.args.word found.0 (g.R.ReadAt.bytes c.args.reader.now) c.in_err-row.field-0.0 found.2))

pub returns-in-Some-clause-exact : goal.returns-in-Some-clause-exact
returns-in-Some-clause-exact g c = λ told.
    let f = c.args.info.now.metadata in
    let whole = g.R.ReadAt.bytes c.args.reader.now in
    let found = c.in_ok-row.ensures.exact told in (
      found.0,
      found.1,
      subst (λ (r : Result (Option (ℕ × FileDataSequenceEntry)) StoreError). GivesUnlessFault (λ x. x) c.run_in.result r)
          (ap (λ (b : List ℕ). run_in f c.args.query.now c.in-Some.row c.in-Some.place b) c.in_ok-row.ensures.frame.same
          ∙ run_by f c.args.query.now c.args.word found.0 whole (Some (c.in-Some.row, c.in-Some.place)) (found.2 ∙ ap (λ (place : Option (ℕ × ℕ)). Ok place) c.in-Some.is))
          (c.run_in.ensures.exact (c.in_ok-row.ensures.frame.tells ∙ told)),
    )

pub returns-in-None-clause-exact : goal.returns-in-None-clause-exact
returns-in-None-clause-exact g c = λ told.
    let found = c.in_ok-row.ensures.exact told in
    (found.0, found.1, sym (run_by c.args.info.now.metadata c.args.query.now c.args.word found.0 (g.R.ReadAt.bytes c.args.reader.now) None (found.2 ∙ ap (λ (place : Option (ℕ × ℕ)). Ok place) c.in-None.is)))
