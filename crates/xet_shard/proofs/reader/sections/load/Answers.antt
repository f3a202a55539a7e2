use Rattle.std.proofs.Common.{Err, ◌∙◌, List, ap, length, subst, sym, ℕ}
use Rattle.std.proofs.lemmas.Result.{err_from_is_err_and}
use Rattle.xet_shard_format.specs.declared.header_footer.MDBShardFileFooter.{MDBShardFileFooter}
use Rattle.xet_codec.specs.Parsing.{GivesUnlessFault}
use Rattle.xet_shard_format.specs.Reading.{shard_footer_at}
use Rattle.xet_shard.proofs.Faulting.{info_ends, info_fails, info_of}
use Rattle.xet_shard.proofs.reader.sections.load.Goals as goal

pub returns-in_err-read_header-clause-exact : goal.returns-in_err-read_header-clause-exact
returns-in_err-read_header-clause-exact g c = λ told len.
    let p = err_from_is_err_and c.from_residual.result c.from_residual.ensures.1 in
    rw (p.1, p.2) (info_fails (g.R.ReadAt.bytes c.args.reader.now) c.in_err-read_header.field-0.0 (c.in_err-read_header.ensures.exact told len))

pub returns-in_err-metadata-clause-exact : goal.returns-in_err-metadata-clause-exact
returns-in_err-metadata-clause-exact g c = λ told len.
    let p = err_from_is_err_and c.from_residual-in_err-metadata.result c.from_residual-in_err-metadata.ensures.1 in
    let head = c.in_ok-read_header.ensures in
    let e = c.in_err-metadata.field-0.0 in
    rw (p.1, p.2) (info_ends (g.R.ReadAt.bytes c.args.reader.now) e (head.exact told len)
    (subst (λ (b : List ℕ). GivesUnlessFault {X = MDBShardFileFooter} (λ f. f) (Err e) (shard_footer_at b)) head.frame.same (c.in_err-metadata.ensures.exact (head.frame.tells ∙ told) (len ∙ ap length (sym head.frame.same)))))

pub returns-clause-exact : goal.returns-clause-exact
returns-clause-exact g c = λ told len.
    let head = c.in_ok-read_header.ensures in
    info_of (g.R.ReadAt.bytes c.args.reader.now) c.in_ok-metadata.metadata (head.exact told len)
    (ap shard_footer_at (sym head.frame.same) ∙ c.in_ok-metadata.ensures.exact (head.frame.tells ∙ told) (len ∙ ap length (sym head.frame.same)))
