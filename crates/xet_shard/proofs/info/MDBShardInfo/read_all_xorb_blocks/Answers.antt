use Rattle.std.specs.Prelude.{Vec}
use Rattle.std.specs.Global.{Global}
use Rattle.xet_shard_format.specs.declared.record.MDBXorbInfo.{MDBXorbInfo}
use Rattle.xet_shard_format.specs.declared.record.XorbChunkSequenceHeader.{XorbChunkSequenceHeader}
use Rattle.std.proofs.Common.{ℕ, ◌∙◌, ap}
use Rattle.std.proofs.lemmas.Result.{err_from_is_err_and}
use Rattle.xet_shard.specs.Sections.{blocks_in, heads_of}
use Rattle.xet_shard.proofs.PartLaws.{fails_on_whole, goes_on, heads_made}
use Rattle.xet_shard.proofs.info.MDBShardInfo.read_all_xorb_blocks.Goals as goal

pub returns-in_err-found-clause-exact : goal.returns-in_err-found-clause-exact
returns-in_err-found-clause-exact g c = λ told.
    let p = err_from_is_err_and c.from_residual.result c.from_residual.ensures.1 in
    let whole = g.R.ReadAt.bytes c.args.reader.now in
    rw (p.1, p.2) (fails_on_whole (λ (v : Vec MDBXorbInfo Global). v.items) (λ (v : Vec (XorbChunkSequenceHeader × ℕ) Global). v.items) c.in_err-found.field-0.0 (blocks_in c.args.self.now.metadata whole) (heads_of 0) _ (heads_made c.args.self.now.metadata whole) (c.in_err-found.ensures.exact told))

pub returns-clause-exact : goal.returns-clause-exact
returns-clause-exact g c = λ told.
    let whole = g.R.ReadAt.bytes c.args.reader.now in
    goes_on (λ v. v.items) (λ v. v.items) c.in_ok-found.found c.in_ok-heads.heads (blocks_in c.args.self.now.metadata whole) (heads_of 0) _ (heads_made c.args.self.now.metadata whole) (c.in_ok-found.ensures.exact told)
    (c.in_ok-heads.ensures ∙ ap (heads_of 0) c.deref.ensures.value)
