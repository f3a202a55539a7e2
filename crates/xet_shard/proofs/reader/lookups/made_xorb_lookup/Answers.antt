use Rattle.std.specs.Prelude.{Vec}
use Rattle.std.specs.Global.{Global}
use Rattle.xet_shard_format.specs.declared.record.MDBXorbInfo.{MDBXorbInfo}
use Rattle.std.proofs.Common.{ℕ, ◌∙◌, ap}
use Rattle.std.proofs.lemmas.Result.{err_from_is_err_and}
use Rattle.xet_shard_format.specs.Lookups.{xorb_items}
use Rattle.xet_shard.specs.Sections.{blocks_in}
use Rattle.xet_shard.proofs.PartLaws.{fails_on_whole, goes_on, xorbs_made}
use Rattle.xet_shard.proofs.reader.lookups.made_xorb_lookup.Goals as goal

pub returns-in_err-found-clause-exact : goal.returns-in_err-found-clause-exact
returns-in_err-found-clause-exact g c = λ told.
    let p = err_from_is_err_and c.from_residual.result c.from_residual.ensures.1 in
    let whole = g.R.ReadAt.bytes c.args.reader.now in
    rw (p.1, p.2) (fails_on_whole (λ (v : Vec MDBXorbInfo Global). v.items) (λ (v : Vec (ℕ × ℕ) Global). v.items) c.in_err-found.field-0.0 (blocks_in c.args.f.now whole) xorb_items _ (xorbs_made c.args.f.now whole c.requires) (c.in_err-found.ensures.exact told))

pub returns-clause-exact : goal.returns-clause-exact
returns-clause-exact g c = λ told.
    let whole = g.R.ReadAt.bytes c.args.reader.now in
    goes_on (λ v. v.items) (λ v. v.items) c.in_ok-found.found c.in_ok-items.items (blocks_in c.args.f.now whole) xorb_items _ (xorbs_made c.args.f.now whole c.requires) (c.in_ok-found.ensures.exact told)
    (c.in_ok-items.ensures ∙ ap xorb_items c.deref.ensures.value)
