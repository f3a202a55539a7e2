use Rattle.std.specs.Prelude.{Vec}
use Rattle.std.specs.Global.{Global}
use Rattle.xet_shard_format.specs.declared.record.MDBFileInfo.{MDBFileInfo}
use Rattle.std.proofs.Common.{ℕ, ◌∙◌, ap}
use Rattle.std.proofs.lemmas.Result.{err_from_is_err_and}
use Rattle.xet_shard_format.specs.Lookups.{file_items}
use Rattle.xet_shard.specs.Sections.{files_in}
use Rattle.xet_shard.proofs.PartLaws.{fails_on_whole, goes_on, files_made}
use Rattle.xet_shard.proofs.reader.lookups.made_file_lookup.Goals as goal

pub returns-in_err-all-clause-exact : goal.returns-in_err-all-clause-exact
returns-in_err-all-clause-exact g c = λ told.
    let p = err_from_is_err_and c.from_residual.result c.from_residual.ensures.1 in
    let whole = g.R.ReadAt.bytes c.args.reader.now in
    rw (p.1, p.2) (fails_on_whole (λ (v : Vec MDBFileInfo Global). v.items) (λ (v : Vec (ℕ × ℕ) Global). v.items) c.in_err-all.field-0.0 (files_in c.args.f.now whole) file_items _ (files_made c.args.f.now 0 whole c.requires) (c.in_err-all.ensures.exact told))

pub returns-clause-exact : goal.returns-clause-exact
returns-clause-exact g c = λ told.
    let whole = g.R.ReadAt.bytes c.args.reader.now in
    goes_on (λ v. v.items) (λ v. v.items) c.in_ok-all.all c.in_ok-items.items (files_in c.args.f.now whole) file_items _ (files_made c.args.f.now 0 whole c.requires) (c.in_ok-all.ensures.exact told)
    (c.in_ok-items.ensures ∙ ap file_items c.deref.ensures.value)
