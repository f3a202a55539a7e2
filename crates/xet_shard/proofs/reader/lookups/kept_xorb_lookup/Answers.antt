use Rattle.std.specs.Prelude.{Vec}
use Rattle.std.specs.Global.{Global}
use Rattle.std.proofs.Common.{ℕ, ◌∙◌, ap}
use Rattle.std.proofs.lemmas.Result.{err_from_is_err_and}
use Rattle.xet_shard.specs.Sections.{heads_in}
use Rattle.xet_shard.proofs.PartLaws.{fails_on_whole, goes_on, xorbs_kept}
use Rattle.xet_shard.proofs.reader.lookups.kept_xorb_lookup.Goals as goal

pub returns-in_err-bytes-clause-exact : goal.returns-in_err-bytes-clause-exact
returns-in_err-bytes-clause-exact g c = λ told.
    let p = err_from_is_err_and c.from_residual.result c.from_residual.ensures.1 in
    let f = c.args.f.now in
    let whole = g.R.ReadAt.bytes c.args.reader.now in
    rw (p.1, p.2) (fails_on_whole (λ (v : Vec ℕ Global). v.items) (λ (v : Vec (ℕ × ℕ) Global). v.items) c.in_err-bytes.field-0.0 _ (heads_in f.xorb_lookup_num_entry) _ (xorbs_kept f whole c.requires) (c.in_err-bytes.ensures.told told))

pub returns-clause-exact : goal.returns-clause-exact
returns-clause-exact g c = λ told.
    let f = c.args.f.now in
    let whole = g.R.ReadAt.bytes c.args.reader.now in
    goes_on (λ v. v.items) (λ v. v.items) c.in_ok-bytes.bytes c.in_ok-items.items _ (heads_in f.xorb_lookup_num_entry) _ (xorbs_kept f whole c.requires) (c.in_ok-bytes.ensures.told told)
    (c.in_ok-items.ensures ∙ ap (heads_in f.xorb_lookup_num_entry) c.deref.ensures.value)
