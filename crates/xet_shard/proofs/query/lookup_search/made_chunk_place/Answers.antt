use Rattle.std.specs.Prelude.{Vec}
use Rattle.std.specs.Global.{Global}
use Rattle.std.proofs.Common.{◌∙◌, ap, List, Option, ℕ}
use Rattle.std.proofs.lemmas.Result.{err_from_is_err_and}
use Rattle.xet_shard_format.specs.Lookups.{flat_places}
use Rattle.xet_shard.specs.Queries.{last_of}
use Rattle.xet_shard.specs.Sections.{chunk_lookup_in}
use Rattle.xet_shard.proofs.PartLaws.{fails_on_whole, goes_on}
use Rattle.xet_shard.proofs.Tables.{chunks_of_all}
use Rattle.xet_shard.proofs.query.lookup_search.made_chunk_place.Goals as goal

pub returns-in_err-items-clause-exact : goal.returns-in_err-items-clause-exact
returns-in_err-items-clause-exact g c = λ told.
    let p = err_from_is_err_and c.from_residual.result c.from_residual.ensures.1 in
    let f = c.args.f.now in
    let whole = g.R.ReadAt.bytes c.args.reader.now in
    rw (p.1, p.2) (fails_on_whole (λ (v : Vec (ℕ × (ℕ × ℕ)) Global). flat_places v.items) (λ (place : Option (ℕ × ℕ)). place) c.in_err-items.field-0.0 (chunk_lookup_in f whole) (last_of c.args.first) _ (chunks_of_all f whole c.args.first 0 c.requires) (c.in_err-items.ensures.exact told))

pub returns-clause-exact : goal.returns-clause-exact
returns-clause-exact g c = λ told.
    let f = c.args.f.now in
    let whole = g.R.ReadAt.bytes c.args.reader.now in
    goes_on (λ (v : Vec (ℕ × (ℕ × ℕ)) Global). flat_places v.items) (λ (place : Option (ℕ × ℕ)). place) c.in_ok-items.items c.last_of.result (chunk_lookup_in f whole) (last_of c.args.first) _ (chunks_of_all f whole c.args.first 0 c.requires) (c.in_ok-items.ensures.exact told)
    (c.last_of.ensures ∙ ap (λ (is : List (ℕ × (ℕ × ℕ))). last_of c.args.first (flat_places is)) c.deref.ensures.value)
