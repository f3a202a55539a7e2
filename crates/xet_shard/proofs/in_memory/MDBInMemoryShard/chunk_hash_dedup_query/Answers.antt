use Rattle.std.proofs.Common.{◌≡◌, ◌≢◌, ◌∙◌, ℕ, List, None, Option, Some, ap, map, option_map, slice_get, sym, subst}
use Rattle.std.proofs.lemmas.Option.{none-some, slice_get-map}
use Rattle.indexmap.specs.IndexMap.{values}
use Rattle.xet_hash.specs.Hash.{sentinel}
use Rattle.xet_shard_format.specs.declared.record.MDBXorbInfo.{MDBXorbInfo}
use Rattle.xet_shard.specs.Held.{Held}
use Rattle.xet_shard.specs.LastPlaces.{last_at}
use Rattle.xet_shard_format.specs.Records.{IsXorb, xorb_record_hash}
use Rattle.xet_shard.specs.Runs.{held_run, run_at}
use Rattle.xet_shard.proofs.Running.{all_at, placed_at, query_as_is, query_empty, query_found, query_missed}
use Rattle.xet_shard.proofs.in_memory.MDBInMemoryShard.chunk_hash_dedup_query.Goals as goal

-- the value of the entry at an index
value_at : (es : List (List ℕ × MDBXorbInfo)) (i : ℕ) (e : Option (List ℕ × MDBXorbInfo)) → e ≡ slice_get es i → option_map (λ x. x.1) e ≡ slice_get (map (λ x. x.1) es) i
value_at es i e is = ap (option_map (λ (x : List ℕ × MDBXorbInfo). x.1)) is ∙ sym (slice_get-map (λ (x : List ℕ × MDBXorbInfo). x.1) es i)

pub returns-in_err-first : goal.returns-in_err-first
returns-in_err-first c = c.from_residual.ensures ∙ query_empty _ c.args.query.now c.in_err-first.ensures.value

pub returns-in_err-index : goal.returns-in_err-index
returns-in_err-index c =
    subst (λ (h : Held). c.from_residual-in_err-index.result ≡ held_run h.blocks c.args.query.now) c.self.view_is
    (c.from_residual-in_err-index.ensures ∙ query_missed (values c.self.inside.blocks) c.args.query.now c.in_ok-first.first.now c.in_ok-first.ensures.value (c.in_err-index.ensures.value ∙ c.self.invariant.3 c.in_ok-first.first.now))

pub returns-in_err-block : goal.returns-in_err-block
returns-in_err-block c =
    let at : Some c.in_ok-index.field-0.now ≡ last_at c.in_ok-first.first.now (values c.self.inside.blocks) = c.in_ok-index.ensures.value ∙ c.self.invariant.3 c.in_ok-first.first.now in
    let p = placed_at (values c.self.inside.blocks) c.in_ok-first.first.now c.in_ok-index.field-0.now.0 c.in_ok-index.field-0.now.1 at in
    absurd (none-some p.0 (value_at c.self.inside.blocks.entries c.in_ok-index.field-0.now.0 None c.in_err-block.ensures.entry ∙ p.1))

pub run_at-requires-clause-form : goal.run_at-requires-clause-form
run_at-requires-clause-form c =
    (all_at (λ (x : MDBXorbInfo). (xorb_record_hash x ≢ sentinel) × IsXorb x) (values c.self.inside.blocks) c.in_ok-index.field-0.now.0 c.in_ok-block.block.now
    (value_at c.self.inside.blocks.entries c.in_ok-index.field-0.now.0 (Some (c.in_ok-block.field-0-0.now, c.in_ok-block.block.now)) c.in_ok-block.ensures.entry) c.self.invariant.2.blocks).1

pub run_at-requires-clause-within : goal.run_at-requires-clause-within
run_at-requires-clause-within c =
    let at : Some c.in_ok-index.field-0.now ≡ last_at c.in_ok-first.first.now (values c.self.inside.blocks) = c.in_ok-index.ensures.value ∙ c.self.invariant.3 c.in_ok-first.first.now in
    (query_found (values c.self.inside.blocks) c.args.query.now c.in_ok-first.first.now c.in_ok-index.field-0.now.0 c.in_ok-index.field-0.now.1 c.in_ok-block.block.now c.in_ok-first.ensures.value at
    (value_at c.self.inside.blocks.entries c.in_ok-index.field-0.now.0 (Some (c.in_ok-block.field-0-0.now, c.in_ok-block.block.now)) c.in_ok-block.ensures.entry)).1

pub returns : goal.returns
returns c =
    let at : Some c.in_ok-index.field-0.now ≡ last_at c.in_ok-first.first.now (values c.self.inside.blocks) = c.in_ok-index.ensures.value ∙ c.self.invariant.3 c.in_ok-first.first.now in
    subst (λ (h : Held). c.run_at.result ≡ held_run h.blocks c.args.query.now) c.self.view_is
    (c.run_at.ensures ∙ ap (λ (q : List (List ℕ)). run_at q c.in_ok-block.block.now c.in_ok-index.field-0.now.1) (query_as_is _ c.args.query.now c.default.ensures) ∙ (query_found (values c.self.inside.blocks) c.args.query.now c.in_ok-first.first.now c.in_ok-index.field-0.now.0 c.in_ok-index.field-0.now.1 c.in_ok-block.block.now c.in_ok-first.ensures.value at
    (value_at c.self.inside.blocks.entries c.in_ok-index.field-0.now.0 (Some (c.in_ok-block.field-0-0.now, c.in_ok-block.block.now)) c.in_ok-block.ensures.entry)).0)
