use Rattle.std.proofs.Common.{◌≡◌, ◌∙◌, ℕ, ◌≤◌, ◌+◌, List, Some, ap, arith, length, map, rules, sym}
use Rattle.xet_xorb_chunk.specs.declared.chunk.Chunk.{Chunk}
use Rattle.xet_xorb_chunk.specs.Chunks.{chunk_leaf}
use Rattle.xet_choices.specs.Choices.{last_place}
use Rattle.xet_open_block.proofs.Runs.{found_whole, place_within, run_from-same, run_from-within, run_whole}
use Rattle.xet_open_block.proofs.block.OpenBlock.find_run.Goals as goal

-- the table has the last index of a hash
place_in : (h : List ℕ) (at : ℕ) (inside now : List Chunk) → Some at ≡ last_place h (map chunk_leaf inside) → inside ≡ now → last_place h (map chunk_leaf now) ≡ Some at
place_in h at inside now found same = ap (λ (cs : List Chunk). last_place h (map chunk_leaf cs)) (sym same) ∙ sym found

pub overflow_add-start : goal.overflow_add-start
overflow_add-start c =
    let below : c.in_ok-start.field-0.now + 1 ≤ length c.self.inside.chunks.items = omega (arith, place_within _ c.self.inside.chunks.items _ (sym (c.in_ok-start.ensures.value ∙ c.self.invariant.last c.in_ok-first.first.now))) in
    search rules

pub run_length-requires : goal.run_length-requires
run_length-requires c = omega (arith, place_within _ c.self.inside.chunks.items _ (sym (c.in_ok-start.ensures.value ∙ c.self.invariant.last c.in_ok-first.first.now)), ap length c.self.view_is)

pub returns-clause-exact : goal.returns-clause-exact
returns-clause-exact c =
    let place = place_in c.in_ok-first.first.now c.in_ok-start.field-0.now c.self.inside.chunks.items c.args.self.now (c.in_ok-start.ensures.value ∙ c.self.invariant.last c.in_ok-first.first.now) c.self.view_is in
    found_whole c.args.hashes.now c.in_ok-first.rest.now c.in_ok-first.first.now c.in_ok-start.field-0.now _ (map chunk_leaf c.args.self.now) c.in_ok-first.ensures.cases.0 place
    (run_whole c.args.hashes.now c.in_ok-first.rest.now c.in_ok-first.first.now c.in_ok-start.field-0.now c.run_length.result (map chunk_leaf c.args.self.now) c.in_ok-first.ensures.cases.0 place c.run_length.ensures.value)

pub returns-clause-within : goal.returns-clause-within
returns-clause-within c =
    let below : c.in_ok-start.field-0.now + 1 ≤ length c.args.self.now = omega (arith, place_within _ c.self.inside.chunks.items _ (sym (c.in_ok-start.ensures.value ∙ c.self.invariant.last c.in_ok-first.first.now)), ap length c.self.view_is) in
    omega (arith, c.run_length.ensures.value, run_from-within c.in_ok-first.rest.now (c.in_ok-start.field-0.now + 1) c.args.self.now below)

pub returns-clause-same : goal.returns-clause-same
returns-clause-same c =
    let place = place_in c.in_ok-first.first.now c.in_ok-start.field-0.now c.self.inside.chunks.items c.args.self.now (c.in_ok-start.ensures.value ∙ c.self.invariant.last c.in_ok-first.first.now) c.self.view_is in
    rw (run_whole c.args.hashes.now c.in_ok-first.rest.now c.in_ok-first.first.now c.in_ok-start.field-0.now c.run_length.result (map chunk_leaf c.args.self.now) c.in_ok-first.ensures.cases.0 place c.run_length.ensures.value)
    (run_from-same c.args.hashes.now c.in_ok-start.field-0.now c.args.self.now)
