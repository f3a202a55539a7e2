use Rattle.std.proofs.Common.{◌≡◌, ◌∙◌, ◌≢◌, ◌+◌, List, Some, ap, arith, map, sym}
use Rattle.xet_xorb_chunk.specs.declared.chunk.Chunk.{Chunk}
use Rattle.xet_xorb_chunk.specs.Chunks.{chunk_leaf}
use Rattle.xet_choices.specs.Choices.{last_place}
use Rattle.xet_open_block.specs.OpenBlock.{run_from}
use Rattle.xet_open_block.proofs.Runs.{is_at, not_at, place_within, run_from-done, run_from-ends, run_from-more}
use Rattle.xet_open_block.proofs.block.OpenBlock.run_length.Goals as goal

pub loop-count-preserved : goal.loop-count-preserved
loop-count-preserved c =
    let looked : c.copied.result ≡ last_place c.index-hashes-count.result (map chunk_leaf c.self.inside.chunks.items) = c.copied.ensures ∙ c.get.ensures.value ∙ c.self.invariant.last c.index-hashes-count.result in
    let place : last_place c.index-hashes-count.result (map chunk_leaf c.self.inside.chunks.items) ≡ Some (c.args.start + c.loop-count.count) = sym looked ∙ is_at c.copied.result _ (sym c.eq.ensures ∙ c.if-eq.true) in
    let more = run_from-more c.args.hashes.now c.loop-count.count c.index-hashes-count.result (c.args.start + c.loop-count.count) (c.args.start + (c.loop-count.count + 1)) (map chunk_leaf c.self.inside.chunks.items) c.loop-count-test.true c.index-hashes-count.is place (omega arith) in
    record {
      count = omega (arith, more, c.loop-count.invariant.count);
      few = omega (arith, c.loop-count-test.true);
      within = omega (arith, place_within _ c.self.inside.chunks.items _ place);
    }

pub returns-else-eq-clause-value : goal.returns-else-eq-clause-value
returns-else-eq-clause-value c =
    let looked : c.copied.result ≡ last_place c.index-hashes-count.result (map chunk_leaf c.self.inside.chunks.items) = c.copied.ensures ∙ c.get.ensures.value ∙ c.self.invariant.last c.index-hashes-count.result in
    let other : last_place c.index-hashes-count.result (map chunk_leaf c.self.inside.chunks.items) ≢ Some (c.args.start + c.loop-count.count) = λ same. not_at c.copied.result _ (sym c.eq.ensures ∙ c.if-eq.false) (looked ∙ same) in
    let ends = run_from-ends c.args.hashes.now c.loop-count.count c.index-hashes-count.result (c.args.start + c.loop-count.count) (map chunk_leaf c.self.inside.chunks.items) c.loop-count-test.true c.index-hashes-count.is other in
    omega (arith, ends, c.loop-count.invariant.count, ap (λ (cs : List Chunk). run_from c.args.hashes.now c.args.start (map chunk_leaf cs)) c.self.view_is)

pub returns-after-loop-count-clause-value : goal.returns-after-loop-count-clause-value
returns-after-loop-count-clause-value c =
    let done = run_from-done c.args.hashes.now c.loop-count.count (c.args.start + c.loop-count.count) (map chunk_leaf c.self.inside.chunks.items) c.loop-count-test.false in
    omega (arith, done, c.loop-count.invariant.count, ap (λ (cs : List Chunk). run_from c.args.hashes.now c.args.start (map chunk_leaf cs)) c.self.view_is)
