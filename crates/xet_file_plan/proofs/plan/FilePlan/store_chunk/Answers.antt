use Rattle.std.proofs.Common.{◌≡◌, ◌∙◌, ◌+◌, ◌≤◌, ◌++◌, ◌∷◌, List, [], ap, arith, length, length-append, map, refl, subst, sym, true}
use Rattle.xet_choices.specs.Choices.{fits}
use Rattle.xet_xorb_chunk.specs.declared.chunk.Chunk.{Chunk}
use Rattle.xet_xorb_chunk.specs.Chunks.{chunk_leaf}
use Rattle.xet_file_plan.specs.Kept.{IsBlockRun, joined_bytes, max_chunks}
use Rattle.xet_file_plan.specs.Moves.{PlanState, next_run}
use Rattle.xet_file_plan.proofs.Keeping.{fitting, kept_block, kept_joined, next_bytes, next_is_run}
use Rattle.xet_file_plan.proofs.plan.FilePlan.store_chunk.Goals as goal

pub add_run-requires : goal.add_run-requires
add_run-requires c =
    let plan = c.self.inside in
    let run : c.new-run.result ≡ next_run plan.block c.args.chunk =
    c.new-run.ensures ∙ (λ i. record {
      xorb_hash = c.marker.ensures i;
      xorb_flags = 0;
      unpacked_segment_bytes = c.len-length.ensures.value i;
      chunk_index_start = c.len-start.ensures i;
      chunk_index_end = c.len-start.ensures i + 1;
    }) in
    let fit : fits plan.limits (map chunk_leaf plan.block) (length c.args.chunk.bytes) ≡ true =
    ap (λ (p : PlanState). fits p.settings (map chunk_leaf p.block) (length c.args.chunk.bytes)) c.self.view_is ∙ c.requires.fits in
    let bytes = next_bytes plan.block c.args.chunk plan.segments.items c.self.invariant.opened in
    let within = fitting plan.limits plan.block (length c.args.chunk.bytes) fit in
    record { bytes = omega (arith, ap (joined_bytes plan.segments.items) run, bytes, within.0, c.self.invariant.range.cut_bytes_to) }

pub invariant_of-self-in_err-continued : goal.invariant_of-self-in_err-continued
invariant_of-self-in_err-continued c =
    let plan = c.self.inside in
    let fit : fits plan.limits (map chunk_leaf plan.block) (length c.args.chunk.bytes) ≡ true =
    ap (λ (p : PlanState). fits p.settings (map chunk_leaf p.block) (length c.args.chunk.bytes)) c.self.view_is ∙ c.requires.fits in
    let room : length plan.leaves.items + 1 ≤ max_chunks = subst (λ (p : PlanState). length p.leaves + 1 ≤ max_chunks) (sym c.self.view_is) c.requires.room in
    let more = ap length c.in_ok-push.ensures.items in
    let one = length-append plan.leaves.items ((c.args.chunk.hash, c.len-length.result) ∷ []) in
    kept_block plan.limits plan.leaves.items c.push.new.self.items plan.segments.items c.add_run.new.segments.items plan.block c.push-3.new.self c.args.chunk plan.guard plan.closed c.self.invariant
    (omega (arith, more, one)) (omega (arith, more, one, room)) fit c.requires.small c.in_ok-push-3.ensures.pushed c.in_err-continued.ensures.kept

pub invariant_of-self-2 : goal.invariant_of-self-2
invariant_of-self-2 c =
    let plan = c.self.inside in
    let run : c.new-run.result ≡ next_run plan.block c.args.chunk =
    c.new-run.ensures ∙ (λ i. record {
      xorb_hash = c.marker.ensures i;
      xorb_flags = 0;
      unpacked_segment_bytes = c.len-length.ensures.value i;
      chunk_index_start = c.len-start.ensures i;
      chunk_index_end = c.len-start.ensures i + 1;
    }) in
    let fit : fits plan.limits (map chunk_leaf plan.block) (length c.args.chunk.bytes) ≡ true =
    ap (λ (p : PlanState). fits p.settings (map chunk_leaf p.block) (length c.args.chunk.bytes)) c.self.view_is ∙ c.requires.fits in
    let room : length plan.leaves.items + 1 ≤ max_chunks = subst (λ (p : PlanState). length p.leaves + 1 ≤ max_chunks) (sym c.self.view_is) c.requires.room in
    let more = ap length c.in_ok-push.ensures.items in
    let one = length-append plan.leaves.items ((c.args.chunk.hash, c.len-length.result) ∷ []) in
    let kept = kept_block plan.limits plan.leaves.items c.push.new.self.items plan.segments.items plan.segments.items plan.block c.push-3.new.self c.args.chunk plan.guard plan.closed c.self.invariant
    (omega (arith, more, one)) (omega (arith, more, one, room)) fit c.requires.small c.in_ok-push-3.ensures.pushed refl in
    let of_block : IsBlockRun c.push-3.new.self c.new-run.result =
    subst (λ (cs : List Chunk). IsBlockRun cs c.new-run.result) (sym c.in_ok-push-3.ensures.pushed) (
    subst (IsBlockRun (plan.block ++ c.args.chunk ∷ [])) (sym run) (next_is_run plan.block c.args.chunk)
    ) in
    kept_joined plan.limits c.push.new.self.items c.push.new.self.items plan.segments.items c.add_run.new.segments.items c.new-run.result c.push-3.new.self plan.guard c.add_range.new.guard plan.closed kept
    (omega arith) (omega (arith, more, one, room)) (λ opened. of_block) c.in_ok-continued.ensures.added (omega (arith, c.add_range.ensures.bound, c.self.invariant.ranges, more, one))
