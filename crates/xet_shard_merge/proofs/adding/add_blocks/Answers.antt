use Rattle.std.proofs.Common.{◌≡◌, ◌∙◌, ◌∷◌, [], List, length, ap, append-nil, arith, subst, sym}
use Rattle.std.proofs.lemmas.List.{nil_from_length}
use Rattle.std.specs.Vec.Iter.{into_iter_items}
use Rattle.xet_shard.specs.Held.{Held, held}
use Rattle.xet_shard_format.specs.Records.{IsXorb, xorb_record_hash}
use Rattle.xet_shard_format.specs.declared.record.MDBXorbInfo.{MDBXorbInfo}
use Rattle.xet_shard_merge.specs.Groups.{both}
use Rattle.xet_shard_merge.specs.internal.Grouping.{AreOwn}
use Rattle.xet_shard_merge.proofs.EachOnce.{both_cons}
use Rattle.xet_shard_merge.proofs.adding.add_blocks.Goals as goal

pub loop-block-preserved : goal.loop-block-preserved
loop-block-preserved c =
    let at = c.loop-block in
    let rest : List MDBXorbInfo = into_iter_items c.next.new.self in
    let steps : into_iter_items at.block-iterator ≡ c.in-Some.block ∷ rest = c.in-Some.ensures.steps.0 in
    let own : AreOwn xorb_record_hash IsXorb (c.in-Some.block ∷ rest) = subst (AreOwn xorb_record_hash IsXorb) steps at.invariant.own in
    let added = c.in_ok-add_block.ensures.added in
    let long : length (into_iter_items at.block-iterator) ≡ length (c.in-Some.block ∷ rest) = ap length steps in
    record {
      so_far = ap (λ (s : Held). both xorb_record_hash s.blocks rest) added ∙ both_cons xorb_record_hash at.shard.blocks c.in-Some.block rest own.differ
          ∙ sym (ap (both xorb_record_hash at.shard.blocks) steps) ∙ at.invariant.so_far;
      others = ap (λ (s : Held). s.files) added ∙ at.invariant.others;
      own = record { each = own.each.1; differ = own.differ.1 };
      counted = omega (arith, c.in-Some.ensures.steps.1, at.invariant.counted, long);
    }

pub add_block-requires-clause-form : goal.add_block-requires-clause-form
add_block-requires-clause-form c =
    let own = subst (AreOwn xorb_record_hash IsXorb) c.in-Some.ensures.steps.0 c.loop-block.invariant.own in
    own.each.0.1

pub add_block-requires-clause-hash : goal.add_block-requires-clause-hash
add_block-requires-clause-hash c =
    let own = subst (AreOwn xorb_record_hash IsXorb) c.in-Some.ensures.steps.0 c.loop-block.invariant.own in
    own.each.0.0

pub returns-clause-added : goal.returns-clause-added
returns-clause-added c =
    let at = c.loop-block in
    let empty : into_iter_items at.block-iterator ≡ [] = nil_from_length (into_iter_items at.block-iterator) (sym at.invariant.counted ∙ c.in-None.ensures.steps.0) in
    let whole : at.shard.blocks ≡ both xorb_record_hash c.args.shard.now.blocks c.args.blocks.items =
    sym (append-nil at.shard.blocks) ∙ sym (ap (both xorb_record_hash at.shard.blocks) empty) ∙ at.invariant.so_far in
    λ j. held (whole j) (c.loop-block.invariant.others j)
