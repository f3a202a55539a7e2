use Rattle.std.proofs.Common.{◌∙◌, Bool, ap, get_or, if◌then◌else◌, sym}
use Rattle.xet_shard_format.specs.declared.record.FileDataSequenceEntry.{FileDataSequenceEntry as Segment}
use Rattle.xet_file_plan.specs.Moves.{filled}
use Rattle.xet_file_plan.proofs.Changing.{changed_all, changed_more, changed_none}
use Rattle.xet_file_plan.proofs.segments.fill.Goals as goal
use Rattle.xet_file_plan.proofs.segments.fill.Goals.{then-is_open, else-is_open}

pub loop-segment-init : goal.loop-segment-init
loop-segment-init c = changed_none (filled c.args.hash.now) c.args.segments.now

pub loop-segment-preserved : goal.loop-segment-preserved
loop-segment-preserved c =
    let old = c.segment-item.result in
    let there : Segment = get_or c.loop-segment.segments c.loop-segment.segment-index old in
    let with_hash : Segment = record there { xorb_hash = c.args.hash.now } in
    let more = changed_more (filled c.args.hash.now) c.args.segments.now c.loop-segment.segments c.loop-segment.segment-index old in
    elim c.if-is_open.branch [
      | then-is_open w ↦
          w.segments-is ∙ more with_hash c.loop-segment-test.true c.loop-segment.invariant (sym (ap (λ (b : Bool). if b then with_hash else there) (sym c.is_open.ensures ∙ w.if-is_open.true)))
      | else-is_open w ↦
          w.segments-is ∙ more there c.loop-segment-test.true c.loop-segment.invariant (sym (ap (λ (b : Bool). if b then with_hash else there) (sym c.is_open.ensures ∙ w.if-is_open.false)))
    ]

pub returns : goal.returns
returns c = c.loop-segment.invariant ∙ changed_all (filled c.args.hash.now) c.args.segments.now c.loop-segment.segment-index c.loop-segment-test.false
