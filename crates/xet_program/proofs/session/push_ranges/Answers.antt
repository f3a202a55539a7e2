use Rattle.std.proofs.Common.{◌∙◌, ℕ, List, ◌++◌, append_assoc, take, ap, subst, sym}
use Rattle.std.proofs.lemmas.List.{take_more}
use Rattle.xet_program.specs.declared.lines.FileRange.{FileRange}
use Rattle.xet_program.specs.internal.Steps.{AreRead}
use Rattle.xet_program.proofs.Reading.{line_before, read_more, unchanged_then}
use Rattle.xet_program.proofs.session.push_ranges.Goals as goal

pub loop-range-preserved : goal.loop-range-preserved
loop-range-preserved g c =
    let first = c.args.session.now.store in
    let now = c.loop-range.session.store in
    let infos = c.args.infos.now in
    let i = c.loop-range.range-index in
    let line = c.in_ok-push_range.ensures.line in
    let before = c.loop-range.invariant in
    let more = take_more c.args.ranges.now i _ c.loop-range-test.true in
    record {
      unchanged = unchanged_then first now c.push_range.new.session.store before.unchanged c.in_ok-push_range.ensures.unchanged;
      recorded = (c.in_ok-push_range.ensures.recorded.0 ∙ before.recorded.0, c.in_ok-push_range.ensures.recorded.1 ∙ before.recorded.1);
      lines = (
        before.lines.0 ++ line.0,
        subst (λ (rs : List FileRange). AreRead first infos rs (before.lines.0 ++ line.0)) (sym more)
            (read_more infos first (take i c.args.ranges.now) _ before.lines.0 line.0 before.lines.1 (line_before infos first now _ line.0 before.unchanged line.1)),
        line.2 ∙ ap (λ (t : List ℕ). t ++ line.0) before.lines.2 ∙ append_assoc c.args.text.now.items before.lines.0 line.0,
      );
    }
