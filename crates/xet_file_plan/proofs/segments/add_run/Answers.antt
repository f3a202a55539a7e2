use Rattle.std.proofs.Common.{◌≡◌, ◌∙◌, ◌∷◌, ◌++◌, ◌≤◌, [], List, ap, append-nil, arith, drop, length, refl, sym, take}
use Rattle.std.proofs.lemmas.List.{drop_all, take_all}
use Rattle.xet_shard_format.specs.declared.record.FileDataSequenceEntry.{FileDataSequenceEntry as Segment}
use Rattle.xet_file_plan.proofs.LastSegment.{with_run_begins}
use Rattle.xet_file_plan.specs.Moves.{continues}
use Rattle.xet_file_plan.proofs.segments.add_run.Goals as goal

pub returns-clause-added : goal.returns-clause-added
returns-clause-added c =
    let items : List Segment = c.args.segments.now.items in
    let before : c.deref_mut.result.now ≡ items = c.deref_mut.ensures.value in
    let len : length c.deref_mut.result.now ≡ c.args.segments.now.len = c.deref_mut.ensures.len in
    let few : length items ≤ c.args.segments.now.len = omega (arith, len, ap length before) in
    let same : c.extend_last.new.segments ≡ items = c.if-extend_last.ensures.kept refl ∙ before in
    c.in_ok-push.ensures.items
    ∙ ap (λ (ss : List Segment). take c.args.segments.now.len (ss ++ drop (length ss) items) ++ c.args.run ∷ []) same
    ∙ ap (λ (ss : List Segment). take c.args.segments.now.len (items ++ ss) ++ c.args.run ∷ []) (drop_all (length items) items (omega arith))
    ∙ ap (λ (ss : List Segment). take c.args.segments.now.len ss ++ c.args.run ∷ []) (append-nil items)
    ∙ ap (λ (ss : List Segment). ss ++ c.args.run ∷ []) (take_all c.args.segments.now.len items few)
    ∙ sym (with_run_begins items c.args.run (sym (c.if-extend_last.ensures.value ∙ ap (λ (ss : List Segment). continues ss c.args.run) before)))
