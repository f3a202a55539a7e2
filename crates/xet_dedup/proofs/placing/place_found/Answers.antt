use Rattle.std.proofs.Common.{◌∙◌, List, [], ◌∷◌, ◌++◌, ap, sym, subst}
use Rattle.xet_dedup_queries.specs.Acts.Act.{Noted}
use Rattle.xet_dedup_queries.specs.declared.interface.FileXorbDependency.{FileXorbDependency}
use Rattle.xet_base.specs.theorems.Exits.{exit_on}
use Rattle.xet_dedup.proofs.Outcomes.{is_some, notes_none, notes_some}
use Rattle.xet_file_plan.specs.Plan.{IsPlanSince}
use Rattle.xet_dedup.proofs.Placed.{batch_ends, plan_kept}
use Rattle.xet_dedup.proofs.placing.place_found.Goals as goal
use Rattle.xet_dedup.proofs.placing.place_found.Goals.{then-not-is_empty, else-not-is_empty}

pub returns-clause-plan : goal.returns-clause-plan
returns-clause-plan g c =
    let q = c.walk.new.plan in
    let plan = batch_ends g.I.DeduplicationDataInterface.lists g.I.DeduplicationDataInterface.stands g.I.DeduplicationDataInterface.calls c.args.start.now.value c.walk.new.interface c.args.plan.now.settings c.args.batch.now q c.requires.batch c.in_ok-walk.ensures.walked in
    elim c.if-not-is_empty.branch [
      | then-not-is_empty w ↦ (
          subst (λ i. IsPlanSince (g.I.DeduplicationDataInterface.lists i) (g.I.DeduplicationDataInterface.stands i) (g.I.DeduplicationDataInterface.calls c.args.start.now.value) (g.I.DeduplicationDataInterface.calls i) q.leaves q) (sym w.interface-is)
          (plan_kept g.I.DeduplicationDataInterface.lists g.I.DeduplicationDataInterface.stands g.I.DeduplicationDataInterface.calls c.args.start.now.value c.walk.new.interface w.register_xorb_dependencies.new.self q
          w.register_xorb_dependencies.ensures.extends.lists w.register_xorb_dependencies.ensures.extends.stands w.register_xorb_dependencies.ensures.calls plan)
          )
      | else-not-is_empty w ↦ subst (λ i. IsPlanSince (g.I.DeduplicationDataInterface.lists i) (g.I.DeduplicationDataInterface.stands i) (g.I.DeduplicationDataInterface.calls c.args.start.now.value) (g.I.DeduplicationDataInterface.calls i) q.leaves q) (sym w.interface-is) plan
    ]

pub returns-clause-placed : goal.returns-clause-placed
returns-clause-placed g c =
    let I = g.I.DeduplicationDataInterface in
    let last = c.walk.new.interface in
    let noted = c.walk.new.dependencies.items in
    record {
      last = last;
      noted = noted;
      placed = c.in_ok-walk.ensures.placed;
      calls =
          elim c.if-not-is_empty.branch [
            | then-not-is_empty w ↦ ap I.calls w.interface-is ∙ w.register_xorb_dependencies.ensures.calls
            | else-not-is_empty w ↦ ap I.calls w.interface-is
          ];
      acts =
          elim c.if-not-is_empty.branch [
            | then-not-is_empty w ↦ ap I.acts w.interface-is ∙ notes_some noted (I.acts last) (I.acts w.register_xorb_dependencies.new.self) (cc) (w.register_xorb_dependencies.ensures.acted ∙ ap (λ (ds : List FileXorbDependency). I.acts last ++ Noted ds ∷ []) w.deref.ensures.value)
            | else-not-is_empty w ↦ notes_none noted (I.acts last) _ (cc) (ap I.acts w.interface-is)
          ];
      same =
          λ none. elim c.if-not-is_empty.branch [
            | then-not-is_empty w ↦ absurd (is_some noted (cc) none)
            | else-not-is_empty w ↦ w.interface-is
          ];
    }

pub returns-in_err-walk-clause-stopped : goal.returns-in_err-walk-clause-stopped
returns-in_err-walk-clause-stopped g c = exit_on _ c.from_residual.result c.from_residual.ensures.1 c.in_err-walk.ensures.stopped
