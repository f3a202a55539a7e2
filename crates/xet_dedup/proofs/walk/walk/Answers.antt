use Rattle.std.proofs.Common.{◌∙◌, refl, sym, subst, arith}
use Rattle.xet_base.specs.theorems.Exits.{exit_on}
use Rattle.xet_dedup_queries.specs.theorems.Growing.{extends_more, extends_same}
use Rattle.xet_dedup.proofs.Ends.{adds_more, adds_none}
use Rattle.xet_dedup.proofs.Registering.{registers_more, registers_none}
use Rattle.xet_dedup.specs.Placing.{PlacesTo}
use Rattle.xet_dedup.specs.Placing.PlacesTo.{begins}
use Rattle.xet_dedup.proofs.walk.walk.Goals as goal

pub places-init : goal.places-init
places-init g c = record {
  within = omega arith;
  walking = c.requires.walking;
  placed =
      (let I = g.I.DeduplicationDataInterface in
      let b = c.args.batch.now in
      let s = c.args.interface.now in
      let p = c.args.plan.now in
      subst (PlacesTo I.lists I.stands I.calls I.acts b.chunks.now b.places.now b.base b.file_id s p s p 0) (sym c.requires.fresh) begins);
  leaves = refl;
  added = adds_none _ _;
  settings = refl;
  calls = registers_none _ _ refl;
  extends = extends_same _ _ _ _ _;
  passed = refl;
}

pub returns-in_err-at-clause-calls : goal.returns-in_err-at-clause-calls
returns-in_err-at-clause-calls g c = registers_more _ _ _ c.places.invariant.calls c.step.ensures.calls

pub returns-in_err-at-clause-stopped : goal.returns-in_err-at-clause-stopped
returns-in_err-at-clause-stopped g c =
    exit_on _ c.from_residual.result c.from_residual.ensures.1
    (record {
      now = c.places.interface;
      plan = c.places.plan;
      at = c.places.at;
      noted = c.places.dependencies.items;
      placed = c.places.invariant.placed;
      stops = c.in_err-at.ensures.stopped;
    })

pub places-preserved : goal.places-preserved
places-preserved g c = record {
  within = c.in_ok-at.ensures.some.1;
  walking = c.in_ok-at.ensures.walked;
  placed = c.in_ok-at.ensures.placed _ _ c.places.invariant.placed;
  leaves = c.in_ok-at.ensures.leaves ∙ c.places.invariant.leaves;
  added = adds_more _ _ _ _ _ _ c.places.invariant.added c.in_ok-at.ensures.added;
  settings = c.in_ok-at.ensures.settings ∙ c.places.invariant.settings;
  calls = registers_more _ _ _ c.places.invariant.calls c.step.ensures.calls;
  extends = extends_more _ _ _ _ _ _ _ c.places.invariant.extends c.step.ensures.extends;
  passed = c.in_ok-at.ensures.passed ∙ c.places.invariant.passed;
}
