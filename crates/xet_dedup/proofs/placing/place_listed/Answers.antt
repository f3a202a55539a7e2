use Rattle.std.proofs.Common.{◌∙◌, ◌++◌, List, ap, sym, subst}
use Rattle.xet_base.specs.theorems.Exits.{exit_on}
use Rattle.xet_cut.specs.declared.limits.LimitSettings.{LimitSettings}
use Rattle.xet_dedup_queries.specs.theorems.Growing.{extends_more}
use Rattle.xet_dedup_queries.specs.declared.places.Place.{Place}
use Rattle.xet_dedup.specs.internal.Walking.{IsWalking}
use Rattle.xet_dedup.proofs.Outcomes.{few_registered, few_stopped, is_placed, is_queried, is_queried_once, stops_asking, stops_placing}
use Rattle.xet_dedup.proofs.Placed.{batch_begins, leaves_small}
use Rattle.xet_dedup.proofs.Registering.{grows_by_both}
use Rattle.xet_dedup.proofs.placing.place_listed.Goals as goal

pub place_found-requires-clause-walking : goal.place_found-requires-clause-walking
place_found-requires-clause-walking g c =
    subst (λ (places : List Place). IsWalking (g.I.DeduplicationDataInterface.lists c.find_places.new.interface) (g.I.DeduplicationDataInterface.stands c.find_places.new.interface) (g.I.DeduplicationDataInterface.calls c.args.start.now.value) (g.I.DeduplicationDataInterface.calls c.find_places.new.interface)
    (c.args.plan.now.leaves ++ c.args.leaves.now) c.args.hashes.now places c.len-base.result 0 c.args.plan.now) (sym c.as_slice.ensures)
    (batch_begins g.I.DeduplicationDataInterface.lists g.I.DeduplicationDataInterface.stands g.I.DeduplicationDataInterface.calls c.args.start.now.value c.args.interface.now c.find_places.new.interface c.args.leaves.now c.args.hashes.now c.in_ok-found.found.places c.len-base.result c.args.plan.now
    c.find_places.ensures.extends.lists c.find_places.ensures.extends.stands c.requires.plan.plan c.find_places.ensures.prefix c.in_ok-found.ensures.places c.requires.hashes c.len-base.ensures.value)

pub returns-in_err-place_found-clause-extends : goal.returns-in_err-place_found-clause-extends
returns-in_err-place_found-clause-extends g c = extends_more _ _ _ _ _ _ _ c.find_places.ensures.extends c.place_found.ensures.extends

pub returns-clause-extends : goal.returns-clause-extends
returns-clause-extends g c = extends_more _ _ _ _ _ _ _ c.find_places.ensures.extends c.place_found.ensures.extends

pub returns-clause-plan : goal.returns-clause-plan
returns-clause-plan g c = record {
  plan = c.in_ok-place_found.ensures.plan;
  small =
      leaves_small c.args.plan.now.settings c.args.chunks.now c.args.plan.now.leaves c.place_found.new.plan.leaves c.args.leaves.now c.recall_invariant.ensures.range c.requires.chunks c.requires.leaves c.requires.plan.small
      c.in_ok-place_found.ensures.leaves;
  limits =
      c.place_found.ensures.extends.limits
      ∙ c.find_places.ensures.extends.limits
      ∙ c.requires.plan.limits
      ∙ ap (λ (s : LimitSettings). (s.cut_bytes, s.cut_chunks)) (sym c.in_ok-place_found.ensures.settings);
}

pub returns-in_err-found-clause-prefix : goal.returns-in_err-found-clause-prefix
returns-in_err-found-clause-prefix g c = (c.find_places.ensures.prefix.added, c.find_places.ensures.prefix.calls)

pub returns-in_err-place_found-clause-prefix : goal.returns-in_err-place_found-clause-prefix
returns-in_err-place_found-clause-prefix g c = grows_by_both _ _ _ c.find_places.ensures.prefix c.place_found.ensures.calls

pub returns-clause-prefix : goal.returns-clause-prefix
returns-clause-prefix g c = grows_by_both _ _ _ c.find_places.ensures.prefix c.place_found.ensures.calls

pub returns-in_err-found-clause-stopped : goal.returns-in_err-found-clause-stopped
returns-in_err-found-clause-stopped g c =
    let I = g.I.DeduplicationDataInterface in
    let a = c.args in
    exit_on _ c.from_residual.result c.from_residual.ensures.1
    (stops_asking I.lists I.stands I.calls I.acts a.file_id a.chunks.now a.leaves.now a.hashes.now c.len-base.result a.interface.now a.plan.now c.requires.leaves c.requires.hashes c.len-base.ensures.value
    I.is_global c.find_places.new.interface c.in_err-found.ensures.stopped)

pub returns-in_err-place_found-clause-stopped : goal.returns-in_err-place_found-clause-stopped
returns-in_err-place_found-clause-stopped g c =
    let I = g.I.DeduplicationDataInterface in
    let a = c.args in
    let queried = c.find_places.new.interface in
    let found = c.in_ok-found.found in
    exit_on _ c.from_residual-in_err-place_found.result c.from_residual-in_err-place_found.ensures.1
    (stops_placing I.lists I.stands I.calls I.acts a.file_id a.chunks.now a.leaves.now a.hashes.now c.len-base.result a.interface.now a.plan.now c.requires.leaves c.requires.hashes c.len-base.ensures.value
    queried c.place_found.new.interface found.places c.as_slice.result.now found.global_chunks found.global_bytes c.as_slice.ensures c.in_ok-found.ensures.asked I.is_global c.in_ok-found.ensures.places c.in_err-place_found.ensures.stopped)

pub returns-clause-placed : goal.returns-clause-placed
returns-clause-placed g c =
    let I = g.I.DeduplicationDataInterface in
    let a = c.args in
    let queried = c.find_places.new.interface in
    let found = c.in_ok-found.found in
    is_placed I.lists I.stands I.calls I.acts a.file_id a.chunks.now a.leaves.now a.hashes.now c.len-base.result a.interface.now a.plan.now c.requires.leaves c.requires.hashes c.len-base.ensures.value
    queried c.place_found.new.interface found.places c.as_slice.result.now found.global_chunks found.global_bytes c.as_slice.ensures c.in_ok-found.ensures.asked c.place_found.new.plan c.in_ok-found.ensures.places c.in_ok-place_found.ensures.placed

pub returns-clause-asked : goal.returns-clause-asked
returns-clause-asked g c =
    let I = g.I.DeduplicationDataInterface in
    let a = c.args in
    let queried = c.find_places.new.interface in
    let found = c.in_ok-found.found in
    is_queried I.lists I.stands I.calls I.acts a.file_id a.chunks.now a.leaves.now a.hashes.now c.len-base.result a.interface.now a.plan.now c.requires.leaves c.requires.hashes c.len-base.ensures.value
    queried c.place_found.new.interface found.places c.as_slice.result.now found.global_chunks found.global_bytes c.as_slice.ensures c.in_ok-found.ensures.asked c.place_found.ensures.calls

pub returns-clause-once : goal.returns-clause-once
returns-clause-once g c = λ alone.
    let I = g.I.DeduplicationDataInterface in
    let a = c.args in
    let queried = c.find_places.new.interface in
    let found = c.in_ok-found.found in
    let once = c.in_ok-found.ensures.once alone in (
      is_queried_once I.lists I.stands I.calls I.acts a.file_id a.chunks.now a.leaves.now a.hashes.now c.len-base.result a.interface.now a.plan.now c.requires.leaves c.requires.hashes c.len-base.ensures.value
          queried c.place_found.new.interface found.places once.0 c.place_found.ensures.calls,
      once.1,
      once.2,
    )

pub returns-in_err-found-clause-queries : goal.returns-in_err-found-clause-queries
returns-in_err-found-clause-queries g c = λ alone.
    let I = g.I.DeduplicationDataInterface in
    let a = c.args in
    few_stopped I.lists I.stands I.calls I.acts a.file_id a.chunks.now a.leaves.now a.hashes.now c.len-base.result a.interface.now a.plan.now c.requires.leaves c.requires.hashes c.len-base.ensures.value
    I.is_global c.find_places.new.interface c.in_err-found.ensures.stopped alone

pub returns-in_err-place_found-clause-queries : goal.returns-in_err-place_found-clause-queries
returns-in_err-place_found-clause-queries g c = λ alone.
    let I = g.I.DeduplicationDataInterface in
    let a = c.args in
    few_registered I.lists I.stands I.calls I.acts a.file_id a.chunks.now a.leaves.now a.hashes.now c.len-base.result a.interface.now a.plan.now c.requires.leaves c.requires.hashes c.len-base.ensures.value
    c.find_places.new.interface c.place_found.new.interface c.in_ok-found.found.places (c.in_ok-found.ensures.once alone).0 c.place_found.ensures.calls

pub returns-clause-queries : goal.returns-clause-queries
returns-clause-queries g c = λ alone.
    let I = g.I.DeduplicationDataInterface in
    let a = c.args in
    few_registered I.lists I.stands I.calls I.acts a.file_id a.chunks.now a.leaves.now a.hashes.now c.len-base.result a.interface.now a.plan.now c.requires.leaves c.requires.hashes c.len-base.ensures.value
    c.find_places.new.interface c.place_found.new.interface c.in_ok-found.found.places (c.in_ok-found.ensures.once alone).0 c.place_found.ensures.calls
