use Rattle.std.proofs.Common.{◌∙◌, ◌++◌, [], ◌∷◌, get_or, sym, subst, length, drop, ap, arith}
use Rattle.std.specs.List.{AllByRecursion}
use Rattle.std.proofs.lemmas.List.{length-map}
use Rattle.std.proofs.lemmas.Option.{slice_get-get_or}
use Rattle.xet_base.specs.theorems.Exits.{exit_on}
use Rattle.xet_cut.specs.declared.limits.LimitSettings.{LimitSettings}
use Rattle.xet_dedup.specs.Deduping.{IsChunk}
use Rattle.xet_file_plan.specs.Moves.{PlanState}
use Rattle.xet_file_plan.specs.Plan.{IsStorable}
use Rattle.xet_xorb_chunk.specs.Chunks.{chunk_leaf}
use Rattle.xet_dedup.proofs.Lists.{all_at}
use Rattle.xet_dedup.proofs.Ends.{adds_joined, adds_stored}
use Rattle.xet_dedup.proofs.Further.{places_joined, places_stored, stops_at}
use Rattle.xet_dedup.proofs.Steps.{can_join, leaves_joined, leaves_stored, length_hashes, rest_kept, step_joined, step_stored, stores_choice, stores_settings}
use Rattle.xet_dedup.proofs.walk.step.Goals as goal

pub join-requires-clause-can : goal.join-requires-clause-can
join-requires-clause-can g c =
    can_join (g.I.DeduplicationDataInterface.lists c.args.interface.now) (g.I.DeduplicationDataInterface.stands c.args.interface.now) (g.I.DeduplicationDataInterface.calls c.args.start.now.value)
    (g.I.DeduplicationDataInterface.calls c.args.interface.now) (c.args.plan.now.leaves ++ drop c.args.at c.args.batch.now.leaves.now) c.args.batch.now.hashes.now c.args.batch.now.places.now c.args.batch.now.base c.args.at
    c.args.plan.now c.requires.walking c.recall_invariant.ensures.block c.recall_invariant.ensures.range
    (let l = length_hashes c.args.plan.now.settings c.args.batch.now c.requires.batch in omega (arith, l, c.requires.at))

pub store-requires-clause-chunk : goal.store-requires-clause-chunk
store-requires-clause-chunk g c =
    let kept = rest_kept c.args.plan.now c.join.new.plan c.args.batch.now.hashes.now c.args.batch.now.places.now c.args.batch.now.base c.args.at c.in-Ok-New.choice (c.in-Ok-New.ensures.stored c.in-Ok-New.choice c.in-Ok-New.field-0-is) in
    subst (λ (s : LimitSettings). IsChunk s (get_or c.args.batch.now.chunks.now c.args.at c.index-batch-at.result)) (ap (λ (m : PlanState). m.settings) (sym kept))
    (all_at (IsChunk c.args.plan.now.settings) c.args.batch.now.chunks.now c.args.at (get_or c.args.batch.now.chunks.now c.args.at c.index-batch-at.result) c.requires.batch.chunks (slice_get-get_or c.args.batch.now.chunks.now c.args.at c.index-batch-at.result c.requires.at))

pub store-requires-clause-block : goal.store-requires-clause-block
store-requires-clause-block g c =
    let kept = rest_kept c.args.plan.now c.join.new.plan c.args.batch.now.hashes.now c.args.batch.now.places.now c.args.batch.now.base c.args.at c.in-Ok-New.choice (c.in-Ok-New.ensures.stored c.in-Ok-New.choice c.in-Ok-New.field-0-is) in
    subst (AllByRecursion IsStorable) (ap (λ (m : PlanState). m.block) (sym kept)) c.requires.walking.plan.plan.storable

pub store-requires-clause-room : goal.store-requires-clause-room
store-requires-clause-room g c =
    let kept = rest_kept c.args.plan.now c.join.new.plan c.args.batch.now.hashes.now c.args.batch.now.places.now c.args.batch.now.base c.args.at c.in-Ok-New.choice (c.in-Ok-New.ensures.stored c.in-Ok-New.choice c.in-Ok-New.field-0-is) in
    omega (arith, ap (λ (m : PlanState). length m.leaves) kept, c.requires.walking.here, c.requires.at, c.requires.room)

pub store-requires-clause-limits : goal.store-requires-clause-limits
store-requires-clause-limits g c =
    let kept = rest_kept c.args.plan.now c.join.new.plan c.args.batch.now.hashes.now c.args.batch.now.places.now c.args.batch.now.base c.args.at c.in-Ok-New.choice (c.in-Ok-New.ensures.stored c.in-Ok-New.choice c.in-Ok-New.field-0-is) in
    c.requires.limits ∙ ap (λ (m : PlanState). (m.settings.cut_bytes, m.settings.cut_chunks)) (sym kept)

pub returns-in-Ok-Joined-clause-walked : goal.returns-in-Ok-Joined-clause-walked
returns-in-Ok-Joined-clause-walked g c =
    let some = c.in-Ok-Joined.ensures.some c.in-Ok-Joined.count c.in-Ok-Joined.field-0-is in
    step_joined g.I.DeduplicationDataInterface.lists g.I.DeduplicationDataInterface.stands g.I.DeduplicationDataInterface.calls c.args.start.now.value c.args.interface.now c.args.batch.now c.args.at c.args.plan.now c.requires.batch c.requires.walking
    c.join.new.plan c.in-Ok-Joined.count some.0 some.1 (c.in-Ok-Joined.ensures.joined c.in-Ok-Joined.count c.in-Ok-Joined.field-0-is)

pub returns-in-Ok-Joined-clause-placed : goal.returns-in-Ok-Joined-clause-placed
returns-in-Ok-Joined-clause-placed g c =
    places_joined g.I.DeduplicationDataInterface.lists g.I.DeduplicationDataInterface.stands g.I.DeduplicationDataInterface.calls g.I.DeduplicationDataInterface.acts c.args.plan.now.settings c.args.batch.now c.requires.batch c.args.interface.now c.args.plan.now c.args.at
    c.join.new.plan c.in-Ok-Joined.count c.args.dependencies.now.items c.join.new.dependencies.items (c.in-Ok-Joined.ensures.joined c.in-Ok-Joined.count c.in-Ok-Joined.field-0-is) (c.in-Ok-Joined.ensures.noted c.in-Ok-Joined.count c.in-Ok-Joined.field-0-is)

pub returns-in-Ok-Joined-clause-leaves : goal.returns-in-Ok-Joined-clause-leaves
returns-in-Ok-Joined-clause-leaves g c =
    let some = c.in-Ok-Joined.ensures.some c.in-Ok-Joined.count c.in-Ok-Joined.field-0-is in
    leaves_joined g.I.DeduplicationDataInterface.lists g.I.DeduplicationDataInterface.stands g.I.DeduplicationDataInterface.calls c.args.start.now.value c.args.interface.now c.args.batch.now c.args.at c.args.plan.now c.requires.batch c.requires.walking
    c.join.new.plan c.in-Ok-Joined.count some.0 some.1 (c.in-Ok-Joined.ensures.joined c.in-Ok-Joined.count c.in-Ok-Joined.field-0-is)

pub returns-in-Ok-Joined-clause-added : goal.returns-in-Ok-Joined-clause-added
returns-in-Ok-Joined-clause-added g c =
    let some = c.in-Ok-Joined.ensures.some c.in-Ok-Joined.count c.in-Ok-Joined.field-0-is in
    let b = c.args.batch.now in
    adds_joined c.args.plan.now b.leaves.now b.hashes.now b.places.now b.base c.args.at c.requires.batch.hashes c.join.new.plan c.in-Ok-Joined.count
    (omega (arith, some.1, ap length c.requires.batch.leaves, length-map b.chunks.now chunk_leaf)) (c.in-Ok-Joined.ensures.joined c.in-Ok-Joined.count c.in-Ok-Joined.field-0-is)

pub returns-in-Ok-Joined-clause-settings : goal.returns-in-Ok-Joined-clause-settings
returns-in-Ok-Joined-clause-settings g c = ap (λ (m : PlanState). m.settings) (c.in-Ok-Joined.ensures.joined c.in-Ok-Joined.count c.in-Ok-Joined.field-0-is).plan

pub returns-in_ok-store-in-Ok-New-clause-walked : goal.returns-in_ok-store-in-Ok-New-clause-walked
returns-in_ok-store-in-Ok-New-clause-walked g c =
    step_stored g.I.DeduplicationDataInterface.lists g.I.DeduplicationDataInterface.stands g.I.DeduplicationDataInterface.calls c.args.start.now.value c.args.interface.now c.args.batch.now c.args.at c.args.plan.now c.requires.batch c.requires.walking
    g.I.DeduplicationDataInterface.acts c.store.new.interface c.store.ensures.extends.lists c.store.ensures.extends.stands c.recall_invariant.ensures.range c.join.new.plan c.store.new.plan (get_or c.args.batch.now.chunks.now c.args.at c.index-batch-at.result) c.in-Ok-New.choice (slice_get-get_or c.args.batch.now.chunks.now c.args.at c.index-batch-at.result c.requires.at)
    (c.in-Ok-New.ensures.stored c.in-Ok-New.choice c.in-Ok-New.field-0-is) c.in_ok-store-in-Ok-New.ensures.stored

pub returns-in_ok-store-in-Ok-New-clause-placed : goal.returns-in_ok-store-in-Ok-New-clause-placed
returns-in_ok-store-in-Ok-New-clause-placed g c =
    places_stored g.I.DeduplicationDataInterface.lists g.I.DeduplicationDataInterface.stands g.I.DeduplicationDataInterface.calls g.I.DeduplicationDataInterface.acts c.args.plan.now.settings c.args.batch.now c.requires.batch c.args.interface.now c.args.plan.now c.args.at
    c.store.new.interface c.join.new.plan c.store.new.plan (get_or c.args.batch.now.chunks.now c.args.at c.index-batch-at.result) c.in-Ok-New.choice c.args.dependencies.now.items c.join.new.dependencies.items c.store.new.dependencies.items (slice_get-get_or c.args.batch.now.chunks.now c.args.at c.index-batch-at.result c.requires.at)
    (c.in-Ok-New.ensures.stored c.in-Ok-New.choice c.in-Ok-New.field-0-is) c.in_ok-store-in-Ok-New.ensures.stored
    (c.in-Ok-New.ensures.not_noted c.in-Ok-New.choice c.in-Ok-New.field-0-is) c.in_ok-store-in-Ok-New.ensures.noted

pub returns-in_ok-store-in-Ok-New-clause-leaves : goal.returns-in_ok-store-in-Ok-New-clause-leaves
returns-in_ok-store-in-Ok-New-clause-leaves g c =
    leaves_stored g.I.DeduplicationDataInterface.lists g.I.DeduplicationDataInterface.stands g.I.DeduplicationDataInterface.calls c.args.start.now.value c.args.interface.now c.args.batch.now c.args.at c.args.plan.now c.requires.batch c.requires.walking
    g.I.DeduplicationDataInterface.acts c.store.new.interface c.store.ensures.extends.lists c.store.ensures.extends.stands c.recall_invariant.ensures.range c.join.new.plan c.store.new.plan (get_or c.args.batch.now.chunks.now c.args.at c.index-batch-at.result) c.in-Ok-New.choice (slice_get-get_or c.args.batch.now.chunks.now c.args.at c.index-batch-at.result c.requires.at)
    (c.in-Ok-New.ensures.stored c.in-Ok-New.choice c.in-Ok-New.field-0-is) c.in_ok-store-in-Ok-New.ensures.stored

pub returns-in_ok-store-in-Ok-New-clause-added : goal.returns-in_ok-store-in-Ok-New-clause-added
returns-in_ok-store-in-Ok-New-clause-added g c =
    let kept = rest_kept c.args.plan.now c.join.new.plan c.args.batch.now.hashes.now c.args.batch.now.places.now c.args.batch.now.base c.args.at c.in-Ok-New.choice (c.in-Ok-New.ensures.stored c.in-Ok-New.choice c.in-Ok-New.field-0-is) in
    let choice = stores_choice g.I.DeduplicationDataInterface.lists g.I.DeduplicationDataInterface.stands g.I.DeduplicationDataInterface.calls g.I.DeduplicationDataInterface.acts c.args.interface.now c.store.new.interface c.join.new.plan c.store.new.plan (get_or c.args.batch.now.chunks.now c.args.at c.index-batch-at.result) c.in-Ok-New.choice c.in_ok-store-in-Ok-New.ensures.stored in
    let b = c.args.batch.now in
    adds_stored c.args.plan.now b.leaves.now b.hashes.now b.places.now b.base c.args.at c.requires.batch.hashes c.join.new.plan c.store.new.plan c.in-Ok-New.choice
    (can_join (g.I.DeduplicationDataInterface.lists c.args.interface.now) (g.I.DeduplicationDataInterface.stands c.args.interface.now) (g.I.DeduplicationDataInterface.calls c.args.start.now.value)
    (g.I.DeduplicationDataInterface.calls c.args.interface.now) (c.args.plan.now.leaves ++ drop c.args.at b.leaves.now) b.hashes.now b.places.now b.base c.args.at
    c.args.plan.now c.requires.walking c.recall_invariant.ensures.block c.recall_invariant.ensures.range
    (let l = length_hashes c.args.plan.now.settings b c.requires.batch in omega (arith, l, c.requires.at)))
    (c.in-Ok-New.ensures.stored c.in-Ok-New.choice c.in-Ok-New.field-0-is)
    (choice ∙ ap (λ (m : PlanState). m.choices ++ c.in-Ok-New.choice ∷ []) kept)

pub returns-in_ok-store-in-Ok-New-clause-settings : goal.returns-in_ok-store-in-Ok-New-clause-settings
returns-in_ok-store-in-Ok-New-clause-settings g c =
    let kept = rest_kept c.args.plan.now c.join.new.plan c.args.batch.now.hashes.now c.args.batch.now.places.now c.args.batch.now.base c.args.at c.in-Ok-New.choice (c.in-Ok-New.ensures.stored c.in-Ok-New.choice c.in-Ok-New.field-0-is) in
    stores_settings g.I.DeduplicationDataInterface.lists g.I.DeduplicationDataInterface.stands g.I.DeduplicationDataInterface.calls g.I.DeduplicationDataInterface.acts c.args.interface.now c.store.new.interface c.join.new.plan c.store.new.plan (get_or c.args.batch.now.chunks.now c.args.at c.index-batch-at.result) c.in-Ok-New.choice c.in_ok-store-in-Ok-New.ensures.stored
    ∙ ap (λ (m : PlanState). m.settings) kept

pub returns-in_err-store-in-Ok-New-clause-stopped : goal.returns-in_err-store-in-Ok-New-clause-stopped
returns-in_err-store-in-Ok-New-clause-stopped g c =
    let I = g.I.DeduplicationDataInterface in
    let b = c.args.batch.now in
    exit_on _ c.from_residual.result c.from_residual.ensures.1
    (stops_at I.lists I.stands I.calls I.acts c.args.plan.now.settings b c.requires.batch c.args.interface.now c.args.plan.now c.args.at
    c.store.new.interface c.join.new.plan (get_or b.chunks.now c.args.at c.index-batch-at.result) c.in-Ok-New.choice (slice_get-get_or b.chunks.now c.args.at c.index-batch-at.result c.requires.at)
    (c.in-Ok-New.ensures.stored c.in-Ok-New.choice c.in-Ok-New.field-0-is) c.in_err-store-in-Ok-New.ensures.stopped)
