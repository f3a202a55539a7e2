use Rattle.std.proofs.Common.{◌≡◌, ◌∙◌, ◌-◌, ◌++◌, inl, inr, true, List, ℕ, length, ap, subst, sym, arith}
use Rattle.std.specs.List.{concat}
use Rattle.xet_folder.specs.Plan.{Resolves, range}
use Rattle.xet_store_disk.specs.Ranges.{IsOutside, IsRange}
use Rattle.xet_store_disk.specs.internal.Reading.{IsStoredListed}
use Rattle.xet_store_disk.specs.Store.{State}
use Rattle.xet_store_disk.proofs.Reading.{is_range, plan_fits, plan_joins, rest_joins, rest_range, rest_within, sound_read}
use Rattle.xet_store_disk.proofs.store.Store.read_range.Goals as goal
use Rattle.xet_store_disk.proofs.store.Store.read_range.Goals.{then-from-to-via-then-from-to, then-from-to-via-else-from-to+then-to-length}

pub length-requires : goal.length-requires
length-requires g c = plan_fits _ c.self.invariant c.args.hash.now c.in-Some.plan (sym c.in-Some.ensures)

pub rest-before-requires : goal.rest-before-requires
rest-before-requires g c = plan_fits _ c.self.invariant c.args.hash.now c.in-Some.plan (sym c.in-Some.ensures)

pub read_plan-requires-clause-resolves : goal.read_plan-requires-clause-resolves
read_plan-requires-clause-resolves g c = rest_joins _ _ _ _ c.rest-before.ensures _ (plan_joins _ c.self.invariant c.args.hash.now c.in-Some.plan (sym c.in-Some.ensures))

pub read_plan-requires-clause-within : goal.read_plan-requires-clause-within
read_plan-requires-clause-within g c = rest_within _ _ _ _ c.rest-before.ensures c.args.to (omega (arith, c.if-to-length.false, c.length.ensures))

pub invariant_of-self : goal.invariant_of-self
invariant_of-self g c = sound_read _ _ _ _ c.self.invariant c.read_plan.ensures.frame.tells c.read_plan.ensures.frame.same

pub invariant_of-self-2 : goal.invariant_of-self-2
invariant_of-self-2 g c = sound_read _ _ _ _ c.self.invariant c.read_plan.ensures.frame.tells c.read_plan.ensures.frame.same

pub returns-then-from-to-clause-refused : goal.returns-then-from-to-clause-refused
returns-then-from-to-clause-refused g c =
    subst (λ (s : State). IsOutside s c.args.hash.now c.args.from c.args.to) c.self.view_is
    (record {
      plan = c.in-Some.plan;
      planned = sym c.in-Some.ensures;
      outside = elim c.then-from-to.branch [ then-from-to-via-then-from-to w ↦ inl (omega arith) | then-from-to-via-else-from-to+then-to-length w ↦ inr (omega arith) ];
    })

pub returns-clause-range : goal.returns-clause-range
returns-clause-range g c = λ told.
    let here : g.D.Disk.tells c.self.inside.disk ≡ true = ap (λ (s : State). s.tells) c.self.view_is ∙ told in
    let files = g.D.Disk.files c.self.inside.disk in
    let xorbs = c.self.inside.xorbs.entries in
    let plan = c.in-Some.plan in
    subst (λ (s : State). IsRange s c.args.hash.now c.args.from c.args.to c.into_bytes.result.items) c.self.view_is
    (is_range _ c.self.invariant c.args.hash.now plan (sym c.in-Some.ensures) c.args.from c.args.to c.into_bytes.result.items here
    (λ chunks resolves.
    let Has = IsStoredListed files c.self.inside.folder xorbs in
    let behind = rest_range plan c.args.from c.rest-before.result.0 c.rest-before.result.1.now c.rest-before.ensures Has c.args.to chunks resolves in
    let joined = subst (λ (folder : List ℕ). Resolves (IsStoredListed files folder xorbs) length c.rest-before.result.1.now behind.left) (sym c.as_str-folder.ensures) behind.resolves in
    c.into_bytes.ensures ∙ c.in_ok-read_plan.ensures.range here behind.left joined
    ∙ ap (λ (l : List ℕ). l ++ range (concat behind.left) (c.args.from - c.rest-before.result.0) (c.args.to - c.rest-before.result.0)) c.in_ok-reader.ensures.none ∙ sym behind.same))
