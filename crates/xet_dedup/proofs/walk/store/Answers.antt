use Rattle.std.proofs.Common.{true≢false, ◌≡◌, ◌∙◌, inl, inr, ℕ, List, [], ◌∷◌, ◌++◌, true, false, sym, length, map, ap, arith}
use Rattle.xet_base.specs.theorems.Exits.{exit_on}
use Rattle.xet_choices.specs.Choices.{fits}
use Rattle.xet_file_plan.specs.Moves.{PlanState}
use Rattle.xet_xorb_chunk.specs.declared.chunk.Chunk.{Chunk}
use Rattle.xet_xorb_chunk.specs.Chunks.{chunk_leaf}
use Rattle.xet_xorb.specs.Raw.{raw_leaves}
use Rattle.xet_xorb.specs.declared.raw.RawXorbData.{RawXorbData}
use Rattle.xet_choices.specs.Calls.Call.{Registered}
use Rattle.xet_dedup_queries.specs.Acts.Act.{Stored}
use Rattle.xet_dedup.specs.theorems.Placings.{empty_has_room}
use Rattle.xet_dedup.proofs.Registering.{registers_none, registers_one}
use Rattle.xet_dedup.proofs.walk.store.Goals as goal
use Rattle.xet_dedup.proofs.walk.store.Goals.{then-not-fits+in_ok-cut, else-not-fits}

pub cut-requires-clause-some : goal.cut-requires-clause-some
cut-requires-clause-some g c = λ same.
    (let room : fits c.args.plan.now.settings (map chunk_leaf c.args.plan.now.block) (length c.args.chunk.now.bytes) ≡ true =
    ap (λ (block : List Chunk). fits c.args.plan.now.settings (map chunk_leaf block) (length c.args.chunk.now.bytes)) same
    ∙ empty_has_room c.args.plan.now.settings (length c.args.chunk.now.bytes) c.recall_invariant.ensures.range c.requires.chunk.small in
    let unfit : fits c.args.plan.now.settings (map chunk_leaf c.args.plan.now.block) (length c.args.chunk.now.bytes) ≡ false = cc (c.fits.ensures, c.len.ensures.value, c.if-not-fits.true) in
    absurd (true≢false (sym room ∙ unfit)))

pub store_chunk-requires-clause-fits : goal.store_chunk-requires-clause-fits
store_chunk-requires-clause-fits g c = elim c.if-not-fits.branch [
  | then-not-fits+in_ok-cut w ↦ (
      ap (λ (q : PlanState). fits q.settings (map chunk_leaf q.block) (length c.args.chunk.now.bytes)) (w.plan-is ∙ w.in_ok-cut.ensures.registered.2)
      ∙ empty_has_room c.args.plan.now.settings (length c.args.chunk.now.bytes) c.recall_invariant.ensures.range c.requires.chunk.small
      )
  | else-not-fits w ↦ (
      ap (λ (q : PlanState). fits q.settings (map chunk_leaf q.block) (length c.args.chunk.now.bytes)) w.plan-is
      ∙ ap (fits c.args.plan.now.settings (map chunk_leaf c.args.plan.now.block)) (sym c.len.ensures.value)
      ∙ sym w.if-not-fits.ensures
      )
]

pub store_chunk-requires-clause-small : goal.store_chunk-requires-clause-small
store_chunk-requires-clause-small g c = omega (arith, c.requires.chunk.small, c.recall_invariant.ensures.range.maximum_to)

pub returns-in-Ok-clause-calls : goal.returns-in-Ok-clause-calls
returns-in-Ok-clause-calls g c = elim c.if-not-fits.branch [
  | then-not-fits+in_ok-cut w ↦ registers_one _ _ (raw_leaves w.in_ok-cut.ensures.registered.0) _ (ap g.I.DeduplicationDataInterface.calls w.interface-is ∙ w.in_ok-cut.ensures.registered.1.calls)
  | else-not-fits w ↦ registers_none _ _ (ap g.I.DeduplicationDataInterface.calls w.interface-is)
]

pub returns-in-Err-clause-calls : goal.returns-in-Err-clause-calls
returns-in-Err-clause-calls g c = elim c.if-not-fits.branch [
  | then-not-fits+in_ok-cut w ↦ registers_one _ _ (raw_leaves w.in_ok-cut.ensures.registered.0) _ (ap g.I.DeduplicationDataInterface.calls w.interface-is ∙ w.in_ok-cut.ensures.registered.1.calls)
  | else-not-fits w ↦ registers_none _ _ (ap g.I.DeduplicationDataInterface.calls w.interface-is)
]

pub returns-in_err-cut-clause-stopped : goal.returns-in_err-cut-clause-stopped
returns-in_err-cut-clause-stopped g c = exit_on _ c.from_residual.result c.from_residual.ensures.1 (inl (c.in_err-cut.ensures.same, c.in_err-cut.ensures.kept_acts))

pub returns-in-Err-clause-stopped : goal.returns-in-Err-clause-stopped
returns-in-Err-clause-stopped g c = elim c.if-not-fits.branch [
  | then-not-fits+in_ok-cut w ↦ inr (
    ap (fits c.args.plan.now.settings (map chunk_leaf c.args.plan.now.block)) (sym c.len.ensures.value) ∙ sym w.if-not-fits.ensures,
    ap g.I.DeduplicationDataInterface.calls w.interface-is
        ∙ w.in_ok-cut.ensures.registered.1.calls
        ∙ ap (λ (n : ℕ). g.I.DeduplicationDataInterface.calls c.args.interface.now ++ Registered (raw_leaves w.in_ok-cut.ensures.registered.0) ((c.args.chunk.now.hash, n) ∷ []) ∷ []) w.len-then-not-fits.ensures.value
        ∙ ap (λ (x : RawXorbData). g.I.DeduplicationDataInterface.calls c.args.interface.now ++ Registered (raw_leaves x) (chunk_leaf c.args.chunk.now ∷ []) ∷ []) w.in_ok-cut.ensures.registered.1.made,
    ap g.I.DeduplicationDataInterface.acts w.interface-is
        ∙ w.in_ok-cut.ensures.registered.1.acts
        ∙ ap (λ (n : ℕ). g.I.DeduplicationDataInterface.acts c.args.interface.now ++ Stored w.in_ok-cut.ensures.registered.0 ((c.args.chunk.now.hash, n) ∷ []) ∷ []) w.len-then-not-fits.ensures.value
        ∙ ap (λ (x : RawXorbData). g.I.DeduplicationDataInterface.acts c.args.interface.now ++ Stored x (chunk_leaf c.args.chunk.now ∷ []) ∷ []) w.in_ok-cut.ensures.registered.1.made,
  )
  | else-not-fits w ↦ inl (ap g.I.DeduplicationDataInterface.calls w.interface-is, ap g.I.DeduplicationDataInterface.acts w.interface-is)
]
