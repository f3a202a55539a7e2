use Rattle.std.proofs.Common.{◌∙◌, ◌++◌, [], ℕ, ap, arith, length-append, refl, subst, sym}
use Rattle.xet_base.specs.theorems.Exits.{exit_with}
use Rattle.xet_cut.specs.declared.limits.LimitSettings.{LimitSettings}
use Rattle.xet_store.specs.theorems.Following.{asking_nothing, asking_then}
use Rattle.xet_clean.specs.Errors.{IsCleanerError}
use Rattle.xet_clean.specs.Sources.{IsSourceError}
use Rattle.xet_clean.proofs.FileCalls.{same_limits}
use Rattle.xet_clean.specs.Planning.{RegistersOnly}
use Rattle.xet_clean.proofs.Cleaning.{few_with, on_err, only_with}
use Rattle.xet_clean.proofs.Policies.{if_computed}
use Rattle.xet_clean.proofs.Reading.{cleaner_error, takes_lost, takes_next, takes_nothing}
use Rattle.xet_clean.proofs.sources.read_into.Goals as goal

pub loop-block-init : goal.loop-block-init
loop-block-init g c = record {
  read = ([], takes_nothing (g.R.Source.tells c.args.source.now) (g.R.Source.left c.args.source.now), c.requires.cleaning, if_computed c.args.policy.now c.requires.nothing);
  start = refl;
  id = refl;
  number = c.requires.number;
  follows = asking_nothing (g.S.Stepping.holder c.args.cleaner.now.deduper.interface.steps);
  tells = refl;
  later = omega arith;
}

pub returns-in_err-block-clause-few : goal.returns-in_err-block-clause-few
returns-in_err-block-clause-few g c =
    let i = c.loop-block.invariant in
    let lost = takes_lost (g.R.Source.tells c.args.source.now) (g.R.Source.left c.args.source.now) (g.R.Source.left c.loop-block.source) (g.R.Source.left c.read.new.source) i.read.0 i.read.1
    (λ t. c.in_err-block.ensures.lost (i.tells ∙ t)) in
    on_err c.from_residual.result (i.read.0 ++ lost.0, lost.1, few_with _ _ _ _ _ _ _ _ i.read.2 lost.0)

pub returns-in_err-add_block-clause-few : goal.returns-in_err-add_block-clause-few
returns-in_err-add_block-clause-few g c =
    let i = c.loop-block.invariant in
    let block = c.in_ok-block.block in
    let takes =
    takes_next c.in_ok-block.is_last _ _ (g.R.Source.left c.args.source.now) (g.R.Source.left c.loop-block.source) (g.R.Source.left c.read.new.source) i.read.0 block i.tells i.read.1 c.in_ok-block.ensures.block in
    on_err c.from_residual-in_err-add_block.result (i.read.0 ++ block, takes, c.in_err-add_block.ensures.few i.read.0 i.read.2)

pub returns-in_err-add_block-clause-follows : goal.returns-in_err-add_block-clause-follows
returns-in_err-add_block-clause-follows g c = let i = c.loop-block.invariant in asking_then _ _ _ i.follows c.add_block.ensures.follows

pub returns-in_err-add_block-clause-refused : goal.returns-in_err-add_block-clause-refused
returns-in_err-add_block-clause-refused g c =
    let i = c.loop-block.invariant in
    let block = c.in_ok-block.block in
    let tells = g.R.Source.tells c.args.source.now in
    let left = g.R.Source.left c.args.source.now in
    let rest = g.R.Source.left c.read.new.source in
    let before = g.R.Source.faults c.args.source.now in
    let after = g.R.Source.faults c.read.new.source in
    let old = g.S.Stepping.holder c.args.cleaner.now.deduper.interface.steps in
    let mid = g.S.Stepping.holder c.loop-block.cleaner.deduper.interface.steps in
    let now = g.S.Stepping.holder c.add_block.new.cleaner.deduper.interface.steps in
    let takes = takes_next c.in_ok-block.is_last _ _ left (g.R.Source.left c.loop-block.source) rest i.read.0 block i.tells i.read.1 c.in_ok-block.ensures.block in
    let passed = i.read.2.passed ∙ ap (λ a. (g.S.Stepping.holder a.steps).stopped) i.start ∙ sym c.requires.cleaning.passed in
    exit_with (IsSourceError c.args.number tells left before after old now) _ _ c.from_residual-in_err-add_block.ensures.1
    (cleaner_error c.args.number tells left rest i.read.0 block c.loop-block.cleaner.byte_count before after old mid now _ takes i.read.2.counted i.follows.follows passed
    (subst (λ (n : ℕ). IsCleanerError n c.loop-block.cleaner.byte_count block mid now c.in_err-add_block.field-0.0) i.number c.in_err-add_block.ensures.refused))

pub returns-then-is_last-clause-follows : goal.returns-then-is_last-clause-follows
returns-then-is_last-clause-follows g c = let i = c.loop-block.invariant in asking_then _ _ _ i.follows c.add_block.ensures.follows

pub loop-block-preserved : goal.loop-block-preserved
loop-block-preserved g c =
    let i = c.loop-block.invariant in
    let block = c.in_ok-block.block in
    record {
      read = (
        i.read.0 ++ block,
        takes_next c.in_ok-block.is_last _ _ (g.R.Source.left c.args.source.now) (g.R.Source.left c.loop-block.source) (g.R.Source.left c.read.new.source) i.read.0 block i.tells i.read.1 c.in_ok-block.ensures.block,
        c.in_ok-add_block.ensures.cleaning i.read.0 i.read.2,
        c.in_ok-add_block.ensures.hashed i.read.0 i.read.3,
      );
      start = c.add_block.ensures.same.0 ∙ i.start;
      id = c.add_block.ensures.same.2 ∙ i.id;
      number = c.add_block.ensures.same.1 ∙ i.number;
      follows = asking_then _ _ _ i.follows c.add_block.ensures.follows;
      tells = c.in_ok-block.ensures.frame.tells ∙ i.tells;
      later = omega (arith, c.in_ok-block.ensures.frame.later, i.later);
    }

pub loop-block-smaller : goal.loop-block-smaller
loop-block-smaller g c =
    let i = c.loop-block.invariant in
    let block = c.in_ok-block.block in
    let after = c.in_ok-add_block.ensures.cleaning i.read.0 i.read.2 in
    let first = g.S.Stepping.holder c.args.cleaner.now.deduper.interface.steps in
    let now = g.S.Stepping.holder c.add_block.new.cleaner.deduper.interface.steps in
    omega (
      arith,
      after.counted,
      after.short,
      i.read.2.counted,
      ap (λ (s : LimitSettings). s.max_source_bytes) (same_limits first now (asking_then _ _ _ i.follows c.add_block.ensures.follows).follows),
      length-append i.read.0 block,
      c.in_ok-block.ensures.some c.if-is_last.false,
    )

pub returns-in_err-block-clause-own : goal.returns-in_err-block-clause-own
returns-in_err-block-clause-own g c =
    let i = c.loop-block.invariant in
    let d = c.loop-block.cleaner.deduper in
    on_err c.from_residual.result
    (λ told. subst (RegistersOnly (g.S.Stepping.holder d.start.value.steps) (g.S.Stepping.holder d.interface.steps)) (sym (i.read.1.taken told)) (only_with _ _ _ _ _ _ _ _ i.read.2 (g.R.Source.left c.loop-block.source)))

pub returns-in_err-add_block-clause-own : goal.returns-in_err-add_block-clause-own
returns-in_err-add_block-clause-own g c =
    let i = c.loop-block.invariant in
    let block = c.in_ok-block.block in
    let d = c.add_block.new.cleaner.deduper in
    let takes =
    takes_next c.in_ok-block.is_last _ _ (g.R.Source.left c.args.source.now) (g.R.Source.left c.loop-block.source) (g.R.Source.left c.read.new.source) i.read.0 block i.tells i.read.1 c.in_ok-block.ensures.block in
    on_err c.from_residual-in_err-add_block.result
    (λ told. subst (RegistersOnly (g.S.Stepping.holder d.start.value.steps) (g.S.Stepping.holder d.interface.steps)) (sym (takes.taken told)) (c.in_err-add_block.ensures.own i.read.0 (g.R.Source.left c.read.new.source) i.read.2))
