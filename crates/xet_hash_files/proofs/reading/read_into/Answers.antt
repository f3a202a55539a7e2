use Rattle.std.proofs.Common.{◌∙◌, ◌++◌, [], ap, arith, length-append, refl, take}
use Rattle.std.proofs.lemmas.List.{length-take-le}
use Rattle.xet_base.specs.theorems.Exits.{exit_with}
use Rattle.xet_cut.specs.declared.limits.LimitSettings.{LimitSettings}
use Rattle.xet_hash_files.specs.internal.Sources.{IsSourceError}
use Rattle.xet_hash_files.proofs.Taking.{add_error, failed_takes, on_err, read_error, takes_all, takes_lost, takes_more, takes_nothing}
use Rattle.xet_hash_files.proofs.reading.read_into.Goals as goal

pub loop-count-init : goal.loop-count-init
loop-count-init g c = record {
  read = ([], takes_nothing (g.S.Source.tells c.args.source.now) (g.S.Source.left c.args.source.now), c.requires.hashing);
  settings = refl;
  most = refl;
  number = refl;
  tells = refl;
  later = omega arith;
  some = c.requires.block;
}

pub returns-in_err-count-clause-some : goal.returns-in_err-count-clause-some
returns-in_err-count-clause-some g c =
    let i = c.loop-count.invariant in
    on_err c.from_residual.result
    (takes_lost (g.S.Source.tells c.args.source.now) (g.S.Source.left c.args.source.now) (g.S.Source.left c.loop-count.source) (g.S.Source.left c.read_block.new.source) i.read.0 i.read.1
    (λ t. failed_takes _ _ _ (c.in_err-count.ensures.filled (i.tells ∙ t))))

pub returns-in_err-count-clause-frame : goal.returns-in_err-count-clause-frame
returns-in_err-count-clause-frame g c =
    let i = c.loop-count.invariant in
    record { tells = c.in_err-count.ensures.frame.tells ∙ i.tells; later = omega (arith, c.in_err-count.ensures.frame.later, i.later) }

pub returns-in_err-count-clause-refused : goal.returns-in_err-count-clause-refused
returns-in_err-count-clause-refused g c =
    let i = c.loop-count.invariant in
    let tells = g.S.Source.tells in let left = g.S.Source.left in let faults = g.S.Source.faults in
    let s = c.args.source.now in
    let t = c.read_block.new.source in
    let most = c.args.hasher.now.chunker.settings.max_source_bytes in
    let number = c.args.hasher.now.number in
    exit_with (IsSourceError tells left faults most number s t) _ _ c.from_residual.ensures.1
    (read_error tells left faults s t most number c.loop-count.hasher.number (faults c.loop-count.source) _ c.in_err-count.ensures.reason i.number i.later (c.in_err-count.ensures.frame.rose refl))

pub returns-in_err-add-clause-some : goal.returns-in_err-add-clause-some
returns-in_err-add-clause-some g c =
    let i = c.loop-count.invariant in
    let block = c.read_block.new.block in
    let count = c.in_ok-count.count in
    on_err c.from_residual-in_err-add.result (
      i.read.0 ++ take count block,
      takes_more (g.S.Source.tells c.args.source.now) (g.S.Source.left c.args.source.now) (g.S.Source.left c.loop-count.source) (g.S.Source.left c.read_block.new.source) i.read.0 block count i.read.1
          (λ t. c.in_ok-count.ensures.filled (i.tells ∙ t)),
    )

pub returns-in_err-add-clause-same : goal.returns-in_err-add-clause-same
returns-in_err-add-clause-same g c = let i = c.loop-count.invariant in c.add.ensures.same.0 ∙ i.settings

pub returns-in_err-add-clause-frame : goal.returns-in_err-add-clause-frame
returns-in_err-add-clause-frame g c =
    let i = c.loop-count.invariant in
    record { tells = c.in_ok-count.ensures.frame.tells ∙ i.tells; later = omega (arith, c.in_ok-count.ensures.frame.later, i.later) }

pub returns-in_err-add-clause-refused : goal.returns-in_err-add-clause-refused
returns-in_err-add-clause-refused g c =
    let i = c.loop-count.invariant in
    let tells = g.S.Source.tells in let left = g.S.Source.left in let faults = g.S.Source.faults in
    let s = c.args.source.now in
    let t = c.read_block.new.source in
    let block = c.read_block.new.block in
    let count = c.in_ok-count.count in
    let most = c.args.hasher.now.chunker.settings.max_source_bytes in
    let number = c.args.hasher.now.number in
    let h = c.loop-count.hasher in
    let takes = takes_more (tells s) (left s) (left c.loop-count.source) (left t) i.read.0 block count i.read.1 (λ t. c.in_ok-count.ensures.filled (i.tells ∙ t)) in
    let limit = i.read.2.limit ∙ ap (λ (l : LimitSettings). l.max_source_bytes) i.settings in
    exit_with (IsSourceError tells left faults most number s t) _ _ c.from_residual-in_err-add.ensures.1
    (add_error tells left faults s t most number h.number h.max_bytes h.byte_count i.read.0 (take count block) _ takes i.read.2.counted limit i.number c.in_err-add.ensures.refused)

pub returns-then-count-block-clause-hashing : goal.returns-then-count-block-clause-hashing
returns-then-count-block-clause-hashing g c =
    let i = c.loop-count.invariant in
    let block = c.read_block.new.block in
    let count = c.in_ok-count.count in (
      i.read.0 ++ take count block,
      takes_all (g.S.Source.tells c.args.source.now) (g.S.Source.left c.args.source.now) (g.S.Source.left c.loop-count.source) (g.S.Source.left c.read_block.new.source) i.read.0 block count i.read.1
          (λ t. c.in_ok-count.ensures.filled (i.tells ∙ t)) c.if-count-block.true,
      c.in_ok-add.ensures.hashing i.read.0 i.read.2,
    )

pub returns-then-count-block-clause-same : goal.returns-then-count-block-clause-same
returns-then-count-block-clause-same g c = let i = c.loop-count.invariant in c.add.ensures.same.0 ∙ i.settings

pub returns-then-count-block-clause-frame : goal.returns-then-count-block-clause-frame
returns-then-count-block-clause-frame g c =
    let i = c.loop-count.invariant in
    record { tells = c.in_ok-count.ensures.frame.tells ∙ i.tells; later = omega (arith, c.in_ok-count.ensures.frame.later, i.later) }

pub loop-count-preserved : goal.loop-count-preserved
loop-count-preserved g c =
    let i = c.loop-count.invariant in
    let block = c.read_block.new.block in
    let count = c.in_ok-count.count in
    record {
      read = (
        i.read.0 ++ take count block,
        takes_more (g.S.Source.tells c.args.source.now) (g.S.Source.left c.args.source.now) (g.S.Source.left c.loop-count.source) (g.S.Source.left c.read_block.new.source) i.read.0 block count i.read.1
            (λ t. c.in_ok-count.ensures.filled (i.tells ∙ t)),
        c.in_ok-add.ensures.hashing i.read.0 i.read.2,
      );
      settings = c.add.ensures.same.0 ∙ i.settings;
      most = c.add.ensures.same.1 ∙ i.most;
      number = c.add.ensures.same.2 ∙ i.number;
      tells = c.in_ok-count.ensures.frame.tells ∙ i.tells;
      later = omega (arith, c.in_ok-count.ensures.frame.later, i.later);
      some = omega (arith, i.some, c.read_block.auto.block);
    }

pub loop-count-smaller : goal.loop-count-smaller
loop-count-smaller g c =
    let i = c.loop-count.invariant in
    let block = c.read_block.new.block in
    let count = c.in_ok-count.count in
    let after = c.in_ok-add.ensures.hashing i.read.0 i.read.2 in
    omega (
      arith,
      after.counted,
      after.short,
      i.read.2.counted,
      i.most,
      c.add.ensures.same.1,
      length-append i.read.0 (take count block),
      length-take-le count block c.in_ok-count.ensures.bound,
      c.if-count-block.false,
      c.read_block.auto.block,
      i.some,
    )
