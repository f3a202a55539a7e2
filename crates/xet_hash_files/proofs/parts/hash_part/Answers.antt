use Rattle.xet_base.specs.theorems.Exits.{exit_with}
use Rattle.xet_hash_files.specs.internal.Sources.{IsPartError}
use Rattle.xet_hash_files.proofs.Joining.{left_same, memory_part}
use Rattle.xet_hash_files.proofs.parts.hash_part.Goals as goal

pub returns-in_err-block-clause-left : goal.returns-in_err-block-clause-left
returns-in_err-block-clause-left g c = left_same g.S.Source.tells g.S.Source.left g.S.Source.faults c.args.sources.now

pub returns-in_err-block-clause-refused : goal.returns-in_err-block-clause-refused
returns-in_err-block-clause-refused g c =
    let tells = g.S.Source.tells in let left = g.S.Source.left in let faults = g.S.Source.faults in
    let ss = c.args.sources.now in
    exit_with (IsPartError tells left faults c.args.limits.now c.args.first ss ss) _ _ c.from_residual.ensures.1
    (memory_part tells left faults c.args.limits.now c.args.first ss ss _ c.in_err-block.ensures.memory)

pub returns-in_err-infos-clause-left : goal.returns-in_err-infos-clause-left
returns-in_err-infos-clause-left g c = left_same g.S.Source.tells g.S.Source.left g.S.Source.faults c.args.sources.now

pub returns-in_err-infos-clause-refused : goal.returns-in_err-infos-clause-refused
returns-in_err-infos-clause-refused g c =
    let tells = g.S.Source.tells in let left = g.S.Source.left in let faults = g.S.Source.faults in
    let ss = c.args.sources.now in
    exit_with (IsPartError tells left faults c.args.limits.now c.args.first ss ss) _ _ c.from_residual-in_err-infos.ensures.1
    (memory_part tells left faults c.args.limits.now c.args.first ss ss _ c.in_err-infos.ensures.memory)
