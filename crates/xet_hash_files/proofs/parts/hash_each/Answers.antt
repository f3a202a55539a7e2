use Rattle.std.proofs.Common.{◌≡◌, ◌+◌, ◌++◌, ◌∷◌, [], arith, get_or, refl, rules, set, subst, sym}
use Rattle.xet_base.specs.theorems.Exits.{exit_with}
use Rattle.xet_hash_files.specs.internal.Sources.{IsPartError}
use Rattle.xet_hash_files.proofs.Joining.{IsLoop, is_next, loop_begins, loop_ends, loop_left, loop_next, stopped_error, stopped_left}
use Rattle.xet_hash_files.proofs.parts.hash_each.Goals as goal

pub sources-init : goal.sources-init
sources-init g c =
    let tells = g.S.Source.tells in let left = g.S.Source.left in let faults = g.S.Source.faults in
    let ss = c.args.sources.now in
    record {
      loop = subst (IsLoop tells left faults c.args.limits.now ss ss 0) (sym c.requires.none) (loop_begins tells left faults c.args.limits.now ss);
      count = search rules;
      room = c.requires.room;
      some = c.requires.block;
    }

pub returns-in_err-info-clause-left : goal.returns-in_err-info-clause-left
returns-in_err-info-clause-left g c =
    let tells = g.S.Source.tells in let left = g.S.Source.left in let faults = g.S.Source.faults in
    let limits = c.args.limits.now in
    let ss = c.args.sources.now in
    let now = c.sources.sources in
    let at = c.sources.at in
    let infos = c.sources.infos.items in
    let x = get_or now at c.index-sources-at.result in
    let t = c.hash_source.new.source in
    let l = c.sources.invariant.loop in
    let next = is_next tells left faults limits ss now at infos l x t c.index-sources-at.result (omega arith) refl in
    stopped_left tells left faults limits ss now at infos l x t next c.hash_source.ensures.left

pub returns-in_err-info-clause-refused : goal.returns-in_err-info-clause-refused
returns-in_err-info-clause-refused g c =
    let tells = g.S.Source.tells in let left = g.S.Source.left in let faults = g.S.Source.faults in
    let limits = c.args.limits.now in
    let ss = c.args.sources.now in
    let now = c.sources.sources in
    let at = c.sources.at in
    let infos = c.sources.infos.items in
    let x = get_or now at c.index-sources-at.result in
    let t = c.hash_source.new.source in
    let l = c.sources.invariant.loop in
    let next = is_next tells left faults limits ss now at infos l x t c.index-sources-at.result (omega arith) refl in
    exit_with (IsPartError tells left faults limits c.args.first ss (set now at t)) _ _ c.from_residual.ensures.1
    (stopped_error tells left faults limits ss now at infos l x t next c.args.first (c.args.first + at) _ refl c.in_err-info.ensures.refused)

pub sources-preserved : goal.sources-preserved
sources-preserved g c =
    let tells = g.S.Source.tells in let left = g.S.Source.left in let faults = g.S.Source.faults in
    let limits = c.args.limits.now in
    let ss = c.args.sources.now in
    let now = c.sources.sources in
    let at = c.sources.at in
    let infos = c.sources.infos.items in
    let x = get_or now at c.index-sources-at.result in
    let t = c.hash_source.new.source in
    let i = c.sources.invariant in
    let next = is_next tells left faults limits ss now at infos i.loop x t c.index-sources-at.result (omega arith) refl in
    let items : c.push_reserved.new.self.items ≡ infos ++ c.in_ok-info.info ∷ [] = search rules in
    record {
      loop = subst (IsLoop tells left faults limits ss (set now at t) (at + 1)) (sym items) (loop_next tells left faults limits ss now at infos i.loop x t next c.in_ok-info.info c.in_ok-info.ensures.hashed);
      count = search rules;
      room = search rules;
      some = omega (arith, i.some, c.hash_source.auto.block);
    }

pub returns-clause-hashed : goal.returns-clause-hashed
returns-clause-hashed g c =
    loop_ends g.S.Source.tells g.S.Source.left g.S.Source.faults c.args.limits.now c.args.sources.now c.sources.sources c.sources.at c.sources.infos.items c.sources.invariant.loop (omega arith)

pub returns-clause-left : goal.returns-clause-left
returns-clause-left g c =
    loop_left g.S.Source.tells g.S.Source.left g.S.Source.faults c.args.limits.now c.args.sources.now c.sources.sources c.sources.at c.sources.infos.items c.sources.invariant.loop
