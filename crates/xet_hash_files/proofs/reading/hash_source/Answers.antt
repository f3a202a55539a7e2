use Rattle.std.proofs.Common.{ℕ, IfErr, IfOk, subst}
use Rattle.xet_base.specs.theorems.Exits.{exit_with}
use Rattle.xet_cut.specs.declared.limits.LimitSettings.{LimitSettings}
use Rattle.xet_hash_files.specs.internal.Sources.{IsHashed, IsSourceError}
use Rattle.xet_hash_files.proofs.Taking.{memory_error, untouched}
use Rattle.xet_hash_files.proofs.reading.hash_source.Goals as goal

pub returns-in_err-hasher-clause-left : goal.returns-in_err-hasher-clause-left
returns-in_err-hasher-clause-left g c = untouched g.S.Source.tells g.S.Source.left g.S.Source.faults c.args.source.now c.args.source.now

pub returns-in_err-hasher-clause-refused : goal.returns-in_err-hasher-clause-refused
returns-in_err-hasher-clause-refused g c =
    let tells = g.S.Source.tells in let left = g.S.Source.left in let faults = g.S.Source.faults in
    let s = c.args.source.now in
    let most = c.args.limits.now.max_source_bytes in
    exit_with (IsSourceError tells left faults most c.args.number s s) _ _ c.from_residual.ensures.1 (memory_error tells left faults s s most c.args.number _ c.in_err-hasher.ensures.memory)

pub returns-clause-hashed : goal.returns-clause-hashed
returns-clause-hashed g c =
    subst (λ (l : LimitSettings). IfOk c.hash_rest.result (IsHashed g.S.Source.tells g.S.Source.left g.S.Source.faults l c.args.source.now c.hash_rest.new.source)) c.in_ok-hasher.ensures.same.0 c.hash_rest.ensures.hashed

pub returns-clause-refused : goal.returns-clause-refused
returns-clause-refused g c =
    let tells = g.S.Source.tells in let left = g.S.Source.left in let faults = g.S.Source.faults in
    let s = c.args.source.now in
    let t = c.hash_rest.new.source in
    let h = c.in_ok-hasher.hasher in
    subst (λ (l : LimitSettings). IfErr c.hash_rest.result (IsSourceError tells left faults l.max_source_bytes c.args.number s t)) c.in_ok-hasher.ensures.same.0
    (subst (λ (n : ℕ). IfErr c.hash_rest.result (IsSourceError tells left faults h.chunker.settings.max_source_bytes n s t)) c.in_ok-hasher.ensures.same.1 c.hash_rest.ensures.refused)
