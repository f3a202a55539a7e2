use Rattle.std.proofs.Common.{◌≡◌, ◌≤◌, [], length, true}
use Rattle.std.proofs.lemmas.Result.{IfErr-weaker, IfOk-weaker}
use Rattle.std.specs.List.{AllByRecursion}
use Rattle.xet_store_disk.specs.Cleaning.{EachTold}
use Rattle.xet_hash_files.specs.Hashing.{HasHashReason, hashed_info}
use Rattle.xet_hash_files.specs.internal.Sources.{AreHashed, IsPartError}
use Rattle.xet_hash_files.proofs.Joining.{all_read, all_short, has_reason, infos_told, later_all, ok_gives, taken_all, tell_all}
use Rattle.xet_hash_files.proofs.workers.hash_files.Goals as goal

pub returns-clause-infos : goal.returns-clause-infos
returns-clause-infos g c =
    let tells = g.S.Source.tells in let left = g.S.Source.left in let faults = g.S.Source.faults in
    let s = c.args.limits.now in
    let ss = c.args.sources.now in
    let ts = c.hash_divided.new.sources in
    IfOk-weaker c.hash_divided.result (λ infos. AreHashed tells left faults s ss ts infos.items) (λ infos. EachTold tells left (λ bytes info. info ≡ hashed_info s bytes) ss infos.items)
    (λ infos are. infos_told tells left faults s ss ts infos.items are) c.hash_divided.ensures.hashed

pub returns-clause-read : goal.returns-clause-read
returns-clause-read g c =
    let tells = g.S.Source.tells in let left = g.S.Source.left in let faults = g.S.Source.faults in
    let s = c.args.limits.now in
    let ss = c.args.sources.now in
    let ts = c.hash_divided.new.sources in
    ok_gives c.hash_divided.result (λ infos. AreHashed tells left faults s ss ts infos.items) (AllByRecursion (λ x. tells x ≡ true → left x ≡ []) ts)
    (λ infos are. all_read tells left faults s ss ts infos.items are) c.hash_divided.ensures.hashed

pub returns-clause-short : goal.returns-clause-short
returns-clause-short g c =
    let tells = g.S.Source.tells in let left = g.S.Source.left in let faults = g.S.Source.faults in
    let s = c.args.limits.now in
    let ss = c.args.sources.now in
    let ts = c.hash_divided.new.sources in
    ok_gives c.hash_divided.result (λ infos. AreHashed tells left faults s ss ts infos.items) (AllByRecursion (λ x. tells x ≡ true → length (left x) ≤ s.max_source_bytes) ss)
    (λ infos are. all_short tells left faults s ss ts infos.items are) c.hash_divided.ensures.hashed

pub returns-clause-sources_tell : goal.returns-clause-sources_tell
returns-clause-sources_tell g c = tell_all g.S.Source.tells g.S.Source.left g.S.Source.faults c.args.sources.now c.hash_divided.new.sources c.hash_divided.ensures.left

pub returns-clause-sources_taken : goal.returns-clause-sources_taken
returns-clause-sources_taken g c = taken_all g.S.Source.tells g.S.Source.left g.S.Source.faults c.args.sources.now c.hash_divided.new.sources c.hash_divided.ensures.left

pub returns-clause-sources_later : goal.returns-clause-sources_later
returns-clause-sources_later g c = later_all g.S.Source.tells g.S.Source.left g.S.Source.faults c.args.sources.now c.hash_divided.new.sources c.hash_divided.ensures.left

pub returns-clause-reason : goal.returns-clause-reason
returns-clause-reason g c =
    let tells = g.S.Source.tells in let left = g.S.Source.left in let faults = g.S.Source.faults in
    let s = c.args.limits.now in
    let ss = c.args.sources.now in
    let ts = c.hash_divided.new.sources in
    IfErr-weaker c.hash_divided.result (IsPartError tells left faults s 0 ss ts) (HasHashReason tells left faults ss ts s) (λ e is. has_reason tells left faults s ss ts e is) c.hash_divided.ensures.refused
