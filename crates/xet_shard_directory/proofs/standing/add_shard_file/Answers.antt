use Rattle.std.proofs.Common.{◌≡◌, ◌⊎◌, ◌∙◌, List, ℕ, IfOk, OnErr, Some, ap, subst}
use Rattle.xet_io.specs.Disk.{Files, bytes_at, synced}
use Rattle.xet_shard_file.specs.Names.{shard_path}
use Rattle.xet_shard_directory.specs.Standing.{IsStanding}
use Rattle.xet_shard_directory.specs.Writing.{Stood, path_of}
use Rattle.xet_shard_directory.proofs.Written.{stood_keeps}
use Rattle.xet_shard_directory.proofs.standing.add_shard_file.Goals as goal

pub returns-in-Ok-Same-clause-kept : goal.returns-in-Ok-Same-clause-kept
returns-in-Ok-Same-clause-kept g c told =
    let files = g.D.Disk.files in
    let frame = c.in-Ok-Same.ensures.frame in
    let old = files c.args.disk.now in
    let new = files c.keep_named_file.new.disk in
    let target = c.args.target.now in
    let bytes = c.args.bytes.now in
    let r = c.keep_named_file.result in
    let named : c.new-path.result ≡ path_of target bytes = c.new-path.ensures ∙ c.in_ok-shard_path.ensures.path ∙ ap (shard_path target) c.compute_data_hash-hash.ensures in
    stood_keeps old new target bytes r
    (subst (λ (p : List ℕ). bytes_at old p ≡ Some bytes) (c.as_str-2.ensures ∙ named)
    (subst (IsStanding (bytes_at old c.as_str-2.result.now) bytes) c.in-Ok-Same.field-0-is (c.in-Ok-Same.ensures.found told)))
    (subst (λ (fs : Files). IfOk r (Stood fs new target bytes)) frame.same (c.keep_named_file.ensures.stood (frame.tells ∙ told) target named))
    (subst (λ (p : List ℕ). OnErr r ((new ≡ old) ⊎ (new ≡ synced old p))) named
    (subst (λ (fs : Files). OnErr r ((new ≡ fs) ⊎ (new ≡ synced fs c.new-path.result))) frame.same (c.keep_named_file.ensures.refused (frame.tells ∙ told))))
