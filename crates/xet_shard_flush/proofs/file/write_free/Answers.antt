use Rattle.std.proofs.Common.{◌∙◌, ◌≡◌, ◌⊎◌, ℕ, List, Some, subst}
use Rattle.xet_io.specs.Disk.{Files, bytes_at, synced}
use Rattle.xet_shard_directory.specs.Writing.{MayAddShard}
use Rattle.xet_shard_flush.specs.declared.paths.Way.TheVariants.{Write}
use Rattle.xet_shard_flush.specs.internal.Steps.{IsWay}
use Rattle.xet_shard_flush.proofs.Written.{synced_keeps, synced_may, written_keeps}
use Rattle.xet_shard_flush.proofs.file.write_free.Goals as goal

pub returns-in-Ok-Keep-clause-safe : goal.returns-in-Ok-Keep-clause-safe
returns-in-Ok-Keep-clause-safe g c = λ told folder named.
    let files = g.D.Disk.files in
    let old = files c.args.disk.now in
    let new = files c.keep_file.new.disk in
    let bytes = c.args.bytes.now in
    let frame = c.in-Ok-Keep.ensures.frame in
    let there : bytes_at old c.as_str.result.now ≡ Some bytes = subst (IsWay old c.as_str.result.now c.args.file.info c.args.registry.now.files bytes) c.in-Ok-Keep.field-0-is (c.in-Ok-Keep.ensures.way told) in
    synced_keeps old new folder bytes (subst (λ (p : List ℕ). bytes_at old p ≡ Some bytes) (c.as_str.ensures ∙ named) there)
    (subst (λ (p : List ℕ). (new ≡ old) ⊎ (new ≡ synced old p)) named
    (subst (λ (fs : Files). (new ≡ fs) ⊎ (new ≡ synced fs c.args.file.path)) frame.same (c.keep_file.ensures.done (frame.tells ∙ told) folder named)))
    c.args.registry.now.files

pub returns-in-Ok-Keep-clause-left : goal.returns-in-Ok-Keep-clause-left
returns-in-Ok-Keep-clause-left g c = λ told folder named.
    let files = g.D.Disk.files in
    let old = files c.args.disk.now in
    let new = files c.keep_file.new.disk in
    let bytes = c.args.bytes.now in
    let frame = c.in-Ok-Keep.ensures.frame in
    let there : bytes_at old c.as_str.result.now ≡ Some bytes = subst (IsWay old c.as_str.result.now c.args.file.info c.args.registry.now.files bytes) c.in-Ok-Keep.field-0-is (c.in-Ok-Keep.ensures.way told) in
    synced_may old new folder bytes (subst (λ (p : List ℕ). bytes_at old p ≡ Some bytes) (c.as_str.ensures ∙ named) there)
    (subst (λ (p : List ℕ). (new ≡ old) ⊎ (new ≡ synced old p)) named
    (subst (λ (fs : Files). (new ≡ fs) ⊎ (new ≡ synced fs c.args.file.path)) frame.same (c.keep_file.ensures.done (frame.tells ∙ told) folder named)))

pub returns-in-Ok-Write-clause-safe : goal.returns-in-Ok-Write-clause-safe
returns-in-Ok-Write-clause-safe g c = λ told folder named.
    let files = g.D.Disk.files in
    let old = files c.args.disk.now in
    let new = files c.write_file.new.disk in
    let bytes = c.args.bytes.now in
    let frame = c.in-Ok-Write.ensures.frame in
    let way = subst (IsWay old c.as_str.result.now c.args.file.info c.args.registry.now.files bytes) c.in-Ok-Write.field-0-is (c.in-Ok-Write.ensures.way told) in
    written_keeps old new folder bytes c.args.registry.now.files c.args.file.info
    (subst (λ (p : List ℕ). IsWay old p c.args.file.info c.args.registry.now.files bytes Write) (c.as_str.ensures ∙ named) way) c.requires.info
    (subst (λ (fs : Files). MayAddShard fs new folder bytes) frame.same (c.write_file.ensures.left (frame.tells ∙ told) folder named))
