use Rattle.std.proofs.Common.{ℕ, List, subst, sym}
use Rattle.std.proofs.lemmas.Result.{IfOk-weaker}
use Rattle.xet_shard_merge.specs.Merging.{IsMerged, IsMergedEncoding, Stands}
use Rattle.xet_shard_merge.specs.internal.Keeping.{IsOnlyDue}
use Rattle.xet_shard_merge.proofs.Placing.{writes_also}
use Rattle.xet_shard_merge.proofs.writing.write_merged.Goals as goal

pub returns-in-Ok-clause-merged : goal.returns-in-Ok-clause-merged
returns-in-Ok-clause-merged g c = λ tells.
    let new = g.D.Disk.files c.write_new.new.disk in
    let bytes : List ℕ = c.deref.result.now in
    let form : IsMergedEncoding c.args.group.now bytes = subst (IsMergedEncoding c.args.group.now) (sym c.deref.ensures.value) c.in-Ok.ensures.bytes in
    IfOk-weaker c.write_new.result (Stands new c.args.target.now bytes) (IsMerged new c.args.target.now c.args.group.now)
    (λ s stands. record { bytes = bytes; form = form; stands = stands }) (c.write_new.ensures.stands tells)

pub returns-in-Ok-clause-writes : goal.returns-in-Ok-clause-writes
returns-in-Ok-clause-writes g c = λ tells.
    let files = g.D.Disk.files in
    let bytes : List ℕ = c.deref.result.now in
    let Due : List ℕ → Type 0 = IsMergedEncoding c.args.group.now in
    let form : Due bytes = subst Due (sym c.deref.ensures.value) c.in-Ok.ensures.bytes in
    writes_also (files c.args.disk.now) (files c.write_new.new.disk) c.args.target.now (IsOnlyDue bytes) Due (λ b same. subst Due (sym same) form) (c.write_new.ensures.writes tells)
