use Rattle.std.proofs.Common.{◌≡◌, ◌∙◌, ap, arith}
use Rattle.std.proofs.lemmas.Result.{IfErr-weaker, IfOk-weaker}
use Rattle.xet_cut.specs.declared.limits.LimitSettings.{LimitSettings}
use Rattle.xet_hash.specs.declared.error.StoreError.{StoreError}
use Rattle.xet_hash.specs.declared.error.StoreError.TheVariants.{OutOfMemory}
use Rattle.xet_store_disk.specs.declared.info.XetFileInfo.{XetFileInfo}
use Rattle.xet_hash_files.specs.Hashing.{hashed_info}
use Rattle.xet_hash_files.specs.internal.Sources.{IsHashed, IsSourceError}
use Rattle.xet_hash_files.proofs.Taking.{is_hashed, is_left, memory_error, takes_some}
use Rattle.xet_hash_files.proofs.reading.hash_rest.Goals as goal

pub returns-in-Ok-clause-hashed : goal.returns-in-Ok-clause-hashed
returns-in-Ok-clause-hashed g c =
    let tells = g.S.Source.tells in let left = g.S.Source.left in let faults = g.S.Source.faults in
    let s = c.args.source.now in
    let t = c.read_into.new.source in
    let read = c.in-Ok.ensures.hashing in
    let settings = c.args.hasher.chunker.settings in
    let same = c.read_into.ensures.same in
    IfOk-weaker c.finish.result (λ (info : XetFileInfo). info ≡ hashed_info c.read_into.new.hasher.chunker.settings read.0) (IsHashed tells left faults settings s t)
    (λ info is.
    is_hashed tells left faults s t settings read.0 info c.read_into.ensures.frame read.1 (omega (arith, read.2.short, read.2.limit, ap (λ (l : LimitSettings). l.max_source_bytes) same))
    (is ∙ ap (λ (l : LimitSettings). hashed_info l read.0) same))
    (c.finish.ensures.info read.0 read.2)

pub returns-in-Ok-clause-left : goal.returns-in-Ok-clause-left
returns-in-Ok-clause-left g c =
    let tells = g.S.Source.tells in let left = g.S.Source.left in let faults = g.S.Source.faults in
    let s = c.args.source.now in
    let t = c.read_into.new.source in
    let read = c.in-Ok.ensures.hashing in
    is_left tells left faults s t read.0 c.read_into.ensures.frame (takes_some (tells s) (left s) (left t) read.0 read.1)

pub returns-in-Ok-clause-refused : goal.returns-in-Ok-clause-refused
returns-in-Ok-clause-refused g c =
    let tells = g.S.Source.tells in let left = g.S.Source.left in let faults = g.S.Source.faults in
    let s = c.args.source.now in
    let t = c.read_into.new.source in
    let most = c.args.hasher.chunker.settings.max_source_bytes in
    IfErr-weaker c.finish.result (λ (e : StoreError). e ≡ OutOfMemory) (IsSourceError tells left faults most c.args.hasher.number s t)
    (λ e is. memory_error tells left faults s t most c.args.hasher.number e is) c.finish.ensures.memory

pub returns-clause-left : goal.returns-clause-left
returns-clause-left g c =
    let some = c.in-Err.ensures.some in
    is_left g.S.Source.tells g.S.Source.left g.S.Source.faults c.args.source.now c.read_into.new.source some.0 c.read_into.ensures.frame some.1
