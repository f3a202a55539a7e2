use Rattle.std.proofs.Common.{arith, refl}
use Rattle.std.proofs.lemmas.Result.{on_ok_weaker}
use Rattle.xet_hash_files.proofs.Hashing.{hashing_more}
use Rattle.xet_hash_files.proofs.file_hasher.FileHasher.add.Goals as goal

pub split_off-requires : goal.split_off-requires
split_off-requires c = record { range = c.requires.hashing.1.range }

pub returns-clause-hashing : goal.returns-clause-hashing
returns-clause-hashing c = λ before is.
    let h = c.args.self.now in
    hashing_more h.chunker h.leaves.items h.byte_count h.max_bytes before is c.split_off.new.chunker c.split_off.new.leaves.items _ c.args.bytes.now c.in_ok-split_off.ensures.split c.split_off.ensures.settings refl
    (omega (arith, c.if-bytes-self.false, is.counted, is.short))
