use Rattle.std.proofs.Common.{◌∙◌}
use Rattle.xet_hash_files.proofs.Hashing.{hashing_ends, info_of_all, total_small}
use Rattle.xet_hash_files.proofs.file_hasher.FileHasher.finish.Goals as goal

pub file_hash-requires : goal.file_hash-requires
file_hash-requires c =
    let h = c.args.self.now in
    let bytes = c.requires.hashing.0 in
    let is = c.requires.hashing.1 in
    let are = hashing_ends h.chunker h.leaves.items h.byte_count h.max_bytes bytes is c.split_rest.new.leaves.items c.in_ok-split_rest.ensures.leaves in
    total_small h.chunker h.leaves.items h.byte_count h.max_bytes bytes is c.deref.result.now (c.deref.ensures.value ∙ are)

pub returns-clause-info : goal.returns-clause-info
returns-clause-info c = λ bytes is.
    let h = c.args.self.now in
    let are = hashing_ends h.chunker h.leaves.items h.byte_count h.max_bytes bytes is c.split_rest.new.leaves.items c.in_ok-split_rest.ensures.leaves in
    info_of_all h.chunker.settings bytes c.in_ok-hash.hash h.byte_count c.deref.result.now c.in_ok-hash.ensures.hash (c.deref.ensures.value ∙ are) is.counted
