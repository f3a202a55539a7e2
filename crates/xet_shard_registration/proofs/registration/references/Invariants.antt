use Rattle.std.proofs.Common.{◌≡◌, Bor, map, take}
use Rattle.xet_shard_directory.specs.declared.shard_file.MDBShardFile.{MDBShardFile}
use Rattle.xet_shard_registration.proofs.registration.references.Given as goal

abbrev pub invariant-loop-file : goal.invariant-loop-file
invariant-loop-file l = map (λ (a : Bor MDBShardFile). a.now) l.listed.items ≡ take l.file-index l.files
