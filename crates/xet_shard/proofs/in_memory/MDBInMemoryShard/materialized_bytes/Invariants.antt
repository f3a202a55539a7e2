use Rattle.std.proofs.Common.{◌≡◌, ◌+◌, ◌*◌, ◌≤◌, ◌<◌, ◌^◌, length}
use Rattle.xet_shard_format.specs.Records.{file_section}
use Rattle.xet_shard_format.specs.Encoding.{materialized}
use Rattle.xet_shard.proofs.in_memory.MDBInMemoryShard.materialized_bytes.Given as goal

abbrev pub invariant-loop-file : goal.invariant-loop-file
invariant-loop-file l = record {
  total : l.total + materialized l.file-iterator ≡ materialized l.self.files;
  small : l.total + 2 ^ 32 * length (file_section l.file-iterator) ≤ 2 ^ 32 * length (file_section l.self.files);
  few : length (file_section l.file-iterator) < 2 ^ 32;
}
