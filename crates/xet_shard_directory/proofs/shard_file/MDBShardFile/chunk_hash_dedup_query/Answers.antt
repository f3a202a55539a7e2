use Rattle.std.proofs.Common.{Option, Result, ℕ, sym, subst}
use Rattle.std.specs.Prelude.{IfOk, IfSome}
use Rattle.xet_hash.specs.declared.error.StoreError.{StoreError}
use Rattle.xet_shard.specs.RunForms.{IsRunFor}
use Rattle.xet_shard_directory.proofs.ThroughDisk.{ok_of_disk}
use Rattle.xet_shard_format.specs.declared.record.FileDataSequenceEntry.{FileDataSequenceEntry}
use Rattle.xet_shard_directory.proofs.shard_file.MDBShardFile.chunk_hash_dedup_query.Goals as goal

abbrev Run : Type 0
Run = Option (ℕ × FileDataSequenceEntry)

pub returns-clause-shape : goal.returns-clause-shape
returns-clause-shape g c =
    subst (λ (r : Result Run StoreError). IfOk r (λ run. IfSome run (IsRunFor c.args.query.now))) (sym c.of_disk.ensures)
    (ok_of_disk (λ (run : Run). IfSome run (IsRunFor c.args.query.now)) c.was_out_of_memory.result c.chunk_hash_dedup_query-answer.result c.chunk_hash_dedup_query-answer.ensures.shape)
