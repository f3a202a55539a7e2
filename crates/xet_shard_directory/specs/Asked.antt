-- The answers of queries to the bytes of a shard file, unless the disk failed or memory was out.
use Rattle.std.specs.Prelude.{ℕ, nat_le, nat_lt, List, Option, Result}
use Rattle.xet_hash.specs.declared.error.StoreError.{StoreError}
use Rattle.xet_shard.specs.Queries.{chunk_table, direct_run, file_table, found_file, found_run, query_word, xorb_table}
use Rattle.xet_shard.specs.declared.info.MDBShardInfo.{MDBShardInfo}
use Rattle.xet_shard_directory.specs.Answers.{AnswersUnlessDisk}
use Rattle.xet_shard_format.specs.Records.{first_word}
use Rattle.xet_shard_format.specs.declared.record.FileDataSequenceEntry.{FileDataSequenceEntry}
use Rattle.xet_shard_format.specs.declared.record.MDBFileInfo.{MDBFileInfo}

-- the file of a hash
abbrev pub AnswersFile : MDBShardInfo → List ℕ → List ℕ → Result (Option MDBFileInfo) StoreError → Type 0
AnswersFile shard hash bytes result =
    AnswersUnlessDisk (λ i. nat_lt i.0 (first_word hash)) (file_table shard.metadata bytes) result (λ index. found_file shard.metadata hash index bytes)

-- the run of a query
abbrev pub AnswersRun : MDBShardInfo → List (List ℕ) → List ℕ → Result (Option (ℕ × FileDataSequenceEntry)) StoreError → Type 0
AnswersRun shard query bytes result =
    AnswersUnlessDisk (λ i. nat_le i.0 (query_word shard.metadata query)) (chunk_table shard.metadata bytes) result (λ index. found_run shard.metadata query index bytes)

-- the run of a query at a given row and index
abbrev pub AnswersRunAt : MDBShardInfo → List (List ℕ) → ℕ → ℕ → List ℕ → Result (Option (ℕ × FileDataSequenceEntry)) StoreError → Type 0
AnswersRunAt shard query row place bytes result =
    AnswersUnlessDisk (λ i. nat_lt i.1 row) (xorb_table shard.metadata bytes) result (λ index. direct_run shard.metadata query row place index bytes)
