-- The value of a shard file: its hash, its path, its header and footer, and its modification time.
use Rattle.std.specs.Prelude.{◌==◌, ◌+◌, ◌-◌, ◌^◌, ℕ, Bool, true, not, min, List, [], ◌∷◌, length, replicate, Option, Some, None, Result, Ok, if◌then◌else◌}
use Rattle.xet_codec.specs.Parsing.{◌>>=◌}
use Rattle.xet_hash.specs.Hash.{zero_hash}
use Rattle.xet_hash.specs.declared.error.StoreError.{StoreError}
use Rattle.xet_io.specs.Disk.{File, Files, file_at}
use Rattle.xet_io.specs.Named.{is_plain}
use Rattle.xet_shard.specs.declared.info.MDBShardInfo.{MDBShardInfo}
use Rattle.xet_shard.specs.Sections.{info_at}
use Rattle.xet_shard_directory.specs.Answers.{in_file}
use Rattle.xet_shard_directory.specs.declared.shard_file.MDBShardFile.{MDBShardFile}

-- the part of a path after its last slash; all of it if it has none
unfoldable pub last_part : List ℕ → List ℕ
last_part [] = []
last_part (b ∷ bs) = if is_plain (b ∷ bs) then b ∷ bs else last_part bs

abbrev pub shard_value : List ℕ → List ℕ → MDBShardInfo → ℕ → MDBShardFile
shard_value hash path shard modified = record { shard_hash = hash; path = path; shard = shard; last_modified_time = modified }

-- a header and a footer of zeros
abbrev pub no_info : MDBShardInfo
no_info = record {
  header = record { tag = replicate 32 0; version = 0; footer_size = 0 };
  metadata = record {
    version = 0;
    file_info_offset = 0;
    xorb_info_offset = 0;
    file_lookup_offset = 0;
    file_lookup_num_entry = 0;
    xorb_lookup_offset = 0;
    xorb_lookup_num_entry = 0;
    chunk_lookup_offset = 0;
    chunk_lookup_num_entry = 0;
    chunk_hash_hmac_key = zero_hash;
    shard_creation_timestamp = 0;
    shard_key_expiry = 0;
    stored_bytes_on_disk = 0;
    materialized_bytes = 0;
    stored_bytes = 0;
    footer_offset = 0;
  };
}

-- the value of the file at a path, whose header and footer are known
abbrev pub placed : Files → List ℕ → List ℕ → MDBShardInfo → Result MDBShardFile StoreError
placed files hash path shard = in_file (file_at files path) (λ f. Ok (shard_value hash path shard f.modified))

-- the value of the shard file at a path, whose name has this hash
abbrev pub loaded : Files → List ℕ → List ℕ → Result MDBShardFile StoreError
loaded files hash path = in_file (file_at files path) (λ f. info_at f.bytes >>= λ shard. Ok (shard_value hash path shard f.modified))

-- the length of a shard in bytes, as its footer states it
abbrev pub stated_length : MDBShardInfo → ℕ
stated_length shard = min (shard.metadata.footer_offset + 200) (2 ^ 64 - 1)

-- whether a file is gone, or has another length than its footer states
abbrev pub is_stale : MDBShardInfo → Option File → Bool
is_stale shard None = true
is_stale shard (Some f) = not (length f.bytes == stated_length shard)
