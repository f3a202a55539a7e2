use Rattle.std.proofs.Common.{◌≡◌, ◌∙◌, ℕ, zero, suc, ◌<◌, List, [], ◌∷◌, length, get_or, replicate, refl, arith}
use Rattle.xet_shard_directory.specs.Values.{no_info}
use Rattle.xet_shard_directory.proofs.shard_file.MDBShardFile.default.Goals as goal

zeros : (xs : List ℕ) (n : ℕ) → length xs ≡ n → ((i d : ℕ) → i < n → get_or xs i d ≡ 0) → xs ≡ replicate n 0
zeros [] zero long at = refl
zeros [] (suc n) long at = absurd (omega arith)
zeros (x ∷ xs) zero long at = absurd (omega arith)
zeros (x ∷ xs) (suc n) long at =
    let first : x ≡ 0 = at 0 0 (omega arith) in
    let rest : xs ≡ replicate n 0 = zeros xs n (omega arith) (λ i d below. at (suc i) d (omega arith)) in
    λ i. first i ∷ rest i

pub returns : goal.returns
returns c =
    let tag = zeros c.default-2.result.header.tag 32 c.default-2.ensures.0.0.long c.default-2.ensures.0.0.at in
    let path = c.new-2.ensures ∙ c.new.ensures.bytes in
    let f = c.default-2.ensures.1 in
    let metadata : c.default-2.result.metadata ≡ no_info.metadata = λ i. record {
      version = f.0 i;
      file_info_offset = f.1.0 i;
      xorb_info_offset = f.1.1.0 i;
      file_lookup_offset = f.1.1.1.0 i;
      file_lookup_num_entry = f.1.1.1.1.0 i;
      xorb_lookup_offset = f.1.1.1.1.1.0 i;
      xorb_lookup_num_entry = f.1.1.1.1.1.1.0 i;
      chunk_lookup_offset = f.1.1.1.1.1.1.1.0 i;
      chunk_lookup_num_entry = f.1.1.1.1.1.1.1.1.0 i;
      chunk_hash_hmac_key = f.1.1.1.1.1.1.1.1.1.0 i;
      shard_creation_timestamp = f.1.1.1.1.1.1.1.1.1.1.0 i;
      shard_key_expiry = f.1.1.1.1.1.1.1.1.1.1.1.0 i;
      stored_bytes_on_disk = f.1.1.1.1.1.1.1.1.1.1.1.1.0 i;
      materialized_bytes = f.1.1.1.1.1.1.1.1.1.1.1.1.1.0 i;
      stored_bytes = f.1.1.1.1.1.1.1.1.1.1.1.1.1.1.0 i;
      footer_offset = f.1.1.1.1.1.1.1.1.1.1.1.1.1.1.1 i;
    } in
    let header : c.default-2.result.header ≡ no_info.header = λ i. record { tag = tag i; version = c.default-2.ensures.0.1.0 i; footer_size = c.default-2.ensures.0.1.1 i } in
    λ i. record { shard_hash = c.default.ensures i; path = path i; shard = record { header = header i; metadata = metadata i }; last_modified_time = 0 }
