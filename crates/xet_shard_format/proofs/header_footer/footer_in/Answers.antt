use Rattle.xet_shard_format.specs.Reading.{footer_in}
use Rattle.xet_shard_format.proofs.header_footer.footer_in.Goals as goal

pub returns : goal.returns
unfolding footer_in
returns c = λ i. record {
  version = c.word.ensures i;
  file_info_offset = c.word-2.ensures i;
  xorb_info_offset = c.word-3.ensures i;
  file_lookup_offset = c.word-4.ensures i;
  file_lookup_num_entry = c.word-5.ensures i;
  xorb_lookup_offset = c.word-6.ensures i;
  xorb_lookup_num_entry = c.word-7.ensures i;
  chunk_lookup_offset = c.word-8.ensures i;
  chunk_lookup_num_entry = c.word-9.ensures i;
  chunk_hash_hmac_key = c.hash_at.ensures i;
  shard_creation_timestamp = c.word-10.ensures i;
  shard_key_expiry = c.word-11.ensures i;
  stored_bytes_on_disk = c.word-12.ensures i;
  materialized_bytes = c.word-13.ensures i;
  stored_bytes = c.word-14.ensures i;
  footer_offset = c.word-15.ensures i;
}
