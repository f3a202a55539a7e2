-- What a comparison of two entries of a record tells.
use Rattle.std.proofs.Common.{◌≡◌, nat_eq, ap}
use Rattle.std.specs.Prelude.{◌&&◌, ◌==◌}
use Rattle.std.specs.Bool.{Decides}
use Rattle.std.specs.Cmp.Lexicographic.{bytes_decides, pointwise}
use Rattle.std.proofs.lemmas.Bool.Decides.{Decides-and, Decides-eqb}
use Rattle.xet_shard_format.specs.declared.record.FileDataSequenceEntry.{FileDataSequenceEntry}
use Rattle.xet_shard_format.specs.declared.record.FileVerificationEntry.{FileVerificationEntry}
use Rattle.xet_shard_format.specs.declared.record.XorbChunkSequenceEntry.{XorbChunkSequenceEntry}

pub chunks_alike : (a b : XorbChunkSequenceEntry)
    → Decides (pointwise nat_eq a.chunk_hash b.chunk_hash && ((a.chunk_byte_range_start == b.chunk_byte_range_start) && (a.unpacked_segment_bytes == b.unpacked_segment_bytes))) (a ≡ b)
chunks_alike a b =
    let d = Decides-and _ _ (bytes_decides a.chunk_hash b.chunk_hash) (Decides-and _ _ (Decides-eqb a.chunk_byte_range_start b.chunk_byte_range_start) (Decides-eqb a.unpacked_segment_bytes b.unpacked_segment_bytes)) in (
      λ t i. record { chunk_hash = (d.0 t).0 i; chunk_byte_range_start = (d.0 t).1.0 i; unpacked_segment_bytes = (d.0 t).1.1 i },
      λ e. d.1 (ap (λ (c : XorbChunkSequenceEntry). c.chunk_hash) e, (ap (λ (c : XorbChunkSequenceEntry). c.chunk_byte_range_start) e, ap (λ (c : XorbChunkSequenceEntry). c.unpacked_segment_bytes) e)),
    )

pub segments_alike : (a b : FileDataSequenceEntry)
    → Decides (pointwise nat_eq a.xorb_hash b.xorb_hash && ((a.xorb_flags == b.xorb_flags) && ((a.unpacked_segment_bytes == b.unpacked_segment_bytes) && ((a.chunk_index_start == b.chunk_index_start) && (a.chunk_index_end == b.chunk_index_end))))) (a ≡ b)
segments_alike a b =
    let d = Decides-and _ _ (bytes_decides a.xorb_hash b.xorb_hash) (Decides-and _ _ (Decides-eqb a.xorb_flags b.xorb_flags) (Decides-and _ _ (Decides-eqb a.unpacked_segment_bytes b.unpacked_segment_bytes) (Decides-and _ _ (Decides-eqb a.chunk_index_start b.chunk_index_start) (Decides-eqb a.chunk_index_end b.chunk_index_end)))) in (
      λ t i. record { xorb_hash = (d.0 t).0 i; xorb_flags = (d.0 t).1.0 i; unpacked_segment_bytes = (d.0 t).1.1.0 i; chunk_index_start = (d.0 t).1.1.1.0 i; chunk_index_end = (d.0 t).1.1.1.1 i },
      λ e. d.1 (ap (λ (s : FileDataSequenceEntry). s.xorb_hash) e, (ap (λ (s : FileDataSequenceEntry). s.xorb_flags) e, (ap (λ (s : FileDataSequenceEntry). s.unpacked_segment_bytes) e, (ap (λ (s : FileDataSequenceEntry). s.chunk_index_start) e, ap (λ (s : FileDataSequenceEntry). s.chunk_index_end) e)))),
    )

pub verifications_alike : (a b : FileVerificationEntry) → Decides (pointwise nat_eq a.range_hash b.range_hash) (a ≡ b)
verifications_alike a b =
    let d = bytes_decides a.range_hash b.range_hash in
    (λ t i. record { range_hash = d.0 t i }, λ e. d.1 (ap (λ (v : FileVerificationEntry). v.range_hash) e))
