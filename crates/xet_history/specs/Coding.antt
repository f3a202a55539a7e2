-- Codes of entries and of cores, which the toolchain requires of a model (`ghost coded`).
use Rattle.std.specs.Prelude.{ℕ, zero, suc, ◌≡◌, ◌⊎◌, Bool, List, Option, refl}
use Rattle.std.proofs.Common.{inl, inr}
use Rattle.std.specs.Coded.{Coded, code_by, coded×, coded⊎, coded_ℕ, coded_bool, coded_list, coded_option}
use Rattle.xet_shard_format.specs.Encoding.{Shard, shard}
use Rattle.xet_shard_format.specs.declared.record.FileDataSequenceEntry.{FileDataSequenceEntry as Segment}
use Rattle.xet_shard_format.specs.declared.record.FileMetadataExt.{FileMetadataExt}
use Rattle.xet_shard_format.specs.declared.record.FileVerificationEntry.{FileVerificationEntry}
use Rattle.xet_shard_format.specs.declared.record.MDBFileInfo.{MDBFileInfo}
use Rattle.xet_shard_format.specs.declared.record.MDBXorbInfo.{MDBXorbInfo}
use Rattle.xet_shard_format.specs.declared.record.XorbChunkSequenceEntry.{XorbChunkSequenceEntry}
use Rattle.xet_shard.specs.Held.{Held}
use Rattle.xet_folder.specs.Xorbs.{FileRecords, Xorbs}
use Rattle.xet_history.specs.Core.{Core, RegisteredShard}
use Rattle.xet_history.specs.declared.entry.Entry.{Entry}
use Rattle.xet_history.specs.declared.entry.Entry.TheVariants.{Query, Register, Complete, Flush, Fault}
use Rattle.xet_history.specs.declared.entry.Run.{Run}
use Rattle.xet_history.specs.declared.entry.StepKind.{StepKind}
use Rattle.xet_history.specs.declared.entry.StepKind.TheVariants as kind

abbrev pub Pair : Type 0
Pair = ℕ × ℕ

abbrev pub pair_code : Coded Pair
pair_code = coded× coded_ℕ coded_ℕ

-- bytes, such as a hash
abbrev pub Bytes : Type 0
Bytes = List ℕ

abbrev pub bytes_code : Coded Bytes
bytes_code = coded_list coded_ℕ

-- the hashes and lengths of chunks
abbrev pub Leaves : Type 0
Leaves = List (Bytes × ℕ)

abbrev pub leaves_code : Coded Leaves
leaves_code = coded_list (coded× bytes_code coded_ℕ)

-- ---- records

abbrev pub segment_code : Coded Segment
segment_code = code_by (Bytes × (Pair × Pair)) (coded× bytes_code (coded× pair_code pair_code))
    (λ s. (s.xorb_hash, ((s.xorb_flags, s.unpacked_segment_bytes), (s.chunk_index_start, s.chunk_index_end))))
    (λ p. record { xorb_hash = p.0; xorb_flags = p.1.0.0; unpacked_segment_bytes = p.1.0.1; chunk_index_start = p.1.1.0; chunk_index_end = p.1.1.1 })
    (λ _. refl)

abbrev pub chunk_code : Coded XorbChunkSequenceEntry
chunk_code = code_by (Bytes × Pair) (coded× bytes_code pair_code)
    (λ c. (c.chunk_hash, (c.chunk_byte_range_start, c.unpacked_segment_bytes)))
    (λ p. record { chunk_hash = p.0; chunk_byte_range_start = p.1.0; unpacked_segment_bytes = p.1.1 })
    (λ _. refl)

abbrev pub block_code : Coded MDBXorbInfo
block_code = code_by ((Bytes × (Pair × Pair)) × List XorbChunkSequenceEntry) (coded× (coded× bytes_code (coded× pair_code pair_code)) (coded_list chunk_code))
    (λ b. ((b.metadata.xorb_hash, ((b.metadata.xorb_flags, b.metadata.num_entries), (b.metadata.num_bytes_in_xorb, b.metadata.num_bytes_on_disk))), b.chunks))
    (λ p. record {
      metadata = record { xorb_hash = p.0.0; xorb_flags = p.0.1.0.0; num_entries = p.0.1.0.1; num_bytes_in_xorb = p.0.1.1.0; num_bytes_on_disk = p.0.1.1.1 };
      chunks = p.1;
    })
    (λ _. refl)

abbrev pub verification_code : Coded FileVerificationEntry
verification_code = code_by Bytes bytes_code (λ v. v.range_hash) (λ h. record { range_hash = h }) (λ _. refl)

abbrev pub ext_code : Coded FileMetadataExt
ext_code = code_by Bytes bytes_code (λ m. m.sha256) (λ h. record { sha256 = h }) (λ _. refl)

abbrev pub record_code : Coded MDBFileInfo
record_code = code_by ((Bytes × Pair) × (List Segment × (List FileVerificationEntry × Option FileMetadataExt)))
    (coded× (coded× bytes_code pair_code) (coded× (coded_list segment_code) (coded× (coded_list verification_code) (coded_option ext_code))))
    (λ f. ((f.metadata.file_hash, (f.metadata.file_flags, f.metadata.num_entries)), (f.segments, (f.verification, f.metadata_ext))))
    (λ p. record {
      metadata = record { file_hash = p.0.0; file_flags = p.0.1.0; num_entries = p.0.1.1 };
      segments = p.1.0;
      verification = p.1.1.0;
      metadata_ext = p.1.1.1;
    })
    (λ _. refl)

-- ---- a core

abbrev pub xorbs_code : Coded Xorbs
xorbs_code = coded_list (coded× bytes_code leaves_code)

abbrev pub records_code : Coded FileRecords
records_code = coded_list (coded× bytes_code record_code)

abbrev pub held_code : Coded Held
held_code = code_by (List MDBXorbInfo × List MDBFileInfo) (coded× (coded_list block_code) (coded_list record_code)) (λ h. (h.blocks, h.files)) (λ p. record { blocks = p.0; files = p.1 }) (λ _. refl)

abbrev pub shard_code : Coded Shard
shard_code = code_by ((List MDBXorbInfo × List MDBFileInfo) × (Bytes × Pair)) (coded× (coded× (coded_list block_code) (coded_list record_code)) (coded× bytes_code pair_code))
    (λ s. ((s.blocks, s.files), (s.key, (s.creation, s.expiry))))
    (λ p. shard p.0.0 p.0.1 p.1.0 p.1.1.0 p.1.1.1)
    (λ _. refl)

abbrev pub registered_code : Coded RegisteredShard
registered_code = code_by (Bytes × Shard) (coded× bytes_code shard_code) (λ s. (s.hash, s.contents)) (λ p. record { hash = p.0; contents = p.1 }) (λ _. refl)

abbrev pub core_code : Coded Core
core_code = code_by ((Xorbs × FileRecords) × ((Held × List RegisteredShard) × Pair))
    (coded× (coded× xorbs_code records_code) (coded× (coded× held_code (coded_list registered_code)) pair_code))
    (λ c. ((c.xorbs, c.records), ((c.pending, c.shards), (c.opened, c.index_cap))))
    (λ p. record { xorbs = p.0.0; records = p.0.1; pending = p.1.0.0; shards = p.1.0.1; opened = p.1.1.0; index_cap = p.1.1.1 })
    (λ _. refl)

-- ---- entries

abbrev pub run_code : Coded Run
run_code = code_by (Bytes × (Pair × ℕ)) (coded× bytes_code (coded× pair_code coded_ℕ)) (λ r. (r.xorb, ((r.from, r.to), r.bytes))) (λ p. record { xorb = p.0; from = p.1.0.0; to = p.1.0.1; bytes = p.1.1 }) (λ _. refl)

abbrev pub kind_index : StepKind → ℕ
kind_index kind.Query = 0
kind_index kind.Register = 1
kind_index kind.Complete = 2
kind_index kind.Flush = 3

abbrev pub kind_at : ℕ → StepKind
kind_at zero = kind.Query
kind_at (suc zero) = kind.Register
kind_at (suc (suc zero)) = kind.Complete
kind_at (suc (suc (suc n))) = kind.Flush

pub kind_back : (k : StepKind) → kind_at (kind_index k) ≡ k
kind_back kind.Query = refl
kind_back kind.Register = refl
kind_back kind.Complete = refl
kind_back kind.Flush = refl

abbrev pub kind_code : Coded StepKind
kind_code = code_by ℕ coded_ℕ kind_index kind_at kind_back

abbrev pub Parts : Type 0
Parts = (ℕ × (List Bytes × Option Run)) ⊎ (((ℕ × Bool) × (Leaves × Leaves)) ⊎ (((ℕ × Bool) × MDBFileInfo) ⊎ ((ℕ × Bytes) ⊎ (ℕ × StepKind))))

abbrev pub parts_code : Coded Parts
parts_code = coded⊎ (coded× coded_ℕ (coded× (coded_list bytes_code) (coded_option run_code)))
    (coded⊎ (coded× (coded× coded_ℕ coded_bool) (coded× leaves_code leaves_code)) (coded⊎ (coded× (coded× coded_ℕ coded_bool) record_code) (coded⊎ (coded× coded_ℕ bytes_code) (coded× coded_ℕ kind_code))))

abbrev pub parts_of : Entry → Parts
parts_of (Query pass hashes reply) = inl (pass, (hashes, reply))
parts_of (Register pass chunks next added) = inr (inl ((pass, added), (chunks, next)))
parts_of (Complete pass file added) = inr (inr (inl ((pass, added), file)))
parts_of (Flush pass shard) = inr (inr (inr (inl (pass, shard))))
parts_of (Fault pass kind) = inr (inr (inr (inr (pass, kind))))

abbrev pub entry_of_parts : Parts → Entry
entry_of_parts (inl p) = Query p.0 p.1.0 p.1.1
entry_of_parts (inr (inl p)) = Register p.0.0 p.1.0 p.1.1 p.0.1
entry_of_parts (inr (inr (inl p))) = Complete p.0.0 p.1 p.0.1
entry_of_parts (inr (inr (inr (inl p)))) = Flush p.0 p.1
entry_of_parts (inr (inr (inr (inr p)))) = Fault p.0 p.1

pub entry_of_parts-parts_of : (e : Entry) → entry_of_parts (parts_of e) ≡ e
entry_of_parts-parts_of (Query pass hashes reply) = refl
entry_of_parts-parts_of (Register pass chunks next added) = refl
entry_of_parts-parts_of (Complete pass file added) = refl
entry_of_parts-parts_of (Flush pass shard) = refl
entry_of_parts-parts_of (Fault pass kind) = refl

abbrev pub entry_code : Coded Entry
entry_code = code_by Parts parts_code parts_of entry_of_parts entry_of_parts-parts_of

abbrev pub history_code : Coded (List Entry)
history_code = coded_list entry_code
