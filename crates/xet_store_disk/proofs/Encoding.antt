-- A raw xorb that is new, encoded.
use Rattle.std.proofs.Common.{◌≡◌, ◌≢◌, ◌∙◌, ℕ, ◌+◌, ◌<◌, ◌≤◌, ◌^◌, arith, List, [], ◌∷◌, length, map, refl, sym, ap, subst}
use Rattle.std.specs.List.{AllByRecursion}
use Rattle.std.proofs.lemmas.List.{length-map}
use Rattle.std.proofs.lemmas.List.Elements.{All-from_recursion}
use Rattle.std.proofs.lemmas.List.Sums.{sum_by-cons}
use Rattle.xet_hash.specs.Merkle.{chunk_hash, leaves_of, total_len, xorb_hash}
use Rattle.xet_xorb_chunk.specs.declared.chunk.Chunk.{Chunk}
use Rattle.xet_xorb_chunk.specs.Chunks.{bytes_of_chunk, chunk_leaf, total}
use Rattle.xet_xorb_chunk.specs.theorems.Grammar.{leaves_are, total-bytes}
use Rattle.xet_xorb.specs.Xorb.{IsXorbEncoding}
use Rattle.xet_xorb.specs.declared.raw.RawXorbData.{RawXorbData}
use Rattle.xet_xorb.specs.Raw.{ArePartsOfXorb, IsRaw, raw_leaves, raw_of}
use Rattle.xet_shard_format.specs.declared.record.MDBXorbInfo.{MDBXorbInfo}
use Rattle.xet_folder.specs.Runs.{stored_len}
use Rattle.xet_folder.specs.theorems.Placing.{stored_is}
use Rattle.xet_dedup.specs.Records.{entries_from, xorb_record}
use Rattle.xet_dedup_queries.specs.Registering.{IsNewXorb, max_chunk_len}
use Rattle.xet_store_disk.specs.DueXorb.{DueXorbValue, IsDueXorb, due_xorb}
use Rattle.xet_store_disk.proofs.Pending.{entries_leaves}

abbrev Leaves : Type 0
Leaves = List (List ℕ × ℕ)

all_readable : (chunks : List Chunk) → AllByRecursion (λ c. length c.bytes ≤ max_chunk_len) chunks → AllByRecursion (λ b. length b < 2 ^ 23) (map bytes_of_chunk chunks)
all_readable [] h = tt
all_readable (c ∷ cs) h = (let here = h.0 in omega arith, all_readable cs h.1)

-- the hash and the record of a raw xorb of chunks
module _ (raw : RawXorbData) (chunks : List Chunk) (boundaries : List ℕ) (exact : raw ≡ raw_of chunks boundaries) (h : List ℕ) (hash : h ≡ raw.xorb_info.metadata.xorb_hash) where
  pub raw_hash : h ≡ xorb_hash (map chunk_leaf chunks)
  raw_hash = hash ∙ ap (λ (r : RawXorbData). r.xorb_info.metadata.xorb_hash) exact

  pub raw_block : (block : MDBXorbInfo) (ms : Leaves) → ms ≡ map chunk_leaf chunks → block ≡ raw.xorb_info → block ≡ xorb_record h ms
  raw_block block ms same copied =
      copied ∙ ap (λ (r : RawXorbData). r.xorb_info) exact ∙ ap (λ (x : List ℕ). xorb_record x (map chunk_leaf chunks)) (sym raw_hash) ∙ ap (xorb_record h) (sym same)

  -- its text is a xorb of their bytes
  pub raw_encoding : (encoding : List ℕ) → AllByRecursion (λ c. c.hash ≡ chunk_hash c.bytes) chunks → 0 < length chunks → raw_leaves raw ≡ map chunk_leaf chunks
      → (0 < length raw.parts → raw_leaves raw ≡ leaves_of raw.parts → raw.xorb_info.metadata.xorb_hash ≡ xorb_hash (leaves_of raw.parts) → IsXorbEncoding encoding raw.parts) → IsXorbEncoding encoding (map bytes_of_chunk chunks)
  raw_encoding encoding digests some leaves is_text =
      let parts : raw.parts ≡ map bytes_of_chunk chunks = ap (λ (r : RawXorbData). r.parts) exact in
      let same : map chunk_leaf chunks ≡ leaves_of raw.parts = leaves_are chunks (All-from_recursion _ chunks digests) ∙ ap leaves_of (sym parts) in
      let many : length raw.parts ≡ length chunks = ap length parts ∙ length-map chunks bytes_of_chunk in
      subst (λ (l : List (List ℕ)). IsXorbEncoding encoding l) parts (is_text (omega arith) (leaves ∙ same) (sym hash ∙ raw_hash ∙ ap xorb_hash same))

-- chunks that a xorb may have
pub parts_fit : (chunks : List Chunk) → AllByRecursion (λ c. length c.bytes ≤ max_chunk_len) chunks → length chunks ≤ 65536 → total chunks ≤ 2 ^ 30 → ArePartsOfXorb (map bytes_of_chunk chunks)
parts_fit chunks small count bytes = record {
  count = let many = length-map chunks bytes_of_chunk in omega arith;
  small = small_parts chunks small;
  total = let all = total-bytes chunks in omega arith;
}
  where
    small_parts : (cs : List Chunk) → AllByRecursion (λ c. length c.bytes ≤ max_chunk_len) cs → AllByRecursion (λ p. length p < 2 ^ 24) (map bytes_of_chunk cs)
    small_parts [] all = tt
    small_parts (c ∷ cs) all = (let here = all.0 in omega arith, small_parts cs all.1)

some_chunks : (chunks : List Chunk) → chunks ≢ [] → 0 < length chunks
some_chunks [] some = absurd (some refl)
some_chunks (c ∷ cs) some = omega arith

-- the leaves of a raw xorb of chunks
pub raw_leaves_are : (raw : RawXorbData) (chunks : List Chunk) (boundaries : List ℕ) → raw ≡ raw_of chunks boundaries → raw_leaves raw ≡ map chunk_leaf chunks
raw_leaves_are raw chunks boundaries exact = ap raw_leaves exact ∙ entries_leaves 0 (map chunk_leaf chunks)

total_of : (chunks : List Chunk) → total_len (map chunk_leaf chunks) ≡ total chunks
total_of [] = refl
total_of (c ∷ cs) = omega (arith, sum_by-cons (λ (m : List ℕ × ℕ). m.1) (chunk_leaf c) (map chunk_leaf cs), sum_by-cons (λ (d : Chunk). length d.bytes) c cs, total_of cs)

-- the recorded lengths are those of the parts
lengths_listed : (at : ℕ) (chunks : List Chunk) → map length (map bytes_of_chunk chunks) ≡ map (λ c. c.unpacked_segment_bytes) (entries_from at (map chunk_leaf chunks))
lengths_listed at [] = refl
lengths_listed at (c ∷ cs) = ap (λ (l : List ℕ). length c.bytes ∷ l) (lengths_listed (at + length c.bytes) cs)

-- a raw xorb that is new, encoded
module _ (raw : RawXorbData) (new : IsNewXorb (2 ^ 30, 65536) raw) (h : List ℕ) (hash : h ≡ raw.xorb_info.metadata.xorb_hash) (ms : Leaves) (leaves : ms ≡ raw_leaves raw) where
  abbrev own : Leaves
  own = map chunk_leaf new.chunks

  ms_are : ms ≡ own
  ms_are = leaves ∙ raw_leaves_are raw new.chunks new.boundaries new.made

  pub due_block : raw.xorb_info ≡ xorb_record h ms
  due_block = raw_block raw new.chunks new.boundaries new.made h hash raw.xorb_info ms ms_are refl

  pub due_of_raw : (encoding : List ℕ) → (0 < length raw.parts → raw_leaves raw ≡ leaves_of raw.parts → raw.xorb_info.metadata.xorb_hash ≡ xorb_hash (leaves_of raw.parts) → IsXorbEncoding encoding raw.parts)
      → IsDueXorb (due_xorb h ms encoding)
  due_of_raw encoding grammar =
      let same : own ≡ leaves_of (map bytes_of_chunk new.chunks) = leaves_are new.chunks (All-from_recursion _ new.chunks new.hashed) in record {
        chunks = map bytes_of_chunk new.chunks;
        encoded = raw_encoding raw new.chunks new.boundaries new.made h hash encoding new.hashed (some_chunks new.chunks new.some) (raw_leaves_are raw new.chunks new.boundaries new.made) grammar;
        readable = all_readable new.chunks new.small;
        same = sym (ms_are ∙ same);
        hashed = ap xorb_hash ms_are ∙ sym (raw_hash raw new.chunks new.boundaries new.made h hash);
        few = let many = length-map new.chunks chunk_leaf in let count = ap length ms_are in let bound = new.count in omega arith;
      }

  -- its parts are within the limits, and have the recorded lengths
  pub due_raw : IsRaw raw
  due_raw =
      let bytes : total new.chunks ≤ 2 ^ 30 =
      let bound = new.bytes in let same = ap total_len (raw_leaves_are raw new.chunks new.boundaries new.made) in let all = total_of new.chunks in omega arith in
      subst IsRaw (sym new.made) (record { parts = parts_fit new.chunks new.small new.count bytes; listed = lengths_listed 0 new.chunks })

  -- its chunks are stored in fewer than 2 ^ 32 bytes
  pub due_below : stored_len ms < 2 ^ 32
  due_below =
      let count = ap length leaves in let bytes = new.bytes in let few = new.count in let many = length-map new.chunks chunk_leaf in let length_is = ap length ms_are in
      let total : total_len ms ≡ total_len (raw_leaves raw) = ap total_len leaves in
      omega (arith, stored_is ms)

-- the same xorb by other names
pub due_at : (d : DueXorbValue) (h encoding : List ℕ) → h ≡ d.hash → encoding ≡ d.encoding → IsDueXorb d → IsDueXorb (due_xorb h d.leaves encoding)
due_at d h encoding same text due = let path : d ≡ due_xorb h d.leaves encoding = λ i. due_xorb (sym same i) d.leaves (sym text i) in subst IsDueXorb path due
