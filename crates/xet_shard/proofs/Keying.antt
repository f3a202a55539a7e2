-- What is changed in place, one after the other; xorbs whose chunks are hashed again.
use Rattle.std.proofs.Common.{◌≡◌, ◌∙◌, ℕ, zero, suc, ◌+◌, ◌<◌, ◌≤◌, ◌^◌, List, [], ◌∷◌, ◌++◌, length, drop, get_or, map, set, take, Option, Some, refl, sym, ap, arith}
use Rattle.std.proofs.lemmas.List.{length-map}
use Rattle.std.proofs.Math.Seq.{take-append_seam}
use Rattle.std.proofs.lemmas.List.Sums.{sum_by-cons}
use Rattle.xet_shard_format.specs.declared.record.MDBXorbInfo.{MDBXorbInfo}
use Rattle.xet_shard_format.specs.declared.record.XorbChunkSequenceEntry.{XorbChunkSequenceEntry}
use Rattle.xet_shard.specs.Export.{keyed_block, keyed_chunk}
use Rattle.xet_shard_format.specs.Records.{AreRecords, IsXorb, StartAt, chunk_bytes, chunk_row, xorb_record_hash, xorb_rows, xorb_section}
use Rattle.xet_shard_format.specs.theorems.Counts.{length-section}

-- ---- one after the other

-- the first ones changed, the others as they are
unfoldable pub changed : {X : Type 0} → (X → X) → ℕ → List X → List X
changed f zero xs = xs
changed f (suc n) [] = []
changed f (suc n) (x ∷ xs) = f x ∷ changed f n xs

pub changed_none : {X : Type 0} (f : X → X) (xs : List X) → xs ≡ changed f 0 xs
unfolding changed
changed_none f xs = refl

next_changed : {X : Type 0} (f : X → X) (xs : List X) (n : ℕ) (d : X) → n < length xs → set (changed f n xs) n (f (get_or (changed f n xs) n d)) ≡ changed f (suc n) xs
unfolding changed
next_changed f [] n d lt = absurd (omega arith)
next_changed f (x ∷ xs) zero d lt = refl
next_changed f (x ∷ xs) (suc n) d lt = ap (λ (ys : List _). f x ∷ ys) (next_changed f xs n d (omega arith))

-- the next one is changed
pub changed_more : {X : Type 0} (f : X → X) (xs now : List X) (n : ℕ) (d new : X) → n < length xs → now ≡ changed f n xs → new ≡ f (get_or now n d) → set now n new ≡ changed f (n + 1) xs
changed_more {X} f xs now n d new lt e made =
    let next : suc n ≡ n + 1 = omega arith in
    ap (set now n) made ∙ ap (λ (ys : List X). set ys n (f (get_or ys n d))) e ∙ next_changed f xs n d lt ∙ ap (λ (k : ℕ). changed f k xs) next

pub changed_all : {X : Type 0} (f : X → X) (xs : List X) (n : ℕ) → length xs ≤ n → changed f n xs ≡ map f xs
unfolding changed
changed_all f [] zero le = refl
changed_all f [] (suc n) le = refl
changed_all f (x ∷ xs) zero le = absurd (omega arith)
changed_all f (x ∷ xs) (suc n) le = ap (λ (ys : List _). f x ∷ ys) (changed_all f xs n (omega arith))

-- ---- the form of what is hashed again

starts_keyed : (key : List ℕ) (at : ℕ) (cs : List XorbChunkSequenceEntry) → StartAt at cs → StartAt at (map (keyed_chunk key) cs)
starts_keyed key at [] starts = tt
starts_keyed key at (c ∷ cs) starts = (starts.0, starts_keyed key (at + c.unpacked_segment_bytes) cs starts.1)

bytes_keyed : (key : List ℕ) (cs : List XorbChunkSequenceEntry) → chunk_bytes (map (keyed_chunk key) cs) ≡ chunk_bytes cs
bytes_keyed key [] = refl
bytes_keyed key (c ∷ cs) =
    let size : XorbChunkSequenceEntry → ℕ = λ c. c.unpacked_segment_bytes in
    sum_by-cons size (keyed_chunk key c) (map (keyed_chunk key) cs) ∙ ap (λ (n : ℕ). c.unpacked_segment_bytes + n) (bytes_keyed key cs) ∙ sym (sum_by-cons size c cs)

form_keyed : (key : List ℕ) (x : MDBXorbInfo) → IsXorb x → IsXorb (keyed_block key x)
form_keyed key x form = record {
  counted = form.counted ∙ sym (length-map x.chunks (keyed_chunk key));
  plain = form.plain;
  starts = starts_keyed key 0 x.chunks form.starts;
  total = form.total ∙ sym (bytes_keyed key x.chunks);
  on_disk = form.on_disk;
}

pub records_keyed : (key : List ℕ) (last : Option (List ℕ)) (blocks : List MDBXorbInfo) → AreRecords xorb_record_hash IsXorb last blocks → AreRecords xorb_record_hash IsXorb last (map (keyed_block key) blocks)
records_keyed key last [] r = tt
records_keyed key last (x ∷ xs) r = (r.0, r.1, form_keyed key x r.2, records_keyed key (Some (xorb_record_hash x)) xs r.3)

length_rows : (x : MDBXorbInfo) → length (xorb_rows x) ≡ suc (length x.chunks)
length_rows x = ap suc (length-map x.chunks chunk_row)

rows_keyed : (key : List ℕ) (blocks : List MDBXorbInfo) → length (xorb_section (map (keyed_block key) blocks)) ≡ length (xorb_section blocks)
rows_keyed key [] = refl
rows_keyed key (x ∷ xs) =
    omega (arith, length-section xorb_rows (keyed_block key x) (map (keyed_block key) xs), length-section xorb_rows x xs, rows_keyed key xs, length-map x.chunks (keyed_chunk key), length_rows (keyed_block key x), length_rows x)

pub few_keyed : (key : List ℕ) (blocks keyed : List MDBXorbInfo) → keyed ≡ map (keyed_block key) blocks → length (xorb_section blocks) < 2 ^ 32 → length (xorb_section keyed) < 2 ^ 32
few_keyed key blocks keyed e few = omega (arith, ap (λ (xs : List MDBXorbInfo). length (xorb_section xs)) e, rows_keyed key blocks, few)

-- ---- what is written back

pub written_back : {X : Type 0} (n : ℕ) (new old : List X) → n ≡ length new → take n (new ++ drop (length new) old) ≡ new
written_back n new old e = ap (λ (k : ℕ). take k (new ++ drop (length new) old)) e ∙ take-append_seam new (drop (length new) old)
