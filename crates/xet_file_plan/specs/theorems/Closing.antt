-- The open block is registered as a xorb: what lay in the block lies in the xorb.
use Rattle.std.proofs.Common.{◌≡◌, ◌≢◌, ◌∙◌, ℕ, ◌+◌, ◌≤◌, ◌<◌, ◌^◌, Bool, true, false, if◌then◌else◌, List, [], ◌∷◌, length, map, take, drop, sum, Option, Some, refl, sym, ap, subst, arith, nat_eq}
use Rattle.std.specs.Cmp.Lexicographic.{bytes_decides, pointwise}
use Rattle.std.proofs.lemmas.List.{drop-map, length-map, take-map}
use Rattle.std.proofs.lemmas.List.Sums.{sum-map, sum_by-cons}
use Rattle.xet_choices.specs.Choices.{hashes_of}
use Rattle.xet_dedup_queries.specs.Interface.{run_len}
use Rattle.xet_dedup_queries.specs.Registering.{EachPartStands, part_run}
use Rattle.xet_hash.specs.Hash.{sentinel}
use Rattle.xet_hash.specs.Merkle.{total_len}
use Rattle.xet_shard_format.specs.declared.record.FileDataSequenceEntry.{FileDataSequenceEntry as Segment}
use Rattle.xet_shard_format.specs.declared.record.XorbChunkSequenceEntry.{XorbChunkSequenceEntry}
use Rattle.xet_xorb.specs.Raw.{entries_from, raw_leaves, raw_of}
use Rattle.xet_xorb.specs.declared.raw.RawXorbData.{RawXorbData}
use Rattle.xet_xorb_chunk.specs.declared.chunk.Chunk.{Chunk}
use Rattle.xet_xorb_chunk.specs.Chunks.{chunk_leaf}
use Rattle.xet_xorb_chunk.specs.Chunks.{total as total_bytes}
use Rattle.xet_file_plan.specs.Moves.{filled, is_open}
use Rattle.xet_file_plan.specs.Placed.{HasHashes, LiesInBlock, LiesInXorb}
use Rattle.xet_file_plan.specs.Placed.IsMadeOf.{one}
use Rattle.xet_file_plan.specs.theorems.Placed.{closed_lies, has_hashes_closed, open_lies}
use Rattle.xet_file_plan.specs.theorems.Runs.{lies_stays, made_stays}

leaves_from : (at : ℕ) (ms : List (List ℕ × ℕ)) → map (λ (c : XorbChunkSequenceEntry). (c.chunk_hash, c.unpacked_segment_bytes)) (entries_from at ms) ≡ ms
leaves_from at [] = refl
leaves_from at (m ∷ ms) = ap (λ (l : List (List ℕ × ℕ)). m ∷ l) (leaves_from (at + m.1) ms)

-- the leaves of the xorb of some chunks
pub raw_leaves_of : (chunks : List Chunk) (boundaries : List ℕ) → raw_leaves (raw_of chunks boundaries) ≡ map chunk_leaf chunks
raw_leaves_of chunks boundaries = leaves_from 0 (map chunk_leaf chunks)

-- bytes of chunks and of their leaves
bytes_of_leaves : (chunks : List Chunk) → total_len (map chunk_leaf chunks) ≡ total_bytes chunks
bytes_of_leaves [] = refl
bytes_of_leaves (c ∷ chunks) =
    omega (arith, bytes_of_leaves chunks, sum_by-cons (λ (m : List ℕ × ℕ). m.1) (chunk_leaf c) (map chunk_leaf chunks), sum_by-cons (λ (d : Chunk). length d.bytes) c chunks)

pub run_len_filled : (hash : List ℕ) (s : Segment) → run_len (filled hash s) ≡ run_len s
run_len_filled hash s = by (is_open s)
  where
    by : (b : Bool) → run_len (if b then record s { xorb_hash = hash } else s) ≡ run_len s
    by true = refl
    by false = refl

module _ (listing listing' : List ℕ → Option (List ℕ)) (standing standing' : List (List ℕ) → Segment → Type 0)
    (lists : (h lengths : List ℕ) → listing h ≡ Some lengths → listing' h ≡ Some lengths) (stands : (hashes : List (List ℕ)) (run : Segment) → standing hashes run → standing' hashes run)
    (block : List Chunk) (x : RawXorbData) (leaves : raw_leaves x ≡ map chunk_leaf block)
    (named : x.xorb_info.metadata.xorb_hash ≢ sentinel) (listed : listing' x.xorb_info.metadata.xorb_hash ≡ Some (map (λ m. m.1) (raw_leaves x)))
    (parts : EachPartStands standing' x) (small : total_len (raw_leaves x) < 2 ^ 32) where
  abbrev hash : List ℕ
  hash = x.xorb_info.metadata.xorb_hash

  abbrev closed_segment : Segment → Segment
  closed_segment s = record s { xorb_hash = hash }

  -- the bytes of some chunks of the block
  bytes_there : (n start : ℕ) → total_len (take n (drop start (raw_leaves x))) ≡ total_bytes (take n (drop start block))
  bytes_there n start =
      ap (λ (ls : List (List ℕ × ℕ)). total_len (take n (drop start ls))) leaves
      ∙ ap (λ (ls : List (List ℕ × ℕ)). total_len (take n ls)) (drop-map chunk_leaf start block)
      ∙ ap total_len (take-map chunk_leaf n (drop start block))
      ∙ bytes_of_leaves (take n (drop start block))

  lengths_there : (n start : ℕ) → sum (take n (drop start (map (λ (m : List ℕ × ℕ). m.1) (raw_leaves x)))) ≡ total_len (take n (drop start (raw_leaves x)))
  lengths_there n start =
      ap (λ (l : List ℕ). sum (take n l)) (drop-map (λ (m : List ℕ × ℕ). m.1) start (raw_leaves x))
      ∙ ap sum (take-map (λ (m : List ℕ × ℕ). m.1) n (drop start (raw_leaves x)))
      ∙ sum-map (λ (m : List ℕ × ℕ). m.1) (take n (drop start (raw_leaves x)))

  count_there : length (raw_leaves x) ≡ length block
  count_there = ap length leaves ∙ length-map block chunk_leaf

  lies_then : (s : Segment) (hashes : List (List ℕ)) → 0 < run_len s → LiesInBlock block s hashes → LiesInXorb listing' standing' (closed_segment s) hashes
  lies_then s hashes pos l =
      let bytes : s.unpacked_segment_bytes ≡ total_len (take (run_len s) (drop s.chunk_index_start (raw_leaves x))) =
      ap (λ (r : Segment). r.unpacked_segment_bytes) l.run ∙ sym (bytes_there (run_len s) s.chunk_index_start) in
      let inside : s.chunk_index_start + run_len s ≤ length (raw_leaves x) = omega (arith, l.within, pos, count_there) in
      let part : part_run x s.chunk_index_start (run_len s) ≡ closed_segment s =
      λ i. record {
        xorb_hash = hash;
        xorb_flags = (sym l.run i).xorb_flags;
        unpacked_segment_bytes = sym bytes i;
        chunk_index_start = s.chunk_index_start;
        chunk_index_end = (sym l.run i).chunk_index_end;
      } in
      let same : take (run_len s) (drop s.chunk_index_start (map (λ (m : List ℕ × ℕ). m.0) (raw_leaves x))) ≡ hashes =
      ap (λ (ls : List (List ℕ × ℕ)). take (run_len s) (drop s.chunk_index_start (hashes_of ls))) leaves ∙ l.same in
      record {
        lies = record {
          lengths = map (λ m. m.1) (raw_leaves x);
          listed = listed;
          some = omega (arith, pos);
          within = omega (arith, l.within, count_there, length-map (raw_leaves x) (λ (m : List ℕ × ℕ). m.1));
          bytes = bytes ∙ sym (lengths_there (run_len s) s.chunk_index_start);
          small = omega (arith, small, sum-map (λ (m : List ℕ × ℕ). m.1) (raw_leaves x));
          plain = ap (λ (r : Segment). r.xorb_flags) l.run;
          named = named;
        };
        made = one (closed_segment s) hashes (subst (λ (hs : List (List ℕ)). standing' hs (closed_segment s)) same (subst (standing' _) part (parts s.chunk_index_start (run_len s) pos inside)));
      }

  -- A segment has its hashes still.
  pub hashes_filled : (s : Segment) (hashes : List (List ℕ)) → 0 < run_len s → HasHashes listing standing block s hashes → HasHashes listing' standing' [] (filled hash s) hashes
  hashes_filled s hashes pos h = by (is_open s) refl
    where
      other : (b : Bool) → pointwise nat_eq hash sentinel ≡ b → b ≡ false
      other false e = refl
      other true e = absurd (named ((bytes_decides hash sentinel).0 e))

      by : (b : Bool) → is_open s ≡ b → HasHashes listing' standing' [] (if b then closed_segment s else s) hashes
      by true e =
          has_hashes_closed listing' standing' [] (closed_segment s) hashes (other (pointwise nat_eq hash sentinel) refl) (lies_then s hashes pos (open_lies listing standing block s hashes e h))
      by false e =
          let l = closed_lies listing standing block s hashes e h in
          has_hashes_closed listing' standing' [] s hashes e (
          record { lies = lies_stays listing listing' standing standing' lists stands s l.lies; made = made_stays listing listing' standing standing' lists stands s hashes l.made }
          )
