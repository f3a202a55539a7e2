-- What shifting and filling leave of records.
use Rattle.std.proofs.Common.{◌≡◌, ◌≢◌, ℕ, ◌+◌, ◌-◌, Bool, true, false, cond, List, [], ◌∷◌, map, nat_eq, refl, arith}
use Rattle.std.proofs.lemmas.Bool.{false_from_ne_true}
use Rattle.std.specs.Cmp.Lexicographic.{bytes_decides, pointwise}
use Rattle.std.specs.List.{AllByRecursion}
use Rattle.xet_hash.specs.Hash.{sentinel}
use Rattle.xet_shard_format.specs.declared.record.FileDataSequenceEntry.{FileDataSequenceEntry as Segment}
use Rattle.xet_shard_format.specs.declared.record.MDBFileInfo.{MDBFileInfo}
use Rattle.xet_aggregate.specs.Aggregate.{KeepsSizes, chunk_count, filled, filled_segment, is_open, shifted, shifted_segment}
use Rattle.xet_aggregate.specs.theorems.Merging.{is_open-shifted}

-- a function that does not see a change gives the same list
map_unseen : {X Y : Type 0} (f : X → Y) (g : X → X) (xs : List X) → ((x : X) → f (g x) ≡ f x) → map f (map g xs) ≡ map f xs
map_unseen f g [] same = refl
map_unseen f g (x ∷ xs) same = λ i. same x i ∷ map_unseen f g xs same i

-- one of two segments, where a function sees no difference
either : {Y : Type 0} (f : Segment → Y) (b : Bool) (s t : Segment) → f s ≡ f t → f (cond b s t) ≡ f t
either f true s t same = same
either f false s t same = refl

shifted_unseen : {Y : Type 0} (f : Segment → Y) (n : ℕ)
    → ((s : Segment) → f (record s { chunk_index_start = s.chunk_index_start + n; chunk_index_end = s.chunk_index_end + n }) ≡ f s)
    → (s : Segment) → f (shifted_segment n s) ≡ f s
unfolding shifted_segment
shifted_unseen f n same s =
    either f (is_open s) (record s { chunk_index_start = s.chunk_index_start + n; chunk_index_end = s.chunk_index_end + n }) s (same s)

filled_unseen : {Y : Type 0} (f : Segment → Y) (hash : List ℕ) → ((s : Segment) → f (record s { xorb_hash = hash }) ≡ f s) → (s : Segment) → f (filled_segment hash s) ≡ f s
unfolding filled_segment
filled_unseen f hash same s = either f (is_open s) (record s { xorb_hash = hash }) s (same s)

-- shifting changes nothing of a record but where the chunks of its segments begin
pub KeepsSizes-shifted : (n : ℕ) (file : MDBFileInfo) → KeepsSizes file (shifted n file)
KeepsSizes-shifted n file =
    let count : (s : Segment) → (s.chunk_index_end + n) - (s.chunk_index_start + n) ≡ chunk_count s = λ s. omega arith in
    record {
      metadata = refl;
      verification = refl;
      metadata_ext = refl;
      flags = map_unseen (λ s. s.xorb_flags) (shifted_segment n) file.segments (shifted_unseen (λ s. s.xorb_flags) n (λ s. refl));
      bytes = map_unseen (λ s. s.unpacked_segment_bytes) (shifted_segment n) file.segments (shifted_unseen (λ s. s.unpacked_segment_bytes) n (λ s. refl));
      counts = map_unseen chunk_count (shifted_segment n) file.segments (shifted_unseen chunk_count n count);
    }

-- the segments that are open stay open
pub opens-shifted : (n : ℕ) (file : MDBFileInfo) → map is_open (shifted n file).segments ≡ map is_open file.segments
opens-shifted n file = map_unseen is_open (shifted_segment n) file.segments (is_open-shifted n)

-- filling changes nothing of a record but the xorb hashes of its segments
pub KeepsSizes-filled : (hash : List ℕ) (file : MDBFileInfo) → KeepsSizes file (filled hash file)
KeepsSizes-filled hash file = record {
  metadata = refl;
  verification = refl;
  metadata_ext = refl;
  flags = map_unseen (λ s. s.xorb_flags) (filled_segment hash) file.segments (filled_unseen (λ s. s.xorb_flags) hash (λ s. refl));
  bytes = map_unseen (λ s. s.unpacked_segment_bytes) (filled_segment hash) file.segments (filled_unseen (λ s. s.unpacked_segment_bytes) hash (λ s. refl));
  counts = map_unseen chunk_count (filled_segment hash) file.segments (filled_unseen chunk_count hash (λ s. refl));
}

closed_segment : (hash : List ℕ) (s : Segment) → pointwise nat_eq hash sentinel ≡ false → is_open (filled_segment hash s) ≡ false
unfolding filled_segment
closed_segment hash s other = go (is_open s) refl
  where
    go : (b : Bool) → is_open s ≡ b → is_open (cond b (record s { xorb_hash = hash }) s) ≡ false
    go true opened = other
    go false closed = closed

all_closed : (hash : List ℕ) (segments : List Segment) → pointwise nat_eq hash sentinel ≡ false → AllByRecursion (λ s. is_open s ≡ false) (map (filled_segment hash) segments)
all_closed hash [] other = tt
all_closed hash (s ∷ ss) other = (closed_segment hash s other, all_closed hash ss other)

-- no segment is open after filling
pub closed-filled : (hash : List ℕ) (file : MDBFileInfo) → hash ≢ sentinel → AllByRecursion (λ s. is_open s ≡ false) (filled hash file).segments
closed-filled hash file other =
    all_closed hash file.segments (false_from_ne_true (pointwise nat_eq hash sentinel) (λ same. other ((bytes_decides hash sentinel).0 same)))
