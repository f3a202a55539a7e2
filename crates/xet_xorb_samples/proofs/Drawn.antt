-- Random chunks, one after another.
use Rattle.std.proofs.Common.{◌≡◌, ◌∙◌, ◌+◌, ◌*◌, ◌<◌, ◌≤◌, ◌^◌, ℕ, List, [], ◌∷◌, ◌++◌, length, map, refl, sym, ap, subst, arith, length-append}
use Rattle.std.proofs.Math.Nat.{mul-le-mul_right}
use Rattle.std.proofs.lemmas.List.{map-append}
use Rattle.std.proofs.lemmas.List.Sums.{sum_by-cons}
use Rattle.std.specs.List.{AllByRecursion, concat, sum_by}
use Rattle.rand_core.specs.Stream.{Stream, fill_bytes}
use Rattle.xet_xorb_chunk.specs.declared.chunk.Chunk.{Chunk}
use Rattle.xet_xorb_chunk.specs.Chunks.{bytes_of_chunk, chunk_of}
use Rattle.xet_xorb_samples.specs.declared.samples.ChunkSize.{ChunkSize}
use Rattle.xet_xorb_samples.specs.declared.samples.ChunkSize.TheVariants.{Fixed, Random}
use Rattle.xet_xorb.specs.Raw.{ArePartsOfXorb}
use Rattle.xet_xorb_samples.specs.internal.Samples.{AreSampleChunks}
use Rattle.xet_xorb_samples.specs.Samples.{AreBoundaries, AreSamples, DrawsChunk, DrawsChunks, DrawsSize, FitXorb, HasSize, chunk_boundaries, max_size}
use Rattle.xet_xorb_samples.proofs.Boundaries.{boundaries_of_chunks, length-concat}
use Rattle.xet_base.specs.theorems.Elements.{all_push}

pub bytes_back : (bytes : List (List ℕ)) → map bytes_of_chunk (map chunk_of bytes) ≡ bytes
bytes_back [] = refl
bytes_back (b ∷ bs) = ap (λ (x : List (List ℕ)). b ∷ x) (bytes_back bs)

-- nothing is drawn
pub no_samples : (size : ChunkSize) (start : Stream) → AreSamples 0 size start [] start
no_samples size start = record { count = refl; sizes = tt; drawn = refl }

draws_push : (size : ChunkSize) (start before after : Stream) (bytes : List (List ℕ)) (next : List ℕ) → DrawsChunks size start bytes before → DrawsChunk size before next after → DrawsChunks size start (bytes ++ next ∷ []) after
draws_push size start before after [] next d one = (after, subst (λ (s : Stream). DrawsChunk size s next after) d one, refl)
draws_push size start before after (b ∷ bs) next d one = (d.0, d.1, draws_push size d.0 before after bs next d.2 one)

-- a length and so many bytes are drawn
pub one_drawn : (size : ChunkSize) (before sized after : Stream) (n : ℕ) (next : List ℕ) → length next ≡ n → DrawsSize size before n sized → (next, after) ≡ fill_bytes n sized → DrawsChunk size before next after
one_drawn size before sized after n next is len bytes = record {
  sized = sized;
  length_drawn = subst (λ (k : ℕ). DrawsSize size before k sized) (sym is) len;
  bytes_drawn = bytes ∙ ap (λ (k : ℕ). fill_bytes k sized) (sym is);
}

-- one more
pub more_samples : (n : ℕ) (size : ChunkSize) (start before after : Stream) (bytes : List (List ℕ)) (next : List ℕ) → AreSamples n size start bytes before → HasSize size (length next) → DrawsChunk size before next after
    → AreSamples (n + 1) size start (bytes ++ next ∷ []) after
more_samples n size start before after bytes next s h one = record {
  count = omega (arith, length-append bytes (next ∷ []), s.count);
  sizes = all_push (λ (c : List ℕ). HasSize size (length c)) bytes next s.sizes h;
  drawn = draws_push size start before after bytes next s.drawn one;
}

-- one more, whose length and bytes are drawn
pub more_drawn : (n : ℕ) (size : ChunkSize) (start before sized after : Stream) (bytes : List (List ℕ)) (k : ℕ) (next : List ℕ) → AreSamples n size start bytes before
    → length next ≡ k → HasSize size k → DrawsSize size before k sized → (next, after) ≡ fill_bytes k sized → AreSamples (n + 1) size start (bytes ++ next ∷ []) after
more_drawn n size start before sized after bytes k next s is h len drawn =
    more_samples n size start before after bytes next s (subst (HasSize size) (sym is) h) (one_drawn size before sized after k next is len drawn)

pub more_chunks : (n : ℕ) (size : ChunkSize) (start before after : Stream) (chunks : List Chunk) (next : List ℕ) → AreSampleChunks n size start chunks before → HasSize size (length next) → DrawsChunk size before next after
    → AreSampleChunks (n + 1) size start (chunks ++ chunk_of next ∷ []) after
more_chunks n size start before after chunks next s h one =
    (s.0 ++ next ∷ [], more_samples n size start before after s.0 next s.1 h one, ap (λ (x : List Chunk). x ++ chunk_of next ∷ []) s.2 ∙ sym (map-append chunk_of s.0 (next ∷ [])))

-- no chunk is longer than the size says
within : (size : ChunkSize) (n : ℕ) → HasSize size n → n ≤ max_size size
within (Random min max) n h = h.1
within (Fixed k) n h = omega (arith, h)

all_small : (size : ChunkSize) (bound : ℕ) (bytes : List (List ℕ)) → max_size size < bound → AllByRecursion (λ c. HasSize size (length c)) bytes → AllByRecursion (λ p. length p < bound) bytes
all_small size bound [] fit h = tt
all_small size bound (b ∷ bs) fit h = (omega (arith, fit, within size (length b) h.0), all_small size bound bs fit h.1)

sum_within : (size : ChunkSize) (bytes : List (List ℕ)) → AllByRecursion (λ c. HasSize size (length c)) bytes → sum_by length bytes ≤ length bytes * max_size size
sum_within size [] h = omega arith
sum_within size (b ∷ bs) h = omega (arith, sum_by-cons length b bs, within size (length b) h.0, sum_within size bs h.1)

pub sample_parts : (n : ℕ) (size : ChunkSize) (before after : Stream) (bytes : List (List ℕ)) → FitXorb n size → AreSamples n size before bytes after → ArePartsOfXorb bytes
sample_parts n size before after bytes fit s = record {
  count = omega (arith, fit.count, s.count);
  small = all_small size (2 ^ 24) bytes fit.small s.sizes;
  total =
      let whole : length bytes * max_size size ≡ n * max_size size = ap (λ (k : ℕ). k * max_size size) s.count in
      omega (arith, fit.total, whole, sum_within size bytes s.sizes);
}

pub sample_boundaries : (n k : ℕ) (size : ChunkSize) (before after : Stream) (bytes : List (List ℕ)) → FitXorb n size → k ≡ n → AreSamples k size before bytes after → AreBoundaries (concat bytes) (chunk_boundaries 0 bytes)
sample_boundaries n k size before after bytes fit count s =
    boundaries_of_chunks bytes (sample_parts n size before after bytes fit (subst (λ (m : ℕ). AreSamples m size before bytes after) count s))

pub chunk_parts : (n : ℕ) (size : ChunkSize) (before after : Stream) (chunks : List Chunk) → FitXorb n size → AreSampleChunks n size before chunks after → ArePartsOfXorb (map bytes_of_chunk chunks)
chunk_parts n size before after chunks fit s =
    subst ArePartsOfXorb (sym (ap (map bytes_of_chunk) s.2 ∙ bytes_back s.0)) (sample_parts n size before after s.0 fit s.1)

-- what was drawn so far has room
pub drawn_bound : (n k : ℕ) (size : ChunkSize) (before after : Stream) (chunks : List (List ℕ)) (plain : List ℕ) → FitXorb n size → k ≤ n → AreSamples k size before chunks after → plain ≡ concat chunks → length plain ≤ 2 ^ 30
drawn_bound n k size before after chunks plain fit few s are =
    let whole : length chunks * max_size size ≡ k * max_size size = ap (λ (m : ℕ). m * max_size size) s.count in
    let below : k * max_size size ≤ n * max_size size = mul-le-mul_right (max_size size) few in
    omega (arith, fit.total, below, whole, sum_within size chunks s.sizes, length-concat chunks, ap length are)
