-- Merging is associative, and the merged aggregate can be a xorb if its chunks can.
use Rattle.std.proofs.Common.{◌≡◌, ◌∙◌, ℕ, ◌+◌, ◌-◌, ◌^◌, ◌<◌, ◌≤◌, Bool, true, false, cond, IsTrue, List, [], ◌∷◌, ◌++◌, length, drop, map, take, add_assoc, append_assoc, refl, sym, ap, arith}
use Rattle.std.proofs.lemmas.List.{append-nil, drop-append-le, drop-drop, drop_at, length-append, length-drop, length-map, map-append, take-append-le}
use Rattle.std.proofs.lemmas.List.Sums.{sum_by-append, sum_by-cons}
use Rattle.std.proofs.lemmas.Bool.{and_parts, leb-true}
use Rattle.std.specs.List.{AllByRecursion, sum_by}
use Rattle.xet_base.specs.theorems.Elements.{all_both, all_more}
use Rattle.xet_shard_format.specs.declared.record.FileDataSequenceEntry.{FileDataSequenceEntry as Segment}
use Rattle.xet_xorb_chunk.specs.declared.chunk.Chunk.{Chunk}
use Rattle.xet_xorb_chunk.specs.Chunks.{bytes_of_chunk, total}
use Rattle.xet_xorb.specs.Raw.{ArePartsOfXorb}
use Rattle.xet_cut.specs.declared.limits.LimitSettings.{LimitSettings}
use Rattle.xet_cut.specs.Limits.{AreInRange}
use Rattle.xet_aggregate.specs.Aggregate.{Aggregate, HasRunsOf, IsAggregate, IsRunOf, Pending, empty, fits, is_open, merged, shifted_file, shifted_segment}

-- ---- shifting

abbrev moved : ℕ → Segment → Segment
moved n s = record s { chunk_index_start = s.chunk_index_start + n; chunk_index_end = s.chunk_index_end + n }

-- shifting opens and closes no segment
pub is_open-shifted : (n : ℕ) (s : Segment) → is_open (shifted_segment n s) ≡ is_open s
unfolding shifted_segment
is_open-shifted n s = go (is_open s)
  where
    go : (b : Bool) → is_open (cond b (moved n s) s) ≡ is_open s
    go true = refl
    go false = refl

-- shifting twice
pub shifted_twice : (n m : ℕ) (s : Segment) → shifted_segment m (shifted_segment n s) ≡ shifted_segment (n + m) s
unfolding shifted_segment
shifted_twice n m s = go (is_open s) refl
  where
    go : (b : Bool) → is_open s ≡ b → cond (is_open (cond b (moved n s) s)) (moved m (cond b (moved n s) s)) (cond b (moved n s) s) ≡ cond b (moved (n + m) s) s
    go true opened =
        ap (λ (b : Bool). cond b (moved m (moved n s)) (moved n s)) opened
        ∙ (λ i. record s { chunk_index_start = add_assoc s.chunk_index_start n m i; chunk_index_end = add_assoc s.chunk_index_end n m i })
    go false closed = ap (λ (b : Bool). cond b (moved m s) s) closed

-- shifting by nothing
pub shifted_nothing : (s : Segment) → shifted_segment 0 s ≡ s
unfolding shifted_segment
shifted_nothing s = go (is_open s)
  where
    none : (k : ℕ) → k + 0 ≡ k
    none k = omega arith

    go : (b : Bool) → cond b (moved 0 s) s ≡ s
    go true = λ i. record s { chunk_index_start = none s.chunk_index_start i; chunk_index_end = none s.chunk_index_end i }
    go false = refl

map_twice : {X : Type 0} (f g h : X → X) (xs : List X) → ((x : X) → f (g x) ≡ h x) → map f (map g xs) ≡ map h xs
map_twice f g h [] same = refl
map_twice f g h (x ∷ xs) same = λ i. same x i ∷ map_twice f g h xs same i

map_same : {X : Type 0} (f : X → X) (xs : List X) → ((x : X) → f x ≡ x) → map f xs ≡ xs
map_same f [] same = refl
map_same f (x ∷ xs) same = λ i. same x i ∷ map_same f xs same i

file_twice : (n m : ℕ) (p : Pending) → shifted_file m (shifted_file n p) ≡ shifted_file (n + m) p
file_twice n m p = λ i.
    (record p.0 { segments = map_twice (shifted_segment m) (shifted_segment n) (shifted_segment (n + m)) p.0.segments (shifted_twice n m) i }, p.1, p.2)

file_nothing : (p : Pending) → shifted_file 0 p ≡ p
file_nothing p = λ i. (record p.0 { segments = map_same (shifted_segment 0) p.0.segments shifted_nothing i }, p.1, p.2)

-- ---- merging

pub merged_assoc : (a b c : Aggregate) → merged (merged a b) c ≡ merged a (merged b c)
merged_assoc a b c =
    let sum : length b.chunks + length a.chunks ≡ length (a.chunks ++ b.chunks) = omega (arith, length-append a.chunks b.chunks) in
    let up : ℕ → ℕ → ℕ = λ n k. k + n in
    let files : (a.files ++ map (shifted_file (length a.chunks)) b.files) ++ map (shifted_file (length (a.chunks ++ b.chunks))) c.files
    ≡ a.files ++ map (shifted_file (length a.chunks)) (b.files ++ map (shifted_file (length b.chunks)) c.files) =
    append_assoc a.files (map (shifted_file (length a.chunks)) b.files) (map (shifted_file (length (a.chunks ++ b.chunks))) c.files)
    ∙ ap (λ (xs : List Pending). a.files ++ (map (shifted_file (length a.chunks)) b.files ++ xs))
    (ap (λ (n : ℕ). map (shifted_file n) c.files) (sym sum)
    ∙ sym (map_twice (shifted_file (length a.chunks)) (shifted_file (length b.chunks)) (shifted_file (length b.chunks + length a.chunks)) c.files (file_twice (length b.chunks) (length a.chunks))))
    ∙ ap (λ (xs : List Pending). a.files ++ xs) (sym (map-append (shifted_file (length a.chunks)) b.files (map (shifted_file (length b.chunks)) c.files))) in
    let boundaries : (a.boundaries ++ map (up (length a.chunks)) b.boundaries) ++ map (up (length (a.chunks ++ b.chunks))) c.boundaries
    ≡ a.boundaries ++ map (up (length a.chunks)) (b.boundaries ++ map (up (length b.chunks)) c.boundaries) =
    append_assoc a.boundaries (map (up (length a.chunks)) b.boundaries) (map (up (length (a.chunks ++ b.chunks))) c.boundaries)
    ∙ ap (λ (xs : List ℕ). a.boundaries ++ (map (up (length a.chunks)) b.boundaries ++ xs))
    (ap (λ (n : ℕ). map (up n) c.boundaries) (sym sum)
    ∙ sym (map_twice (up (length a.chunks)) (up (length b.chunks)) (up (length b.chunks + length a.chunks)) c.boundaries (λ k. add_assoc k (length b.chunks) (length a.chunks))))
    ∙ ap (λ (xs : List ℕ). a.boundaries ++ xs) (sym (map-append (up (length a.chunks)) b.boundaries (map (up (length b.chunks)) c.boundaries))) in
    λ i. record { chunks = append_assoc a.chunks b.chunks c.chunks i; files = files i; boundaries = boundaries i }

pub empty-merged : (a : Aggregate) → merged empty a ≡ a
empty-merged a =
    let none : (k : ℕ) → k + 0 ≡ k = λ k. omega arith in
    λ i. record { chunks = a.chunks; files = map_same (shifted_file 0) a.files file_nothing i; boundaries = map_same (λ k. k + 0) a.boundaries none i }

pub merged-empty : (a : Aggregate) → merged a empty ≡ a
merged-empty a = λ i. record { chunks = append-nil a.chunks i; files = append-nil a.files i; boundaries = append-nil a.boundaries i }

-- ---- runs

-- a run of the first chunks is a run of all
run_of_first : (xs ys : List Chunk) (s : Segment) → IsRunOf xs s → IsRunOf (xs ++ ys) s
run_of_first xs ys s run =
    let start : ℕ = s.chunk_index_start in
    let count : ℕ = s.chunk_index_end - start in
    let same : take count (drop start (xs ++ ys)) ≡ take count (drop start xs) =
    ap (take count) (drop-append-le start xs ys (omega (arith, run.ordered, run.within)))
    ∙ take-append-le count (drop start xs) ys (omega (arith, length-drop start xs, run.within)) in
    record {
      ordered = run.ordered;
      within = omega (arith, length-append xs ys, run.within);
      bytes = run.bytes ∙ ap total (sym same);
    }

-- a run of the later chunks is a run of all once it is moved
run_of_later : (xs ys : List Chunk) (s : Segment) → IsRunOf ys s → IsRunOf (xs ++ ys) (moved (length xs) s)
run_of_later xs ys s run =
    let n : ℕ = length xs in
    let start : ℕ = s.chunk_index_start in
    let count : (s.chunk_index_end + n) - (start + n) ≡ s.chunk_index_end - start = omega arith in
    let place : start + n ≡ n + start = omega arith in
    let rest : drop (start + n) (xs ++ ys) ≡ drop start ys =
    ap (λ (k : ℕ). drop k (xs ++ ys)) place ∙ sym (drop-drop start n (xs ++ ys)) ∙ ap (drop start) (drop_at xs ys n refl) in
    let same : take ((s.chunk_index_end + n) - (start + n)) (drop (start + n) (xs ++ ys)) ≡ take (s.chunk_index_end - start) (drop start ys) =
    ap (λ (k : ℕ). take k (drop (start + n) (xs ++ ys))) count ∙ ap (take (s.chunk_index_end - start)) rest in
    record {
      ordered = omega (arith, run.ordered);
      within = omega (arith, length-append xs ys, run.within);
      bytes = run.bytes ∙ ap total (sym same);
    }

runs_of_first : (xs ys : List Chunk) (segments : List Segment) → HasRunsOf xs segments → HasRunsOf (xs ++ ys) segments
runs_of_first xs ys segments runs =
    all_more (λ s. is_open s ≡ true → IsRunOf xs s) (λ s. is_open s ≡ true → IsRunOf (xs ++ ys) s) segments (λ s run opened. run_of_first xs ys s (run opened)) runs

one_of_later : (xs ys : List Chunk) (s : Segment) → (is_open s ≡ true → IsRunOf ys s) → is_open (shifted_segment (length xs) s) ≡ true → IsRunOf (xs ++ ys) (shifted_segment (length xs) s)
unfolding shifted_segment
one_of_later xs ys s run = go (is_open s) refl
  where
    go : (b : Bool) → is_open s ≡ b → is_open (cond b (moved (length xs) s) s) ≡ true → IsRunOf (xs ++ ys) (cond b (moved (length xs) s) s)
    go true opened _ = run_of_later xs ys s (run opened)
    go false closed opened = absurd (cc (closed, opened))

runs_of_later : (xs ys : List Chunk) (segments : List Segment) → HasRunsOf ys segments → HasRunsOf (xs ++ ys) (map (shifted_segment (length xs)) segments)
runs_of_later xs ys [] runs = tt
runs_of_later xs ys (s ∷ ss) runs = (one_of_later xs ys s runs.0, runs_of_later xs ys ss runs.1)

files_of_later : (xs ys : List Chunk) (files : List Pending) → AllByRecursion (λ p. HasRunsOf ys p.0.segments) files
    → AllByRecursion (λ p. HasRunsOf (xs ++ ys) p.0.segments) (map (shifted_file (length xs)) files)
files_of_later xs ys [] all = tt
files_of_later xs ys (p ∷ ps) all = (runs_of_later xs ys p.0.segments all.0, files_of_later xs ys ps all.1)

all_up : (n m : ℕ) (ks : List ℕ) → AllByRecursion (λ k. k ≤ m) ks → AllByRecursion (λ k. k ≤ m + n) (map (λ k. k + n) ks)
all_up n m [] all = tt
all_up n m (k ∷ ks) all = (omega (arith, all.0), all_up n m ks all.1)

-- The merged aggregate can be a xorb if its chunks can.
pub IsAggregate-merged : (a b : Aggregate) → IsAggregate a → IsAggregate b → ArePartsOfXorb (map bytes_of_chunk (a.chunks ++ b.chunks)) → IsAggregate (merged a b)
IsAggregate-merged a b first second parts =
    let n : ℕ = length (a.chunks ++ b.chunks) in
    let sum : n ≡ length a.chunks + length b.chunks = length-append a.chunks b.chunks in
    record {
      parts = parts;
      boundaries = all_both (λ k. k ≤ n) a.boundaries (map (λ k. k + length a.chunks) b.boundaries)
          (all_more (λ k. k ≤ length a.chunks) (λ k. k ≤ n) a.boundaries (λ k within. omega arith) first.boundaries)
          (all_more (λ k. k ≤ length b.chunks + length a.chunks) (λ k. k ≤ n) (map (λ k. k + length a.chunks) b.boundaries) (λ k within. omega arith) (all_up (length a.chunks) (length b.chunks) b.boundaries second.boundaries));
      runs = all_both (λ p. HasRunsOf (a.chunks ++ b.chunks) p.0.segments) a.files (map (shifted_file (length a.chunks)) b.files)
          (all_more (λ p. HasRunsOf a.chunks p.0.segments) (λ p. HasRunsOf (a.chunks ++ b.chunks) p.0.segments) a.files (λ p. runs_of_first a.chunks b.chunks p.0.segments) first.runs)
          (files_of_later a.chunks b.chunks b.files second.runs);
    }

-- the parts of two xorbs, if they are few and short enough together
pub parts_of_both : (xs ys : List (List ℕ)) → ArePartsOfXorb xs → ArePartsOfXorb ys → length xs + length ys ≤ 65536 → sum_by length xs + sum_by length ys ≤ 2 ^ 30 → ArePartsOfXorb (xs ++ ys)
parts_of_both xs ys first second few short = record {
  count = omega (arith, length-append xs ys);
  small = all_both (λ p. length p < 2 ^ 24) xs ys first.small second.small;
  total = omega (arith, sum_by-append length xs ys);
}

total-parts : (chunks : List Chunk) → sum_by length (map bytes_of_chunk chunks) ≡ total chunks
total-parts [] = refl
total-parts (c ∷ cs) =
    sum_by-cons length c.bytes (map bytes_of_chunk cs) ∙ ap (λ (n : ℕ). length c.bytes + n) (total-parts cs) ∙ sym (sum_by-cons (λ (k : Chunk). length k.bytes) c cs)

-- Aggregates that fit together can be one xorb.
pub IsAggregate-fits : (s : LimitSettings) (a b : Aggregate) → AreInRange s → IsTrue (fits s a b) → IsAggregate a → IsAggregate b → IsAggregate (merged a b)
IsAggregate-fits s a b range fit first second =
    let both = and_parts _ _ fit in
    let short : total a.chunks + total b.chunks ≤ s.cut_bytes = leb-true _ _ both.0 in
    let few : length a.chunks + length b.chunks ≤ s.cut_chunks = leb-true _ _ both.1 in
    let parts : ArePartsOfXorb (map bytes_of_chunk a.chunks ++ map bytes_of_chunk b.chunks) = parts_of_both (map bytes_of_chunk a.chunks) (map bytes_of_chunk b.chunks) first.parts second.parts
    (omega (arith, length-map a.chunks bytes_of_chunk, length-map b.chunks bytes_of_chunk, range.cut_chunks_to))
    (omega (arith, total-parts a.chunks, total-parts b.chunks, range.cut_bytes_to)) in
    IsAggregate-merged a b first second (rw (map-append bytes_of_chunk a.chunks b.chunks) parts)
