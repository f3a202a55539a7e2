-- Settings in which every limit is in its range.
use Rattle.std.proofs.Common.{◌≡◌, ℕ, zero, suc, ◌^◌, ◌/◌, ◌<◌, ◌≤◌, Bool, true, false, not, List, [], ◌∷◌, length, get_or, Option, Some, None, cond, refl, arith, lit<}
use Rattle.std.proofs.lemmas.Bool.{and_parts, le-leb, leb-true, lt-ltb, ltb-true, not-false}
use Rattle.std.specs.List.{find}
use Rattle.xet_hash.specs.declared.error.Field.TheVariants.{TargetChunk, MinimumChunk, MaximumChunk, CutBytes, CutChunks, ShardTarget, GuardWindow, MinRange, LowFactor, BlockBytes, MaxSourceBytes, Scheme}
use Rattle.xet_cut.specs.declared.limits.LimitSettings.{LimitSettings}
use Rattle.xet_cut.specs.Limits.{AreInRange, bad_field, fields, in_range, is_between}

cond_none : {X : Type 0} (b : Bool) (x : X) (rest : Option X) → cond b (Some x) rest ≡ None → (b ≡ false) × (rest ≡ None)
cond_none true x rest e = cc
cond_none false x rest e = (refl, e)

-- where none is found, each fails
find_none : {X : Type 0} (test : X → Bool) (xs : List X) (d : X) (k : ℕ) → find test xs ≡ None → k < length xs → test (get_or xs k d) ≡ false
find_none test [] d k none within = absurd (omega arith)
find_none test (x ∷ xs) d zero none within = (cond_none (test x) x (find test xs) none).0
find_none test (x ∷ xs) d (suc k) none within = find_none test xs d k (cond_none (test x) x (find test xs) none).1 (omega arith)

between : (low high n : ℕ) → is_between low high n ≡ true → (low ≤ n) × (n ≤ high)
between low high n e = let parts = and_parts _ _ e in (leb-true low n parts.0, leb-true n high parts.1)

-- the limit at place k of the order
passes : (s : LimitSettings) (k : ℕ) → bad_field s ≡ None → k < 12 → in_range s (get_or fields k Scheme) ≡ true
unfolding bad_field
passes s k none within = not-false _ (find_none (λ field. not (in_range s field)) fields Scheme k none within)

pub are_in_range : (s : LimitSettings) → bad_field s ≡ None → AreInRange s
are_in_range s none =
    let target = and_parts _ _ (passes s 0 none (lit< tt)) in
    let target_range = between 128 4194304 s.target_chunk target.1 in
    let minimum = and_parts _ _ (passes s 1 none (lit< tt)) in
    let cut_bytes = between s.maximum_chunk (2 ^ 30) s.cut_bytes (passes s 3 none (lit< tt)) in
    let cut_chunks = between 1 65536 s.cut_chunks (passes s 4 none (lit< tt)) in
    let guard_window = between 1 65536 s.guard_window (passes s 6 none (lit< tt)) in
    let block_bytes = between 1 (2 ^ 30) s.block_bytes (passes s 9 none (lit< tt)) in
    let source = and_parts _ _ (passes s 10 none (lit< tt)) in
    let source_range = between 1 (2 ^ 42) s.max_source_bytes source.0 in
    record {
      target_power = target.0;
      target_from = target_range.0;
      target_to = target_range.1;
      minimum_from = leb-true _ _ minimum.0;
      minimum_to = ltb-true _ _ minimum.1;
      maximum_to = ltb-true _ _ (passes s 2 none (lit< tt));
      cut_bytes_from = cut_bytes.0;
      cut_bytes_to = cut_bytes.1;
      cut_chunks_from = cut_chunks.0;
      cut_chunks_to = cut_chunks.1;
      shard_target_to = ltb-true _ _ (passes s 5 none (lit< tt));
      guard_window_from = guard_window.0;
      guard_window_to = guard_window.1;
      min_range_from = leb-true _ _ (passes s 7 none (lit< tt));
      low_factor_from = leb-true _ _ (passes s 8 none (lit< tt));
      block_bytes_from = block_bytes.0;
      block_bytes_to = block_bytes.1;
      source_from = source_range.0;
      source_to = source_range.1;
      source_chunks = ltb-true _ _ source.1;
      scheme_plain = passes s 11 none (lit< tt);
    }

is_between-true : (low high n : ℕ) → low ≤ n → n ≤ high → is_between low high n ≡ true
is_between-true low high n least max_len = rw (le-leb low n least, le-leb n high max_len) refl

-- settings whose limits are all in their ranges have no bad one
pub none_bad : (s : LimitSettings) → AreInRange s → bad_field s ≡ None
unfolding bad_field
none_bad s r =
    let target : in_range s TargetChunk ≡ true = rw (r.target_power, is_between-true 128 4194304 s.target_chunk r.target_from r.target_to) refl in
    let minimum : in_range s MinimumChunk ≡ true = rw (le-leb 1 s.minimum_chunk r.minimum_from, lt-ltb s.minimum_chunk s.maximum_chunk r.minimum_to) refl in
    let maximum : in_range s MaximumChunk ≡ true = lt-ltb s.maximum_chunk 8388608 r.maximum_to in
    let cut_bytes : in_range s CutBytes ≡ true = is_between-true s.maximum_chunk (2 ^ 30) s.cut_bytes r.cut_bytes_from r.cut_bytes_to in
    let cut_chunks : in_range s CutChunks ≡ true = is_between-true 1 65536 s.cut_chunks r.cut_chunks_from r.cut_chunks_to in
    let shard : in_range s ShardTarget ≡ true = lt-ltb s.shard_target (2 ^ 32) r.shard_target_to in
    let window : in_range s GuardWindow ≡ true = is_between-true 1 65536 s.guard_window r.guard_window_from r.guard_window_to in
    let range : in_range s MinRange ≡ true = le-leb 1 s.min_range.1 r.min_range_from in
    let factor : in_range s LowFactor ≡ true = le-leb 1 s.low_factor.1 r.low_factor_from in
    let block : in_range s BlockBytes ≡ true = is_between-true 1 (2 ^ 30) s.block_bytes r.block_bytes_from r.block_bytes_to in
    let source : in_range s MaxSourceBytes ≡ true = rw (is_between-true 1 (2 ^ 42) s.max_source_bytes r.source_from r.source_to, lt-ltb (s.max_source_bytes / s.minimum_chunk) (2 ^ 30) r.source_chunks) refl in
    let scheme : in_range s Scheme ≡ true = r.scheme_plain in
    rw (target, minimum, maximum, cut_bytes, cut_chunks, shard, window, range, factor, block, source, scheme) refl
