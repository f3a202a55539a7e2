-- Content-defined chunking: where a stream of bytes is split into chunks, by the bytes before the boundary.
use Rattle.std.specs.Prelude.{ℕ, ◌+◌, ◌-◌, ◌*◌, ◌/◌, ◌%◌, ◌^◌, ◌==◌, Bool, min, List, [], ◌∷◌, length, take, drop, bit_and, slice_index, unwrap_or}
use Rattle.xet_base.specs.Pieces.{first_of, pieces}
use Rattle.xet_cut.specs.declared.limits.LimitSettings.{LimitSettings}

-- the Gear hash of the bytes b(1) to b(k): the sum of gear[b(i)] * 2 ^ (k - i), modulo 2 ^ 64
unfoldable pub gear_hash : List ℕ → List ℕ → ℕ
gear_hash gear [] = 0
gear_hash gear (b ∷ bs) = (slice_index gear b * 2 ^ length bs + gear_hash gear bs) % 2 ^ 64

-- the last 64 bytes, or all if there are fewer
abbrev pub last_bytes : List ℕ → List ℕ
last_bytes bs = drop (length bs - 64) bs

-- the mask, for a power of two target: target - 1 shifted left until its top bit is bit 63
abbrev pub mask : ℕ → ℕ
mask target = (target - 1) * (2 ^ 64 / target)

-- Whether a chunk may end after k bytes: the Gear hash of its last 64 bytes has no bit in common with the
-- mask.
unfoldable pub may_end : LimitSettings → List ℕ → ℕ → Bool
may_end s bs k = bit_and (gear_hash s.gear (last_bytes (take k bs))) (mask s.target_chunk) == 0

-- The length of the first chunk: the smallest, from the minimum to the maximum and within the bytes, after
-- which it may end. If there is none, it is the maximum, or the number of all bytes if that is smaller.
unfoldable pub first_chunk_len : LimitSettings → List ℕ → ℕ
first_chunk_len s bs =
    let max_len = min s.maximum_chunk (length bs) in
    unwrap_or (first_of (may_end s bs) s.minimum_chunk (max_len + 1 - s.minimum_chunk)) max_len

-- the chunks of a stream
abbrev pub chunking : LimitSettings → List ℕ → List (List ℕ)
chunking s bs = pieces (first_chunk_len s) bs
