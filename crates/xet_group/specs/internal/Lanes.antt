-- Counts in the lanes of vectors: byte l of each block of 16 bytes is counted in lane l.
use Rattle.std.specs.Prelude.{ℕ, zero, suc, ◌≡◌, ◌+◌, ◌*◌, ◌<◌, ◌==◌, List, drop, count_ones, slice_index, if◌then◌else◌}
use Rattle.xet_group.specs.Histogram.{count_of}

-- how many of the first n blocks have k set bits in byte l
unfoldable pub lane_count : List ℕ → ℕ → ℕ → ℕ → ℕ
lane_count bytes l k zero = 0
lane_count bytes l k (suc n) =
    (if count_ones (slice_index bytes l) == k then 1 else 0) + lane_count (drop 16 bytes) l k n

-- vector k has the counts of k set bits in the first n blocks
abbrev pub AreCounts : List (List ℕ) → List ℕ → ℕ → Type 0
AreCounts vectors bytes n =
    (k l : ℕ) → k < 9 → l < 16 → count_of vectors k l ≡ lane_count bytes l k n

-- vector p has the counts of 2 p and of 2 p + 1 set bits, in the low and the high half of each lane
abbrev pub ArePairs : List (List ℕ) → List ℕ → ℕ → Type 0
ArePairs vectors bytes n =
    (p l : ℕ) → p < 5 → l < 16
    → count_of vectors p l ≡ lane_count bytes l (2 * p) n + 16 * lane_count bytes l (2 * p + 1) n

-- the sum of the four lanes of a group, the first of which is lane l
abbrev pub group_sum : List ℕ → ℕ → ℕ
group_sum vector l =
    slice_index vector l + slice_index vector (l + 4) + slice_index vector (l + 8) + slice_index vector (l + 12)
