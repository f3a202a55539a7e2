-- Places where a long file may be split into parts, which are then chunked at the same time: a chunk probably ends there,
-- whatever the bytes before it are.
use Rattle.std.specs.Prelude.{ℕ, ◌+◌, ◌-◌, ◌*◌, ◌≤◌, nat_le, nat_lt, Bool, ◌&&◌, if◌then◌else◌, List, [], ◌∷◌, length, take, drop, filter, is_some, map, take_while, Option, Some, None, option_map}
use Rattle.std.specs.List.{AllByRecursion, filter_map, range_with_len}
use Rattle.xet_cut.specs.declared.limits.LimitSettings.{LimitSettings}
use Rattle.xet_cut.specs.Limits.{with_minimum}
use Rattle.xet_cut.specs.Chunking.{chunking}
use Rattle.xet_cut.specs.Streams.{boundary_in}

-- the chunks of these bytes that end at a boundary, whatever follows: all but the last, which may end with the bytes
abbrev pub complete_chunks : LimitSettings → List ℕ → List (List ℕ)
complete_chunks s bs = filter (λ chunk. is_some (boundary_in s chunk)) (chunking s bs)

-- whether a length is above the minimum chunk, and below the maximum less the minimum
abbrev pub is_medium : LimitSettings → ℕ → Bool
is_medium s n = nat_lt s.minimum_chunk n && nat_lt n (s.maximum_chunk - s.minimum_chunk)

-- The end of the first of these lengths that is medium and has a medium one before it. The lengths begin at offset `at`,
-- and `previous` is the one before them.
unfoldable pub first_medium : LimitSettings → ℕ → ℕ → List ℕ → Option ℕ
first_medium s at previous [] = None
first_medium s at previous (n ∷ ns) = if is_medium s previous && is_medium s n then Some (at + n) else first_medium s (at + n) n ns

-- the same for lengths of which the first two are passed over: the third may be the first
unfoldable pub from_third : LimitSettings → List ℕ → Option ℕ
from_third s [] = None
from_third s (a ∷ []) = None
from_third s (a ∷ b ∷ ns) = first_medium s (a + b) b ns

-- The offset in scanned bytes at which a part may begin: they are chunked with a minimum chunk of 1.
abbrev pub part_in : LimitSettings → List ℕ → Option ℕ
part_in s bs = from_third s (map length (complete_chunks (with_minimum s 1) bs))

-- whether a place is scanned: more bytes than a part, and than a scan, follow it
abbrev pub is_scanned : ℕ → ℕ → ℕ → ℕ → Bool
is_scanned size min_partition scan place = nat_lt (place + min_partition) size && nat_lt (place + scan) size

-- The places that are scanned, from a multiple of the minimum part on, up to the first that is not. No more than `size`
-- multiples are below the size.
abbrev pub places_from : ℕ → ℕ → ℕ → ℕ → List ℕ
places_from size min_partition scan k = take_while (is_scanned size min_partition scan) (map (λ k. k * min_partition) (range_with_len k (size + 1 - k)))

-- all places that are scanned: none if a chunk may be as long as a part
unfoldable pub places : LimitSettings → ℕ → ℕ → ℕ → List ℕ
places s size min_partition scan = if nat_le min_partition s.maximum_chunk then [] else places_from size min_partition scan 1

-- where the part begins that the scan at a place finds, if it finds one
abbrev pub part_at : LimitSettings → List ℕ → ℕ → ℕ → Option ℕ
part_at s bytes scan place = option_map (λ n. place + n) (part_in s (take scan (drop place bytes)))

-- where the parts of a file of this size begin
abbrev pub partitions : LimitSettings → List ℕ → ℕ → ℕ → ℕ → List ℕ
partitions s bytes size min_partition scan = 0 ∷ filter_map (part_at s bytes scan) (places s size min_partition scan)

-- the bytes reach to the end of the scan at each of these places
abbrev pub AreWithin : List ℕ → ℕ → List ℕ → Type 0
AreWithin bytes scan places = AllByRecursion (λ place. scan ≤ length bytes - place) places
