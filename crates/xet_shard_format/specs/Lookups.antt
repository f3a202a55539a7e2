-- The lookup tables of a shard: from the first word of a hash to the row of its record.
-- Rows are counted from the start of their section, from 0.
use Rattle.std.specs.Prelude.{ℕ, ◌+◌, Bool, true, false, List, [], ◌∷◌, ◌++◌, length, map}
use Rattle.std.specs.declared.cmp.Ordering.{Ordering}
use Rattle.std.specs.Int.{w32, w64, to_le_bytes}
use Rattle.std.specs.List.{flat_map}
use Rattle.std.specs.Ordering.{nat_cmp, ordering_then}
use Rattle.xet_shard_format.specs.declared.row.Row.{Row}
use Rattle.xet_shard_format.specs.declared.record.XorbChunkSequenceEntry.{XorbChunkSequenceEntry}
use Rattle.xet_shard_format.specs.declared.record.MDBFileInfo.{MDBFileInfo}
use Rattle.xet_shard_format.specs.declared.record.MDBXorbInfo.{MDBXorbInfo}
use Rattle.xet_shard_format.specs.Records.{file_record_hash, file_rows, first_word, xorb_record_hash, xorb_rows}
use Rattle.xet_shard_format.specs.Sorted.{sorted}

-- Files and xorbs: the first word, and the row of the header. A section is sorted by hash, so these items are
-- sorted by word, then by row.
unfoldable pub heads_from : {X : Type 0} → (X → List ℕ) → (X → List Row) → ℕ → List X → List (ℕ × ℕ)
heads_from hash rows at [] = []
heads_from hash rows at (x ∷ xs) = (first_word (hash x), at) ∷ heads_from hash rows (at + length (rows x)) xs

abbrev pub file_items : List MDBFileInfo → List (ℕ × ℕ)
file_items files = heads_from file_record_hash file_rows 0 files

abbrev pub xorb_items : List MDBXorbInfo → List (ℕ × ℕ)
xorb_items blocks = heads_from xorb_record_hash xorb_rows 0 blocks

-- Chunks: first word, row of the xorb's header, and index in the xorb. The table is sorted by these three.
unfoldable pub lookup_rows_from : ℕ → ℕ → List XorbChunkSequenceEntry → List (ℕ × ℕ × ℕ)
lookup_rows_from at place [] = []
lookup_rows_from at place (c ∷ cs) = (first_word c.chunk_hash, at, place) ∷ lookup_rows_from at (place + 1) cs

unfoldable pub chunks_from : ℕ → List MDBXorbInfo → List (ℕ × ℕ × ℕ)
chunks_from at [] = []
chunks_from at (x ∷ xs) = lookup_rows_from at 0 x.chunks ++ chunks_from (at + length (xorb_rows x)) xs

abbrev pub place_cmp : ℕ × ℕ × ℕ → ℕ × ℕ × ℕ → Ordering
place_cmp x y = ordering_then (ordering_then (nat_cmp x.0 y.0) (nat_cmp x.1 y.1)) (nat_cmp x.2 y.2)

abbrev pub chunk_items : List MDBXorbInfo → List (ℕ × ℕ × ℕ)
chunk_items blocks = sorted place_cmp (chunks_from 0 blocks)

-- an item of the chunk lookup table whose row and index are a pair
abbrev pub flat_place : ℕ × (ℕ × ℕ) → ℕ × ℕ × ℕ
flat_place p = (p.0, p.1.0, p.1.1)

abbrev pub flat_places : List (ℕ × (ℕ × ℕ)) → List (ℕ × ℕ × ℕ)
flat_places places = map flat_place places

-- an item has 12 bytes; one of the chunk lookup table has 16
abbrev pub record_item_bytes : ℕ × ℕ → List ℕ
record_item_bytes i = to_le_bytes w64 i.0 ++ to_le_bytes w32 i.1

abbrev pub chunk_item_bytes : ℕ × ℕ × ℕ → List ℕ
chunk_item_bytes i = to_le_bytes w64 i.0 ++ (to_le_bytes w32 i.1 ++ to_le_bytes w32 i.2)

abbrev pub record_items_bytes : List (ℕ × ℕ) → List ℕ
record_items_bytes items = flat_map record_item_bytes items

abbrev pub chunk_items_bytes : List (ℕ × ℕ × ℕ) → List ℕ
chunk_items_bytes items = flat_map chunk_item_bytes items

-- which lookup tables a shard has; the others are omitted
pub record Lookups : Type 0 where
  pub files : Bool
  pub xorbs : Bool
  pub chunks : Bool

abbrev pub all_lookups : Lookups
all_lookups = record { files = true; xorbs = true; chunks = true }

abbrev pub left_in : {X : Type 0} → Bool → List X → List X
left_in true items = items
left_in false items = []
