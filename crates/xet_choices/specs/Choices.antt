-- When the choices for the chunks of a file are true. A leaf is the hash and the length of a chunk.
use Rattle.std.specs.Prelude.{◌≡◌, ◌⊎◌, ◌≤◌, ◌<◌, ◌+◌, ◌-◌, ◌&&◌, ℕ, suc, Bool, true, false, nat_eq, nat_le, List, [], ◌∷◌, ◌++◌, length, map, take, drop, Option, Some, None, slice_get, if◌then◌else◌}
use Rattle.std.specs.Cmp.Lexicographic.{pointwise}
use Rattle.std.specs.List.Sorted.{IsStrictlyIncreasing}
use Rattle.xet_hash.specs.Merkle.{total_len}
use Rattle.xet_cut.specs.declared.limits.LimitSettings.{LimitSettings}
use Rattle.xet_fragmentation.specs.Fragmentation.{Fragmentation, is_allowed, is_fragmented, is_full}
use Rattle.xet_choices.specs.declared.choice.Choice.{Choice}
use Rattle.xet_choices.specs.declared.choice.Choice.TheVariants.{Reused, NoPlace, Refused, Inside}
use Rattle.xet_choices.specs.Calls.{Call, IsAskedIn}
use Rattle.xet_choices.specs.Ranges.{Grown, count_at, ranges, seg_of, starts}

-- A file so far: the limits, its leaves, the calls of its deduplication, the number of chunks of each segment of its
-- plan, and a choice for each chunk that has one. There may be further leaves.
pub record Setting : Type 0 where
  pub settings : LimitSettings
  pub leaves : List (List ℕ × ℕ)
  pub calls : List Call
  pub counts : List ℕ
  pub choices : List Choice

-- ---- choices by themselves

-- whether the chunk was not stored, since it lies in a run that was found
abbrev pub is_reused : Choice → Bool
is_reused (Reused segment) = true
is_reused (NoPlace entry) = false
is_reused (Refused run) = false
is_reused (Inside start) = false

-- the number of chunks that were stored
abbrev pub new_chunks : List Choice → ℕ
new_chunks [] = 0
new_chunks (c ∷ cs) = (if is_reused c then 0 else 1) + new_chunks cs

-- the history entries of the queries that found nothing, of the chunks that were stored for that
abbrev pub no_place_entries : List Choice → List ℕ
no_place_entries [] = []
no_place_entries (Reused segment ∷ cs) = no_place_entries cs
no_place_entries (NoPlace entry ∷ cs) = entry ∷ no_place_entries cs
no_place_entries (Refused run ∷ cs) = no_place_entries cs
no_place_entries (Inside start ∷ cs) = no_place_entries cs

-- These entries ascend, and none is named twice.
abbrev pub EntriesRise : List Choice → Type 0
EntriesRise choices = IsStrictlyIncreasing (no_place_entries choices)

-- ---- the open block: the chunks that were stored since the last xorb was full

-- whether a chunk of this length joins a block within the limits of a xorb
abbrev pub fits : LimitSettings → List (List ℕ × ℕ) → ℕ → Bool
fits settings block len = nat_le (total_len block + len) settings.cut_bytes && nat_le (length block + 1) settings.cut_chunks

-- the block with one more leaf, or a new block of this leaf if it does not fit
unfoldable pub packed : LimitSettings → List (List ℕ × ℕ) → List ℕ × ℕ → List (List ℕ × ℕ)
packed settings block leaf = if fits settings block leaf.1 then block ++ leaf ∷ [] else leaf ∷ []

-- what becomes of a block by the choices for these leaves
unfoldable pub block_of : LimitSettings → List (List ℕ × ℕ) → List (List ℕ × ℕ) → List Choice → List (List ℕ × ℕ)
block_of settings block leaves [] = block
block_of settings block [] (c ∷ cs) = block
block_of settings block (leaf ∷ leaves) (c ∷ cs) = block_of settings (if is_reused c then block else packed settings block leaf) leaves cs

-- the open block before chunk j
abbrev pub block_at : Setting → ℕ → List (List ℕ × ℕ)
block_at s j = block_of s.settings [] s.leaves (take j s.choices)

-- the last index of a chunk hash in a block
unfoldable pub last_place : List ℕ → List (List ℕ × ℕ) → Option ℕ
last_place h [] = None
last_place h (leaf ∷ leaves) =
    elim (last_place h leaves) [ Some p ↦ Some (suc p) | None ↦ if pointwise nat_eq h leaf.0 then Some 0 else None ]

-- ---- the guard against fragmentation

-- the guard after these ranges of a plan, with the low threshold or without it
abbrev pub guard_of : LimitSettings → List ℕ → Bool → Fragmentation
guard_of settings ranges low = record {
  window = settings.guard_window;
  min_range = settings.min_range;
  low_factor = settings.low_factor;
  ranges = drop (length ranges - settings.guard_window) ranges;
  low = low;
}

-- Whether the low threshold counts after a run was allowed: also if the window is full and the plan is not fragmented.
abbrev pub allowed_flag : Fragmentation → Bool
allowed_flag f = if is_full f then (if is_fragmented f then f.low else true) else f.low

-- the same after the choice for chunk j, of a plan with these segments
unfoldable pub next_flag : LimitSettings → List ℕ → ℕ → Bool → Choice → Bool
next_flag settings counts j low (Reused segment) = if starts counts j then allowed_flag (guard_of settings (ranges counts j) low) else low
next_flag settings counts j low (NoPlace entry) = low
next_flag settings counts j low (Refused run) = false
next_flag settings counts j low (Inside start) = low

-- and after the choices for the chunks from j on
unfoldable pub flag_of : LimitSettings → List ℕ → ℕ → Bool → List Choice → Bool
flag_of settings counts j low [] = low
flag_of settings counts j low (c ∷ cs) = flag_of settings counts (suc j) (next_flag settings counts j low c) cs

-- whether the low threshold counts before chunk j: it does at the beginning
abbrev pub flag_at : Setting → ℕ → Bool
flag_at s j = flag_of s.settings s.counts 0 true (take j s.choices)

-- the guard before chunk j
abbrev pub guard_at : Setting → ℕ → Fragmentation
guard_at s j = guard_of s.settings (ranges s.counts j) (flag_at s j)

-- ---- when a choice is true

-- the chunk hashes of leaves
abbrev pub hashes_of : List (List ℕ × ℕ) → List (List ℕ)
hashes_of leaves = map (λ leaf. leaf.0) leaves

-- The k chunks of a block from p on have the hashes of the k chunks of a file from j on.
abbrev pub AreSameRun : ℕ → List (List ℕ × ℕ) → ℕ → List (List ℕ × ℕ) → ℕ → Type 0
AreSameRun k block p leaves j = (k ≤ length (drop p block)) × (take k (hashes_of (drop p block)) ≡ take k (hashes_of (drop j leaves)))

-- A run of k chunks from chunk j on, which has hash h, was found: a query that began with this hash replied so; or the
-- open block has the run, from the last index of this hash on.
abbrev pub IsFound : Setting → ℕ → List ℕ → ℕ → Type 0
IsFound s j h k =
    ((n : ℕ) × IsAskedIn s.calls n h (Some k))
    ⊎ ((p : ℕ) × (last_place h (block_at s j) ≡ Some p) × (0 < k) × AreSameRun k (block_at s j) p s.leaves j)

-- The chunk was stored since a run was rejected; or it was not stored, and its segment begins earlier.
abbrev pub WasPassed : Setting → ℕ → Type 0
WasPassed s start =
    ((run : ℕ) × (slice_get s.choices start ≡ Some (Refused run)))
    ⊎ ((before segment : ℕ) × (suc before ≡ start) × (slice_get s.choices before ≡ Some (Reused segment)) × (slice_get s.choices start ≡ Some (Reused segment)))

-- The choice for chunk j, which has hash h, is true.
-- Reused: it lies in this segment; if the segment begins with it, a run was found here that is allowed and no longer
-- than the segment.
-- NoPlace: the query with this history entry began with its hash and found nothing, and nor has the open block it.
-- Refused: a run of this length was found here, and is not allowed.
-- Inside: a query that began with the hash of an earlier chunk found a run that goes past this one, the earlier chunk
-- was passed without the whole run, and the open block does not have this chunk's hash.
abbrev pub TrueAt : Setting → ℕ → List ℕ → Choice → Type 0
TrueAt s j h (Reused segment) =
    (segment ≡ seg_of s.counts j)
    × (starts s.counts j ≡ true → (k : ℕ) × IsFound s j h k × (is_allowed (guard_at s j) k ≡ true) × (k ≤ count_at s.counts segment))
TrueAt s j h (NoPlace entry) = IsAskedIn s.calls entry h None × (last_place h (block_at s j) ≡ None)
TrueAt s j h (Refused run) = IsFound s j h run × (is_allowed (guard_at s j) run ≡ false)
TrueAt s j h (Inside start) =
    (leaf : List ℕ × ℕ) × (k n : ℕ) × (slice_get s.leaves start ≡ Some leaf) × IsAskedIn s.calls n leaf.0 (Some k) × (start < j) × (j < start + k)
    × WasPassed s start × (last_place h (block_at s j) ≡ None)

-- each choice is true
abbrev pub AllTrue : Setting → Type 0
AllTrue s = (j : ℕ) (leaf : List ℕ × ℕ) (c : Choice) → slice_get s.choices j ≡ Some c → slice_get s.leaves j ≡ Some leaf → TrueAt s j leaf.0 c

-- ---- a file that goes on

-- with further leaves
abbrev pub with_leaves : Setting → List (List ℕ × ℕ) → Setting
with_leaves s leaves = record s { leaves = s.leaves ++ leaves }

-- with further calls
abbrev pub with_calls : Setting → List Call → Setting
with_calls s calls = record s { calls = s.calls ++ calls }

-- with these segments and further choices
abbrev pub with_choices : Setting → List ℕ → List Choice → Setting
with_choices s counts choices = record s { counts = counts; choices = s.choices ++ choices }

-- t is s with further leaves, calls and choices, and segments that have grown.
pub record GrownSetting (s t : Setting) : Type 0 where
  pub more_leaves : List (List ℕ × ℕ)
  pub more_calls : List Call
  pub more_choices : List Choice
  pub settings : t.settings ≡ s.settings
  pub leaves : t.leaves ≡ s.leaves ++ more_leaves
  pub calls : t.calls ≡ s.calls ++ more_calls
  pub counts : Grown s.counts t.counts
  pub choices : t.choices ≡ s.choices ++ more_choices
