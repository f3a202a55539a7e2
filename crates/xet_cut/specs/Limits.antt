-- The limits of a store and their ranges.
use Rattle.std.specs.Prelude.{ℕ, ◌/◌, ◌^◌, ◌<◌, ◌≤◌, Bool, IsTrue, true, false, not, ◌&&◌, nat_le, nat_lt, List, [], ◌∷◌, Option, find}
use Rattle.std.specs.Int.{is_power_of_two}
use Rattle.xet_hash.specs.declared.error.Field.{Field}
use Rattle.xet_hash.specs.declared.error.Field.TheVariants.{TargetChunk, MinimumChunk, MaximumChunk, CutBytes, CutChunks, ShardTarget, GuardWindow, MinRange, LowFactor, BlockBytes, MaxSourceBytes, Scheme}
use Rattle.xet_xorb_chunk.specs.declared.scheme.CompressionScheme.{CompressionScheme}
use Rattle.xet_xorb_chunk.specs.declared.scheme.CompressionScheme.TheVariants as scheme
use Rattle.xet_cut.specs.declared.limits.LimitSettings.{LimitSettings}

abbrev pub is_between : ℕ → ℕ → ℕ → Bool
is_between low high n = nat_le low n && nat_le n high

-- a scheme that stores a chunk's bytes uncompressed
abbrev pub is_plain_scheme : CompressionScheme → Bool
is_plain_scheme scheme.None = true
is_plain_scheme scheme.LZ4 = false
is_plain_scheme scheme.ByteGrouping4LZ4 = false
is_plain_scheme scheme.Auto = true

-- whether a limit is in its range
abbrev pub in_range : LimitSettings → Field → Bool
in_range s TargetChunk = is_power_of_two s.target_chunk && is_between 128 4194304 s.target_chunk
in_range s MinimumChunk = nat_le 1 s.minimum_chunk && nat_lt s.minimum_chunk s.maximum_chunk
in_range s MaximumChunk = nat_lt s.maximum_chunk 8388608
in_range s CutBytes = is_between s.maximum_chunk (2 ^ 30) s.cut_bytes
in_range s CutChunks = is_between 1 65536 s.cut_chunks
in_range s ShardTarget = nat_lt s.shard_target (2 ^ 32)
in_range s GuardWindow = is_between 1 65536 s.guard_window
in_range s MinRange = nat_le 1 s.min_range.1
in_range s LowFactor = nat_le 1 s.low_factor.1
in_range s BlockBytes = is_between 1 (2 ^ 30) s.block_bytes
in_range s MaxSourceBytes = is_between 1 (2 ^ 42) s.max_source_bytes && nat_lt (s.max_source_bytes / s.minimum_chunk) (2 ^ 30)
in_range s Scheme = is_plain_scheme s.scheme

-- the limits that have a range, in the order in which they are checked
abbrev pub fields : List Field
fields =
    TargetChunk ∷ MinimumChunk ∷ MaximumChunk ∷ CutBytes ∷ CutChunks ∷ ShardTarget ∷ GuardWindow ∷ MinRange ∷ LowFactor
    ∷ BlockBytes ∷ MaxSourceBytes ∷ Scheme ∷ []

-- the first limit that is out of its range
unfoldable pub bad_field : LimitSettings → Option Field
bad_field s = find (λ field. not (in_range s field)) fields

-- all limits are in their ranges, bound by bound
pub record AreInRange (s : LimitSettings) : Type 0 where
  pub target_power : IsTrue (is_power_of_two s.target_chunk)
  pub target_from : 128 ≤ s.target_chunk
  pub target_to : s.target_chunk ≤ 4194304
  pub minimum_from : 1 ≤ s.minimum_chunk
  pub minimum_to : s.minimum_chunk < s.maximum_chunk
  pub maximum_to : s.maximum_chunk < 8388608
  pub cut_bytes_from : s.maximum_chunk ≤ s.cut_bytes
  pub cut_bytes_to : s.cut_bytes ≤ 2 ^ 30
  pub cut_chunks_from : 1 ≤ s.cut_chunks
  pub cut_chunks_to : s.cut_chunks ≤ 65536
  pub shard_target_to : s.shard_target < 2 ^ 32
  pub guard_window_from : 1 ≤ s.guard_window
  pub guard_window_to : s.guard_window ≤ 65536
  pub min_range_from : 1 ≤ s.min_range.1
  pub low_factor_from : 1 ≤ s.low_factor.1
  pub block_bytes_from : 1 ≤ s.block_bytes
  pub block_bytes_to : s.block_bytes ≤ 2 ^ 30
  pub source_from : 1 ≤ s.max_source_bytes
  pub source_to : s.max_source_bytes ≤ 2 ^ 42
  pub source_chunks : s.max_source_bytes / s.minimum_chunk < 2 ^ 30
  pub scheme_plain : IsTrue (is_plain_scheme s.scheme)

-- the default settings
abbrev pub shown_settings : List ℕ → LimitSettings
shown_settings gear = record {
  target_chunk = 65536;
  minimum_chunk = 8192;
  maximum_chunk = 131072;
  cut_bytes = 67108864;
  cut_chunks = 8192;
  shard_target = 67108864;
  guard_window = 128;
  min_range = (8, 1);
  low_factor = (1, 2);
  block_bytes = 8388608;
  max_source_bytes = 2 ^ 42;
  scheme = scheme.Auto;
  index_cap = 67108864;
  expiry_buffer = 604800;
  gear = gear;
}

-- the same settings with another minimum chunk
abbrev pub with_minimum : LimitSettings → ℕ → LimitSettings
with_minimum s n = record s { minimum_chunk = n }
