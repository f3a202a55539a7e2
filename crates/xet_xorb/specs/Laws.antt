-- Theorems about xorbs, their footers and their ranges.
use Rattle.std.specs.Prelude.{◌≡◌, ◌≢◌, ℕ, ◌+◌, ◌≤◌, ◌<◌, ◌^◌, List, length, slice_range, Result, Ok}
use Rattle.std.specs.List.{concat}
use Rattle.xet_hash.specs.declared.error.StoreError.{StoreError}
use Rattle.xet_hash.specs.Hash.{zero_hash}
use Rattle.xet_hash.specs.Merkle.{leaves_of, xorb_hash}
use Rattle.xet_xorb_footer.specs.Ends.{last_footer}
use Rattle.xet_xorb.specs.declared.object.XorbObject.{XorbObject}
use Rattle.xet_xorb.specs.Object.{object_of, range_length}
use Rattle.xet_xorb.specs.Ranges.{ReadsPlain, in_file, listed_contents, listed_range}
use Rattle.xet_xorb.specs.Validation.{IsValid}
use Rattle.xet_xorb.specs.Xorb.{IsXorbEncoding}

-- The bytes of a xorb determine its chunks.
abbrev pub BytesDetermineChunks : Type 0
BytesDetermineChunks = (bytes : List ℕ) (one other : List (List ℕ)) → IsXorbEncoding bytes one → IsXorbEncoding bytes other → one ≡ other

-- The footer that is read at the end of a xorb is that of its chunks.
abbrev pub LastFooterIsRead : Type 0
LastFooterIsRead =
    (bytes : List ℕ) (chunks : List (List ℕ)) (x : IsXorbEncoding bytes chunks)
    → (o : XorbObject) → o ≡ object_of x.version (xorb_hash (leaves_of chunks)) (leaves_of chunks) x.spare → last_footer bytes ≡ Ok (o.info, o.info_length)

-- If the hash of a validated xorb is not zero, a range that is read has the bytes of its chunks, and so have
-- the whole contents.
abbrev pub RangesAreChunks : Type 0
RangesAreChunks =
    (max_chunk : ℕ) (hash bytes : List ℕ) (chunks : List (List ℕ)) (o : XorbObject) (start end : ℕ) (read : Result (List ℕ) StoreError)
    → max_chunk < 2 ^ 23 → IsValid max_chunk hash bytes chunks o → hash ≢ zero_hash → start < end → end ≤ length chunks
    → ReadsPlain max_chunk bytes (in_file (length bytes) (listed_range o.info start end)) read → read ≡ Ok (concat (slice_range chunks start end))

abbrev pub ContentsAreChunks : Type 0
ContentsAreChunks =
    (max_chunk : ℕ) (hash bytes : List ℕ) (chunks : List (List ℕ)) (o : XorbObject) (read : Result (List ℕ) StoreError)
    → max_chunk < 2 ^ 23 → IsValid max_chunk hash bytes chunks o → hash ≢ zero_hash → ReadsPlain max_chunk bytes (in_file (length bytes) (listed_contents o.info)) read → read ≡ Ok (concat chunks)

-- The lengths of the ranges `from..at` and `at..to` add up to that of `from..to`.
pub record AddUp (o : XorbObject) (from at to : ℕ) : Type 0 where
  pub first : ℕ
  pub second : ℕ
  pub to_place : range_length o.info from at ≡ Ok first
  pub from_place : range_length o.info at to ≡ Ok second
  pub both : range_length o.info from to ≡ Ok (first + second)

-- On a validated xorb with a footer of version 1 and a hash that is not zero, lengths add up.
abbrev pub LengthsAddUp : Type 0
LengthsAddUp =
    (max_chunk : ℕ) (hash bytes : List ℕ) (chunks : List (List ℕ)) (o : XorbObject) (from at to : ℕ)
    → IsValid max_chunk hash bytes chunks o → hash ≢ zero_hash → o.info.boundaries_version ≡ 1 → from ≤ at → at < to → to ≤ length chunks → AddUp o from at to
