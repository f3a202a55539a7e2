-- Content-defined chunking of a stream whose bytes arrive in pieces.
use Rattle.std.specs.Prelude.{◌≡◌, ℕ, ◌+◌, ◌-◌, nat_le, min, Bool, true, false, if◌then◌else◌, List, [], ◌∷◌, ◌++◌, length, take, map, Option, Some, None}
use Rattle.std.specs.Option.{option_or}
use Rattle.xet_base.specs.Pieces.{first_of}
use Rattle.xet_xorb_chunk.specs.declared.chunk.Chunk.{Chunk}
use Rattle.xet_xorb_chunk.specs.Chunks.{chunk_of}
use Rattle.xet_cut.specs.declared.limits.LimitSettings.{LimitSettings}
use Rattle.xet_cut.specs.Chunking.{chunking, may_end}

-- The first boundary within these bytes, as the number of bytes before it: the first chunk of every stream that begins
-- with these bytes ends there. None if there is none within them.
unfoldable pub boundary_in : LimitSettings → List ℕ → Option ℕ
boundary_in s bs =
    option_or (first_of (may_end s bs) s.minimum_chunk (min s.maximum_chunk (length bs) + 1 - s.minimum_chunk))
    (if nat_le s.maximum_chunk (length bs) then Some s.maximum_chunk else None)

-- a stream that is being split: the limits, and the bytes since the last boundary
pub record Splitting : Type 0 where
  pub settings : LimitSettings
  pub buffered : List ℕ

-- These bytes are split into chunks and buffered bytes: whatever follows, the chunks of the whole are these, and then
-- those of the buffered bytes with what follows. No boundary is within the buffered bytes.
pub record IsSplit (s : LimitSettings) (bs : List ℕ) (chunks : List (List ℕ)) (buffered : List ℕ) : Type 0 where
  pub joined : (rest : List ℕ) → chunking s (bs ++ rest) ≡ chunks ++ chunking s (buffered ++ rest)
  pub none : boundary_in s buffered ≡ None

-- these bytes, if there are any
abbrev pub if_any : List ℕ → Option (List ℕ)
if_any [] = None
if_any (b ∷ bs) = Some (b ∷ bs)

-- The result of one step: the chunk that ends in the new bytes, the number of new bytes taken, and what is buffered then.
pub record Step : Type 0 where
  pub chunk : Option (List ℕ)
  pub taken : ℕ
  pub buffered : List ℕ

-- One step: the new bytes up to the first boundary are taken, and the chunk ends there. If there is none, all of them
-- are taken; they are the end of a chunk if they are the last, and else buffered.
unfoldable pub step : LimitSettings → List ℕ → List ℕ → Bool → Step
step s buffered new last = elim (boundary_in s (buffered ++ new)) [
  | Some k ↦ record { chunk = Some (take k (buffered ++ new)); taken = k - length buffered; buffered = [] }
  | None ↦
      if last then record { chunk = if_any (buffered ++ new); taken = length new; buffered = [] }
      else record { chunk = None; taken = length new; buffered = buffered ++ new }
]

-- The chunks of a block, and what is buffered then: the buffered bytes and the new ones are split into them. If the new
-- ones are the last, nothing stays buffered.
pub record IsBlock (s : LimitSettings) (bs : List ℕ) (last : Bool) (chunks : List Chunk) (buffered : List ℕ) : Type 0 where
  pub parts : List (List ℕ)
  pub made : chunks ≡ map chunk_of parts
  pub split : last ≡ false → IsSplit s bs parts buffered
  pub ended : last ≡ true → (parts ≡ chunking s bs) × (buffered ≡ [])

-- Pieces of a stream, each with the chunks that it gave: with these bytes buffered before them, each piece is split in
-- turn, and `left` is buffered at the end.
abbrev pub AreSplit : LimitSettings → List ℕ → List (List ℕ × List (List ℕ)) → List ℕ → Type 0
AreSplit s buffered [] left = buffered ≡ left
AreSplit s buffered (p ∷ rest) left = (next : List ℕ) × IsSplit s (buffered ++ p.0) p.1 next × AreSplit s next rest left
