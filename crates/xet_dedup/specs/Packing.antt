-- How the chunks of a file are packed into xorbs.
use Rattle.std.specs.Prelude.{ℕ, zero, suc, ◌-◌, nat_le, true, false, List, [], ◌∷◌, length}
use Rattle.xet_base.specs.Pieces.{pieces}
use Rattle.xet_cut.specs.declared.limits.LimitSettings.{LimitSettings}

-- How many of the first chunks go into a xorb with room for this many bytes and chunks. It ends before the
-- first chunk that exceeds either.
unfoldable pub fitting : ℕ → ℕ → List (List ℕ) → ℕ
fitting bytes zero chunks = 0
fitting bytes (suc count) [] = 0
fitting bytes (suc count) (c ∷ cs) =
    elim (nat_le (length c) bytes) [ true ↦ suc (fitting (bytes - length c) count cs) | false ↦ 0 ]

unfoldable pub pack_len : LimitSettings → List (List ℕ) → ℕ
pack_len s chunks = fitting s.cut_bytes s.cut_chunks chunks

-- the chunks of a file, xorb by xorb
abbrev pub packs : LimitSettings → List (List ℕ) → List (List (List ℕ))
packs s chunks = pieces (pack_len s) chunks
