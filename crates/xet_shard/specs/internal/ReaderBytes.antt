-- The byte ranges from which the parts of a shard are read, each with the checks that it needs.
use Rattle.std.specs.Prelude.{ℕ, ◌+◌, ◌*◌, ◌^◌, nat_le, nat_lt, List, length, take, drop, Result, Ok}
use Rattle.xet_hash.specs.declared.error.Reason.TheVariants.{SectionPlace}
use Rattle.xet_hash.specs.declared.error.StoreError.{StoreError}
use Rattle.xet_codec.specs.Parsing.{reaches, wants, ◌>>=◌}

-- the `len` bytes at offset `at`
unfoldable pub piece_at : ℕ → ℕ → List ℕ → Result (List ℕ) StoreError
piece_at at len bytes = do
  _ ← reaches (nat_le (at + len) (length bytes))
  Ok (take len (drop at bytes))

-- the bytes of a section of `count` rows
unfoldable pub rows_at : ℕ → ℕ → List ℕ → Result (List ℕ) StoreError
rows_at at count bytes = do
  _ ← wants (nat_lt count (2 ^ 32)) SectionPlace
  piece_at at (48 * count) bytes
