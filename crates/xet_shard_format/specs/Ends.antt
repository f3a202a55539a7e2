-- Header and footer, read from the first and the last bytes of a shard alone.
use Rattle.std.specs.Prelude.{ℕ, ◌==◌, nat_eq, nat_le, List, take, drop, replicate, Result, Ok}
use Rattle.std.specs.Cmp.Lexicographic.{pointwise}
use Rattle.xet_hash.specs.declared.error.Reason.TheVariants.{FooterSize, SectionPlace, ShardVersion, Tag}
use Rattle.xet_hash.specs.declared.error.StoreError.{StoreError}
use Rattle.xet_shard_format.specs.declared.header_footer.MDBShardFileFooter.{MDBShardFileFooter}
use Rattle.xet_shard_format.specs.Reading.{footer_in, places_at}
use Rattle.xet_codec.specs.Parsing.{reaches, wants, ◌>>=◌}
use Rattle.xet_codec.specs.Numbers.{word}
use Rattle.xet_shard_format.specs.Encoding.{tag}

-- the checks of the header of a shard of `len` bytes, by its first 48 bytes
unfoldable pub header_of_first : ℕ → List ℕ → Result (Unit {0}) StoreError
header_of_first len first = do
  _ ← reaches (nat_le 32 len)
  _ ← wants (pointwise nat_eq (take 32 first) tag) Tag
  _ ← reaches (nat_le 40 len)
  _ ← wants (word first 32 == 2) ShardVersion
  _ ← reaches (nat_le 48 len)
  _ ← wants (word first 40 == 200) FooterSize
  reaches (nat_le 248 len)

-- the footer of a shard of `len` bytes, by its last 200 bytes
unfoldable pub footer_of_last : ℕ → List ℕ → Result MDBShardFileFooter StoreError
footer_of_last len last = do
  _ ← wants (word last 0 == 1) ShardVersion
  _ ← wants (pointwise nat_eq (take 48 (drop 120 last)) (replicate 48 0)) SectionPlace
  _ ← places_at len (footer_in last)
  Ok (footer_in last)
