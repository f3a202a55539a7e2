-- Errors of the checks of stored chunks.
use Rattle.std.specs.Prelude.{◌≡◌, Bool, true, false}
use Rattle.xet_hash.specs.declared.error.StoreError.{StoreError}
use Rattle.xet_hash.specs.declared.error.StoreError.TheVariants.{ChunkHeaderParse, CompressionError, MalformedData, UnexpectedEof}
use Rattle.xet_hash.specs.declared.error.Reason.{Reason}
use Rattle.xet_hash.specs.declared.error.Reason.TheVariants as reasons

-- Reasons of the checks of a chunk's header, of its body, and of the total length.
abbrev pub is_chunk_check : Reason → Bool
is_chunk_check reasons.Scheme = true
is_chunk_check reasons.HeaderVersion = true
is_chunk_check reasons.StoredLength = true
is_chunk_check reasons.PlainLength = true
is_chunk_check reasons.AutoScheme = true
is_chunk_check reasons.BodyLength = true
is_chunk_check reasons.TotalLength = true
is_chunk_check reason = false

-- Whether this is the error of a check: the bytes end inside a chunk, begin like a footer, are malformed, or
-- are compressed under a scheme that is not supported.
abbrev pub is_stream_check : StoreError → Bool
is_stream_check UnexpectedEof = true
is_stream_check ChunkHeaderParse = true
is_stream_check (MalformedData reason) = is_chunk_check reason
is_stream_check (CompressionError scheme) = true
is_stream_check e = false

abbrev pub IsCheck : StoreError → Type 0
IsCheck e = is_stream_check e ≡ true
