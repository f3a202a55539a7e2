-- Refusals that are handed on.
use Rattle.std.proofs.Common.{◌≡◌, Result, Err}
use Rattle.xet_hash.specs.declared.error.StoreError.{StoreError}
use Rattle.xet_hash.specs.declared.error.StoreError.TheVariants as errors
use Rattle.xet_codec.specs.Parsing.{Fails}

-- where one reading fails as another does, the other's refusal is its own
pub fails_on : {Y Z : Type 0} (e : StoreError) (read : Result Y StoreError) (total : Result Z StoreError) → (read ≡ Err e → total ≡ Err e) → Fails e read → Fails e total
fails_on errors.OutOfMemory read total on f = tt
fails_on (errors.Io place) read total on f = on f
fails_on errors.UnexpectedEof read total on f = on f
fails_on (errors.TooLarge what) read total on f = on f
fails_on errors.FileNotFound read total on f = on f
fails_on errors.InvalidRange read total on f = on f
fails_on errors.InvalidArguments read total on f = on f
fails_on (errors.MalformedData reason) read total on f = on f
fails_on errors.ChunkHeaderParse read total on f = on f
fails_on errors.HashMismatch read total on f = on f
fails_on (errors.InvalidShard hash reason) read total on f = on f
fails_on errors.TruncatedHashCollision read total on f = on f
fails_on errors.BadFilename read total on f = on f
fails_on (errors.CompressionError number) read total on f = on f
fails_on (errors.BadLimits field) read total on f = on f
