-- Errors of reading a footer.
use Rattle.std.specs.Prelude.{◌≡◌, Bool, true, false}
use Rattle.xet_hash.specs.declared.error.Place.TheVariants.{Input}
use Rattle.xet_hash.specs.declared.error.Reason.{Reason}
use Rattle.xet_hash.specs.declared.error.Reason.TheVariants as reasons
use Rattle.xet_hash.specs.declared.error.StoreError.{StoreError}
use Rattle.xet_hash.specs.declared.error.StoreError.TheVariants as errors

-- Reasons of the checks of a footer.
abbrev pub is_footer_check : Reason → Bool
is_footer_check reasons.Ident = true
is_footer_check reasons.Version = true
is_footer_check reasons.HashesIdent = true
is_footer_check reasons.HashesVersion = true
is_footer_check reasons.BoundariesIdent = true
is_footer_check reasons.BoundariesVersion = true
is_footer_check reasons.ChunkCount = true
is_footer_check reasons.CountMismatch = true
is_footer_check reasons.HashesOffset = true
is_footer_check reasons.BoundaryOffset = true
is_footer_check reason = false

-- Errors of reading bytes in memory: of the bytes, or out of memory.
abbrev pub IsBytesError : StoreError → Type 0
IsBytesError errors.OutOfMemory = Unit {0}
IsBytesError errors.UnexpectedEof = Unit {0}
IsBytesError (errors.MalformedData reason) = is_footer_check reason ≡ true
IsBytesError e = ⊥

-- Errors of reading a source.
abbrev pub IsFooterError : StoreError → Type 0
IsFooterError (errors.Io place) = place ≡ Input
IsFooterError e = IsBytesError e
