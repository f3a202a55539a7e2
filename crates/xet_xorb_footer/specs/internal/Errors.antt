-- Errors of reading a footer, for private functions.
use Rattle.std.specs.Prelude.{◌≡◌, true}
use Rattle.xet_hash.specs.declared.error.StoreError.{StoreError}
use Rattle.xet_hash.specs.declared.error.StoreError.TheVariants as errors
use Rattle.xet_xorb_footer.specs.Errors.{is_footer_check}

-- The error of a failed check.
abbrev pub IsFailedCheck : StoreError → Type 0
IsFailedCheck (errors.MalformedData reason) = is_footer_check reason ≡ true
IsFailedCheck e = ⊥
