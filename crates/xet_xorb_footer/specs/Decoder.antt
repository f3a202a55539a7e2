-- The state of an incremental footer decoder.
use Rattle.std.specs.Prelude.{◌≡◌, ◌⊎◌, ℕ, ◌+◌, Bool, false, List, ◌++◌, length, Err}
use Rattle.xet_hash.specs.declared.error.StoreError.{StoreError}
use Rattle.xet_hash.specs.declared.error.StoreError.TheVariants.{OutOfMemory}
use Rattle.xet_xorb_footer.specs.declared.decoder.InfoDecoder.{InfoDecoder}
use Rattle.xet_xorb_footer.specs.Ends.{whole_footer}
use Rattle.xet_xorb_footer.specs.Joining.{rest_whole}

-- No call has failed.
abbrev pub is_footer_intact : InfoDecoder → Bool
is_footer_intact d = d.whole

-- The decoder was fed `bytes`: whatever follows, reading all of it from the first field gives what reading
-- the buffered bytes and the rest gives from the next field on.
pub record WasFedFooter (d : InfoDecoder) (bytes : List ℕ) : Type 0 where
  pub rest : (more : List ℕ) → whole_footer (bytes ++ more) ≡ rest_whole d.joined (length (bytes ++ more)) (d.held.items ++ more)
  pub count : d.joined.ended ≡ false → length bytes ≡ d.joined.count + length d.held.items

-- Errors of a part: out of memory, or the error of all bytes, whatever follows.
abbrev pub FailsPart : InfoDecoder → List ℕ → StoreError → Type 0
FailsPart d piece e = (e ≡ OutOfMemory) ⊎ ((bytes more : List ℕ) → WasFedFooter d bytes → whole_footer ((bytes ++ piece) ++ more) ≡ Err e)
