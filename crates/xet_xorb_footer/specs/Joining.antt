-- Reading a footer and its length, from one field on.
use Rattle.std.specs.Prelude.{◌≡◌, ◌⊎◌, ◌≤◌, ℕ, zero, suc, ◌+◌, ◌-◌, ◌*◌, ◌==◌, Bool, true, false, List, length, Result, Ok, if◌then◌else◌}
use Rattle.xet_hash.specs.declared.error.Reason.TheVariants.{InfoLength, TrailingBytes}
use Rattle.xet_hash.specs.declared.error.StoreError.{StoreError}
use Rattle.xet_hash.specs.declared.error.StoreError.TheVariants.{MalformedData}
use Rattle.xet_xorb_footer.specs.declared.decoder.Joined.{Joined}
use Rattle.xet_xorb_footer.specs.declared.info.XorbObjectInfoV1.{XorbObjectInfoV1}
use Rattle.xet_xorb_footer.specs.declared.machine.Field.{Field}
use Rattle.xet_xorb_footer.specs.declared.machine.Field.TheVariants as fields
use Rattle.xet_xorb_footer.specs.Machine.{info_of_parts}
use Rattle.xet_xorb_footer.specs.Reader.{bytes_left, bytes_wanted, footer_parts_of, rest_of}
use Rattle.xet_codec.specs.Parsing.{◌>>=◌, number_at, wants}
use Rattle.xet_xorb_footer.specs.Errors.{IsBytesError}
use Rattle.xet_xorb_footer.specs.FooterEncoding.{max_chunks}

-- The end of a footer: its length, and nothing else. `total` is the number of all bytes.
abbrev pub ends_with : XorbObjectInfoV1 → ℕ → List ℕ → Result (XorbObjectInfoV1 × ℕ) StoreError
ends_with info total bytes = do
  n ← number_at bytes
  _ ← wants (n.0 == total - length bytes) InfoLength
  _ ← wants (length n.1 == 0) TrailingBytes
  Ok (info, n.0)

-- What reading gives from the next field on. `bytes` is left, of `total` bytes in all.
unfoldable pub rest_whole : Joined → ℕ → List ℕ → Result (XorbObjectInfoV1 × ℕ) StoreError
rest_whole j total bytes = if j.ended then (wants (length bytes == 0) TrailingBytes >>= λ _. Ok (info_of_parts (footer_parts_of j.footer), j.count)) else (rest_of j.footer bytes >>= λ x. ends_with (info_of_parts x.0) total x.1)

-- Number of bytes of the next field: one of the footer, the length, or any byte after it. `n` is that of the
-- footer's next field.
abbrev pub wanted_next : Bool → ℕ → ℕ
wanted_next true n = 1
wanted_next false zero = 4
wanted_next false (suc n) = suc n

abbrev pub joined_wanted : Joined → ℕ
joined_wanted j = wanted_next j.ended (bytes_wanted j.footer)

-- The footer is complete.
abbrev pub is_done : Field → Bool
is_done fields.Done = true
is_done f = false

-- The next field is no complete list, and the footer does not become too long.
pub record IsReady (j : Joined) : Type 0 where
  pub settled : bytes_wanted j.footer ≡ 0 → is_done j.footer.next ≡ true
  pub left : j.count + bytes_left j.footer ≤ 92 + 40 * max_chunks

-- Errors of reading a footer and its length.
abbrev pub IsWholeError : StoreError → Type 0
IsWholeError e = IsBytesError e ⊎ ((e ≡ MalformedData InfoLength) ⊎ (e ≡ MalformedData TrailingBytes))
