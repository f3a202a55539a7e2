-- The bytes in a buffer that are not written yet.
use Rattle.std.specs.Prelude.{◌≡◌, ℕ, List, take}
use Rattle.xet_codec.specs.declared.buffer.Buffer.{Buffer}

abbrev pub buffered_in : Buffer → List ℕ
buffered_in b = take b.used b.bytes

-- nothing is buffered
abbrev pub IsEmpty : Buffer → Type 0
IsEmpty b = b.used ≡ 0
