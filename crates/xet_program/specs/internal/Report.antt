-- The line of a pointer record, for private functions.
use Rattle.std.specs.Prelude.{ℕ, List, [], ◌∷◌, ◌++◌, Option, Some, None}
use Rattle.std.specs.Fmt.{decimal}
use Rattle.hex.specs.Hex.{encode_lower}
use Rattle.xet_hash.specs.Hash.{hash_text}
use Rattle.xet_store_disk.specs.declared.info.XetFileInfo.{XetFileInfo}

-- the SHA-256 of a pointer record in hexadecimal; nothing if there is none
abbrev pub sha256_text : Option (List ℕ) → List ℕ
sha256_text None = []
sha256_text (Some digest) = encode_lower digest

-- the line of a pointer record
unfoldable pub info_line : XetFileInfo → List ℕ
info_line info = hash_text info.hash ++ 32 ∷ decimal info.file_size ++ 32 ∷ sha256_text info.sha256 ++ 10 ∷ []
