-- Compression schemes: their numbers, their names, and the bytes that they store.
use Rattle.std.specs.Prelude.{ℕ, ◌==◌, List, [], codes, Result, Ok, Err, if◌then◌else◌}
use Rattle.std.specs.Str.{bytes_eq}
use Rattle.xet_hash.specs.declared.error.StoreError.{StoreError}
use Rattle.xet_hash.specs.declared.error.StoreError.TheVariants.{CompressionError, MalformedData}
use Rattle.xet_hash.specs.declared.error.Reason.TheVariants.{AutoScheme, Scheme, SchemeText}
use Rattle.xet_xorb_chunk.specs.declared.scheme.CompressionScheme.{CompressionScheme}
use Rattle.xet_xorb_chunk.specs.declared.scheme.CompressionScheme.TheVariants.{Auto, ByteGrouping4LZ4, LZ4, None}

-- The scheme's number in a chunk header.
abbrev pub scheme_number : CompressionScheme → ℕ
scheme_number None = 0
scheme_number LZ4 = 1
scheme_number ByteGrouping4LZ4 = 2
scheme_number Auto = 99

-- The scheme with this number.
abbrev pub scheme_of : ℕ → Result CompressionScheme StoreError
scheme_of n =
    if n == 0 then Ok None
    else if n == 1 then Ok LZ4
    else if n == 2 then Ok ByteGrouping4LZ4
    else if n == 99 then Ok Auto
    else Err (MalformedData Scheme)

abbrev pub scheme_name : CompressionScheme → List ℕ
scheme_name None = codes "none"
scheme_name LZ4 = codes "lz4"
scheme_name ByteGrouping4LZ4 = codes "bg4-lz4"
scheme_name Auto = codes "auto"

-- The scheme with this name, in lower-case letters. The empty name is that of `Auto`.
abbrev pub scheme_named : List ℕ → Result CompressionScheme StoreError
scheme_named name =
    if bytes_eq name [] then Ok Auto
    else if bytes_eq name (scheme_name Auto) then Ok Auto
    else if bytes_eq name (scheme_name None) then Ok None
    else if bytes_eq name (scheme_name LZ4) then Ok LZ4
    else if bytes_eq name (scheme_name ByteGrouping4LZ4) then Ok ByteGrouping4LZ4
    else Err (MalformedData SchemeText)

-- The scheme under which bytes are stored.
abbrev pub resolved : CompressionScheme → CompressionScheme
resolved None = None
resolved LZ4 = LZ4
resolved ByteGrouping4LZ4 = ByteGrouping4LZ4
resolved Auto = None

-- The stored form of a chunk's bytes, or the error of a scheme that is not supported.
abbrev pub compressed : CompressionScheme → List ℕ → Result (List ℕ) StoreError
compressed None bytes = Ok bytes
compressed LZ4 bytes = Err (CompressionError 1)
compressed ByteGrouping4LZ4 bytes = Err (CompressionError 2)
compressed Auto bytes = Ok bytes

-- The content of stored bytes, or the error of a scheme that is not supported.
abbrev pub decompressed : CompressionScheme → List ℕ → Result (List ℕ) StoreError
decompressed None bytes = Ok bytes
decompressed LZ4 bytes = Err (CompressionError 1)
decompressed ByteGrouping4LZ4 bytes = Err (CompressionError 2)
decompressed Auto bytes = Err (MalformedData AutoScheme)
