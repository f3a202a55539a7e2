-- Reading that goes on after what was read before it.
use Rattle.std.proofs.Common.{◌≡◌, ℕ, ◌+◌, ◌*◌, ◌^◌, ◌≤◌, ◌<◌, List, length, take, drop, Result, Ok, Err, refl, sym, subst}
use Rattle.std.proofs.lemmas.Bool.{le-leb, le-ltb, lt-leb, lt-ltb}
use Rattle.xet_hash.specs.declared.error.Reason.TheVariants.{SectionPlace}
use Rattle.xet_hash.specs.declared.error.StoreError.{StoreError}
use Rattle.xet_hash.specs.declared.error.StoreError.TheVariants as errors
use Rattle.xet_codec.specs.Parsing.{◌>>=◌, GivesUnlessFault}
use Rattle.xet_shard_format.specs.Reading.{shard_footer_at, shard_header_at}
use Rattle.xet_shard_format.specs.declared.header_footer.MDBShardFileFooter.{MDBShardFileFooter}
use Rattle.xet_shard.specs.declared.info.MDBShardInfo.{MDBShardInfo}
use Rattle.xet_shard.specs.internal.ReaderBytes.{piece_at, rows_at}
use Rattle.xet_shard.specs.Sections.{info_at}
use Rattle.xet_shard_format.specs.Encoding.{header}

-- what was read goes on
pub gives_on : {A X B Y : Type 0} (first : A → X) (then : B → Y) (a : A) (read : Result X StoreError) (f : X → Result Y StoreError) (result : Result B StoreError) → read ≡ Ok (first a) → GivesUnlessFault then result (f (first a))
    → GivesUnlessFault then result (read >>= f)
gives_on {A} {X} {B} {Y} first then a read f result e gives = subst (λ (r : Result X StoreError). GivesUnlessFault then result (r >>= f)) (sym e) gives

-- a refusal is handed on
pub fault_on : {A X B Y : Type 0} (first : A → X) (then : B → Y) (e : StoreError) (read : Result X StoreError) (f : X → Result Y StoreError) → GivesUnlessFault first (Err e) read → GivesUnlessFault then (Err e) (read >>= f)
fault_on first then errors.OutOfMemory read f gives = tt
fault_on first then (errors.Io place) read f gives = gives
fault_on first then errors.UnexpectedEof read f gives = rw gives refl
fault_on first then (errors.TooLarge what) read f gives = rw gives refl
fault_on first then errors.FileNotFound read f gives = rw gives refl
fault_on first then errors.InvalidRange read f gives = rw gives refl
fault_on first then errors.InvalidArguments read f gives = rw gives refl
fault_on first then (errors.MalformedData reason) read f gives = rw gives refl
fault_on first then errors.ChunkHeaderParse read f gives = rw gives refl
fault_on first then errors.HashMismatch read f gives = rw gives refl
fault_on first then (errors.InvalidShard hash reason) read f gives = rw gives refl
fault_on first then errors.TruncatedHashCollision read f gives = rw gives refl
fault_on first then errors.BadFilename read f gives = rw gives refl
fault_on first then (errors.CompressionError number) read f gives = rw gives refl
fault_on first then (errors.BadLimits field) read f gives = rw gives refl

-- ---- pieces

pub piece_there : (at len : ℕ) (bytes : List ℕ) → at + len ≤ length bytes → piece_at at len bytes ≡ Ok (take len (drop at bytes))
unfolding piece_at
piece_there at len bytes le = rw (le-leb (at + len) (length bytes) le) refl

pub piece_short : (at len : ℕ) (bytes : List ℕ) → length bytes < at + len → piece_at at len bytes ≡ Err errors.UnexpectedEof
unfolding piece_at
piece_short at len bytes lt = rw (lt-leb (at + len) (length bytes) lt) refl

pub rows_few : (at count : ℕ) (bytes : List ℕ) → count < 2 ^ 32 → piece_at at (48 * count) bytes ≡ rows_at at count bytes
unfolding rows_at
rows_few at count bytes lt = rw (lt-ltb count (2 ^ 32) lt) refl

pub rows_many : (at count : ℕ) (bytes : List ℕ) → 2 ^ 32 ≤ count → rows_at at count bytes ≡ Err (errors.MalformedData SectionPlace)
unfolding rows_at
rows_many at count bytes le = rw (le-ltb count (2 ^ 32) le) refl

-- ---- header and footer

pub info_of : (bytes : List ℕ) (f : MDBShardFileFooter) → shard_header_at bytes ≡ Ok tt → shard_footer_at bytes ≡ Ok f → info_at bytes ≡ Ok (record { header = header; metadata = f })
unfolding info_at
info_of bytes f h g = rw (h, g) refl

pub info_fails : (bytes : List ℕ) (e : StoreError) → GivesUnlessFault {X = Unit {0}} (λ _. tt) (Err e) (shard_header_at bytes) → GivesUnlessFault {X = MDBShardInfo} (λ info. info) (Err e) (info_at bytes)
unfolding info_at
info_fails bytes e gives = fault_on {A = Unit {0}} (λ _. tt) (λ info. info) e (shard_header_at bytes) _ gives

pub info_ends : (bytes : List ℕ) (e : StoreError) → shard_header_at bytes ≡ Ok tt → GivesUnlessFault {X = MDBShardFileFooter} (λ f. f) (Err e) (shard_footer_at bytes) → GivesUnlessFault {X = MDBShardInfo} (λ info. info) (Err e) (info_at bytes)
unfolding info_at
info_ends bytes e h gives =
    gives_on {A = Unit {0}} (λ _. tt) (λ info. info) tt (shard_header_at bytes) _ (Err e) h (fault_on {A = MDBShardFileFooter} (λ f. f) (λ info. info) e (shard_footer_at bytes) _ gives)
