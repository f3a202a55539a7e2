-- Where the bytes end inside a field, there are too few.
use Rattle.std.proofs.Common.{◌≡◌, ◌∙◌, ℕ, ◌+◌, ◌<◌, Bool, true, false, cond, List, [], Ok, Err, ap, arith, length, length-append, refl, take}
use Rattle.std.proofs.lemmas.List.{length-take-le}
use Rattle.xet_io.specs.Whole.{FillsWith}
use Rattle.xet_hash.specs.declared.error.Reason.{Reason}
use Rattle.xet_hash.specs.declared.error.StoreError.TheVariants.{UnexpectedEof}
use Rattle.std.specs.Int.{w32, from_le_bytes}
use Rattle.xet_xorb_footer.specs.declared.machine.Field.{Field}
use Rattle.xet_xorb_footer.specs.declared.machine.Field.TheVariants as fields
use Rattle.xet_xorb_footer.specs.Machine.{FooterParts, rest, rest_boundaries_magic, rest_boundaries_version, rest_boundary_offset, rest_count, rest_count_again, rest_count_last, rest_ends_v0, rest_ends_v1, rest_hash, rest_hashes_magic, rest_hashes_offset, rest_hashes_v0, rest_hashes_v1, rest_hashes_version, rest_magic, rest_plain, rest_spare, rest_version, wanted_of}
use Rattle.xet_codec.specs.Parsing.{next_bytes, number_at}
use Rattle.xet_xorb_footer.specs.Reading.{count_at, magic_at, number_is, version_at}
use Rattle.xet_xorb_footer.specs.theorems.Prefixes.{a_hash, a_number, bytes_short, list_short, number_short}

ident_short : (ident : List ℕ) (reason : Reason) (bytes : List ℕ) → length bytes < 7 → magic_at ident reason bytes ≡ Err UnexpectedEof
unfolding magic_at
ident_short ident reason bytes few = rw (bytes_short 7 bytes few) refl

version_short : (version : ℕ) (reason : Reason) (bytes : List ℕ) → length bytes < 1 → version_at version reason bytes ≡ Err UnexpectedEof
unfolding version_at
version_short version reason bytes few = rw (bytes_short 1 bytes few) refl

number_is_short : (n : ℕ) (reason : Reason) (bytes : List ℕ) → length bytes < 4 → number_is n reason bytes ≡ Err UnexpectedEof
unfolding number_is
number_is_short n reason bytes few = rw (number_short bytes few) refl

count_short : (bytes : List ℕ) → length bytes < 4 → count_at bytes ≡ Err UnexpectedEof
unfolding count_at
count_short bytes few = rw (number_short bytes few) refl

either_way : {A : Type 0} (c : Bool) (x y z : A) → x ≡ z → y ≡ z → cond c x y ≡ z
either_way true x y z is _ = is
either_way false x y z _ is = is

pub rest_short : (f : Field) (p : FooterParts) (bytes : List ℕ) → length bytes < wanted_of f p → rest f p bytes ≡ Err UnexpectedEof
unfolding rest rest_magic rest_version rest_hash rest_hashes_magic rest_hashes_version rest_count rest_hashes_v1 rest_hashes_v0 rest_boundaries_magic rest_boundaries_version rest_count_again rest_ends_v1 rest_ends_v0 rest_plain rest_count_last rest_hashes_offset rest_boundary_offset rest_spare
rest_short fields.Ident p bytes few = rw (ident_short _ _ bytes few) refl
rest_short fields.Version p bytes few = rw (bytes_short 1 bytes few) refl
rest_short fields.Hash p bytes few = rw (bytes_short 32 bytes few) refl
rest_short fields.HashesIdent p bytes few = rw (ident_short _ _ bytes few) refl
rest_short fields.HashesVersion p bytes few = rw (version_short _ _ bytes few) refl
rest_short fields.Count p bytes few = rw (count_short bytes few) refl
rest_short fields.Hashes p bytes few =
    either_way p.is_v1 _ _ (Err UnexpectedEof) (list_short (next_bytes 32) (λ b. b) 32 a_hash p.count p.hashes _ bytes few) (list_short (next_bytes 32) (λ b. b) 32 a_hash p.count p.hashes _ bytes few)
rest_short fields.BoundariesIdent p bytes few = rw (ident_short _ _ bytes few) refl
rest_short fields.BoundariesVersion p bytes few = rw (version_short _ _ bytes few) refl
rest_short fields.CountAgain p bytes few = rw (number_is_short _ _ bytes few) refl
rest_short fields.Ends p bytes few =
    either_way p.is_v1 _ _ (Err UnexpectedEof) (list_short number_at (from_le_bytes w32) 4 a_number p.count p.ends _ bytes few) (list_short number_at (from_le_bytes w32) 4 a_number p.count p.ends _ bytes few)
rest_short fields.PlainEnds p bytes few = list_short number_at (from_le_bytes w32) 4 a_number p.count p.plain _ bytes few
rest_short fields.CountLast p bytes few = rw (number_is_short _ _ bytes few) refl
rest_short fields.HashesOffset p bytes few = rw (number_is_short _ _ bytes few) refl
rest_short fields.BoundaryOffset p bytes few = rw (number_is_short _ _ bytes few) refl
rest_short fields.Spare p bytes few = rw (bytes_short 16 bytes few) refl
rest_short fields.Done p bytes few = absurd (omega arith)

-- a source that has ended inside a field
pub ended : (f : Field) (p : FooterParts) (count : ℕ) (buffer bytes behind : List ℕ) → length buffer ≡ wanted_of f p → count < wanted_of f p → FillsWith count buffer bytes behind → rest f p bytes ≡ Err UnexpectedEof
ended f p count buffer bytes behind len few fills =
    let none : behind ≡ [] = fills.ended (omega arith) in
    let all : length bytes ≡ length (take count buffer) + length behind = ap length fills.taken ∙ length-append (take count buffer) behind in
    rest_short f p bytes (omega (arith, all, ap length none, length-take-le count buffer (omega arith)))

-- a footer that is whole
pub whole : (f : Field) (p : FooterParts) (bytes : List ℕ) → f ≡ fields.Done → rest f p bytes ≡ Ok (p, bytes)
unfolding rest
whole f p bytes e = ap (λ (g : Field). rest g p bytes) e
