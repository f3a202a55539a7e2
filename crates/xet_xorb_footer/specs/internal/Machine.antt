-- Reading a footer field by field: the next field, its size, the state after it, and all that follows, for private functions.
use Rattle.std.specs.Prelude.{◌<◌, ℕ, ◌+◌, ◌-◌, ◌*◌, ◌==◌, nat_eq, nat_le, nat_lt, Bool, true, false, ◌&&◌, List, [], ◌∷◌, ◌++◌, length, replicate, Result, Ok, if◌then◌else◌}
use Rattle.std.specs.Cmp.Lexicographic.{pointwise}
use Rattle.std.specs.Int.{w32, from_le_bytes}
use Rattle.xet_hash.specs.declared.error.Reason.{Reason}
use Rattle.xet_hash.specs.declared.error.Reason.TheVariants as reasons
use Rattle.xet_hash.specs.declared.error.StoreError.{StoreError}
use Rattle.xet_hash.specs.Hash.{zero_hash}
use Rattle.xet_xorb_footer.specs.declared.machine.Field.{Field}
use Rattle.xet_xorb_footer.specs.declared.machine.Field.TheVariants as fields
use Rattle.xet_xorb_footer.specs.internal.Items.{hashes_in, numbers_in}
use Rattle.xet_codec.specs.Parsing.{◌>>=◌, Parsed, wants}
use Rattle.xet_xorb_footer.specs.FooterEncoding.{boundaries_magic, footer_magic, hashes_magic, max_chunks}
use Rattle.xet_xorb_footer.specs.Machine.{FooterParts, block_of}

-- If the field is one of a list, the list is incomplete.
abbrev pub IsIncomplete : Field → FooterParts → Type 0
IsIncomplete fields.Hashes p = length p.hashes < p.count
IsIncomplete fields.Ends p = length p.ends < p.count
IsIncomplete fields.PlainEnds p = length p.plain < p.count
IsIncomplete f p = Unit {0}

-- The field `here` while the list is incomplete, then the field `behind`.
abbrev pub lacks : {X : Type 0} → FooterParts → List X → Field → Field → Field
lacks p xs here behind = if nat_lt (length xs) p.count then here else behind

-- The chunk hashes, or the boundary offsets, while they are incomplete, then the field `behind`.
abbrev pub hashes_or : FooterParts → Field → Field
hashes_or p behind = lacks p p.hashes fields.Hashes behind

abbrev pub ends_or : FooterParts → Field → Field
ends_or p behind = lacks p p.ends fields.Ends behind

abbrev pub plain_v1 : FooterParts → Field
plain_v1 p = lacks p p.plain fields.PlainEnds fields.CountLast

abbrev pub ends_v1 : FooterParts → Field
ends_v1 p = ends_or p (plain_v1 p)

abbrev pub hashes_v1 : FooterParts → Field
hashes_v1 p = hashes_or p fields.BoundariesIdent

abbrev pub hashes_v0 : FooterParts → Field
hashes_v0 p = hashes_or p fields.Spare

abbrev pub ends_v0 : FooterParts → Field
ends_v0 p = ends_or p (hashes_v0 p)

abbrev pub Next : Type 0
Next = Result (Field × FooterParts) StoreError

-- What was read, and the next field after it.
abbrev pub advance : (FooterParts → Field) → FooterParts → Next
advance next p = Ok (next p, p)

abbrev pub expects : List ℕ → List ℕ → Reason → Field → FooterParts → Next
expects field ident reason next p = wants (pointwise nat_eq field ident) reason >>= λ _. Ok (next, p)

abbrev pub expects_number : List ℕ → ℕ → Reason → Field → FooterParts → Next
expects_number field n reason next p = wants (from_le_bytes w32 field == n) reason >>= λ _. Ok (next, p)

abbrev pub next_version : FooterParts → List ℕ → Next
next_version p field = if p.either && pointwise nat_eq field (1 ∷ []) then Ok (fields.Hash, record p { is_v1 = true }) else expects field (0 ∷ []) reasons.Version fields.Hash (record p { is_v1 = false })

abbrev pub next_hash : FooterParts → List ℕ → Next
next_hash p field = Ok (if p.is_v1 then fields.HashesIdent else fields.Count, record p { hash = field })

abbrev pub behind_count : FooterParts → Field
behind_count p = if p.is_v1 then hashes_v1 p else ends_v0 p

abbrev pub next_count : FooterParts → List ℕ → Next
next_count p field = wants (nat_le (from_le_bytes w32 field) max_chunks) reasons.ChunkCount >>= λ _. Ok (behind_count (record p { count = from_le_bytes w32 field }), record p { count = from_le_bytes w32 field })

abbrev pub behind_hashes : FooterParts → Field
behind_hashes p = if p.is_v1 then hashes_v1 p else hashes_v0 p

abbrev pub more_hashes : FooterParts → List ℕ → FooterParts
more_hashes p field = record p { hashes = p.hashes ++ hashes_in (block_of p p.hashes) field }

abbrev pub behind_ends : FooterParts → Field
behind_ends p = if p.is_v1 then ends_v1 p else ends_v0 p

abbrev pub more_ends : FooterParts → List ℕ → FooterParts
more_ends p field = record p { ends = p.ends ++ numbers_in (block_of p p.ends) field }

abbrev pub more_plain : FooterParts → List ℕ → FooterParts
more_plain p field = record p { plain = p.plain ++ numbers_in (block_of p p.plain) field }

abbrev pub next_spare : FooterParts → List ℕ → Next
next_spare p field = Ok (fields.Done, record p { spare = field })

-- The state after a field, or the error of its check.
unfoldable pub step : Field → FooterParts → List ℕ → Next
step fields.Ident p field = expects field footer_magic reasons.Ident fields.Version p
step fields.Version p field = next_version p field
step fields.Hash p field = next_hash p field
step fields.HashesIdent p field = expects field hashes_magic reasons.HashesIdent fields.HashesVersion p
step fields.HashesVersion p field = expects field (0 ∷ []) reasons.HashesVersion fields.Count p
step fields.Count p field = next_count p field
step fields.Hashes p field = advance behind_hashes (more_hashes p field)
step fields.BoundariesIdent p field = expects field boundaries_magic reasons.BoundariesIdent fields.BoundariesVersion p
step fields.BoundariesVersion p field = expects field (1 ∷ []) reasons.BoundariesVersion fields.CountAgain p
step fields.CountAgain p field = expects_number field p.count reasons.CountMismatch (behind_ends p) p
step fields.Ends p field = advance behind_ends (more_ends p field)
step fields.PlainEnds p field = advance plain_v1 (more_plain p field)
step fields.CountLast p field = expects_number field p.count reasons.CountMismatch fields.HashesOffset p
step fields.HashesOffset p field = expects_number field (52 + 40 * p.count) reasons.HashesOffset fields.BoundaryOffset p
step fields.BoundaryOffset p field = expects_number field (40 + 8 * p.count) reasons.BoundaryOffset fields.Spare p
step fields.Spare p field = next_spare p field
step fields.Done p field = Ok (fields.Done, p)

-- The value read, converted.
abbrev pub as_value : {X Y : Type 0} → (X → Y) → Parsed X → Parsed Y
as_value make read = read >>= λ x. Ok (make x.0, x.1)

-- Nothing was read.
abbrev pub started : Bool → FooterParts
started either = record { either = either; is_v1 = false; hash = zero_hash; count = 0; hashes = []; ends = []; plain = []; spare = replicate 16 0 }
