-- The footer by the ends of a shard's bytes alone.
use Rattle.std.proofs.Common.{◌≡◌, ◌⊎◌, inl, inr, ◌∙◌, ℕ, ◌-◌, List, length, take, drop, Result, Ok, Err, IfErr, refl, sym, ap}
use Rattle.xet_hash.specs.declared.error.Reason.{Reason}
use Rattle.xet_hash.specs.declared.error.StoreError.{StoreError}
use Rattle.xet_hash.specs.declared.error.StoreError.TheVariants as errors
use Rattle.xet_shard_format.specs.Ends.{footer_of_last, header_of_first}
use Rattle.xet_codec.specs.Parsing.{◌>>=◌}
use Rattle.xet_shard_format.specs.Reading.{ends_of, shard_footer_at, shard_header_at}
use Rattle.xet_shard_format.specs.theorems.FirstLast.{footer_from, header_first, header_of_first_is}
use Rattle.xet_shard_format.specs.theorems.Refusing.{IsAnswer, IsOfBytes}

abbrev pub IsEndsError : StoreError → Type 0
IsEndsError e = (e ≡ errors.UnexpectedEof) ⊎ ((reason : Reason) × (e ≡ errors.MalformedData reason))

error_of : (e : StoreError) → IsOfBytes e → IsEndsError e
error_of errors.UnexpectedEof of = inl refl
error_of (errors.MalformedData reason) of = inr (reason, refl)
error_of e of = absurd of

-- the errors of a result that is what reading of bytes gives
pub ends_error : {X : Type 0} (result read : Result X StoreError) → IsAnswer read → result ≡ read → IfErr result IsEndsError
ends_error (Ok x) read answers is = tt
ends_error (Err e) read answers is = error_of e (answers.refusal e (sym is))

header_of_ends : (len : ℕ) (bytes first : List ℕ) → len ≡ length bytes → first ≡ take 48 bytes → header_of_first len first ≡ shard_header_at bytes
header_of_ends len bytes first e is = ap (header_of_first len) is ∙ header_first len bytes ∙ ap (λ (n : ℕ). header_of_first n bytes) e ∙ header_of_first_is bytes

-- where the header passes, the footer is what the last bytes give
pub passed : (len : ℕ) (bytes first last : List ℕ) (u : Unit {0}) → len ≡ length bytes → first ≡ take 48 bytes → last ≡ take 200 (drop (len - 200) bytes) → Ok u ≡ header_of_first len first
    → footer_of_last len last ≡ ends_of bytes
passed len bytes first last u e is end ok =
    footer_from len bytes last e end ∙ ap (λ (h : Result (Unit {0}) StoreError). h >>= λ _. shard_footer_at bytes) (ok ∙ header_of_ends len bytes first e is)

-- where it does not, its error is the whole's
pub stopped : (len : ℕ) (bytes first : List ℕ) (d : StoreError) → len ≡ length bytes → first ≡ take 48 bytes → Err d ≡ header_of_first len first → Err d ≡ ends_of bytes
stopped len bytes first d e is fails = ap (λ (h : Result (Unit {0}) StoreError). h >>= λ _. shard_footer_at bytes) (fails ∙ header_of_ends len bytes first e is)
