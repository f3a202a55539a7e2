-- What a reader knows after a field.
use Rattle.std.proofs.Common.{◌≡◌, ◌∙◌, ℕ, ◌+◌, ◌≤◌, ◌⊎◌, List, ◌++◌, Result, Ok, Err, ap, inl, inr, length, refl, subst, sym}
use Rattle.std.specs.Result.{IfErr, IfOk, IsErrOf, OnOk}
use Rattle.xet_hash.specs.declared.error.StoreError.{StoreError}
use Rattle.xet_hash.specs.declared.error.StoreError.TheVariants as errors
use Rattle.xet_xorb_footer.specs.declared.machine.Field.{Field}
use Rattle.xet_xorb_footer.specs.internal.Machine.{IsIncomplete, Next, step}
use Rattle.xet_xorb_footer.specs.Machine.{FooterParts, rest, room_of, wanted_of}
use Rattle.xet_codec.specs.Parsing.{Fails, Gives}
use Rattle.xet_xorb_footer.specs.internal.Errors.{IsFailedCheck}
use Rattle.xet_xorb_footer.specs.Errors.{IsBytesError}
use Rattle.xet_xorb_footer.proofs.Known.{step_refused, step_room, step_settled}
use Rattle.xet_xorb_footer.proofs.Steps.{behind, rest_step}

fails_by : {Y : Type 0} (e : StoreError) (read : Result Y StoreError) → Fails e read → (e ≡ errors.OutOfMemory) ⊎ (read ≡ Err e)
fails_by errors.OutOfMemory read f = inl refl
fails_by (errors.Io place) read f = inr f
fails_by errors.UnexpectedEof read f = inr f
fails_by (errors.TooLarge what) read f = inr f
fails_by errors.FileNotFound read f = inr f
fails_by errors.InvalidRange read f = inr f
fails_by errors.InvalidArguments read f = inr f
fails_by (errors.MalformedData reason) read f = inr f
fails_by errors.ChunkHeaderParse read f = inr f
fails_by errors.HashMismatch read f = inr f
fails_by (errors.InvalidShard hash reason) read f = inr f
fails_by errors.TruncatedHashCollision read f = inr f
fails_by errors.BadFilename read f = inr f
fails_by (errors.CompressionError number) read f = inr f
fails_by (errors.BadLimits field) read f = inr f

pub taken : {U : Type 0} (f n : Field) (p q : FooterParts) (field : List ℕ) (r : Result U StoreError) → length field ≡ wanted_of f p → Gives (λ _. (n, q)) r (step f p field)
    → OnOk r ((more : List ℕ) → rest f p (field ++ more) ≡ rest n q more)
taken f n p q field (Ok u) len gives = λ more. rest_step f p field more len ∙ ap (λ (s : Next). behind s more) gives
taken f n p q field (Err e) len gives = tt

pub refused : {U : Type 0} (f n : Field) (p q : FooterParts) (field : List ℕ) (r : Result U StoreError) → length field ≡ wanted_of f p → Gives (λ _. (n, q)) r (step f p field)
    → IfErr r (λ e. (e ≡ errors.OutOfMemory) ⊎ ((more : List ℕ) → rest f p (field ++ more) ≡ Err e))
refused f n p q field (Ok u) len gives = tt
refused f n p q field (Err e) len gives = by (fails_by e (step f p field) gives)
  where
    by : (e ≡ errors.OutOfMemory) ⊎ (step f p field ≡ Err e) → (e ≡ errors.OutOfMemory) ⊎ ((more : List ℕ) → rest f p (field ++ more) ≡ Err e)
    by (inl memory) = inl memory
    by (inr is) = inr (λ more. rest_step f p field more len ∙ ap (λ (s : Next). behind s more) is)

refusal_of : (e : StoreError) → IsFailedCheck e → IsBytesError e
refusal_of (errors.MalformedData reason) is = is
refusal_of e is = absurd is

pub kinds : {U : Type 0} (f n : Field) (p q : FooterParts) (field : List ℕ) (r : Result U StoreError) → Gives (λ _. (n, q)) r (step f p field) → IfErr r IsBytesError
kinds f n p q field (Ok u) gives = tt
kinds f n p q field (Err e) gives = by (fails_by e (step f p field) gives)
  where
    by : (e ≡ errors.OutOfMemory) ⊎ (step f p field ≡ Err e) → IsBytesError e
    by (inl memory) = subst IsBytesError (sym memory) tt
    by (inr is) = refusal_of e (subst (λ (s : Next). IfErr s IsFailedCheck) is (step_refused f p field))

-- a field that is there does not end before its end
pub unended : {U : Type 0} (f n : Field) (p q : FooterParts) (field : List ℕ) (r : Result U StoreError) → Gives (λ _. (n, q)) r (step f p field) → IsErrOf r errors.UnexpectedEof → ⊥
unended f n p q field (Ok u) gives ended = cc
unended f n p q field (Err e) gives ended = by (fails_by e (step f p field) gives)
  where
    same : e ≡ errors.UnexpectedEof
    same = cc

    by : (e ≡ errors.OutOfMemory) ⊎ (step f p field ≡ Err e) → ⊥
    by (inl memory) = let both : errors.OutOfMemory ≡ errors.UnexpectedEof = sym memory ∙ same in cc
    by (inr is) = subst IsFailedCheck same (subst (λ (s : Next). IfErr s IsFailedCheck) is (step_refused f p field))

pub settled : {U : Type 0} (f n : Field) (p q : FooterParts) (field : List ℕ) (r : Result U StoreError) → Gives (λ _. (n, q)) r (step f p field) → OnOk r (IsIncomplete n q)
settled f n p q field (Ok u) gives = subst (λ (s : Next). IfOk s (λ x. IsIncomplete x.0 x.1)) gives (step_settled f p field)
settled f n p q field (Err e) gives = tt

pub left : {U : Type 0} (f n : Field) (p q : FooterParts) (field : List ℕ) (r : Result U StoreError) → length field ≡ wanted_of f p → Gives (λ _. (n, q)) r (step f p field) → OnOk r (length field + room_of n q ≤ room_of f p)
left f n p q field (Ok u) len gives = subst (λ (k : ℕ). k + room_of n q ≤ room_of f p) (sym len) (subst (λ (s : Next). IfOk s (λ x. wanted_of f p + room_of x.0 x.1 ≤ room_of f p)) gives (step_room f p field))
left f n p q field (Err e) len gives = tt
