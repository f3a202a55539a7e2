-- What refuses by a check never stands for a failure of the outside or for want of memory.
use Rattle.std.proofs.Common.{◌≡◌, ◌⊎◌, ◌==◌, ◌*◌, ℕ, nat_le, nat_lt, length, take, Bool, true, false, List, Ok, Err, IfErr, Result, refl, sym, ap, ◌∙◌, Option, subst, cond, inl, inr}
use Rattle.std.proofs.lemmas.Bool.{false≢true}
use Rattle.std.specs.Result.{IsErrAnd}
use Rattle.xet_hash.specs.declared.error.Place.{Place}
use Rattle.xet_hash.specs.declared.error.StoreError.{StoreError}
use Rattle.xet_hash.specs.declared.error.StoreError.TheVariants.{ChunkHeaderParse, Io, MalformedData, OutOfMemory, UnexpectedEof}
use Rattle.xet_hash.specs.declared.error.Reason.TheVariants.{HeaderVersion, PlainLength, Scheme, StoredLength}
use Rattle.xet_xorb_chunk.specs.Header.{Header, header_at, header_of, is_footer_magic, is_scheme, checked_then}
use Rattle.xet_xorb_chunk.specs.Checks.{IsCheck}
use Rattle.xet_xorb_chunk.specs.Passing.{ShowsPrefix}
use Rattle.xet_xorb_chunk.specs.Stream.{Fails, prefix_of}
use Rattle.xet_xorb_chunk.specs.Taking.{header_in}

by_check : {X : Type 0} (holds : Bool) (error : StoreError) (next : Result X StoreError) (e : StoreError) → IsCheck error → (next ≡ Err e → IsCheck e)
    → checked_then holds error next ≡ Err e → IsCheck e
by_check true error next e check rest h = rest h
by_check false error next e check rest h = let same : error ≡ e = cc h in subst IsCheck same check

not_by : {X : Type 0} (fails : Bool) (error : StoreError) (next : Result X StoreError) (e : StoreError) → IsCheck error → (next ≡ Err e → IsCheck e)
    → cond fails (Err error) next ≡ Err e → IsCheck e
not_by false error next e check rest h = rest h
not_by true error next e check rest h = let same : error ≡ e = cc h in subst IsCheck same check

accepts : {X : Type 0} (x : X) (e : StoreError) → Ok x ≡ Err e → IsCheck e
accepts x e h = absurd (cc h)

-- a header is refused by a check
pub header_checks : (max_chunk : ℕ) (bytes : List ℕ) (e : StoreError) → header_at max_chunk bytes ≡ Err e → IsCheck e
unfolding header_at
header_checks max_chunk bytes e =
    not_by (is_footer_magic bytes) ChunkHeaderParse _ e refl
    (by_check (is_scheme (header_of bytes).scheme) (MalformedData Scheme) _ e refl
    (by_check ((header_of bytes).version == 0) (MalformedData HeaderVersion) _ e refl
    (by_check (nat_le (header_of bytes).stored (2 * max_chunk)) (MalformedData StoredLength) _ e refl
    (by_check (nat_le (header_of bytes).plain max_chunk) (MalformedData PlainLength) _ e refl (accepts (header_of bytes) e)))))

by_length : (few : Bool) (r : Result Header StoreError) (e : StoreError) → (r ≡ Err e → IsCheck e) → cond few (Err UnexpectedEof) r ≡ Err e → IsCheck e
by_length true r e rest h = let same : UnexpectedEof ≡ e = cc h in subst IsCheck same refl
by_length false r e rest h = rest h

pub header_in_checks : (max_chunk : ℕ) (bytes : List ℕ) (e : StoreError) → header_in max_chunk bytes ≡ Err e → IsCheck e
header_in_checks max_chunk bytes e = by_length (nat_lt (length bytes) 8) (header_at max_chunk (take 8 bytes)) e (header_checks max_chunk (take 8 bytes) e)

-- the same of a result
pub checks_of : {X : Type 0} (r : Result X StoreError) → ((e : StoreError) → r ≡ Err e → IsCheck e) → IfErr r IsCheck
checks_of (Ok x) h = tt
checks_of (Err e) h = h e refl

-- a check is no failure of the outside
pub no_failure : {X : Type 0} (r : Result X StoreError) (place : Place) → IfErr r IsCheck → r ≡ Err (Io place) → ⊥
no_failure (Ok x) place check e = cc e
no_failure (Err error) place check e = let same : error ≡ Io place = cc e in false≢true (subst IsCheck same check)

-- one cause of two is another
pub left_of : {P Q S : Type 0} → (P → Q) → P ⊎ S → Q ⊎ S
left_of f (inl p) = inl (f p)
left_of f (inr s) = inr s

pub refused_as : {X : Type 0} (S : StoreError → Type 0) (r x : Result X StoreError) → r ≡ x → IfErr r (λ e. (x ≡ Err e) ⊎ S e)
refused_as S (Ok v) x h = tt
refused_as S (Err e) x h = inl (sym h)

-- the same, of what stands at the front of some bytes
pub shown_with : (max_chunk : ℕ) (bytes : List ℕ) (r : Result (Option ℕ) StoreError) (e : StoreError) → IsErrAnd r (λ y. y ≡ e) → prefix_of max_chunk bytes ≡ Fails e → ShowsPrefix max_chunk bytes r
shown_with max_chunk bytes (Ok x) e exit h = absurd exit
shown_with max_chunk bytes (Err y) e exit h = h ∙ ap (λ (x : StoreError). Fails x) (sym exit)

-- the exit of a `?` for want of memory
pub memory_with : {T : Type 0} (P : StoreError → Type 0) (r : Result T StoreError) → IsErrAnd r (λ y. y ≡ OutOfMemory) → ((e : StoreError) → e ≡ OutOfMemory → P e) → IfErr r P
memory_with P (Ok x) exit h = tt
memory_with P (Err y) exit h = h y exit
