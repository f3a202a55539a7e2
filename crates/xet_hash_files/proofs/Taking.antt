-- A source that is read block by block.
use Rattle.std.proofs.Common.{◌≡◌, ◌∙◌, inl, inr, ℕ, ◌+◌, ◌<◌, ◌≤◌, Bool, true, false, true≢false, List, [], ◌++◌, append_assoc, length, take, drop, take-append-drop, refl, sym, ap, subst, arith, append-nil, length-append}
use Rattle.std.proofs.lemmas.List.{drop_at}
use Rattle.std.specs.Prelude.{Err, Ok, OnErr, Result}
use Rattle.xet_cut.specs.declared.limits.LimitSettings.{LimitSettings}
use Rattle.xet_hash.specs.declared.error.Place.TheVariants as place
use Rattle.xet_hash.specs.declared.error.StoreError.{StoreError}
use Rattle.xet_hash.specs.declared.error.StoreError.TheVariants.{Io, OutOfMemory}
use Rattle.xet_hash.specs.declared.error.What.TheVariants as what
use Rattle.xet_io.specs.Faults.{Rose}
use Rattle.xet_io.specs.Frame.{Stays}
use Rattle.xet_io.specs.Whole.{FillsWith}
use Rattle.xet_store_disk.specs.declared.info.XetFileInfo.{XetFileInfo}
use Rattle.xet_hash_files.specs.Hashing.{hashed_info}
use Rattle.xet_hash_files.specs.internal.FileHasher.{IsAddError}
use Rattle.xet_hash_files.specs.internal.Sources.{IsHashed, IsLeft, IsSourceError, Takes}

-- what is known whatever the result
pub on_err : {T E : Type 0} {P : Type 0} (r : Result T E) → P → OnErr r P
on_err (Ok x) p = tt
on_err (Err e) p = p

-- ---- bytes that were taken

pub takes_nothing : (tells : Bool) (left : List ℕ) → Takes false tells left left []
takes_nothing tells left = record { taken = λ t. refl; ended = λ e. absurd (true≢false (sym e)) }

-- a block that was filled
pub takes_more : (tells : Bool) (left mid rest bytes buffer : List ℕ) (count : ℕ) → Takes false tells left mid bytes → (tells ≡ true → FillsWith count buffer mid rest) → Takes false tells left rest (bytes ++ take count buffer)
takes_more tells left mid rest bytes buffer count is fills = record {
  taken = λ t. is.taken t ∙ ap (λ (l : List ℕ). bytes ++ l) ((fills t).taken) ∙ sym (append_assoc bytes (take count buffer) rest);
  ended = λ e. absurd (true≢false (sym e));
}

-- one that was not: the source has ended
pub takes_all : (tells : Bool) (left mid rest bytes buffer : List ℕ) (count : ℕ) → Takes false tells left mid bytes → (tells ≡ true → FillsWith count buffer mid rest) → count < length buffer → Takes true tells left rest (bytes ++ take count buffer)
takes_all tells left mid rest bytes buffer count is fills lt = record {
  taken = (takes_more tells left mid rest bytes buffer count is fills).taken;
  ended = λ e t. (fills t).ended lt;
}

-- all bytes are some
pub takes_some : (tells : Bool) (left rest bytes : List ℕ) → Takes true tells left rest bytes → Takes false tells left rest bytes
takes_some tells left rest bytes is = record { taken = is.taken; ended = λ e. absurd (true≢false (sym e)) }

-- what a read that failed has taken
pub failed_takes : (left buffer rest : List ℕ) → ((n : ℕ) × (n ≤ length buffer) × (rest ≡ drop n left)) → (n : ℕ) × (rest ≡ drop n left)
failed_takes left buffer rest (n, few, taken) = (n, taken)

-- a read that failed, by which bytes may be lost
pub takes_lost : (tells : Bool) (left mid rest bytes : List ℕ) → Takes false tells left mid bytes → (tells ≡ true → (n : ℕ) × (rest ≡ drop n mid)) → (all : List ℕ) × Takes false tells left rest all
takes_lost true left mid rest bytes is lost =
    let at = lost refl in (
      bytes ++ take at.0 mid,
      record {
        taken = λ t.
            is.taken t
            ∙ ap (λ (l : List ℕ). bytes ++ l) (sym (take-append-drop at.0 mid) ∙ ap (λ (l : List ℕ). take at.0 mid ++ l) (sym at.1))
            ∙ sym (append_assoc bytes (take at.0 mid) rest);
        ended = λ e. absurd (true≢false (sym e));
      },
    )
takes_lost false left mid rest bytes is lost = ([], record { taken = λ t. absurd (true≢false (sym t)); ended = λ e. absurd (true≢false (sym e)) })

-- ---- a source

module _ {S : Type 0} (tells : S → Bool) (left : S → List ℕ) (faults : S → ℕ) (s t : S) where
  -- what is left of it, if nothing was taken,
  pub untouched : IsLeft tells left faults s s
  untouched = record { tell = refl; later = omega arith; taken = λ told. (0, refl) }

  -- and if these bytes were
  pub is_left : (bytes : List ℕ) → Stays tells faults s t → Takes false (tells s) (left s) (left t) bytes → IsLeft tells left faults s t
  is_left bytes stays takes = record {
    tell = stays.tells;
    later = stays.later;
    taken = λ told. (length bytes, sym (ap (drop (length bytes)) (takes.taken told) ∙ drop_at bytes (left t) (length bytes) refl));
  }

  -- its file
  pub is_hashed : (limits : LimitSettings) (bytes : List ℕ) (info : XetFileInfo) → Stays tells faults s t → Takes true (tells s) (left s) (left t) bytes → length bytes ≤ limits.max_source_bytes → info ≡ hashed_info limits bytes
      → IsHashed tells left faults limits s t info
  is_hashed limits bytes info stays takes short is = record {
    leaves = is_left bytes stays (takes_some (tells s) (left s) (left t) bytes takes);
    ended = takes.ended refl;
    short = λ told. omega (arith, short, ap length (all told));
    info_is = λ told. is ∙ ap (hashed_info limits) (sym (all told));
  }
    where
      all : tells s ≡ true → left s ≡ bytes
      all told = takes.taken told ∙ ap (λ (l : List ℕ). bytes ++ l) (takes.ended refl told) ∙ append-nil bytes

  -- ---- errors

  -- memory is out
  pub memory_error : (most number : ℕ) (e : StoreError) → e ≡ OutOfMemory → IsSourceError tells left faults most number s t e
  memory_error most number e is = subst (IsSourceError tells left faults most number s t) (sym is) tt

  -- the source failed
  pub read_error : (most number i mid : ℕ) (e : StoreError) → e ≡ Io (place.Source i) → i ≡ number → faults s ≤ mid → Rose mid (faults t) → IsSourceError tells left faults most number s t e
  read_error most number i mid e is same le rose = subst (IsSourceError tells left faults most number s t) (sym is) (same, omega (arith, le, rose))

  -- a block was not added
  pub add_error : (most number i max count : ℕ) (bytes more : List ℕ) (e : StoreError) → Takes false (tells s) (left s) (left t) (bytes ++ more) → count ≡ length bytes → max ≡ most → i ≡ number → IsAddError i count max more e
      → IsSourceError tells left faults most number s t e
  add_error most number i max count bytes more e takes counted limit same (inl is) = memory_error most number e is
  add_error most number i max count bytes more e takes counted limit same (inr is) =
      subst (IsSourceError tells left faults most number s t) (sym is.0) (
        same,
        λ told. omega (arith, is.1, counted, limit, ap length (takes.taken told), length-append (bytes ++ more) (left t), length-append bytes more),
      )
