-- A source that is read block by block, and the file that is cleaned of its bytes.
use Rattle.std.proofs.Common.{◌≡◌, ◌∙◌, inl, inr, ℕ, ◌<◌, ◌≤◌, Bool, true, false, true≢false, List, [], ◌++◌, append_assoc, append-nil, length, take, drop, take-append-drop, refl, sym, ap, subst, arith, length-append}
use Rattle.xet_cut.specs.declared.limits.LimitSettings.{LimitSettings}
use Rattle.xet_hash.specs.declared.error.Place.TheVariants as place
use Rattle.xet_hash.specs.declared.error.StoreError.{StoreError}
use Rattle.xet_hash.specs.declared.error.StoreError.TheVariants.{Io, TooLarge}
use Rattle.xet_hash.specs.declared.error.What.TheVariants as what
use Rattle.xet_io.specs.Faults.{Rose}
use Rattle.xet_io.specs.Whole.{FillsWith}
use Rattle.xet_store.specs.Interface.{IsErrorSince}
use Rattle.xet_store.specs.Holders.{Follows, Holder}
use Rattle.xet_store.specs.theorems.Following.{asking_nothing, follows_nothing}
use Rattle.xet_clean.specs.Planning.{IsFew, RegistersOnly}
use Rattle.xet_clean.specs.Errors.{IsCleanerError}
use Rattle.xet_clean.specs.Sources.{IsSourceError, Takes}
use Rattle.xet_clean.proofs.FileCalls.{same_limits}
use Rattle.xet_clean.specs.theorems.Closing.{error_earlier}

-- ---- bytes that were taken

pub takes_nothing : (tells : Bool) (left : List ℕ) → Takes false tells left left []
takes_nothing tells left = record { taken = λ t. refl; ended = λ e. absurd (true≢false (sym e)) }

-- all bytes are some
pub takes_some : (last tells : Bool) (left rest bytes : List ℕ) → Takes last tells left rest bytes → Takes false tells left rest bytes
takes_some last tells left rest bytes is = record { taken = is.taken; ended = λ e. absurd (true≢false (sym e)) }

-- all that a source had left
pub takes_all : (tells : Bool) (left rest bytes : List ℕ) → Takes true tells left rest bytes → tells ≡ true → left ≡ bytes
takes_all tells left rest bytes is told = is.taken told ∙ ap (λ (l : List ℕ). bytes ++ l) (is.ended refl told) ∙ append-nil bytes

-- one more block
pub takes_next : (last tells now : Bool) (left mid rest bytes block : List ℕ) → now ≡ tells → Takes false tells left mid bytes → Takes last now mid rest block → Takes false tells left rest (bytes ++ block)
takes_next last tells now left mid rest bytes block same is more = record {
  taken = λ t. is.taken t ∙ ap (λ (l : List ℕ). bytes ++ l) (more.taken (same ∙ t)) ∙ sym (append_assoc bytes block rest);
  ended = λ e. absurd (true≢false (sym e));
}

-- a buffer that was filled, as a block: it is the last one if it is not full
pub takes_filled : (last tells : Bool) (count : ℕ) (buffer left rest : List ℕ) → (tells ≡ true → FillsWith count buffer left rest) → (last ≡ true → count < length buffer) → Takes last tells left rest (take count buffer)
takes_filled last tells count buffer left rest fills short = record { taken = λ t. (fills t).taken; ended = λ e t. (fills t).ended (short e) }

-- a read that failed, by which bytes may be lost
pub takes_lost : (tells : Bool) (left mid rest bytes : List ℕ) → Takes false tells left mid bytes → (tells ≡ true → (n : ℕ) × (rest ≡ drop n mid)) → (more : List ℕ) × Takes false tells left rest (bytes ++ more)
takes_lost true left mid rest bytes is lost =
    let at = lost refl in (
      take at.0 mid,
      record {
        taken = λ t.
            is.taken t
            ∙ ap (λ (l : List ℕ). bytes ++ l) (sym (take-append-drop at.0 mid) ∙ ap (λ (l : List ℕ). take at.0 mid ++ l) (sym at.1))
            ∙ sym (append_assoc bytes (take at.0 mid) rest);
        ended = λ e. absurd (true≢false (sym e));
      },
    )
takes_lost false left mid rest bytes is lost = ([], record { taken = λ t. absurd (true≢false (sym t)); ended = λ e. absurd (true≢false (sym e)) })

-- ---- errors

pub rose_later : (a b c : ℕ) → a ≤ b → Rose b c → Rose a c
rose_later a b c le rose = omega (arith, le, rose)

-- a step failed
pub source_error : (number : ℕ) (tells : Bool) (left : List ℕ) (before after : ℕ) (old new : Holder) (e : StoreError) → IsErrorSince old new e → IsSourceError number tells left before after old new e
source_error number tells left before after old new (Io (place.Source i)) is = absurd is
source_error number tells left before after old new (TooLarge (what.Source i)) is = absurd is
source_error number tells left before after old new e is = is

-- the source failed
pub read_error : (number : ℕ) (tells : Bool) (left : List ℕ) (before after : ℕ) (old new : Holder) (e : StoreError) → e ≡ Io (place.Source number) → Rose before after → new.stopped ≡ old.stopped
    → IsSourceError number tells left before after old new e
read_error number tells left before after old new e is rose passed = subst (IsSourceError number tells left before after old new) (sym is) (refl, rose, passed)

-- a block was not added
pub cleaner_error : (number : ℕ) (tells : Bool) (left rest bytes more : List ℕ) (count before after : ℕ) (old mid new : Holder) (e : StoreError) → Takes false tells left rest (bytes ++ more) → count ≡ length bytes → Follows old mid
    → mid.stopped ≡ old.stopped → IsCleanerError number count more mid new e → IsSourceError number tells left before after old new e
cleaner_error number tells left rest bytes more count before after old mid new e takes counted f passed (inl x) =
    subst (IsSourceError number tells left before after old new) (sym x.0) (
      refl,
      λ t.
          omega (
            arith,
            x.1,
            counted,
            ap length (takes.taken t),
            length-append (bytes ++ more) rest,
            length-append bytes more,
            ap (λ (s : LimitSettings). s.max_source_bytes) (same_limits old mid f),
          ),
      ap (λ (h : Holder). h.stopped) x.2 ∙ passed,
    )
cleaner_error number tells left rest bytes more count before after old mid new e takes counted f passed (inr is) = source_error number tells left before after old new e (error_earlier old mid new f e is)

-- ---- entries

-- nothing was done
pub few_nothing : (h : Holder) (bytes : List ℕ) → IsFew h h bytes
unfolding asking_nothing follows_nothing
few_nothing h bytes = record { follows = asking_nothing h; nexts = tt; few = omega arith }

pub only_nothing : (h : Holder) (bytes : List ℕ) → RegistersOnly h h bytes
unfolding follows_nothing
only_nothing h bytes = record { follows = follows_nothing h; are = tt }
