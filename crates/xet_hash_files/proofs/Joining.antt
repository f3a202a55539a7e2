-- Sources that are hashed one after the other, and parts of them that follow each other.
use Rattle.std.proofs.Common.{◌≡◌, ◌∙◌, ℕ, zero, suc, ◌+◌, ◌≤◌, ◌<◌, Bool, true, List, [], ◌∷◌, ◌++◌, length, map, get_or, set, refl, sym, ap, subst, append-nil, append_assoc, length-append, arith}
use Rattle.std.specs.List.{AllByRecursion}
use Rattle.std.specs.Prelude.{Err, IfErr, IfOk, IsErrAnd, Ok, OnOk, Result}
use Rattle.xet_base.specs.theorems.Exits.{on_exit}
use Rattle.xet_cut.specs.declared.limits.LimitSettings.{LimitSettings}
use Rattle.xet_hash.specs.declared.error.Place.TheVariants as place
use Rattle.xet_hash.specs.declared.error.StoreError.{StoreError}
use Rattle.xet_hash.specs.declared.error.StoreError.TheVariants.{Io, OutOfMemory, TooLarge}
use Rattle.xet_hash.specs.declared.error.What.TheVariants as what
use Rattle.xet_store_disk.specs.Cleaning.{AreTaken, EachTold, IsLongAt, Later, RoseAt}
use Rattle.xet_store_disk.specs.declared.info.XetFileInfo.{XetFileInfo}
use Rattle.xet_hash_files.specs.Hashing.{HasHashReason, hashed_info}
use Rattle.xet_hash_files.specs.internal.Sources.{AreHashed, AreLeft, IsHashed, IsLeft, IsPartError, IsSourceError}

-- what a result gives
pub ok_gives : {T E : Type 0} (r : Result T E) (P : T → Type 0) (Q : Type 0) → ((x : T) → P x → Q) → IfOk r P → OnOk r Q
ok_gives (Ok x) P Q gives is = gives x is
ok_gives (Err e) P Q gives is = tt

-- ---- lists

module _ {X : Type 0} where
  -- what stands after the first elements
  at_length : (xs : List X) (x d : X) (ys : List X) → get_or (xs ++ x ∷ ys) (length xs) d ≡ x
  at_length [] x d ys = refl
  at_length (y ∷ xs) x d ys = at_length xs x d ys

  set_at_length : (xs : List X) (x y : X) (ys : List X) → set (xs ++ x ∷ ys) (length xs) y ≡ xs ++ y ∷ ys
  set_at_length [] x y ys = refl
  set_at_length (z ∷ xs) x y ys = ap (λ (l : List X). z ∷ l) (set_at_length xs x y ys)

module _ {S : Type 0} (tells : S → Bool) (left : S → List ℕ) (faults : S → ℕ) where
  -- ---- what is left of sources

  -- nothing was taken
  pub left_same : (ss : List S) → AreLeft tells left faults ss ss
  left_same [] = tt
  left_same (s ∷ ss) = (record { tell = refl; later = omega arith; taken = λ told. (0, refl) }, left_same ss)

  pub left_both : (ss ts ss' ts' : List S) → AreLeft tells left faults ss ts → AreLeft tells left faults ss' ts' → AreLeft tells left faults (ss ++ ss') (ts ++ ts')
  left_both [] [] ss' ts' are more = more
  left_both [] (t ∷ ts) ss' ts' are more = absurd are
  left_both (s ∷ ss) [] ss' ts' are more = absurd are
  left_both (s ∷ ss) (t ∷ ts) ss' ts' are more = (are.0, left_both ss ts ss' ts' are.1 more)

  left_count : (ss ts : List S) → AreLeft tells left faults ss ts → length ts ≡ length ss
  left_count [] [] are = refl
  left_count [] (t ∷ ts) are = absurd are
  left_count (s ∷ ss) [] are = absurd are
  left_count (s ∷ ss) (t ∷ ts) are = ap suc (left_count ss ts are.1)

  pub tell_all : (ss ts : List S) → AreLeft tells left faults ss ts → map tells ts ≡ map tells ss
  tell_all [] [] are = refl
  tell_all [] (t ∷ ts) are = absurd are
  tell_all (s ∷ ss) [] are = absurd are
  tell_all (s ∷ ss) (t ∷ ts) are = λ i. are.0.tell i ∷ tell_all ss ts are.1 i

  pub taken_all : (ss ts : List S) → AreLeft tells left faults ss ts → AreTaken tells left ss ts
  taken_all [] [] are = tt
  taken_all [] (t ∷ ts) are = absurd are
  taken_all (s ∷ ss) [] are = absurd are
  taken_all (s ∷ ss) (t ∷ ts) are = (are.0.taken, taken_all ss ts are.1)

  pub later_all : (ss ts : List S) → AreLeft tells left faults ss ts → Later faults ss ts
  later_all [] [] are = tt
  later_all [] (t ∷ ts) are = absurd are
  later_all (s ∷ ss) [] are = absurd are
  later_all (s ∷ ss) (t ∷ ts) are = (are.0.later, later_all ss ts are.1)

  -- ---- errors

  long_front : (ss rest : List S) (most k : ℕ) → IsLongAt tells left ss most k → IsLongAt tells left (ss ++ rest) most k
  long_front [] rest most k long = absurd long
  long_front (s ∷ ss) rest most zero long = long
  long_front (s ∷ ss) rest most (suc k) long = long_front ss rest most k long

  long_back : (ss rest : List S) (most k i : ℕ) → i ≡ length ss + k → IsLongAt tells left rest most k → IsLongAt tells left (ss ++ rest) most i
  long_back [] rest most k i at long = let e : k ≡ i = omega (arith, at) in subst (IsLongAt tells left rest most) e long
  long_back (s ∷ ss) rest most k zero at long = absurd (omega (arith, at))
  long_back (s ∷ ss) rest most k (suc i) at long = long_back ss rest most k i (omega (arith, at)) long

  rose_front : (ss ts rest rest' : List S) (k : ℕ) → RoseAt faults ss ts k → RoseAt faults (ss ++ rest) (ts ++ rest') k
  rose_front [] ts rest rest' k rose = absurd rose
  rose_front (s ∷ ss) [] rest rest' k rose = absurd rose
  rose_front (s ∷ ss) (t ∷ ts) rest rest' zero rose = rose
  rose_front (s ∷ ss) (t ∷ ts) rest rest' (suc k) rose = rose_front ss ts rest rest' k rose

  rose_back : (ss ts rest rest' : List S) (k i : ℕ) → length ts ≡ length ss → i ≡ length ss + k → RoseAt faults rest rest' k → RoseAt faults (ss ++ rest) (ts ++ rest') i
  rose_back [] [] rest rest' k i same at rose = let e : k ≡ i = omega (arith, at) in subst (RoseAt faults rest rest') e rose
  rose_back [] (t ∷ ts) rest rest' k i same at rose = absurd (omega (arith, same))
  rose_back (s ∷ ss) [] rest rest' k i same at rose = absurd (omega (arith, same))
  rose_back (s ∷ ss) (t ∷ ts) rest rest' k zero same at rose = absurd (omega (arith, at))
  rose_back (s ∷ ss) (t ∷ ts) rest rest' k (suc i) same at rose = rose_back ss ts rest rest' k i (omega (arith, same)) (omega (arith, at)) rose

  module _ (limits : LimitSettings) where
    -- memory is out
    pub memory_part : (first : ℕ) (ss ts : List S) (e : StoreError) → e ≡ OutOfMemory → IsPartError tells left faults limits first ss ts e
    memory_part first ss ts e is = subst (IsPartError tells left faults limits first ss ts) (sym is) tt

    -- the first part was not hashed
    error_front : (first : ℕ) (ss ts rest rest' : List S) (e : StoreError) → IsPartError tells left faults limits first ss ts e → IsPartError tells left faults limits first (ss ++ rest) (ts ++ rest') e
    error_front first ss ts rest rest' (Io (place.Source i)) is = (is.0, is.1, rose_front ss ts rest rest' is.0 is.2)
    error_front first ss ts rest rest' (TooLarge (what.Source i)) is = (is.0, is.1, long_front ss rest limits.max_source_bytes is.0 is.2)
    error_front first ss ts rest rest' OutOfMemory is = tt
    error_front first ss ts rest rest' e is = absurd is

    -- the part after it was not
    error_back : (first up : ℕ) (ss ts rest rest' : List S) (e : StoreError) → up ≡ first + length ss → length ts ≡ length ss → IsPartError tells left faults limits up rest rest' e
        → IsPartError tells left faults limits first (ss ++ rest) (ts ++ rest') e
    error_back first up ss ts rest rest' (Io (place.Source i)) at same is = (length ss + is.0, omega (arith, at, is.1), rose_back ss ts rest rest' is.0 (length ss + is.0) same refl is.2)
    error_back first up ss ts rest rest' (TooLarge (what.Source i)) at same is = (length ss + is.0, omega (arith, at, is.1), long_back ss rest limits.max_source_bytes is.0 (length ss + is.0) refl is.2)
    error_back first up ss ts rest rest' OutOfMemory at same is = tt
    error_back first up ss ts rest rest' e at same is = absurd is

    -- the same for the exit with the error of a part
    pub exit_front : {T : Type 0} (r : Result T StoreError) (e : StoreError) (first : ℕ) → IsErrAnd r (λ y. y ≡ e) → (ss ts rest rest' : List S) → IsPartError tells left faults limits first ss ts e
        → IfErr r (IsPartError tells left faults limits first (ss ++ rest) (ts ++ rest'))
    exit_front r e first exit ss ts rest rest' is = on_exit r e (IsPartError tells left faults limits first (ss ++ rest) (ts ++ rest')) exit (error_front first ss ts rest rest' e is)

    pub exit_back : {T U : Type 0} (r : Result T StoreError) (b : Result U StoreError) (e : StoreError) (first up : ℕ) → IsErrAnd r (λ y. y ≡ e) → b ≡ Err e → (ss ts rest rest' : List S) → up ≡ first + length ss → AreLeft tells left faults ss ts
        → IfErr b (IsPartError tells left faults limits up rest rest') → IfErr r (IsPartError tells left faults limits first (ss ++ rest) (ts ++ rest'))
    exit_back r b e first up exit is_err ss ts rest rest' at are is =
        on_exit r e (IsPartError tells left faults limits first (ss ++ rest) (ts ++ rest')) exit
        (error_back first up ss ts rest rest' e at (left_count ss ts are) (subst (λ x. IfErr x (IsPartError tells left faults limits up rest rest')) is_err is))

    -- a source was not hashed
    error_one : (number : ℕ) (s t : S) (e : StoreError) → IsSourceError tells left faults limits.max_source_bytes number s t e → IsPartError tells left faults limits number (s ∷ []) (t ∷ []) e
    error_one number s t (Io (place.Source i)) is = (0, omega (arith, is.0), is.1)
    error_one number s t (TooLarge (what.Source i)) is = (0, omega (arith, is.0), is.1)
    error_one number s t OutOfMemory is = tt
    error_one number s t e is = absurd is

    -- the errors of all sources
    pub has_reason : (ss ts : List S) (e : StoreError) → IsPartError tells left faults limits 0 ss ts e → HasHashReason tells left faults ss ts limits e
    has_reason ss ts (Io (place.Source i)) is = subst (RoseAt faults ss ts) (omega (arith, is.1)) is.2
    has_reason ss ts (TooLarge (what.Source i)) is = subst (IsLongAt tells left ss limits.max_source_bytes) (omega (arith, is.1)) is.2
    has_reason ss ts OutOfMemory is = tt
    has_reason ss ts e is = absurd is

    -- ---- sources that were hashed

    hashed_both : (ss ts ss' ts' : List S) (infos more : List XetFileInfo) → AreHashed tells left faults limits ss ts infos → AreHashed tells left faults limits ss' ts' more
        → AreHashed tells left faults limits (ss ++ ss') (ts ++ ts') (infos ++ more)
    hashed_both [] [] ss' ts' [] more are next = next
    hashed_both [] [] ss' ts' (i ∷ infos) more are next = absurd are
    hashed_both [] (t ∷ ts) ss' ts' infos more are next = absurd are
    hashed_both (s ∷ ss) [] ss' ts' infos more are next = absurd are
    hashed_both (s ∷ ss) (t ∷ ts) ss' ts' [] more are next = absurd are
    hashed_both (s ∷ ss) (t ∷ ts) ss' ts' (i ∷ infos) more are next = (are.0, hashed_both ss ts ss' ts' infos more are.1 next)

    pub hashed_all : (infos next more : List XetFileInfo) → more ≡ infos ++ next → (ss ts ss' ts' : List S) → AreHashed tells left faults limits ss ts infos → AreHashed tells left faults limits ss' ts' next
        → AreHashed tells left faults limits (ss ++ ss') (ts ++ ts') more
    hashed_all infos next more is ss ts ss' ts' are rest = subst (AreHashed tells left faults limits (ss ++ ss') (ts ++ ts')) (sym is) (hashed_both ss ts ss' ts' infos next are rest)

    hashed_left : (ss ts : List S) (infos : List XetFileInfo) → AreHashed tells left faults limits ss ts infos → AreLeft tells left faults ss ts
    hashed_left [] [] [] are = tt
    hashed_left [] [] (i ∷ infos) are = absurd are
    hashed_left [] (t ∷ ts) infos are = absurd are
    hashed_left (s ∷ ss) [] infos are = absurd are
    hashed_left (s ∷ ss) (t ∷ ts) [] are = absurd are
    hashed_left (s ∷ ss) (t ∷ ts) (i ∷ infos) are = (are.0.leaves, hashed_left ss ts infos are.1)

    pub infos_told : (ss ts : List S) (infos : List XetFileInfo) → AreHashed tells left faults limits ss ts infos → EachTold tells left (λ bytes info. info ≡ hashed_info limits bytes) ss infos
    infos_told [] [] [] are = tt
    infos_told [] [] (i ∷ infos) are = absurd are
    infos_told [] (t ∷ ts) infos are = absurd are
    infos_told (s ∷ ss) [] infos are = absurd are
    infos_told (s ∷ ss) (t ∷ ts) [] are = absurd are
    infos_told (s ∷ ss) (t ∷ ts) (i ∷ infos) are = (are.0.info_is, infos_told ss ts infos are.1)

    pub all_read : (ss ts : List S) (infos : List XetFileInfo) → AreHashed tells left faults limits ss ts infos → AllByRecursion (λ s. tells s ≡ true → left s ≡ []) ts
    all_read [] [] [] are = tt
    all_read [] [] (i ∷ infos) are = absurd are
    all_read [] (t ∷ ts) infos are = absurd are
    all_read (s ∷ ss) [] infos are = absurd are
    all_read (s ∷ ss) (t ∷ ts) [] are = absurd are
    all_read (s ∷ ss) (t ∷ ts) (i ∷ infos) are = ((λ told. are.0.ended (sym are.0.leaves.tell ∙ told)), all_read ss ts infos are.1)

    pub all_short : (ss ts : List S) (infos : List XetFileInfo) → AreHashed tells left faults limits ss ts infos → AllByRecursion (λ s. tells s ≡ true → length (left s) ≤ limits.max_source_bytes) ss
    all_short [] [] [] are = tt
    all_short [] [] (i ∷ infos) are = absurd are
    all_short [] (t ∷ ts) infos are = absurd are
    all_short (s ∷ ss) [] infos are = absurd are
    all_short (s ∷ ss) (t ∷ ts) [] are = absurd are
    all_short (s ∷ ss) (t ∷ ts) (i ∷ infos) are = (are.0.short, all_short ss ts infos are.1)

    -- ---- the loop over the sources of a part

    -- The first sources were hashed, and the others are untouched.
    pub record IsLoop (sources now : List S) (n : ℕ) (infos : List XetFileInfo) : Type 0 where
      pub done : List S
      pub made : List S
      pub rest : List S
      pub old_is : sources ≡ done ++ rest
      pub now_is : now ≡ made ++ rest
      pub are : AreHashed tells left faults limits done made infos
      pub count : length done ≡ n

    pub loop_begins : (sources : List S) → IsLoop sources sources 0 []
    loop_begins sources = record { done = []; made = []; rest = sources; old_is = refl; now_is = refl; are = tt; count = refl }

    module _ (sources now : List S) (n : ℕ) (infos : List XetFileInfo) (l : IsLoop sources now n infos) where
      made_count : length l.made ≡ length l.done
      made_count = left_count l.done l.made (hashed_left l.done l.made infos l.are)

      -- all are hashed
      pub loop_ends : n ≡ length sources → AreHashed tells left faults limits sources now infos
      loop_ends all = go l.rest refl
        where
          go : (rest : List S) → l.rest ≡ rest → AreHashed tells left faults limits sources now infos
          go [] e =
              subst (λ (ss : List S). AreHashed tells left faults limits ss now infos) (sym (l.old_is ∙ ap (λ (r : List S). l.done ++ r) e ∙ append-nil l.done))
              (subst (λ (ts : List S). AreHashed tells left faults limits l.done ts infos) (sym (l.now_is ∙ ap (λ (r : List S). l.made ++ r) e ∙ append-nil l.made)) l.are)
          go (s ∷ later) e = absurd (omega (arith, all, l.count, ap length l.old_is, length-append l.done l.rest, ap length e))

      -- what is left
      pub loop_left : AreLeft tells left faults sources now
      loop_left =
          subst (λ (ss : List S). AreLeft tells left faults ss now) (sym l.old_is)
          (subst (λ (ts : List S). AreLeft tells left faults (l.done ++ l.rest) ts) (sym l.now_is)
          (left_both l.done l.made l.rest l.rest (hashed_left l.done l.made infos l.are) (left_same l.rest)))

      -- the next source, which is `x`, is `t` then
      pub record IsNext (x t : S) : Type 0 where
        pub later : List S
        pub old : sources ≡ l.done ++ x ∷ later
        pub new : set now n t ≡ l.made ++ t ∷ later

      pub is_next : (x t d : S) → n < length sources → x ≡ get_or now n d → IsNext x t
      is_next x t d below at = go l.rest refl
        where
          go : (rest : List S) → l.rest ≡ rest → IsNext x t
          go [] e = absurd (omega (arith, below, l.count, ap length l.old_is, length-append l.done l.rest, ap length e))
          go (s ∷ later) e =
              let now_are : now ≡ l.made ++ s ∷ later = l.now_is ∙ ap (λ (r : List S). l.made ++ r) e in
              let place_is : n ≡ length l.made = sym (made_count ∙ l.count) in
              let same : x ≡ s = at ∙ ap (λ (r : List S). get_or r n d) now_are ∙ ap (λ (k : ℕ). get_or (l.made ++ s ∷ later) k d) place_is ∙ at_length l.made s d later in
              record {
                later = later;
                old = l.old_is ∙ ap (λ (r : List S). l.done ++ r) e ∙ ap (λ (y : S). l.done ++ y ∷ later) (sym same);
                new = ap (λ (r : List S). set r n t) now_are ∙ ap (λ (k : ℕ). set (l.made ++ s ∷ later) k t) place_is ∙ set_at_length l.made s t later;
              }

      module _ (x t : S) (next : IsNext x t) where
        -- it was hashed
        pub loop_next : (info : XetFileInfo) → IsHashed tells left faults limits x t info → IsLoop sources (set now n t) (n + 1) (infos ++ info ∷ [])
        loop_next info one = record {
          done = l.done ++ x ∷ [];
          made = l.made ++ t ∷ [];
          rest = next.later;
          old_is = next.old ∙ sym (append_assoc l.done (x ∷ []) next.later);
          now_is = next.new ∙ sym (append_assoc l.made (t ∷ []) next.later);
          are = hashed_both l.done l.made (x ∷ []) (t ∷ []) infos (info ∷ []) l.are (one, tt);
          count = omega (arith, length-append l.done (x ∷ []), l.count);
        }

        -- it was not: what is left,
        pub stopped_left : IsLeft tells left faults x t → AreLeft tells left faults sources (set now n t)
        stopped_left one =
            subst (λ (ss : List S). AreLeft tells left faults ss (set now n t)) (sym next.old)
            (subst (λ (ts : List S). AreLeft tells left faults (l.done ++ x ∷ next.later) ts) (sym next.new)
            (left_both l.done l.made (x ∷ next.later) (t ∷ next.later) (hashed_left l.done l.made infos l.are) (one, left_same next.later)))

        -- and the error
        pub stopped_error : (first number : ℕ) (e : StoreError) → number ≡ first + n → IsSourceError tells left faults limits.max_source_bytes number x t e → IsPartError tells left faults limits first sources (set now n t) e
        stopped_error first number e at is =
            subst (λ (ss : List S). IsPartError tells left faults limits first ss (set now n t) e) (sym next.old)
            (subst (λ (ts : List S). IsPartError tells left faults limits first (l.done ++ x ∷ next.later) ts e) (sym next.new)
            (error_back first number l.done l.made (x ∷ next.later) (t ∷ next.later) e (omega (arith, at, l.count)) made_count
            (error_front number (x ∷ []) (t ∷ []) next.later next.later e (error_one number x t e is))))
