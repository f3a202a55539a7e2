-- Sources of which the first were read to their ends, one after the other.
use Rattle.std.proofs.Common.{◌≡◌, ◌∙◌, ℕ, suc, ◌≤◌, ◌<◌, Bool, true, List, [], ◌∷◌, ◌++◌, length, map, drop, get_or, set, refl, sym, ap, append-nil, length-append, arith}
use Rattle.std.proofs.lemmas.List.{drop_at}
use Rattle.std.specs.List.{AllByRecursion}
use Rattle.xet_io.specs.Faults.{Rose}
use Rattle.xet_io.specs.Frame.{Stays}
use Rattle.xet_store_disk.specs.Cleaning.{AreTaken, EachTold, IsLongAt, Later, RoseAt}
use Rattle.xet_clean.specs.Cleaning.{EachTaken}
use Rattle.xet_clean.specs.Sources.{AreDone, AreRead, IsDone, IsTakenFrom, Takes}
use Rattle.xet_clean.specs.Working.{Planned}

-- ---- lists

module _ {X : Type 0} where
  -- what stands after the first elements
  pub at_length : (xs : List X) (x d : X) (ys : List X) → get_or (xs ++ x ∷ ys) (length xs) d ≡ x
  at_length [] x d ys = refl
  at_length (y ∷ xs) x d ys = at_length xs x d ys

  pub set_at_length : (xs : List X) (x y : X) (ys : List X) → set (xs ++ x ∷ ys) (length xs) y ≡ xs ++ y ∷ ys
  set_at_length [] x y ys = refl
  set_at_length (z ∷ xs) x y ys = ap (λ (l : List X). z ∷ l) (set_at_length xs x y ys)

  pub drop_past : (xs ys : List X) → drop (suc (length xs)) (xs ++ ys) ≡ drop 1 ys
  drop_past [] ys = refl
  drop_past (x ∷ xs) ys = drop_past xs ys

module _ {S : Type 0} (tells : S → Bool) (left : S → List ℕ) (faults : S → ℕ) where
  -- of each of these some bytes were taken
  abbrev pub AreFrom : List S → List S → List (List ℕ) → Type 0
  AreFrom [] [] bs = bs ≡ []
  AreFrom [] (t ∷ ts) bs = ⊥
  AreFrom (s ∷ ss) [] bs = ⊥
  AreFrom (s ∷ ss) (t ∷ ts) [] = ⊥
  AreFrom (s ∷ ss) (t ∷ ts) (b ∷ bs) = IsTakenFrom tells left faults s t b × AreFrom ss ts bs

  -- ---- what follows

  pub taken_each : (ss ts : List S) (bs : List (List ℕ)) → AreFrom ss ts bs → EachTaken tells left ss ts bs
  taken_each [] [] bs are = are
  taken_each [] (t ∷ ts) bs are = absurd are
  taken_each (s ∷ ss) [] bs are = absurd are
  taken_each (s ∷ ss) (t ∷ ts) [] are = absurd are
  taken_each (s ∷ ss) (t ∷ ts) (b ∷ bs) are = (are.0.taken, taken_each ss ts bs are.1)

  pub taken_all : (ss ts : List S) (bs : List (List ℕ)) → AreFrom ss ts bs → AreTaken tells left ss ts
  taken_all [] [] bs are = tt
  taken_all [] (t ∷ ts) bs are = absurd are
  taken_all (s ∷ ss) [] bs are = absurd are
  taken_all (s ∷ ss) (t ∷ ts) [] are = absurd are
  taken_all (s ∷ ss) (t ∷ ts) (b ∷ bs) are =
      ((λ told. (length b, sym (ap (drop (length b)) (are.0.taken told) ∙ drop_at b (left t) (length b) refl))), taken_all ss ts bs are.1)

  pub later_all : (ss ts : List S) (bs : List (List ℕ)) → AreFrom ss ts bs → Later faults ss ts
  later_all [] [] bs are = tt
  later_all [] (t ∷ ts) bs are = absurd are
  later_all (s ∷ ss) [] bs are = absurd are
  later_all (s ∷ ss) (t ∷ ts) [] are = absurd are
  later_all (s ∷ ss) (t ∷ ts) (b ∷ bs) are = (are.0.later, later_all ss ts bs are.1)

  pub tell_all : (ss ts : List S) (bs : List (List ℕ)) → AreFrom ss ts bs → map tells ts ≡ map tells ss
  tell_all [] [] bs are = refl
  tell_all [] (t ∷ ts) bs are = absurd are
  tell_all (s ∷ ss) [] bs are = absurd are
  tell_all (s ∷ ss) (t ∷ ts) [] are = absurd are
  tell_all (s ∷ ss) (t ∷ ts) (b ∷ bs) are = λ i. are.0.tell i ∷ tell_all ss ts bs are.1 i

  -- ---- the sources that come

  -- of those of which nothing was taken
  pub untouched : (ss : List S) → AreFrom ss ss (map (λ (s : S). []) ss)
  untouched [] = refl
  untouched (s ∷ ss) = (record { tell = refl; later = omega arith; taken = λ told. refl }, untouched ss)

  pub from_then : (most : ℕ) (ss ts : List S) (fs : List Planned) (ss' ts' : List S) (bs : List (List ℕ)) → AreDone tells left faults most ss ts fs → AreFrom ss' ts' bs → AreFrom (ss ++ ss') (ts ++ ts') (map (λ f. f.bytes) fs ++ bs)
  from_then most [] [] [] ss' ts' bs done from = from
  from_then most [] [] (f ∷ fs) ss' ts' bs done from = absurd done
  from_then most [] (t ∷ ts) fs ss' ts' bs done from = absurd done
  from_then most (s ∷ ss) [] fs ss' ts' bs done from = absurd done
  from_then most (s ∷ ss) (t ∷ ts) [] ss' ts' bs done from = absurd done
  from_then most (s ∷ ss) (t ∷ ts) (f ∷ fs) ss' ts' bs done from = (done.0.from, from_then most ss ts fs ss' ts' bs done.1 from)

  pub done_push : (most : ℕ) (ss ts : List S) (fs : List Planned) (s t : S) (f : Planned) → AreDone tells left faults most ss ts fs → IsDone tells left faults most s t f.bytes → AreDone tells left faults most (ss ++ s ∷ []) (ts ++ t ∷ []) (fs ++ f ∷ [])
  done_push most [] [] [] s t f done one = (one, tt)
  done_push most [] [] (g ∷ fs) s t f done one = absurd done
  done_push most [] (u ∷ ts) fs s t f done one = absurd done
  done_push most (r ∷ ss) [] fs s t f done one = absurd done
  done_push most (r ∷ ss) (u ∷ ts) [] s t f done one = absurd done
  done_push most (r ∷ ss) (u ∷ ts) (g ∷ fs) s t f done one = (done.0, done_push most ss ts fs s t f done.1 one)

  pub done_told : (most : ℕ) (ss ts : List S) (fs : List Planned) → AreDone tells left faults most ss ts fs → EachTold tells left (λ bytes f. f.bytes ≡ bytes) ss fs
  done_told most [] [] [] done = tt
  done_told most [] [] (f ∷ fs) done = absurd done
  done_told most [] (t ∷ ts) fs done = absurd done
  done_told most (s ∷ ss) [] fs done = absurd done
  done_told most (s ∷ ss) (t ∷ ts) [] done = absurd done
  done_told most (s ∷ ss) (t ∷ ts) (f ∷ fs) done =
      ((λ told. sym (done.0.from.taken told ∙ ap (λ (l : List ℕ). f.bytes ++ l) (done.0.ended told) ∙ append-nil f.bytes)), done_told most ss ts fs done.1)

  pub done_counts : (most : ℕ) (ss ts : List S) (fs : List Planned) → AreDone tells left faults most ss ts fs → (length ss ≡ length fs) × (length ts ≡ length fs)
  done_counts most [] [] [] done = (refl, refl)
  done_counts most [] [] (f ∷ fs) done = absurd done
  done_counts most [] (t ∷ ts) fs done = absurd done
  done_counts most (s ∷ ss) [] fs done = absurd done
  done_counts most (s ∷ ss) (t ∷ ts) [] done = absurd done
  done_counts most (s ∷ ss) (t ∷ ts) (f ∷ fs) done = let rest = done_counts most ss ts fs done.1 in (ap suc rest.0, ap suc rest.1)

  pub done_read : (most : ℕ) (ss ts : List S) (fs : List Planned) → AreDone tells left faults most ss ts fs → AreRead tells left most ss ts
  done_read most ss ts fs done = record { read = read ss ts fs done; short = short ss ts fs done }
    where
      read : (ss ts : List S) (fs : List Planned) → AreDone tells left faults most ss ts fs → AllByRecursion (λ s. tells s ≡ true → left s ≡ []) ts
      read [] [] [] done = tt
      read [] [] (f ∷ fs) done = absurd done
      read [] (t ∷ ts) fs done = absurd done
      read (s ∷ ss) [] fs done = absurd done
      read (s ∷ ss) (t ∷ ts) [] done = absurd done
      read (s ∷ ss) (t ∷ ts) (f ∷ fs) done = ((λ told. done.0.ended (sym done.0.from.tell ∙ told)), read ss ts fs done.1)

      short : (ss ts : List S) (fs : List Planned) → AreDone tells left faults most ss ts fs → AllByRecursion (λ s. tells s ≡ true → length (left s) ≤ most) ss
      short [] [] [] done = tt
      short [] [] (f ∷ fs) done = absurd done
      short [] (t ∷ ts) fs done = absurd done
      short (s ∷ ss) [] fs done = absurd done
      short (s ∷ ss) (t ∷ ts) [] done = absurd done
      short (s ∷ ss) (t ∷ ts) (f ∷ fs) done = (done.0.short, short ss ts fs done.1)

  -- ---- errors that name a source

  pub long_at : (ss : List S) (s : S) (rest : List S) (most : ℕ) → (tells s ≡ true → most < length (left s)) → IsLongAt tells left (ss ++ s ∷ rest) most (length ss)
  long_at [] s rest most long = long
  long_at (r ∷ ss) s rest most long = long_at ss s rest most long

  pub rose_at : (ss ts : List S) (s t : S) (rest rest' : List S) → length ts ≡ length ss → Rose (faults s) (faults t) → RoseAt faults (ss ++ s ∷ rest) (ts ++ t ∷ rest') (length ss)
  rose_at [] [] s t rest rest' same rose = rose
  rose_at [] (u ∷ ts) s t rest rest' same rose = absurd (omega (arith, same))
  rose_at (r ∷ ss) [] s t rest rest' same rose = absurd (omega (arith, same))
  rose_at (r ∷ ss) (u ∷ ts) s t rest rest' same rose = rose_at ss ts s t rest rest' (omega (arith, same)) rose

  -- what a call took of a source
  pub taken_from : (all : Bool) (s t : S) (bytes : List ℕ) → Stays tells faults s t → Takes all (tells s) (left s) (left t) bytes → IsTakenFrom tells left faults s t bytes
  taken_from all s t bytes stays takes = record { tell = stays.tells; later = stays.later; taken = takes.taken }

  pub done_one : (most : ℕ) (s t : S) (bytes : List ℕ) → Stays tells faults s t → Takes true (tells s) (left s) (left t) bytes → length bytes ≤ most → IsDone tells left faults most s t bytes
  done_one most s t bytes stays takes few = record {
    from = taken_from true s t bytes stays takes;
    ended = takes.ended refl;
    short = λ told. omega (arith, few, ap length (takes.taken told), length-append bytes (left t), ap length (takes.ended refl told));
  }
