-- Reading a field and then what follows it, and bytes that end inside a field.
use Rattle.std.proofs.Common.{◌≡◌, ◌∙◌, ℕ, zero, suc, ◌+◌, ◌-◌, ◌*◌, ◌≤◌, ◌<◌, ◌⊎◌, ◌==◌, nat_eq, Bool, true, false, cond, List, [], ◌∷◌, ◌++◌, Result, Ok, Err, ap, append_assoc, arith, drop, length, length-append, length-drop, inl, inr, min, refl, sym, take}
use Rattle.std.proofs.Math.Nat.{mul-le-mul_left, mul-suc}
use Rattle.std.proofs.Math.Seq.{drop-append_seam, take-append_seam}
use Rattle.std.proofs.lemmas.Bool.{cases_lt, le-leb, lt-leb}
use Rattle.std.proofs.lemmas.List.{append-nil, nil_from_length, take-append-drop}
use Rattle.std.specs.Cmp.Lexicographic.{pointwise}
use Rattle.std.specs.Int.{w32, from_le_bytes}
use Rattle.xet_hash.specs.declared.error.Reason.{Reason}
use Rattle.xet_hash.specs.declared.error.StoreError.{StoreError}
use Rattle.xet_hash.specs.declared.error.StoreError.TheVariants.{UnexpectedEof}
use Rattle.xet_xorb_footer.specs.Items.{items_in}
use Rattle.xet_codec.specs.Parsing.{◌>>=◌, Parsed, next_bytes, number_at, times, wants}
use Rattle.xet_xorb_footer.specs.Reading.{magic_at, number_is, version_at}

-- ---- whole fields

pub bytes_whole : (n : ℕ) (field more : List ℕ) → length field ≡ n → next_bytes n (field ++ more) ≡ Ok (field, more)
unfolding next_bytes
bytes_whole n field more len =
    let le : n ≤ length (field ++ more) = omega (arith, length-append field more) in
    let prefix : take n (field ++ more) ≡ field = ap (λ (k : ℕ). take k (field ++ more)) (sym len) ∙ take-append_seam field more in
    let back : drop n (field ++ more) ≡ more = ap (λ (k : ℕ). drop k (field ++ more)) (sym len) ∙ drop-append_seam field more in
    rw (le-leb n (length (field ++ more)) le, prefix, back) refl

pub number_whole : (field more : List ℕ) → length field ≡ 4 → number_at (field ++ more) ≡ Ok (from_le_bytes w32 field, more)
unfolding number_at
number_whole field more len = rw (bytes_whole 4 field more len) refl

pub ident_whole : (ident : List ℕ) (reason : Reason) (field more : List ℕ) → length field ≡ 7 → magic_at ident reason (field ++ more) ≡ (wants (pointwise nat_eq field ident) reason >>= λ _. Ok (tt, more))
unfolding magic_at
ident_whole ident reason field more len = rw (bytes_whole 7 field more len) refl

pub version_whole : (version : ℕ) (reason : Reason) (field more : List ℕ) → length field ≡ 1 → version_at version reason (field ++ more) ≡ (wants (pointwise nat_eq field (version ∷ [])) reason >>= λ _. Ok (tt, more))
unfolding version_at
version_whole version reason field more len = rw (bytes_whole 1 field more len) refl

pub number_is_whole : (n : ℕ) (reason : Reason) (field more : List ℕ) → length field ≡ 4 → number_is n reason (field ++ more) ≡ (wants (from_le_bytes w32 field == n) reason >>= λ _. Ok (tt, more))
unfolding number_is
number_is_whole n reason field more len = rw (number_whole field more len) refl

-- ---- lists

-- items of so many bytes each
pub record IsItem {X : Type 0} (read : List ℕ → Parsed X) (of : List ℕ → X) (size : ℕ) : Type 0 where
  pub whole : (field more : List ℕ) → length field ≡ size → read (field ++ more) ≡ Ok (of field, more)
  pub short : (bytes : List ℕ) → length bytes < size → read bytes ≡ Err UnexpectedEof

pub bytes_short : (n : ℕ) (bytes : List ℕ) → length bytes < n → next_bytes n bytes ≡ Err UnexpectedEof
unfolding next_bytes
bytes_short n bytes lt = rw (lt-leb n (length bytes) lt) refl

pub number_short : (bytes : List ℕ) → length bytes < 4 → number_at bytes ≡ Err UnexpectedEof
unfolding number_at
number_short bytes lt = rw (bytes_short 4 bytes lt) refl

pub a_number : IsItem number_at (from_le_bytes w32) 4
a_number = record { whole = number_whole; short = number_short }

pub a_hash : IsItem (next_bytes 32) (λ b. b) 32
a_hash = record { whole = bytes_whole 32; short = bytes_short 32 }

-- bytes that are long enough, as a field and what is behind it
split : (size : ℕ) (bytes : List ℕ) → size ≤ length bytes → length (take size bytes) ≡ size
split size bytes le = omega (arith, ap length (take-append-drop size bytes), length-append (take size bytes) (drop size bytes), length-drop size bytes)

pub times_whole : {X : Type 0} (read : List ℕ → Parsed X) (of : List ℕ → X) (size : ℕ) → IsItem read of size → (n : ℕ) (field more : List ℕ) → length field ≡ size * n
    → times read n (field ++ more) ≡ Ok (items_in of size n field, more)
unfolding times items_in
times_whole read of size item zero field more len =
    let none : field ≡ [] = nil_from_length field (omega arith) in
    ap (λ (x : List ℕ). Ok ([], x ++ more)) none
times_whole read of size item (suc n) field more len =
    let first : List ℕ = take size field in
    let last : List ℕ = drop size field in
    let le : size ≤ length field = omega (arith, mul-suc size n) in
    let two : field ++ more ≡ first ++ (last ++ more) = ap (λ (x : List ℕ). x ++ more) (sym (take-append-drop size field)) ∙ append_assoc first last more in
    let one : read (field ++ more) ≡ Ok (of first, last ++ more) = ap read two ∙ item.whole first (last ++ more) (split size field le) in
    let rest : times read n (last ++ more) ≡ Ok (items_in of size n last, more) = times_whole read of size item n last more (omega (arith, length-drop size field, mul-suc size n)) in
    rw (one, rest) refl

pub times_short : {X : Type 0} (read : List ℕ → Parsed X) (of : List ℕ → X) (size : ℕ) → IsItem read of size → (n : ℕ) (bytes : List ℕ) → length bytes < size * n → times read n bytes ≡ Err UnexpectedEof
unfolding times
times_short read of size item zero bytes lt = absurd (omega arith)
times_short read of size item (suc n) bytes lt = by (λ rest few. times_short read of size item n rest few) (cases_lt (length bytes) size)
  where
    by : ((rest : List ℕ) → length rest < size * n → times read n rest ≡ Err UnexpectedEof) → (length bytes < size) ⊎ (size ≤ length bytes) → times read (suc n) bytes ≡ Err UnexpectedEof
    by later (inl few) = rw (item.short bytes few) refl
    by later (inr le) =
        let one : read bytes ≡ Ok (of (take size bytes), drop size bytes) = ap read (sym (take-append-drop size bytes)) ∙ item.whole (take size bytes) (drop size bytes) (split size bytes le) in
        let rest : times read n (drop size bytes) ≡ Err UnexpectedEof = later (drop size bytes) (omega (arith, length-drop size bytes, mul-suc size n)) in
        rw (one, rest) refl

-- ---- what was read goes on

pub bind_bind : {A B C : Type 0} (r : Result A StoreError) (g : A → Result B StoreError) (f : B → Result C StoreError) → ((r >>= g) >>= f) ≡ (r >>= λ x. g x >>= f)
bind_bind (Ok x) g f = refl
bind_bind (Err e) g f = refl

pub onward : {A B : Type 0} (r : Result A StoreError) (f g : A → Result B StoreError) → ((x : A) → f x ≡ g x) → (r >>= f) ≡ (r >>= g)
onward (Ok x) f g same = same x
onward (Err e) f g same = refl

-- a check of a field, and what is known behind it
pub checked : {X Y B : Type 0} (w : Result (Unit {0}) StoreError) (x : X) (y : Y) (f : X → Result B StoreError) (g : Y → Result B StoreError) → f x ≡ g y → ((w >>= λ _. Ok x) >>= f) ≡ ((w >>= λ _. Ok y) >>= g)
checked (Ok u) x y f g same = same
checked (Err e) x y f g same = refl

pub checked_on : {Y B : Type 0} (w : Result (Unit {0}) StoreError) (y : Y) (t : Result B StoreError) (g : Y → Result B StoreError) → t ≡ g y → (w >>= λ _. t) ≡ ((w >>= λ _. Ok y) >>= g)
checked_on (Ok u) y t g same = same
checked_on (Err e) y t g same = refl

-- one of two
pub pick_true : {A : Type 0} (c : Bool) (x y : A) → c ≡ true → cond c x y ≡ x
pick_true c x y e = ap (λ (b : Bool). cond b x y) e

pub pick_false : {A : Type 0} (c : Bool) (x y : A) → c ≡ false → cond c x y ≡ y
pick_false c x y e = ap (λ (b : Bool). cond b x y) e

-- ---- blocks of a list

pub length_items : {X : Type 0} (of : List ℕ → X) (size n : ℕ) (bytes : List ℕ) → length (items_in of size n bytes) ≡ n
unfolding items_in
length_items of size zero bytes = refl
length_items of size (suc n) bytes = ap suc (length_items of size n (drop size bytes))

times_block : {X Y : Type 0} (read : List ℕ → Parsed X) (of : List ℕ → X) (size : ℕ) → IsItem read of size → (k m : ℕ) (field more : List ℕ) (f : List X × List ℕ → Result Y StoreError) → length field ≡ size * k
    → (times read (k + m) (field ++ more) >>= f) ≡ (times read m more >>= λ ys. f (items_in of size k field ++ ys.0, ys.1))
unfolding times items_in
times_block read of size item zero m field more f len =
    let none : field ≡ [] = nil_from_length field (omega arith) in
    let zero_more : 0 + m ≡ m = omega arith in
    ap (λ (x : List ℕ). times read (0 + m) (x ++ more) >>= f) none ∙ ap (λ (n : ℕ). times read n more >>= f) zero_more
times_block read of size item (suc k) m field more f len =
    let first : List ℕ = take size field in
    let last : List ℕ = drop size field in
    let le : size ≤ length field = omega (arith, mul-suc size k) in
    let two : field ++ more ≡ first ++ (last ++ more) = ap (λ (x : List ℕ). x ++ more) (sym (take-append-drop size field)) ∙ append_assoc first last more in
    let one : read (field ++ more) ≡ Ok (of first, last ++ more) = ap read two ∙ item.whole first (last ++ more) (split size field le) in
    let one_more : suc k + m ≡ suc (k + m) = omega arith in
    ap (λ (n : ℕ). times read n (field ++ more) >>= f) one_more
    ∙ ap (λ (r : Parsed _). (r >>= λ x. times read (k + m) x.1 >>= λ xs. Ok (x.0 ∷ xs.0, xs.1)) >>= f) one
    ∙ bind_bind (times read (k + m) (last ++ more)) (λ xs. Ok (of first ∷ xs.0, xs.1)) f
    ∙ times_block read of size item k m last more (λ xs. f (of first ∷ xs.0, xs.1)) (omega (arith, length-drop size field, mul-suc size k))

pub list_block : {X Y : Type 0} (read : List ℕ → Parsed X) (of : List ℕ → X) (size : ℕ) → IsItem read of size → (count : ℕ) (xs : List X) (g : List X → List ℕ → Result Y StoreError) (field more : List ℕ)
    → length field ≡ size * min 64 (count - length xs)
    → (times read (count - length xs) (field ++ more) >>= λ x. g (xs ++ x.0) x.1)
    ≡ (times read (count - length (xs ++ items_in of size (min 64 (count - length xs)) field)) more >>= λ y. g ((xs ++ items_in of size (min 64 (count - length xs)) field) ++ y.0) y.1)
list_block read of size item count xs g field more len =
    let k : ℕ = min 64 (count - length xs) in
    let new : List _ = items_in of size k field in
    let m : ℕ = count - length (xs ++ new) in
    let both : count - length xs ≡ k + m = omega (arith, length-append xs new, length_items of size k field) in
    ap (λ (n : ℕ). times read n (field ++ more) >>= λ x. g (xs ++ x.0) x.1) both ∙ times_block read of size item k m field more (λ x. g (xs ++ x.0) x.1) len
    ∙ onward (times read m more) (λ y. g (xs ++ (new ++ y.0)) y.1) (λ y. g ((xs ++ new) ++ y.0) y.1) (λ y. ap (λ (zs : List _). g zs y.1) (sym (append_assoc xs new y.0)))

pub list_full : {X Y : Type 0} (read : List ℕ → Parsed X) (count : ℕ) (xs : List X) (g : List X → List ℕ → Result Y StoreError) (more : List ℕ) → count ≤ length xs → (times read (count - length xs) more >>= λ y. g (xs ++ y.0) y.1) ≡ g xs more
unfolding times
list_full read count xs g more le =
    let none : count - length xs ≡ 0 = omega arith in
    ap (λ (n : ℕ). times read n more >>= λ y. g (xs ++ y.0) y.1) none ∙ ap (λ (zs : List _). g zs more) (append-nil xs)

pub list_short : {X Y : Type 0} (read : List ℕ → Parsed X) (of : List ℕ → X) (size : ℕ) → IsItem read of size → (count : ℕ) (xs : List X) (f : List X × List ℕ → Result Y StoreError) (bytes : List ℕ)
    → length bytes < size * min 64 (count - length xs) → (times read (count - length xs) bytes >>= f) ≡ Err UnexpectedEof
list_short read of size item count xs f bytes lt =
    let short : times read (count - length xs) bytes ≡ Err UnexpectedEof = times_short read of size item (count - length xs) bytes (omega (arith, mul-le-mul_left size (less (count - length xs)))) in
    rw short refl
  where
    less : (n : ℕ) → min 64 n ≤ n
    less n = omega arith
