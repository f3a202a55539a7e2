-- What is read at a place of a reader's bytes.
use Rattle.std.proofs.Common.{◌≡◌, ◌≢◌, ◌∙◌, ℕ, ◌+◌, ◌-◌, ◌*◌, ◌≤◌, ◌<◌, ◌==◌, nat_eq, Bool, List, [], ◌++◌, Ok, Err, ap, arith, drop, inl, inr, length, length-append, min, refl, subst, sym}
use Rattle.std.proofs.lemmas.Bool.{eq-eqb, ne_eqb}
use Rattle.std.specs.Cmp.Lexicographic.{pointwise}
use Rattle.std.specs.Int.{w32, from_le_bytes}
use Rattle.xet_hash.specs.declared.error.Reason.{Reason}
use Rattle.xet_hash.specs.declared.error.StoreError.{StoreError}
use Rattle.xet_hash.specs.declared.error.StoreError.TheVariants.{MalformedData, UnexpectedEof}
use Rattle.xet_xorb_footer.specs.internal.Items.{numbers_in}
use Rattle.xet_codec.specs.declared.block.Block.{Block}
use Rattle.xet_codec.specs.Blocks.{EndsBefore, IsPart, RefusedBy, Sees, Tells}
use Rattle.xet_xorb_footer.specs.internal.Places.{checked_at}
use Rattle.xet_codec.specs.Parsing.{◌>>=◌, Parsed, next_bytes, number_at, times, wants}
use Rattle.xet_xorb_footer.specs.Reading.{number_is}
use Rattle.xet_xorb_footer.specs.theorems.Prefixes.{a_number, bytes_short, bytes_whole, length_items, list_block, list_full, list_short, number_whole}

-- with a block of no bytes
pub sees_first : {b : Bool} {seen bytes : List ℕ} {end : ℕ} (block : Block) → Tells b seen bytes end → IsPart block bytes → Sees b seen bytes end block
sees_first block t part = record { told = t.told; same = t.same; all = t.all; part = part }

-- ---- one after the other

pub then_refused : {X Y : Type 0} (r : Parsed X) (f : X × List ℕ → Parsed Y) (e : StoreError) → RefusedBy r e → RefusedBy (r >>= f) e
then_refused r f e (inl is) = inl (ap (λ (s : Parsed _). s >>= f) is)
then_refused r f e (inr other) = inr other

pub refused_after : {X Y : Type 0} (r : Parsed X) (f : X × List ℕ → Parsed Y) (x : X × List ℕ) (e : StoreError) → r ≡ Ok x → RefusedBy (f x) e → RefusedBy (r >>= f) e
refused_after r f x e ok (inl is) = inl (ap (λ (s : Parsed _). s >>= f) ok ∙ is)
refused_after r f x e ok (inr other) = inr other

-- ---- numbers and bytes

-- too few bytes, for what needs as many
pub short_refused : {X : Type 0} (read : List ℕ → Parsed X) (bytes : List ℕ) (at n : ℕ) (e : StoreError) → ((b : List ℕ) → length b < n → read b ≡ Err UnexpectedEof) → EndsBefore bytes at n e → RefusedBy (read (drop at bytes)) e
short_refused read bytes at n e short (inl few) = inl (short (drop at bytes) few.1 ∙ ap Err (sym few.0))
short_refused read bytes at n e short (inr other) = inr other

pub number_there : (bytes field more : List ℕ) (n : ℕ) → bytes ≡ field ++ more → length field ≡ 4 → n ≡ from_le_bytes w32 field → number_at bytes ≡ Ok (n, more)
number_there bytes field more n two len is = ap number_at two ∙ number_whole field more len ∙ ap (λ (k : ℕ). Ok (k, more)) (sym is)

pub number_fits : (n m : ℕ) (reason : Reason) (bytes more : List ℕ) → number_at bytes ≡ Ok (m, more) → m ≡ n → number_is n reason bytes ≡ Ok (tt, more)
unfolding number_is
number_fits n m reason bytes more read same =
    ap (λ (r : Parsed ℕ). r >>= λ x. wants (x.0 == n) reason >>= λ _. Ok (tt, x.1)) read ∙ ap (λ (b : Bool). wants b reason >>= λ _. Ok (tt, more)) (eq-eqb m n same)

pub number_differs : (n m : ℕ) (reason : Reason) (bytes more : List ℕ) → number_at bytes ≡ Ok (m, more) → m ≢ n → number_is n reason bytes ≡ Err (MalformedData reason)
unfolding number_is
number_differs n m reason bytes more read other =
    ap (λ (r : Parsed ℕ). r >>= λ x. wants (x.0 == n) reason >>= λ _. Ok (tt, x.1)) read ∙ ap (λ (b : Bool). wants b reason >>= λ _. Ok (tt, more)) (ne_eqb m n other)

pub number_unread : (n : ℕ) (reason : Reason) (bytes : List ℕ) (e : StoreError) → RefusedBy (number_at bytes) e → RefusedBy (number_is n reason bytes) e
unfolding number_is
number_unread n reason bytes e r = then_refused (number_at bytes) (λ x. wants (x.0 == n) reason >>= λ _. Ok (tt, x.1)) e r

pub checked_short : (n : ℕ) (wanted : List ℕ) (reason : Reason) (bytes : List ℕ) → length bytes < n → checked_at n wanted reason bytes ≡ Err UnexpectedEof
unfolding checked_at
checked_short n wanted reason bytes few = ap (λ (r : Parsed (List ℕ)). r >>= λ x. wants (pointwise nat_eq x.0 wanted) reason >>= λ _. Ok (tt, x.1)) (bytes_short n bytes few)

pub checked_is : (n : ℕ) (wanted : List ℕ) (reason : Reason) (bytes field more : List ℕ) (b : Bool) → bytes ≡ field ++ more → length field ≡ n → pointwise nat_eq field wanted ≡ b → checked_at n wanted reason bytes ≡ (wants b reason >>= λ _. Ok (tt, more))
unfolding checked_at
checked_is n wanted reason bytes field more b two len is =
    ap (λ (x : List ℕ). next_bytes n x >>= λ x. wants (pointwise nat_eq x.0 wanted) reason >>= λ _. Ok (tt, x.1)) two
    ∙ ap (λ (r : Parsed (List ℕ)). r >>= λ x. wants (pointwise nat_eq x.0 wanted) reason >>= λ _. Ok (tt, x.1)) (bytes_whole n field more len)
    ∙ ap (λ (b : Bool). wants b reason >>= λ _. Ok (tt, more)) is

-- ---- blocks of numbers

-- what is left to be read, behind some numbers
abbrev pub behind : ℕ → List ℕ → List ℕ → Parsed (List ℕ)
behind count ns bytes = times number_at (count - length ns) bytes >>= λ x. Ok (ns ++ x.0, x.1)

pub behind_none : (count : ℕ) (bytes : List ℕ) → behind count [] bytes ≡ times number_at count bytes
behind_none count bytes = ap (λ (n : ℕ). times number_at n bytes >>= λ x. Ok ([] ++ x.0, x.1)) (minus_none count) ∙ same (times number_at count bytes)
  where
    minus_none : (n : ℕ) → n - length {A = ℕ} [] ≡ n
    minus_none n = omega arith

    same : (r : Parsed (List ℕ)) → (r >>= λ x. Ok ([] ++ x.0, x.1)) ≡ r
    same (Ok x) = refl
    same (Err e) = refl

pub pushed : (ns more field : List ℕ) (n : ℕ) → more ≡ ns ++ numbers_in n field → length more ≡ length ns + n
pushed ns more field n is = ap length is ∙ length-append ns (numbers_in n field) ∙ ap (λ (k : ℕ). length ns + k) (length_items (from_le_bytes w32) 4 n field)

pub behind_more : (count n : ℕ) (ns now bytes field more : List ℕ) → n ≡ min 64 (count - length ns) → bytes ≡ field ++ more → length field ≡ 4 * n → now ≡ ns ++ numbers_in n field → behind count now more ≡ behind count ns bytes
behind_more count n ns now bytes field more is two len new =
    ap (λ (ms : List ℕ). behind count ms more) (new ∙ ap (λ (k : ℕ). ns ++ numbers_in k field) is)
    ∙ sym (list_block number_at (from_le_bytes w32) 4 a_number count ns (λ ms b. Ok (ms, b)) field more (len ∙ ap (λ (k : ℕ). 4 * k) is))
    ∙ ap (behind count ns) (sym two)

pub behind_all : (count : ℕ) (ns bytes : List ℕ) → count ≤ length ns → behind count ns bytes ≡ Ok (ns, bytes)
behind_all count ns bytes le = list_full number_at count ns (λ ms b. Ok (ms, b)) bytes le

pub behind_short : (count n : ℕ) (ns bytes : List ℕ) → n ≡ min 64 (count - length ns) → length bytes < 4 * n → behind count ns bytes ≡ Err UnexpectedEof
behind_short count n ns bytes is lt = list_short number_at (from_le_bytes w32) 4 a_number count ns (λ x. Ok (ns ++ x.0, x.1)) bytes (omega arith)

-- ---- a part of a buffer, of which it is known how long it is

pub part_refused : {X : Type 0} (read : List ℕ → Parsed X) (bytes : List ℕ) (at len n : ℕ) (e : StoreError) → len ≡ n → ((b : List ℕ) → length b < n → read b ≡ Err UnexpectedEof) → EndsBefore bytes at len e → RefusedBy (read (drop at bytes)) e
part_refused read bytes at len n e same short ends = short_refused read bytes at n e short (subst (λ (k : ℕ). EndsBefore bytes at k e) same ends)

pub behind_refused : (count n : ℕ) (ns bytes : List ℕ) (to len : ℕ) (all : Parsed (List ℕ)) (e : StoreError) → n ≡ min 64 (count - length ns) → len ≡ 4 * n → behind count ns (drop to bytes) ≡ all → EndsBefore bytes to len e → RefusedBy all e
behind_refused count n ns bytes to len all e is long same ends =
    subst (λ (r : Parsed (List ℕ)). RefusedBy r e) same (part_refused (behind count ns) bytes to len (4 * n) e long (λ b few. behind_short count n ns b is few) ends)
