-- Bytes of a piece that are added to what is at hand.
use Rattle.std.proofs.Common.{◌≡◌, ◌∙◌, ◌⊎◌, ℕ, ◌+◌, ◌-◌, ◌<◌, ◌≤◌, nat_lt, false, List, [], ◌++◌, length, take, drop, slice_range, Ok, refl, sym, ap, subst, inl, inr, arith, append_assoc, length-append, length-drop}
use Rattle.std.proofs.Math.Seq.{take-add}
use Rattle.std.proofs.lemmas.Bool.{cases_lt, le-ltb}
use Rattle.std.proofs.lemmas.List.{append-nil, length-take-le, take-append-drop, take-append-le, take_rest}
use Rattle.xet_hash.specs.declared.error.StoreError.{StoreError}
use Rattle.xet_xorb_chunk.specs.Header.{Header}
use Rattle.xet_xorb_chunk.specs.internal.Passing.{Gathers}
use Rattle.xet_xorb_chunk.specs.Stream.{Fails, Short, Whole, prefix_of}
use Rattle.xet_xorb_chunk.specs.Taking.{header_in}
use Rattle.xet_xorb_chunk.specs.theorems.Prefixes.{prefix_body, prefix_few, prefix_short}
use Rattle.xet_xorb_chunk.specs.theorems.More.{body_decided, body_whole, fails_more}

-- what was added and what is left of the piece
pub added : (old piece held : List ℕ) (n : ℕ) → held ≡ old ++ take n piece → held ++ drop n piece ≡ old ++ piece
added old piece held n e =
    ap (λ (x : List ℕ). x ++ drop n piece) e ∙ append_assoc old (take n piece) (drop n piece) ∙ ap (λ (x : List ℕ). old ++ x) (take-append-drop n piece)

pub added_twice : (old piece first held : List ℕ) (n m : ℕ) → first ≡ old ++ take n piece → held ≡ first ++ take m (slice_range piece n (length piece))
    → held ≡ old ++ take (n + m) piece
added_twice old piece first held n m e f =
    f ∙ ap (λ (x : List ℕ). first ++ take m x) (take_rest piece n) ∙ ap (λ (x : List ℕ). x ++ take m (drop n piece)) e ∙ append_assoc old (take n piece) (take m (drop n piece))
    ∙ ap (λ (x : List ℕ). old ++ x) (sym (take-add n m piece))

-- bytes fail where their front does
pub fails_ahead : (max_chunk : ℕ) (old piece held : List ℕ) (n : ℕ) (e : StoreError) → held ≡ old ++ take n piece → prefix_of max_chunk held ≡ Fails e → prefix_of max_chunk (old ++ piece) ≡ Fails e
fails_ahead max_chunk old piece held n e is fails =
    subst (λ (b : List ℕ). prefix_of max_chunk b ≡ Fails e) (added old piece held n is) (fails_more max_chunk held (drop n piece) e fails)

-- the header at the front stays
header_more : (max_chunk : ℕ) (bytes more : List ℕ) → 8 ≤ length bytes → header_in max_chunk (bytes ++ more) ≡ header_in max_chunk bytes
header_more max_chunk bytes more enough =
    let long : nat_lt (length (bytes ++ more)) 8 ≡ false = le-ltb _ _ (omega (arith, length-append bytes more)) in
    let here : nat_lt (length bytes) 8 ≡ false = le-ltb _ _ enough in
    let head : take 8 (bytes ++ more) ≡ take 8 bytes = take-append-le 8 bytes more enough in
    rw (long, here, head) refl

-- less than a chunk has fewer bytes than its header says
short_room_of : (max_chunk : ℕ) (bytes : List ℕ) (h : Header) → (length bytes < 8 + h.stored) ⊎ (8 + h.stored ≤ length bytes) → 8 ≤ length bytes → header_in max_chunk bytes ≡ Ok h
    → prefix_of max_chunk bytes ≡ Short → length bytes < 8 + h.stored
short_room_of max_chunk bytes h (inl few) enough e short = few
short_room_of max_chunk bytes h (inr long) enough e short =
    absurd (body_decided h (take h.stored (drop 8 bytes)) (sym (prefix_body max_chunk bytes h e enough (omega arith)) ∙ short))

-- a whole chunk has as many bytes as its header says
whole_len_of : (max_chunk : ℕ) (bytes chunk : List ℕ) (h : Header) → (length bytes < 8 + h.stored) ⊎ (8 + h.stored ≤ length bytes) → 8 ≤ length bytes → header_in max_chunk bytes ≡ Ok h
    → prefix_of max_chunk bytes ≡ Whole chunk → length chunk ≡ h.stored
whole_len_of max_chunk bytes chunk h (inl few) enough e whole =
    absurd (cc (sym (prefix_short max_chunk bytes h e (omega (arith, length-drop 8 bytes))) ∙ whole))
whole_len_of max_chunk bytes chunk h (inr long) enough e whole =
    let same : take h.stored (drop 8 bytes) ≡ chunk = body_whole h (take h.stored (drop 8 bytes)) chunk (sym (prefix_body max_chunk bytes h e enough (omega arith)) ∙ whole) in
    ap length (sym same) ∙ length-take-le h.stored (drop 8 bytes) (omega (arith, length-drop 8 bytes))

-- what is at hand with a header has no more bytes than that says
first_room_of : (max_chunk : ℕ) (old first piece : List ℕ) (n : ℕ) (h : Header) → (length old < 8) ⊎ (8 ≤ length old) → prefix_of max_chunk old ≡ Short → first ≡ old ++ take n piece
    → (8 ≤ length old → n ≡ 0) → (length old ≤ 8 → length first ≤ 8) → header_in max_chunk first ≡ Ok h → length first ≤ 8 + h.stored
first_room_of max_chunk old first piece n h (inl few) short is full fits e = let eight = fits (omega arith) in omega arith
first_room_of max_chunk old first piece n h (inr enough) short is full fits e =
    let none : take n piece ≡ [] = ap (λ (k : ℕ). take k piece) (full enough) in
    let same : first ≡ old = is ∙ ap (λ (x : List ℕ). old ++ x) none ∙ append-nil old in
    let room = short_room_of max_chunk old h (cases_lt (length old) (8 + h.stored)) enough (ap (header_in max_chunk) (sym same) ∙ e) short in omega (arith, ap length same)

all_added : (max_chunk n m : ℕ) (bytes piece : List ℕ) (h : Header) → (m < length piece - n) ⊎ (length piece - n ≤ m) → n ≤ length piece → m ≤ length piece - n → 8 ≤ length bytes
    → header_in max_chunk bytes ≡ Ok h → (m < length piece - n → 8 + h.stored ≤ length bytes) → prefix_of max_chunk bytes ≡ Short → n + m ≡ length piece
all_added max_chunk n m bytes piece h (inl some) low high enough e filled short =
    let long = filled some in let room = short_room_of max_chunk bytes h (cases_lt (length bytes) (8 + h.stored)) enough e short in absurd (omega arith)
all_added max_chunk n m bytes piece h (inr none) low high enough e filled short = omega arith

-- where no header was there, all was added
pub gathers_few : (max_chunk : ℕ) (bytes piece : List ℕ) (n : ℕ) → length bytes < 8 → n ≡ length piece → Gathers max_chunk bytes piece n
gathers_few max_chunk bytes piece n few all = record { all = λ s. all; one = λ chunk e. absurd (cc (sym (prefix_few max_chunk bytes few) ∙ e)) }

pub gathers_more : (max_chunk : ℕ) (old first bytes piece : List ℕ) (n m : ℕ) (h : Header) → prefix_of max_chunk old ≡ Short → first ≡ old ++ take n piece → n ≤ length piece
    → (8 ≤ length old → n ≡ 0) → (length old ≤ 8 → length first ≤ 8) → header_in max_chunk first ≡ Ok h → 8 ≤ length first
    → bytes ≡ first ++ take m (drop n piece) → m ≤ length piece - n
    → (m < length piece - n → 8 + h.stored ≤ length bytes) → (length first ≤ 8 + h.stored → length bytes ≤ 8 + h.stored)
    → Gathers max_chunk bytes piece (n + m)
gathers_more max_chunk old first bytes piece n m h short is within full fits e enough more rest filled room =
    let head : header_in max_chunk bytes ≡ Ok h = ap (header_in max_chunk) more ∙ header_more max_chunk first (take m (drop n piece)) enough ∙ e in
    let long : 8 ≤ length bytes = omega (arith, ap length more, length-append first (take m (drop n piece))) in
    let low = first_room_of max_chunk old first piece n h (cases_lt (length old) 8) short is full fits e in
    record {
      all = λ s. all_added max_chunk n m bytes piece h (cases_lt m (length piece - n)) within rest long head filled s;
      one = λ chunk whole.
          let size = whole_len_of max_chunk bytes chunk h (cases_lt (length bytes) (8 + h.stored)) long head whole in let few = room low in omega arith;
    }
