-- What was taken of a source: a prefix, and how much of it.
use Rattle.std.proofs.Common.{◌≡◌, ◌∙◌, ◌⊎◌, ℕ, ◌+◌, ◌<◌, ◌≤◌, List, [], ◌++◌, length, take, drop, Ok, Err, Result, ap, arith, inl, inr, length-append, length-drop, refl, subst, sym}
use Rattle.std.proofs.lemmas.Bool.{cases_lt}
use Rattle.std.proofs.lemmas.List.{drop-drop, drop_all, drop_at, length-take-le}
use Rattle.xet_hash.specs.declared.error.StoreError.{StoreError}
use Rattle.xet_hash.specs.declared.error.StoreError.TheVariants.{Io}
use Rattle.xet_hash.specs.declared.error.Place.TheVariants.{Input}
use Rattle.xet_io.specs.Whole.{Fills, FillsWith}
use Rattle.xet_xorb_chunk.specs.Header.{Header}
use Rattle.xet_xorb_chunk.specs.Checks.{IsCheck}
use Rattle.xet_codec.specs.Stops.{StopsReading, StopsWriting}
use Rattle.xet_base.specs.theorems.Written.{block_fed}
use Rattle.xet_xorb_chunk.specs.Taking.{TakesFailedChunk, TakesFailedHeader, TakesPrefix, header_in}

pub taken_prefix : (left prefix rest : List ℕ) → left ≡ prefix ++ rest → TakesPrefix left rest
taken_prefix left prefix rest e = (length prefix, sym (ap (drop (length prefix)) e ∙ drop_at prefix rest (length prefix) refl))

-- the bytes that were fed, and those of a block after them
pub block_prefix : (left fed from block rest : List ℕ) (count : ℕ) → left ≡ fed ++ from → from ≡ take count block ++ rest → TakesPrefix left rest
block_prefix left fed from block rest count is next = taken_prefix left (fed ++ take count block) rest (block_fed left fed from block rest count is next)

-- a prefix, and then another
pub prefix_then : (left middle rest : List ℕ) → TakesPrefix left middle → TakesPrefix middle rest → TakesPrefix left rest
prefix_then left middle rest (n, first) (m, next) = (n + m, next ∙ ap (drop m) first ∙ drop-drop m n left)

pub fills_prefix : (left buffer rest : List ℕ) (r : Result ℕ StoreError) → Fills left buffer r rest → TakesPrefix left rest
fills_prefix left buffer rest (Ok count) fills = taken_prefix left (take count buffer) rest fills.taken
fills_prefix left buffer rest (Err e) (n, few, taken) = (n, taken)

-- what a read that failed has taken
pub failed_prefix : (left buffer rest : List ℕ) → ((n : ℕ) × (n ≤ length buffer) × (rest ≡ drop n left)) → TakesPrefix left rest
failed_prefix left buffer rest (n, few, taken) = (n, taken)

-- the bytes of a header were read, or ended
pub header_left : (count : ℕ) (buffer left rest : List ℕ) → length buffer ≡ 8 → count ≤ length buffer → FillsWith count buffer left rest → rest ≡ drop 8 left
header_left count buffer left rest size bound fills =
    let long = length-take-le count buffer bound in
    elim (cases_lt count 8) [
      | inl few ↦
          let none : rest ≡ [] = fills.ended (omega arith) in
          none ∙ sym (drop_all 8 left (omega (arith, ap length fills.taken, length-append (take count buffer) rest, ap length none)))
      | inr all ↦ sym (ap (drop 8) fills.taken ∙ drop_at (take count buffer) rest 8 (omega arith))
    ]

-- a body ended too early
pub body_short : (left middle rest : List ℕ) (size : ℕ) → middle ≡ drop 8 left → length middle < size → rest ≡ [] → rest ≡ drop (8 + size) left
body_short left middle rest size header few none = none ∙ sym (drop_all (8 + size) left (omega (arith, ap length header, length-drop 8 left)))

-- a body was read
pub body_left : (left middle body rest : List ℕ) (size : ℕ) → middle ≡ drop 8 left → middle ≡ body ++ rest → length body ≡ size → rest ≡ drop (8 + size) left
body_left left middle body rest size header is long = sym (drop_at body rest size long) ∙ ap (drop size) (sym is ∙ header) ∙ drop-drop size 8 left

-- a check is no failure of a source, and needs no memory
pub no_reading : (e : StoreError) → StopsReading e → IsCheck e → ⊥
no_reading e (inl same) check = cc (subst IsCheck same check)
no_reading e (inr same) check = cc (subst IsCheck same check)

pub by_check_alone : {P : Type 0} (e : StoreError) → P ⊎ StopsReading e → IsCheck e → P
by_check_alone e (inl p) check = p
by_check_alone e (inr stops) check = absurd (no_reading e stops check)

-- no failing sink fails a check or the source
pub no_writing : (e : StoreError) → StopsWriting e → IsCheck e ⊎ (e ≡ Io Input) → ⊥
no_writing e (inl same) (inl check) = cc (subst IsCheck same check)
no_writing e (inl same) (inr input) = cc (sym same ∙ input)
no_writing e (inr same) (inl check) = cc (subst IsCheck same check)
no_writing e (inr same) (inr input) = cc (sym same ∙ input)

no_header : (max_chunk : ℕ) (left : List ℕ) (e : StoreError) (h : Header) → (header_in max_chunk left ≡ Err e) ⊎ StopsReading e → header_in max_chunk left ≡ Ok h → IsCheck e → ⊥
no_header max_chunk left e h (inl fails) ok check = cc (sym fails ∙ ok)
no_header max_chunk left e h (inr stops) ok check = no_reading e stops check

-- a chunk whose header is refused
pub chunk_of_header : (max_chunk : ℕ) (left rest : List ℕ) (e : StoreError) → (header_in max_chunk left ≡ Err e) ⊎ StopsReading e → TakesFailedHeader max_chunk left rest e → TakesFailedChunk max_chunk left rest e
chunk_of_header max_chunk left rest e why takes = record { consumed = takes.consumed; header = takes.header; body = λ h ok check. absurd (no_header max_chunk left e h why ok check) }

-- a chunk whose body is refused
pub chunk_of_body : (max_chunk : ℕ) (left middle rest : List ℕ) (e : StoreError) (header : Header) → header_in max_chunk left ≡ Ok header → middle ≡ drop 8 left → TakesPrefix middle rest
    → (IsCheck e → rest ≡ drop (8 + header.stored) left) → TakesFailedChunk max_chunk left rest e
chunk_of_body max_chunk left middle rest e header ok first next body = record {
  consumed = prefix_then left middle rest (8, first) next;
  header = λ fails. absurd (cc (sym ok ∙ fails));
  body = λ h again check.
      let same : header ≡ h = cc (sym ok ∙ again) in
      body check ∙ ap (λ (x : Header). drop (8 + x.stored) left) same;
}
