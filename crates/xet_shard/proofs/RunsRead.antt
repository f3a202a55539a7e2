-- The run of a query at a place of a xorb, by the first row there.
use Rattle.std.proofs.Common.{◌≡◌, ◌≢◌, ℕ, suc, ◌+◌, ◌-◌, ◌*◌, ◌^◌, ◌≤◌, ◌<◌, ◌==◌, true, false, List, [], ◌∷◌, drop, length, take, map, nat_eq, Option, None, Some, Result, Ok, Err, refl, sym, ap, subst, ◌∙◌, arith}
use Rattle.std.proofs.lemmas.Bool.{le-leb, lt-leb, eq-eqb, ne_eqb}
use Rattle.std.proofs.lemmas.List.{drop-drop}
use Rattle.std.specs.Cmp.Lexicographic.{pointwise}
use Rattle.std.specs.Prelude.{if◌then◌else◌}
use Rattle.xet_hash.specs.declared.error.Reason.TheVariants.{SectionEntry, SectionPlace}
use Rattle.xet_hash.specs.declared.error.StoreError.{StoreError}
use Rattle.xet_hash.specs.declared.error.StoreError.TheVariants as errors
use Rattle.xet_shard_format.specs.declared.record.FileDataSequenceEntry.{FileDataSequenceEntry}
use Rattle.xet_shard_format.specs.declared.row.Row.{Row}
use Rattle.xet_shard.specs.Queries.{read_in_row}
use Rattle.xet_codec.specs.Parsing.{◌>>=◌, GivesUnlessFault}
use Rattle.xet_shard_format.specs.Rows.{row_of, rows_in}
use Rattle.xet_shard.specs.Runs.{agreed, end_of_chunk, head_segment, run_after, run_of}
use Rattle.xet_shard.proofs.Agreeing.{Agreed}
use Rattle.xet_shard.proofs.Faulting.{fault_on}
use Rattle.xet_shard.proofs.OneRecord.{at_head}
use Rattle.xet_shard_format.specs.theorems.RowList.{length-rows_in, rows_drop, rows_prefix, rows_next}

abbrev Run : Type 0
Run = Option (ℕ × FileDataSequenceEntry)

-- the rows at a place, by the first one
pub first_row : (n at : ℕ) (whole : List ℕ) (r : Row) → 0 < n → r ≡ row_of (drop at whole) → rows_in n (drop at whole) ≡ r ∷ rows_in (n - 1) (drop (at + 48) whole)
first_row n at whole r some is = rows_next n (drop at whole) some ∙ (λ i. sym is i ∷ rows_in (n - 1) (drop-drop 48 at whole i))

-- the query's hashes as they are kept, by the first one
pub first_hash : (keep : List ℕ → List ℕ) (query rest : List (List ℕ)) (first k : List ℕ) → query ≡ first ∷ rest → k ≡ keep first → map keep query ≡ k ∷ map keep rest
first_hash keep query rest first k is kept = ap (map keep) is ∙ ap (λ (h : List ℕ). h ∷ map keep rest) (sym kept)

module _ (place : ℕ) (head : Row) where
  pub no_query : (ks : List (List ℕ)) (rows : List Row) → length ks ≡ 0 → run_of ks place head rows ≡ Ok None
  unfolding run_of agreed
  no_query [] [] e = refl
  no_query [] (r ∷ rows) e = refl
  no_query (k ∷ ks) rows e = absurd cc

  -- by the first hash of the query and the first row
  module _ (keep : List ℕ → List ℕ) (query rest : List (List ℕ)) (first k : List ℕ) (n at : ℕ) (whole : List ℕ) (r : Row) (is : query ≡ first ∷ rest) (kept : k ≡ keep first) (some : 0 < n) (row : r ≡ row_of (drop at whole)) where
    by_first : run_of (map keep query) place head (rows_in n (drop at whole)) ≡ run_of (k ∷ map keep rest) place head (r ∷ rows_in (n - 1) (drop (at + 48) whole))
    by_first = λ i. run_of (first_hash keep query rest first k is kept i) place head (first_row n at whole r some row i)

    pub first_differs : pointwise nat_eq k r.hash ≡ false → run_of (map keep query) place head (rows_in n (drop at whole)) ≡ Ok None
    unfolding run_of agreed
    first_differs other = by_first ∙ rw other refl

    pub first_refused : (e : StoreError) → pointwise nat_eq k r.hash ≡ true → end_of_chunk r r.a head.c ≡ Err e → run_of (map keep query) place head (rows_in n (drop at whole)) ≡ Err e
    unfolding run_of agreed
    first_refused e same refused = by_first ∙ rw (same, refused) refl

    -- with so many more after the first, up to an end
    with_more : ℕ × ℕ → Result Run StoreError
    with_more n = Ok (Some (n.0 + 1, head_segment head place (n.0 + 1) (n.1 - r.a)))

    after_first : (to : ℕ) → pointwise nat_eq k r.hash ≡ true → end_of_chunk r r.a head.c ≡ Ok to → run_of (map keep query) place head (rows_in n (drop at whole)) ≡ (agreed (map keep rest) head.c to (rows_in (n - 1) (drop (at + 48) whole)) >>= with_more)
    unfolding run_of agreed with_more
    after_first to same ends = by_first ∙ rw (same, ends) (by (agreed (map keep rest) head.c to (rows_in (n - 1) (drop (at + 48) whole))))
      where
        made : ℕ × ℕ → Run
        made n = Some (n.0, head_segment head place n.0 (n.1 - r.a))

        by : (x : Agreed) → ((x >>= λ n. Ok (suc n.0, n.1)) >>= λ n. Ok (if n.0 == 0 then None else made n)) ≡ (x >>= with_more)
        by (Ok n) =
            let e : suc n.0 ≡ n.0 + 1 = omega arith in
            rw (ne_eqb (suc n.0) 0 (omega arith)) (ap (λ (m : ℕ). Ok (made (m, n.1))) e)
        by (Err e) = refl

    pub rest_fails : (to : ℕ) (e : StoreError) → pointwise nat_eq k r.hash ≡ true → end_of_chunk r r.a head.c ≡ Ok to → GivesUnlessFault {X = ℕ × ℕ} (λ x. x) (Err e) (agreed (map keep rest) head.c to (rows_in (n - 1) (drop (at + 48) whole)))
        → GivesUnlessFault {X = Run} (λ x. x) (Err e) (run_of (map keep query) place head (rows_in n (drop at whole)))
    rest_fails to e same ends gives =
        subst (λ (x : Result Run StoreError). GivesUnlessFault {X = Run} (λ x. x) (Err e) x) (sym (after_first to same ends)) (fault_on {A = ℕ × ℕ} {B = Run} (λ x. x) (λ x. x) e (agreed (map keep rest) head.c to (rows_in (n - 1) (drop (at + 48) whole))) with_more gives)

    pub rest_agrees : (to more end : ℕ) → pointwise nat_eq k r.hash ≡ true → end_of_chunk r r.a head.c ≡ Ok to → agreed (map keep rest) head.c to (rows_in (n - 1) (drop (at + 48) whole)) ≡ Ok (more, end)
        → run_of (map keep query) place head (rows_in n (drop at whole)) ≡ Ok (Some (more + 1, head_segment head place (more + 1) (end - r.a)))
    unfolding with_more
    rest_agrees to more end same ends is = after_first to same ends ∙ ap (λ (x : Agreed). x >>= with_more) is

-- ---- by the head

module _ (ks : List (List ℕ)) (place : ℕ) (head : Row) (rows : List Row) where
  too_few : length rows < head.b → run_after ks place head rows ≡ Err (errors.MalformedData SectionPlace)
  unfolding run_after
  too_few few = rw (lt-leb head.b (length rows) few) refl

  bad_a : head.b ≤ length rows → head.a ≢ 0 → run_after ks place head rows ≡ Err (errors.MalformedData SectionEntry)
  unfolding run_after
  bad_a room bad = rw (le-leb head.b (length rows) room, ne_eqb head.a 0 bad) refl

  bad_d : head.b ≤ length rows → head.a ≡ 0 → head.d ≢ 0 → run_after ks place head rows ≡ Err (errors.MalformedData SectionEntry)
  unfolding run_after
  bad_d room plain bad = rw (le-leb head.b (length rows) room, eq-eqb head.a 0 plain, ne_eqb head.d 0 bad) refl

  from_place : head.b ≤ length rows → head.a ≡ 0 → head.d ≡ 0 → run_after ks place head rows ≡ run_of ks place head (take (head.b - place) (drop place rows))
  unfolding run_after
  from_place room a d = rw (le-leb head.b (length rows) room, eq-eqb head.a 0 a, eq-eqb head.d 0 d) refl

  behind_end : head.b ≤ length rows → head.a ≡ 0 → head.d ≡ 0 → head.b ≤ place → run_after ks place head rows ≡ Ok None
  unfolding run_of
  behind_end room a d past =
      let none : head.b - place ≡ 0 = omega arith in
      from_place room a d ∙ ap (λ (n : ℕ). run_of ks place head (take n (drop place rows))) none

  at_place : head.b ≤ length rows → head.a ≡ 0 → head.d ≡ 0 → (here : List Row) → here ≡ take (head.b - place) (drop place rows) → run_after ks place head rows ≡ run_of ks place head here
  at_place room a d here is = from_place room a d ∙ ap (run_of ks place head) (sym is)

-- the rows from the place on, of those after the head
rows_at_place : (b place n at : ℕ) (whole : List ℕ) → place ≤ b → b ≤ n → rows_in (b - place) (drop (at + 48 * place) whole) ≡ take (b - place) (drop place (rows_in n (drop at whole)))
rows_at_place b place n at whole le room =
    ap (rows_in (b - place)) (sym (drop-drop (48 * place) at whole)) ∙ rows_prefix (b - place) (n - place) (drop (48 * place) (drop at whole)) (omega arith) ∙ ap (take (b - place)) (rows_drop place n (drop at whole) (omega arith))

-- the head is the first row
module _ (ks : List (List ℕ)) (place : ℕ) (head : Row) (at count : ℕ) (whole : List ℕ) (some : 0 < count) (few : count < 2 ^ 32) (le : at + 48 * count ≤ length whole) (is : head ≡ row_of (drop at whole)) where
  by_head : read_in_row (run_after ks place) at count 0 whole ≡ run_after ks place head (rows_in (count - 1) (drop (at + 48) whole))
  by_head = at_head (run_after ks place) whole at count some few le ∙ ap (λ (r : Row). run_after ks place r (rows_in (count - 1) (drop (at + 48) whole))) (sym is)

  long : head.b ≤ count - 1 → head.b ≤ length (rows_in (count - 1) (drop (at + 48) whole))
  long room = omega (arith, room, length-rows_in (count - 1) (drop (at + 48) whole))

  pub head_past : count - 1 < head.b → read_in_row (run_after ks place) at count 0 whole ≡ Err (errors.MalformedData SectionPlace)
  head_past past = by_head ∙ too_few ks place head _ (omega (arith, past, length-rows_in (count - 1) (drop (at + 48) whole)))

  pub head_bad_a : head.b ≤ count - 1 → head.a ≢ 0 → read_in_row (run_after ks place) at count 0 whole ≡ Err (errors.MalformedData SectionEntry)
  head_bad_a room bad = by_head ∙ bad_a ks place head _ (long room) bad

  pub head_bad_d : head.b ≤ count - 1 → head.a ≡ 0 → head.d ≢ 0 → read_in_row (run_after ks place) at count 0 whole ≡ Err (errors.MalformedData SectionEntry)
  head_bad_d room a bad = by_head ∙ bad_d ks place head _ (long room) a bad

  pub head_ends : head.b ≤ count - 1 → head.a ≡ 0 → head.d ≡ 0 → head.b ≤ place → read_in_row (run_after ks place) at count 0 whole ≡ Ok None
  head_ends room a d past = by_head ∙ behind_end ks place head _ (long room) a d past

  pub head_goes_on : head.b ≤ count - 1 → head.a ≡ 0 → head.d ≡ 0 → place ≤ head.b → read_in_row (run_after ks place) at count 0 whole ≡ run_of ks place head (rows_in (head.b - place) (drop (at + 48 + 48 * place) whole))
  head_goes_on room a d below = by_head ∙ at_place ks place head _ (long room) a d _ (rows_at_place head.b place (count - 1) (at + 48) whole below room)
