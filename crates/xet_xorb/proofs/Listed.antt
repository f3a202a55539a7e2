-- What the lists of a footer tell of the leaves that it is of.
use Rattle.std.proofs.Common.{◌≡◌, ◌≢◌, ◌∙◌, ℕ, zero, suc, ◌+◌, ◌-◌, ◌<◌, ◌≤◌, ◌==◌, ◌&&◌, ◌||◌, nat_eq, nat_le, nat_lt, not, Bool, true, false, List, [], ◌∷◌, length, map, Ok, Result, cond, refl, sym, subst, ap, arith, slice_index}
use Rattle.std.proofs.lemmas.Bool.{eq-eqb, eqb-true, le-leb, lt-ltb}
use Rattle.std.proofs.lemmas.List.{length-map}
use Rattle.std.specs.Cmp.Lexicographic.{bytes_decides, pointwise}
use Rattle.xet_hash.specs.Hash.{zero_hash}
use Rattle.xet_hash.specs.Merkle.{leaf_of, leaves_of}
use Rattle.xet_hash.specs.declared.error.Reason.TheVariants.{Incomplete, Offsets}
use Rattle.xet_hash.specs.declared.error.StoreError.{StoreError}
use Rattle.xet_xorb_footer.specs.declared.info.XorbObjectInfoV1.{XorbObjectInfoV1}
use Rattle.xet_codec.specs.Parsing.{◌>>=◌, wants}
use Rattle.xet_xorb.specs.Footer.{V0, V1, Version, ends_from, footer_info}
use Rattle.xet_xorb.specs.Object.{between, byte_offset, complete, contents_length, end_of, fits, object_of, range_length, some_chunks}
use Rattle.xet_xorb.specs.declared.object.XorbObject.{XorbObject}
use Rattle.xet_xorb.specs.Laws.{AddUp, LengthsAddUp}
use Rattle.xet_xorb.specs.Ranges.{listed_contents, listed_range}

-- how far so many leaves reach, if so many bytes stand before each one's own
abbrev pub reach : ℕ → ℕ → List (List ℕ × ℕ) → ℕ
reach before zero ms = 0
reach before (suc k) [] = 0
reach before (suc k) (m ∷ ms) = m.1 + before + reach before k ms

ends_at : (before at k : ℕ) (ms : List (List ℕ × ℕ)) → k < length ms → slice_index (ends_from before at ms) k ≡ at + reach before (suc k) ms
unfolding ends_from
ends_at before at k [] here = absurd (omega arith)
ends_at before at zero (m ∷ ms) here = omega arith
ends_at before at (suc k) (m ∷ ms) here = ends_at before (at + (m.1 + before)) k ms (omega arith) ∙ omega arith

-- where so many leaves end
pub end_is : (before k : ℕ) (ms : List (List ℕ × ℕ)) → k ≤ length ms → end_of (ends_from before 0 ms) k ≡ reach before k ms
end_is before zero ms few = refl
end_is before (suc k) ms few = ends_at before 0 k ms (omega arith) ∙ omega arith

pub count-ends : (before at : ℕ) (ms : List (List ℕ × ℕ)) → length (ends_from before at ms) ≡ length ms
unfolding ends_from
count-ends before at [] = refl
count-ends before at (m ∷ ms) = omega (arith, count-ends before (at + (m.1 + before)) ms)

-- more leaves reach as far at least
pub reach_rises : (before a b : ℕ) (ms : List (List ℕ × ℕ)) → a ≤ b → reach before a ms ≤ reach before b ms
reach_rises before zero b ms more = omega arith
reach_rises before (suc a) zero ms more = absurd (omega arith)
reach_rises before (suc a) (suc b) [] more = omega arith
reach_rises before (suc a) (suc b) (m ∷ ms) more = omega (arith, reach_rises before a b ms (omega arith))

and_is : (a b : Bool) → a ≡ true → b ≡ true → (a && b) ≡ true
and_is true true x y = refl
and_is true false x y = absurd (cc y)
and_is false b x y = absurd (cc x)

or_is : (a b : Bool) → b ≡ true → (a || b) ≡ true
or_is true b y = refl
or_is false true y = refl
or_is false false y = absurd (cc y)

hash_is_not : (hash : List ℕ) → hash ≢ zero_hash → not (pointwise nat_eq hash zero_hash) ≡ true
hash_is_not hash some = go (pointwise nat_eq hash zero_hash) refl
  where
    go : (b : Bool) → pointwise nat_eq hash zero_hash ≡ b → not b ≡ true
    go true e = absurd (some ((bytes_decides hash zero_hash).0 e))
    go false e = refl

-- A footer is complete, and lists so the ends of these leaves.
pub record Lists (i : XorbObjectInfoV1) (ms : List (List ℕ × ℕ)) : Type 0 where
  pub done : complete i ≡ Ok tt
  pub count : i.num_chunks ≡ length ms
  pub ends : i.chunk_boundary_offsets ≡ ends_from 8 0 ms

-- the footer of some leaves is complete, unless its hash is zero
pub lists_leaves : (version : Version) (hash : List ℕ) (ms : List (List ℕ × ℕ)) (spare : List ℕ) → 0 < length ms → hash ≢ zero_hash → Lists (footer_info version hash ms spare) ms
lists_leaves version hash ms spare some other = go version
  where
    listed : (nat_lt 0 (length ms) && (length (ends_from 8 0 ms) == length ms) && (length (map (λ (m : List ℕ × ℕ). m.0) ms) == length ms)) ≡ true
    listed = and_is _ _ (and_is _ _ (lt-ltb 0 (length ms) some) (eq-eqb _ _ (count-ends 8 0 ms))) (eq-eqb _ _ (length-map ms (λ (m : List ℕ × ℕ). m.0)))

    go : (version : Version) → Lists (footer_info version hash ms spare) ms
    go V0 = record { done = ap (λ (b : Bool). wants b Incomplete) (and_is _ _ (and_is _ true listed refl) (hash_is_not hash other)); count = refl; ends = refl }
    go V1 = record { done = ap (λ (b : Bool). wants b Incomplete) (and_is _ _ (and_is _ _ listed (eq-eqb _ _ (count-ends 0 0 ms))) (hash_is_not hash other)); count = refl; ends = refl }

between_is : (from to : ℕ) → from ≤ to → between from to ≡ Ok (to - from)
between_is from to rise = ap (λ (b : Bool). wants b Offsets >>= λ _. Ok (to - from)) (le-leb from to rise)

-- an end that a complete footer lists
stored_end : (i : XorbObjectInfoV1) (ms : List (List ℕ × ℕ)) (k : ℕ) → Lists i ms → k ≤ length ms → end_of i.chunk_boundary_offsets k ≡ reach 8 k ms
stored_end i ms k lists few = ap (λ (ends : List ℕ). end_of ends k) lists.ends ∙ end_is 8 k ms few

-- where a range of chunks is stored, as it is listed
pub range_is : (i : XorbObjectInfoV1) (ms : List (List ℕ × ℕ)) (start end : ℕ) → Lists i ms → start < end → end ≤ length ms
    → listed_range i start end ≡ Ok (reach 8 start ms, reach 8 end ms)
range_is i ms start end lists some few =
    let holds : (nat_lt start end && nat_le end i.num_chunks) ≡ true = and_is _ _ (lt-ltb start end some) (le-leb end i.num_chunks (omega (arith, lists.count))) in
    let chosen : some_chunks i start end ≡ Ok tt = ap (λ (r : Result (Unit {0}) StoreError). r >>= λ _. fits (nat_lt start end && nat_le end i.num_chunks)) lists.done ∙ ap fits holds in
    let from = stored_end i ms start lists (omega arith) in
    let to = stored_end i ms end lists few in
    let offset : byte_offset i start end ≡ Ok (reach 8 start ms, reach 8 end ms) =
    ap (λ (r : Result (Unit {0}) StoreError). r >>= λ _. Ok (end_of i.chunk_boundary_offsets start, end_of i.chunk_boundary_offsets end)) chosen ∙ (λ j. Ok (from j, to j)) in
    ap (λ (r : Result (ℕ × ℕ) StoreError). r >>= λ ends. between ends.0 ends.1 >>= λ _. Ok ends) offset
    ∙ ap (λ (r : Result ℕ StoreError). r >>= λ _. Ok (reach 8 start ms, reach 8 end ms)) (between_is (reach 8 start ms) (reach 8 end ms) (reach_rises 8 start end ms (omega arith)))

-- and where all chunks are
pub contents_are : (i : XorbObjectInfoV1) (ms : List (List ℕ × ℕ)) → Lists i ms → listed_contents i ≡ Ok (reach 8 0 ms, reach 8 (length ms) ms)
contents_are i ms lists =
    let all : end_of i.chunk_boundary_offsets i.num_chunks ≡ reach 8 (length ms) ms =
    ap (λ (k : ℕ). end_of i.chunk_boundary_offsets k) lists.count ∙ stored_end i ms (length ms) lists (omega arith) in
    let told : contents_length i ≡ Ok (reach 8 (length ms) ms) =
    ap (λ (r : Result (Unit {0}) StoreError). r >>= λ _. Ok (end_of i.chunk_boundary_offsets i.num_chunks)) lists.done ∙ ap Ok all in
    ap (λ (r : Result ℕ StoreError). r >>= λ end. Ok (0, end)) told

-- the plain length of a range, as it is listed
pub length_is : (i : XorbObjectInfoV1) (ms : List (List ℕ × ℕ)) (start end : ℕ) → Lists i ms → i.unpacked_chunk_offsets ≡ ends_from 0 0 ms → start ≤ end → end ≤ length ms → start < length ms
    → range_length i start end ≡ Ok (reach 0 end ms - reach 0 start ms)
length_is i ms start end lists plain order few here =
    let many : length i.unpacked_chunk_offsets ≡ length ms = ap length plain ∙ count-ends 0 0 ms in
    let holds : (nat_le start end && nat_le end i.num_chunks && nat_lt start i.num_chunks && ((start == end) || nat_le end (length i.unpacked_chunk_offsets))) ≡ true =
    and_is _ _ (and_is _ _ (and_is _ _ (le-leb start end order) (le-leb end i.num_chunks (omega (arith, lists.count)))) (lt-ltb start i.num_chunks (omega (arith, lists.count))))
    (or_is (start == end) _ (le-leb end (length i.unpacked_chunk_offsets) (omega (arith, many)))) in
    let from : end_of i.unpacked_chunk_offsets start ≡ reach 0 start ms = ap (λ (ends : List ℕ). end_of ends start) plain ∙ end_is 0 start ms (omega arith) in
    let to : end_of i.unpacked_chunk_offsets end ≡ reach 0 end ms = ap (λ (ends : List ℕ). end_of ends end) plain ∙ end_is 0 end ms few in
    let far : between (end_of i.unpacked_chunk_offsets start) (end_of i.unpacked_chunk_offsets end) ≡ Ok (reach 0 end ms - reach 0 start ms) =
    (λ j. between (from j) (to j)) ∙ between_is (reach 0 start ms) (reach 0 end ms) (reach_rises 0 start end ms order) in
    let last : Result ℕ StoreError = cond (start == end) (Ok 0) (between (end_of i.unpacked_chunk_offsets start) (end_of i.unpacked_chunk_offsets end)) in
    ap (λ (r : Result (Unit {0}) StoreError). r >>= λ _. fits (nat_le start end && nat_le end i.num_chunks && nat_lt start i.num_chunks && ((start == end) || nat_le end (length i.unpacked_chunk_offsets))) >>= λ _. last) lists.done
    ∙ ap (λ (b : Bool). fits b >>= λ _. last) holds ∙ go (start == end) refl (between (end_of i.unpacked_chunk_offsets start) (end_of i.unpacked_chunk_offsets end)) far
  where
    go : (b : Bool) → (start == end) ≡ b → (r : Result ℕ StoreError) → r ≡ Ok (reach 0 end ms - reach 0 start ms) → cond b (Ok 0) r ≡ Ok (reach 0 end ms - reach 0 start ms)
    go true e r far =
        let same : start ≡ end = eqb-true start end e in
        let none : 0 ≡ reach 0 end ms - reach 0 start ms = omega (arith, ap (λ (k : ℕ). reach 0 k ms) same) in
        ap Ok none
    go false e r far = far

-- lengths add up over leaves that a footer lists
added : (o : XorbObject) (ms : List (List ℕ × ℕ)) (from at to : ℕ) → Lists o.info ms → o.info.unpacked_chunk_offsets ≡ ends_from 0 0 ms → from ≤ at → at < to → to ≤ length ms → AddUp o from at to
added o ms from at to lists plain order some few =
    let sum : reach 0 to ms - reach 0 from ms ≡ (reach 0 at ms - reach 0 from ms) + (reach 0 to ms - reach 0 at ms) =
    omega (arith, reach_rises 0 from at ms order, reach_rises 0 at to ms (omega arith)) in
    record {
      first = reach 0 at ms - reach 0 from ms;
      second = reach 0 to ms - reach 0 at ms;
      to_place = length_is o.info ms from at lists plain order (omega arith) (omega arith);
      from_place = length_is o.info ms at to lists plain (omega arith) few (omega arith);
      both = length_is o.info ms from to lists plain (omega arith) few (omega arith) ∙ ap Ok sum;
    }

added_in : (version : Version) (hash : List ℕ) (ms : List (List ℕ × ℕ)) (spare : List ℕ) (from at to : ℕ) → (object_of version hash ms spare).info.boundaries_version ≡ 1 → hash ≢ zero_hash
    → from ≤ at → at < to → to ≤ length ms → AddUp (object_of version hash ms spare) from at to
added_in V0 hash ms spare from at to second other order some few = absurd (omega (arith, second))
added_in V1 hash ms spare from at to second other order some few =
    added (object_of V1 hash ms spare) ms from at to (lists_leaves V1 hash ms spare (omega arith) other) refl order some few

pub lengths_add : LengthsAddUp
lengths_add max_chunk hash bytes chunks o from at to valid other second order some few =
    let x = valid.xorb.encoding in
    let ms = leaves_of chunks in
    let many : length ms ≡ length chunks = length-map chunks leaf_of in
    let version = ap (λ (p : XorbObject). p.info.boundaries_version) (sym valid.listed) ∙ second in
    subst (λ (p : XorbObject). AddUp p from at to) (sym valid.listed) (added_in x.version hash ms x.spare from at to version other order some (omega arith))
