-- Footers of (hash, length) pairs: lengths of lists, bounds of offsets, and that they are well formed.
use Rattle.std.proofs.Common.{◌≡◌, ◌∙◌, ℕ, ◌+◌, ◌*◌, ◌≤◌, ◌<◌, ◌^◌, List, [], ◌∷◌, ◌++◌, length, get_or, drop, map, refl, sym, ap, arith}
use Rattle.std.proofs.lemmas.List.{append-nil, append_assoc, at_drop_more, at_drop_all, length-map}
use Rattle.std.proofs.lemmas.List.Sums.{sum_by-cons}
use Rattle.std.specs.List.{AllByRecursion}
use Rattle.xet_hash.specs.Merkle.{total_len}
use Rattle.xet_xorb_footer.specs.Laws.{IsStandard, IsStandardV0}
use Rattle.xet_xorb_footer.specs.FooterEncoding.{HasLists, HasShortLists, max_chunks}
use Rattle.xet_xorb.specs.Footer.{ends_from, standard_footer_v0, footer_v1}
use Rattle.xet_xorb.specs.theorems.Digests.{AreHashed}

-- ---- ends of leaves, one by one

-- where the last of the leaves ends
unfoldable pub total_with : ℕ → List (List ℕ × ℕ) → ℕ
total_with before [] = 0
total_with before (m ∷ ms) = m.1 + before + total_with before ms

pub total_is : (before : ℕ) (ms : List (List ℕ × ℕ)) → total_with before ms ≡ total_len ms + before * length ms
unfolding total_with
total_is before [] = omega arith
total_is before (m ∷ ms) =
    let rest : total_with before ms ≡ total_len ms + before * length ms = total_is before ms in
    let sum : total_len (m ∷ ms) ≡ m.1 + total_len ms = sum_by-cons (λ (x : List ℕ × ℕ). x.1) m ms in
    omega arith

pub total_step : (before : ℕ) (ms : List (List ℕ × ℕ)) (i : ℕ) (m : List ℕ × ℕ) → i < length ms → m ≡ get_or ms i m
    → total_with before (drop i ms) ≡ m.1 + before + total_with before (drop (i + 1) ms)
unfolding total_with
total_step before ms i m here e =
    at_drop_more (total_with before) ms i m here ∙ ap (λ (x : List ℕ × ℕ). total_with before (x ∷ drop (i + 1) ms)) (sym e)

-- no end passes the last one
pub end_below : (before at : ℕ) (ms : List (List ℕ × ℕ)) (i : ℕ) (m : List ℕ × ℕ) (bound : ℕ) → i < length ms → m ≡ get_or ms i m
    → at + total_with before (drop i ms) ≡ total_with before ms → total_len ms + before * length ms < bound → at + (m.1 + before) < bound
end_below before at ms i m bound here e kept fits = omega (arith, total_is before ms, total_step before ms i m here e)

-- the end of the first leaf, and those of the rest
ends_step : (before at : ℕ) (ms : List (List ℕ × ℕ)) (i : ℕ) (m : List ℕ × ℕ) → i < length ms → m ≡ get_or ms i m
    → ends_from before at (drop i ms) ≡ (at + (m.1 + before)) ∷ ends_from before (at + (m.1 + before)) (drop (i + 1) ms)
unfolding ends_from
ends_step before at ms i m here e =
    at_drop_more (ends_from before at) ms i m here ∙ ap (λ (x : List ℕ × ℕ). ends_from before at (x ∷ drop (i + 1) ms)) (sym e)

ends_none : (before at : ℕ) (ms : List (List ℕ × ℕ)) (i : ℕ) → length ms < i + 1 → ends_from before at (drop i ms) ≡ []
unfolding ends_from
ends_none before at ms i past = at_drop_all (ends_from before at) ms i (omega arith)

-- one more end was pushed
pub one_end_more : (before at : ℕ) (ms : List (List ℕ × ℕ)) (i : ℕ) (m : List ℕ × ℕ) (ends new whole : List ℕ) → i < length ms → m ≡ get_or ms i m
    → new ≡ ends ++ (at + (m.1 + before)) ∷ [] → ends ++ ends_from before at (drop i ms) ≡ whole → new ++ ends_from before (at + (m.1 + before)) (drop (i + 1) ms) ≡ whole
one_end_more before at ms i m ends new whole here e pushed kept =
    let rest : List ℕ = ends_from before (at + (m.1 + before)) (drop (i + 1) ms) in
    ap (λ (t : List ℕ). t ++ rest) pushed ∙ append_assoc ends ((at + (m.1 + before)) ∷ []) rest ∙ ap (λ (t : List ℕ). ends ++ t) (sym (ends_step before at ms i m here e)) ∙ kept

-- no end is left
pub no_more : (before at : ℕ) (ms : List (List ℕ × ℕ)) (i : ℕ) (ends whole : List ℕ) → length ms < i + 1 → ends ++ ends_from before at (drop i ms) ≡ whole → ends ≡ whole
no_more before at ms i ends whole past kept =
    sym (append-nil ends) ∙ ap (λ (t : List ℕ). ends ++ t) (sym (ends_none before at ms i past)) ∙ kept

-- ---- the lists of a footer

pub length-ends : (before at : ℕ) (ms : List (List ℕ × ℕ)) → length (ends_from before at ms) ≡ length ms
unfolding ends_from
length-ends before at [] = refl
length-ends before at (m ∷ ms) = omega (arith, length-ends before (at + (m.1 + before)) ms)

pub length-hashes : (ms : List (List ℕ × ℕ)) → length (map (λ (m : List ℕ × ℕ). m.0) ms) ≡ length ms
length-hashes ms = length-map ms _

ends_small : (bound before at : ℕ) (ms : List (List ℕ × ℕ)) → at + total_with before ms < bound → AllByRecursion (λ n. n < bound) (ends_from before at ms)
unfolding ends_from total_with
ends_small bound before at [] fits = tt
ends_small bound before at (m ∷ ms) fits = (omega arith, ends_small bound before (at + (m.1 + before)) ms (omega arith))

pub small_ends : (before : ℕ) (ms : List (List ℕ × ℕ)) → total_len ms + before * length ms < 2 ^ 32 → AllByRecursion (λ n. n < 2 ^ 32) (ends_from before 0 ms)
small_ends before ms fits = ends_small (2 ^ 32) before 0 ms (omega (arith, total_is before ms))

pub whole_hashes : (ms : List (List ℕ × ℕ)) → AreHashed ms → AllByRecursion (λ h. length h ≡ 32) (map (λ (m : List ℕ × ℕ). m.0) ms)
whole_hashes [] h = tt
whole_hashes (m ∷ ms) h = (h.0, whole_hashes ms h.1)

pub has_lists : (hash : List ℕ) (ms : List (List ℕ × ℕ)) (spare : List ℕ) → HasLists (footer_v1 hash ms spare)
has_lists hash ms spare = record { hashes = length-hashes ms; stored = length-ends 8 0 ms; plain = length-ends 0 0 ms }

pub has_short_lists : (hash : List ℕ) (ms : List (List ℕ × ℕ)) (spare : List ℕ) → length ms ≤ max_chunks → HasShortLists (footer_v1 hash ms spare)
has_short_lists hash ms spare few = record {
  hashes = omega (arith, length-hashes ms);
  stored = omega (arith, length-ends 8 0 ms);
  plain = omega (arith, length-ends 0 0 ms);
}

-- ---- footers as they are to be

pub standard_v1 : (hash : List ℕ) (ms : List (List ℕ × ℕ)) (spare : List ℕ) → length hash ≡ 32 → AreHashed ms → length ms ≤ max_chunks
    → total_len ms + 8 * length ms < 2 ^ 32 → length spare ≡ 16 → IsStandard (footer_v1 hash ms spare)
standard_v1 hash ms spare size hashed few fits sixteen = record {
  ident = refl;
  version = refl;
  hash = size;
  hashes_magic = refl;
  hashes_version = refl;
  boundaries_magic = refl;
  boundaries_version = refl;
  few = few;
  lists = has_lists hash ms spare;
  whole_hashes = whole_hashes ms hashed;
  small_stored = small_ends 8 ms fits;
  small_plain = small_ends 0 ms (omega arith);
  hashes_offset = refl;
  boundary_offset = refl;
  spare = sixteen;
}

pub is_standard_v0 : (hash : List ℕ) (ms : List (List ℕ × ℕ)) (spare : List ℕ) → length hash ≡ 32 → AreHashed ms → length ms ≤ max_chunks
    → total_len ms + 8 * length ms < 2 ^ 32 → length spare ≡ 16 → IsStandardV0 (standard_footer_v0 hash ms spare)
is_standard_v0 hash ms spare size hashed few fits sixteen =
    record { ident = refl; version = refl; hash = size; few = few; hashes = length-hashes ms; stored = length-ends 8 0 ms; whole_hashes = whole_hashes ms hashed; small_stored = small_ends 8 ms fits; spare = sixteen }
