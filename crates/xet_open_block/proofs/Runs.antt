-- Last indices of chunk hashes, and the runs that they give.
use Rattle.std.proofs.Common.{◌≡◌, ◌∙◌, ◌≢◌, ℕ, suc, ◌+◌, ◌≤◌, ◌<◌, ◌^◌, ◌==◌, if◌then◌else◌, Bool, true, false, cond, List, [], ◌∷◌, ◌++◌, drop, get_or, length, map, nat_eq, Option, None, Some, add-one, option_map, take, true≢false, ◌⊎◌, inl, inr, refl, sym, ap, subst, arith}
use Rattle.std.proofs.lemmas.List.{at_drop_more, drop_all, length-map, map-append}
use Rattle.std.proofs.lemmas.List.Sums.{sum_by_push, sum_by-take-drop}
use Rattle.std.proofs.lemmas.Bool.{eq-eqb, eqb-true}
use Rattle.std.proofs.lemmas.Option.{same_Some}
use Rattle.std.specs.Cmp.Lexicographic.{bytes_decides, nat_list_eq_equiv, pointwise}
use Rattle.std.specs.Map.{lookup}
use Rattle.std.specs.Option.{option_eq}
use Rattle.xet_xorb_chunk.specs.declared.chunk.Chunk.{Chunk}
use Rattle.xet_xorb_chunk.specs.Chunks.{chunk_leaf, total}
use Rattle.xet_choices.specs.Choices.{last_place}
use Rattle.xet_open_block.specs.OpenBlock.{IsTracked, first_place, open_run, run_from}

-- ---- last indices

-- one more leaf
last_place-more : (h : List ℕ) (ms : List (List ℕ × ℕ)) (m : List ℕ × ℕ) → last_place h (ms ++ m ∷ []) ≡ cond (pointwise nat_eq h m.0) (Some (length ms)) (last_place h ms)
unfolding last_place
last_place-more h [] m = refl
last_place-more h (n ∷ ns) m = by (pointwise nat_eq h m.0) (last_place h (ns ++ m ∷ [])) (last_place-more h ns m)
  where
    at : Option ℕ → Option ℕ
    at r = elim r [ Some i ↦ Some (suc i) | None ↦ cond (pointwise nat_eq h n.0) (Some 0) None ]

    by : (b : Bool) (r : Option ℕ) → r ≡ cond b (Some (length ns)) (last_place h ns) → at r ≡ cond b (Some (suc (length ns))) (at (last_place h ns))
    by true r e = ap at e
    by false r e = ap at e

-- the chunk at the last index of a hash has this hash
pub last_place-at : (h : List ℕ) (cs : List Chunk) (i : ℕ) → last_place h (map chunk_leaf cs) ≡ Some i → (c : Chunk) × (drop i cs ≡ c ∷ drop (suc i) cs) × (h ≡ c.hash) × (i < length cs)
unfolding last_place
last_place-at h [] i is = absurd cc
last_place-at h (c ∷ cs) i is = by (last_place h (map chunk_leaf cs)) (last_place-at h cs) is
  where
    Here : ℕ → Type 0
    Here j = (d : Chunk) × (drop j (c ∷ cs) ≡ d ∷ drop (suc j) (c ∷ cs)) × (h ≡ d.hash) × (j < suc (length cs))

    here : (b : Bool) → pointwise nat_eq h c.hash ≡ b → cond b (Some 0) None ≡ Some i → Here i
    here true same e = subst Here (same_Some 0 i e) (c, refl, (bytes_decides h c.hash).0 same, omega arith)
    here false same e = absurd cc

    by : (r : Option ℕ) → ((j : ℕ) → r ≡ Some j → (d : Chunk) × (drop j cs ≡ d ∷ drop (suc j) cs) × (h ≡ d.hash) × (j < length cs))
        → elim r [ Some j ↦ Some (suc j) | None ↦ cond (pointwise nat_eq h c.hash) (Some 0) None ] ≡ Some i → Here i
    by None later e = here (pointwise nat_eq h c.hash) refl e
    by (Some j) later e =
        let l = later j refl in
        subst Here (same_Some (suc j) i e) (l.0, l.1, l.2, omega (arith, l.3))

-- ---- the invariant

pub tracked_none : (chunks : List Chunk) (places : List (List ℕ × ℕ)) → chunks ≡ [] → places ≡ [] → IsTracked chunks 0 places
unfolding last_place
tracked_none chunks places none empty = record {
  sum = sym (ap total none);
  small = omega arith;
  last = λ h. ap (lookup {X = ℕ} (pointwise nat_eq h)) empty ∙ sym (ap (λ (cs : List Chunk). last_place h (map chunk_leaf cs)) none);
}

pub tracked_more : (chunks all : List Chunk) (chunk : Chunk) (bytes : ℕ) (places more : List (List ℕ × ℕ)) → IsTracked chunks bytes places → all ≡ chunks ++ chunk ∷ [] → bytes + length chunk.bytes < 2 ^ 63
    → ((h : List ℕ) → lookup {X = ℕ} (pointwise nat_eq h) more ≡ cond (pointwise nat_eq chunk.hash h) (Some (length chunks)) (lookup {X = ℕ} (pointwise nat_eq h) places))
    → IsTracked all (bytes + length chunk.bytes) more
tracked_more chunks all chunk bytes places more kept whole few put = record {
  sum = omega (arith, kept.sum, ap total whole, sum_by_push (λ (c : Chunk). length c.bytes) chunks chunk);
  small = few;
  last = λ h.
      put h
      ∙ (λ j. cond (nat_list_eq_equiv.symm chunk.hash h j) (Some (sym (length-map chunks chunk_leaf) j)) (kept.last h j))
      ∙ sym (last_place-more h (map chunk_leaf chunks) (chunk_leaf chunk))
      ∙ sym (ap (last_place h) (ap (map chunk_leaf) whole ∙ map-append chunk_leaf chunks (chunk ∷ [])));
}

-- part of the chunks
pub total-part : (chunks : List Chunk) (start count : ℕ) → total (take count (drop start chunks)) ≤ total chunks
total-part chunks start count =
    omega (arith, sum_by-take-drop (λ (c : Chunk). length c.bytes) chunks start, sum_by-take-drop (λ (c : Chunk). length c.bytes) (drop start chunks) count)

-- ---- runs

-- what the last index of the first hash gives
abbrev run_with : (hs : List (List ℕ)) (at : ℕ) (ms : List (List ℕ × ℕ)) → Option ℕ → ℕ
run_with hs at ms r = elim r [ Some i ↦ if i == at then suc (run_from hs (suc at) ms) else 0 | None ↦ 0 ]

run_from-first : (h : List ℕ) (hs : List (List ℕ)) (at : ℕ) (ms : List (List ℕ × ℕ)) → run_from (h ∷ hs) at ms ≡ run_with hs at ms (last_place h ms)
unfolding run_from
run_from-first h hs at ms = refl

-- either the first hash has its last index there, and the rest of the run follows, or the run is empty
abbrev Begins : List ℕ → List (List ℕ) → ℕ → List (List ℕ × ℕ) → Type 0
Begins h hs at ms = ((last_place h ms ≡ Some at) × (run_from (h ∷ hs) at ms ≡ suc (run_from hs (suc at) ms))) ⊎ (run_from (h ∷ hs) at ms ≡ 0)

begins : (h : List ℕ) (hs : List (List ℕ)) (at : ℕ) (ms : List (List ℕ × ℕ)) → Begins h hs at ms
begins h hs at ms = by (last_place h ms) refl
  where
    here : (i : ℕ) → last_place h ms ≡ Some i → (b : Bool) → (i == at) ≡ b → Begins h hs at ms
    here i e true t =
        inl (e ∙ ap Some (eqb-true i at t), run_from-first h hs at ms ∙ ap (run_with hs at ms) e ∙ ap (λ (b : Bool). if b then suc (run_from hs (suc at) ms) else 0) t)
    here i e false t = inr (run_from-first h hs at ms ∙ ap (run_with hs at ms) e ∙ ap (λ (b : Bool). if b then suc (run_from hs (suc at) ms) else 0) t)

    by : (r : Option ℕ) → last_place h ms ≡ r → Begins h hs at ms
    by None e = inr (run_from-first h hs at ms ∙ ap (run_with hs at ms) e)
    by (Some i) e = here i e (i == at) refl

run_from-none : (at : ℕ) (ms : List (List ℕ × ℕ)) → run_from [] at ms ≡ 0
unfolding run_from
run_from-none at ms = refl

-- the first hash has its last index there
run_from-here : (h : List ℕ) (hs : List (List ℕ)) (at : ℕ) (ms : List (List ℕ × ℕ)) → last_place h ms ≡ Some at → run_from (h ∷ hs) at ms ≡ suc (run_from hs (suc at) ms)
run_from-here h hs at ms is = run_from-first h hs at ms ∙ ap (run_with hs at ms) is ∙ ap (λ (b : Bool). if b then suc (run_from hs (suc at) ms) else 0) (eq-eqb at at refl)

pub run_from-few : (hs : List (List ℕ)) (at : ℕ) (ms : List (List ℕ × ℕ)) → run_from hs at ms ≤ length hs
run_from-few [] at ms = omega (arith, run_from-none at ms)
run_from-few (h ∷ hs) at ms = elim (begins h hs at ms) [ inl p ↦ omega (arith, p.1, run_from-few hs (suc at) ms) | inr e ↦ omega (arith, e) ]

pub run_from-within : (hs : List (List ℕ)) (at : ℕ) (cs : List Chunk) → at ≤ length cs → at + run_from hs at (map chunk_leaf cs) ≤ length cs
run_from-within [] at cs le = omega (arith, run_from-none at (map chunk_leaf cs))
run_from-within (h ∷ hs) at cs le = by (begins h hs at (map chunk_leaf cs)) (run_from-within hs (suc at) cs)
  where
    by : Begins h hs at (map chunk_leaf cs) → (suc at ≤ length cs → suc at + run_from hs (suc at) (map chunk_leaf cs) ≤ length cs) → at + run_from (h ∷ hs) at (map chunk_leaf cs) ≤ length cs
    by (inl p) rest = omega (arith, p.1, rest (omega (arith, (last_place-at h cs at p.0).3)))
    by (inr e) rest = omega (arith, e)

pub run_from-same : (hs : List (List ℕ)) (at : ℕ) (cs : List Chunk) → map (λ (c : Chunk). c.hash) (take (run_from hs at (map chunk_leaf cs)) (drop at cs)) ≡ take (run_from hs at (map chunk_leaf cs)) hs
run_from-same [] at cs = ap (λ (n : ℕ). map (λ (c : Chunk). c.hash) (take n (drop at cs))) (run_from-none at (map chunk_leaf cs)) ∙ sym (ap (λ (n : ℕ). take n []) (run_from-none at (map chunk_leaf cs)))
run_from-same (h ∷ hs) at cs = by (begins h hs at (map chunk_leaf cs)) (run_from-same hs (suc at) cs)
  where
    by : Begins h hs at (map chunk_leaf cs) → map (λ (c : Chunk). c.hash) (take (run_from hs (suc at) (map chunk_leaf cs)) (drop (suc at) cs)) ≡ take (run_from hs (suc at) (map chunk_leaf cs)) hs
        → map (λ (c : Chunk). c.hash) (take (run_from (h ∷ hs) at (map chunk_leaf cs)) (drop at cs)) ≡ take (run_from (h ∷ hs) at (map chunk_leaf cs)) (h ∷ hs)
    by (inl p) rest =
        let l = last_place-at h cs at p.0 in
        (λ j. map (λ (c : Chunk). c.hash) (take (p.1 j) (l.1 j))) ∙ (λ j. sym l.2 j ∷ rest j) ∙ sym (ap (λ (k : ℕ). take k (h ∷ hs)) p.1)
    by (inr e) rest = ap (λ (k : ℕ). map (λ (c : Chunk). c.hash) (take k (drop at cs))) e ∙ sym (ap (λ (k : ℕ). take k (h ∷ hs)) e)

-- ---- the run of a query, hash by hash

-- the run of a query, by its first hash and the rest
pub run_whole : (hs rest : List (List ℕ)) (h : List ℕ) (at n : ℕ) (ms : List (List ℕ × ℕ)) → hs ≡ h ∷ rest → last_place h ms ≡ Some at → n ≡ run_from rest (at + 1) ms → 1 + n ≡ run_from hs at ms
run_whole hs rest h at n ms whole place length =
    let tail : n ≡ run_from rest (suc at) ms = rw (sym (add-one at)) length in
    omega (arith, tail, run_from-here h rest at ms place, ap (λ (xs : List (List ℕ)). run_from xs at ms) whole)

pub found_whole : (hs rest : List (List ℕ)) (h : List ℕ) (at n : ℕ) (ms : List (List ℕ × ℕ)) → hs ≡ h ∷ rest → last_place h ms ≡ Some at → n ≡ run_from hs at ms → Some (at, n) ≡ open_run hs ms
unfolding open_run
found_whole hs rest h at n ms whole place length =
    ap (λ (k : ℕ). Some (at, k)) length
    ∙ sym (ap (option_map {U = ℕ × ℕ} (λ i. (i, run_from hs i ms))) (ap (λ (xs : List (List ℕ)). first_place xs ms) whole ∙ place))

pub place_within : (h : List ℕ) (cs : List Chunk) (at : ℕ) → last_place h (map chunk_leaf cs) ≡ Some at → at < length cs
place_within h cs at is = (last_place-at h cs at is).3

-- the test of a last index
pub is_at : (r : Option ℕ) (at : ℕ) → option_eq nat_eq r (Some at) ≡ true → r ≡ Some at
is_at None at e = absurd cc
is_at (Some i) at e = ap Some (eqb-true i at e)

pub not_at : (r : Option ℕ) (at : ℕ) → option_eq nat_eq r (Some at) ≡ false → r ≢ Some at
not_at r at e same = absurd (true≢false (sym (ap (λ (o : Option ℕ). option_eq nat_eq o (Some at)) same ∙ eq-eqb at at refl) ∙ e))

-- what is left of a run, by the next hash
next : (hs : List (List ℕ)) (i : ℕ) (h : List ℕ) (at : ℕ) (ms : List (List ℕ × ℕ)) → i < length hs → h ≡ get_or hs i h → run_from (drop i hs) at ms ≡ run_from (h ∷ drop (i + 1) hs) at ms
next hs i h at ms below is = at_drop_more (λ (xs : List (List ℕ)). run_from xs at ms) hs i h below ∙ ap (λ (x : List ℕ). run_from (x ∷ drop (i + 1) hs) at ms) (sym is)

pub run_from-more : (hs : List (List ℕ)) (i : ℕ) (h : List ℕ) (at later : ℕ) (ms : List (List ℕ × ℕ)) → i < length hs → h ≡ get_or hs i h → last_place h ms ≡ Some at → suc at ≡ later
    → run_from (drop i hs) at ms ≡ suc (run_from (drop (i + 1) hs) later ms)
run_from-more hs i h at later ms below is place one =
    next hs i h at ms below is ∙ run_from-here h (drop (i + 1) hs) at ms place ∙ ap (λ (n : ℕ). suc (run_from (drop (i + 1) hs) n ms)) one

pub run_from-ends : (hs : List (List ℕ)) (i : ℕ) (h : List ℕ) (at : ℕ) (ms : List (List ℕ × ℕ)) → i < length hs → h ≡ get_or hs i h → last_place h ms ≢ Some at → run_from (drop i hs) at ms ≡ 0
run_from-ends hs i h at ms below is other = next hs i h at ms below is ∙ by (begins h (drop (i + 1) hs) at ms)
  where
    by : Begins h (drop (i + 1) hs) at ms → run_from (h ∷ drop (i + 1) hs) at ms ≡ 0
    by (inl p) = absurd (other p.0)
    by (inr e) = e

pub run_from-done : (hs : List (List ℕ)) (i at : ℕ) (ms : List (List ℕ × ℕ)) → length hs ≤ i → run_from (drop i hs) at ms ≡ 0
run_from-done hs i at ms le = ap (λ (xs : List (List ℕ)). run_from xs at ms) (drop_all i hs le) ∙ run_from-none at ms
