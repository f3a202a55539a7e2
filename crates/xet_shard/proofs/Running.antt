-- Runs of chunks in the order of a query.
use Rattle.std.proofs.Common.{◌≡◌, ◌∙◌, ℕ, zero, suc, ◌+◌, ◌≤◌, ◌<◌, ◌==◌, if◌then◌else◌, Bool, true, false, cond, List, [], ◌∷◌, drop, get_or, length, map, nat_eq, Option, None, Some, option_map, slice_get, take, ◌≢◌, ◌-◌, refl, sym, ap, subst, arith}
use Rattle.std.proofs.lemmas.List.{drop_all, length-drop, length-map, take_all}
use Rattle.std.proofs.lemmas.Bool.{ne_eqb}
use Rattle.std.proofs.lemmas.Option.{same_Some}
use Rattle.std.specs.Option.{option_and_then}
use Rattle.std.specs.Cmp.Lexicographic.{pointwise}
use Rattle.std.specs.List.{AllByRecursion}
use Rattle.xet_shard_format.specs.declared.record.FileDataSequenceEntry.{FileDataSequenceEntry}
use Rattle.xet_shard_format.specs.declared.record.MDBXorbInfo.{MDBXorbInfo}
use Rattle.xet_shard_format.specs.declared.record.XorbChunkSequenceEntry.{XorbChunkSequenceEntry}
use Rattle.xet_hash.specs.Hash.{zero_hash}
use Rattle.xet_shard.specs.Queries.{kept_hash}
use Rattle.xet_shard.specs.LastPlaces.{last_at}
use Rattle.xet_shard.specs.Runs.{agreeing, digests, held_run, last_chunk, last_place, run_at, run_segment}
use Rattle.xet_shard_format.specs.theorems.Steps.{left}

-- the hashes that agree from a place on, by the first of them
pub agreeing-step : (query : List (List ℕ)) (chunks : List XorbChunkSequenceEntry) (i : ℕ) (q : List ℕ) (c : XorbChunkSequenceEntry) → i < length query → q ≡ get_or query i q → i < length chunks → c ≡ get_or chunks i c
    → agreeing (drop i query) (digests (drop i chunks)) ≡ cond (pointwise nat_eq q c.chunk_hash) (suc (agreeing (drop (i + 1) query) (digests (drop (i + 1) chunks)))) 0
unfolding agreeing
agreeing-step query chunks i q c in_query is_q in_chunks is_c = λ j. agreeing (left query i q in_query is_q j) (digests (left chunks i c in_chunks is_c j))

pub agreeing-done : (query : List (List ℕ)) (chunks : List XorbChunkSequenceEntry) (i : ℕ) → length query ≤ i → agreeing (drop i query) (digests (drop i chunks)) ≡ 0
unfolding agreeing
agreeing-done query chunks i le = ap (λ (qs : List (List ℕ)). agreeing qs (digests (drop i chunks))) (drop_all i query le)

pub agreeing-none : (query : List (List ℕ)) → agreeing query [] ≡ 0
unfolding agreeing
agreeing-none [] = refl
agreeing-none (q ∷ qs) = refl

pub agreeing-ended : (query : List (List ℕ)) (chunks : List XorbChunkSequenceEntry) (i : ℕ) → length chunks ≤ i → agreeing (drop i query) (digests (drop i chunks)) ≡ 0
agreeing-ended query chunks i le = ap (λ (cs : List XorbChunkSequenceEntry). agreeing (drop i query) (digests cs)) (drop_all i chunks le) ∙ agreeing-none (drop i query)

last_place-below : (h : List ℕ) (xs : List (List ℕ)) (i : ℕ) → last_place h xs ≡ Some i → i < length xs
unfolding last_place
last_place-below h [] i is = absurd cc
last_place-below h (x ∷ xs) i is = by (last_place h xs) (last_place-below h xs) is
  where
    here : (b : Bool) → cond b (Some 0) None ≡ Some i → i < suc (length xs)
    here true e = omega (arith, same_Some _ _ e)
    here false e = absurd cc

    by : (r : Option ℕ) → ((j : ℕ) → r ≡ Some j → j < length xs) → elim r [ Some j ↦ Some (suc j) | None ↦ cond (pointwise nat_eq x h) (Some 0) None ] ≡ Some i → i < suc (length xs)
    by None later e = here (pointwise nat_eq x h) e
    by (Some j) later e = omega (arith, same_Some _ _ e, later j refl)

-- what stands where the look-up says is the last chunk of its hash
abbrev pub Placed : Option (ℕ × ℕ) → List MDBXorbInfo → Option (MDBXorbInfo × ℕ) → Type 0
Placed None bs found = found ≡ None
Placed (Some p) bs found = (b : MDBXorbInfo) × (slice_get bs p.0 ≡ Some b) × (found ≡ Some (b, p.1)) × (p.1 < length b.chunks)

pub placed : (h : List ℕ) (bs : List MDBXorbInfo) → Placed (last_at h bs) bs (last_chunk h bs)
unfolding last_at last_chunk
placed h [] = refl
placed h (x ∷ xs) = by (last_at h xs) (last_chunk h xs) (placed h xs)
  where
    at : Option (ℕ × ℕ) → Option (ℕ × ℕ)
    at r = elim r [ Some found ↦ Some (suc found.0, found.1) | None ↦ option_map {U = ℕ × ℕ} (λ i. (0, i)) (last_place h (digests x.chunks)) ]

    chunk : Option (MDBXorbInfo × ℕ) → Option (MDBXorbInfo × ℕ)
    chunk f = elim f [ Some found ↦ Some found | None ↦ option_map {U = MDBXorbInfo × ℕ} (λ i. (x, i)) (last_place h (digests x.chunks)) ]

    here : (r : Option ℕ) → last_place h (digests x.chunks) ≡ r → Placed (option_map {U = ℕ × ℕ} (λ i. (0, i)) r) (x ∷ xs) (option_map {U = MDBXorbInfo × ℕ} (λ i. (x, i)) r)
    here None e = refl
    here (Some i) e = (x, refl, refl, omega (arith, last_place-below h (digests x.chunks) i e, length-map x.chunks (λ (c : XorbChunkSequenceEntry). c.chunk_hash)))

    by : (r : Option (ℕ × ℕ)) (f : Option (MDBXorbInfo × ℕ)) → Placed r xs f → Placed (at r) (x ∷ xs) (chunk f)
    by None f e = subst (λ (f' : Option (MDBXorbInfo × ℕ)). Placed (at None) (x ∷ xs) (chunk f')) (sym e) (here (last_place h (digests x.chunks)) refl)
    by (Some p) f e = subst (λ (f' : Option (MDBXorbInfo × ℕ)). Placed (at (Some p)) (x ∷ xs) (chunk f')) (sym e.2) (e.0, e.1, refl, e.3)

-- what is sliced from a place on is all from there on
pub rest_all : {X : Type 0} (xs : List X) (i : ℕ) → i ≤ length xs → take (length xs - i) (drop i xs) ≡ drop i xs
rest_all xs i le = take_all (length xs - i) (drop i xs) (omega (arith, length-drop i xs))

pub run_none : (query : List (List ℕ)) (block : MDBXorbInfo) (place : ℕ) → 0 ≡ agreeing query (digests (drop place block.chunks)) → None ≡ run_at query block place
unfolding run_at
run_none query block place none = ap (λ (n : ℕ). if n == 0 then None else Some (n, run_segment block place n)) none

pub run_some : (query : List (List ℕ)) (block : MDBXorbInfo) (place n : ℕ) → n ≢ 0 → n ≡ agreeing query (digests (drop place block.chunks)) → Some (n, run_segment block place n) ≡ run_at query block place
unfolding run_at
run_some query block place n some e =
    let run : ℕ → ℕ × FileDataSequenceEntry = λ m. (m, run_segment block place m) in
    sym (ap (λ (b : Bool). if b then None else Some (run n)) (ne_eqb n 0 some)) ∙ ap (λ (m : ℕ). if m == 0 then None else Some (run m)) e

-- past a xorb's end there is no run
pub run_past : (query : List (List ℕ)) (block : MDBXorbInfo) (place : ℕ) → length block.chunks < place → None ≡ run_at query block place
run_past query block place past = run_none query block place (sym (ap (λ (cs : List XorbChunkSequenceEntry). agreeing query (digests cs)) (drop_all place block.chunks (omega arith)) ∙ agreeing-none query))

-- without a key a query is kept as it is
kept_as_is : (h : List ℕ) → kept_hash zero_hash h ≡ h
unfolding kept_hash
kept_as_is h = refl

pub query_as_is : (key : List ℕ) (query : List (List ℕ)) → key ≡ zero_hash → map (kept_hash key) query ≡ query
query_as_is key [] is = refl
query_as_is key (h ∷ hs) is = λ i. (ap (λ (k : List ℕ). kept_hash k h) is ∙ kept_as_is h) i ∷ query_as_is key hs is i

-- a query that is empty, one whose first hash has no chunk, and one whose first hash has its last chunk there
pub query_empty : (blocks : List MDBXorbInfo) (query : List (List ℕ)) → None ≡ slice_get query 0 → None ≡ held_run blocks query
unfolding held_run
query_empty blocks [] e = refl
query_empty blocks (q ∷ qs) e = absurd cc

pub query_missed : (blocks : List MDBXorbInfo) (query : List (List ℕ)) (q : List ℕ) → Some q ≡ slice_get query 0 → None ≡ last_at q blocks → None ≡ held_run blocks query
unfolding held_run
query_missed blocks [] q first none = absurd cc
query_missed blocks (h ∷ hs) q first none =
    let found : last_chunk q blocks ≡ None = subst (λ (r : Option (ℕ × ℕ)). Placed r blocks (last_chunk q blocks)) (sym none) (placed q blocks) in
    subst (λ (k : List ℕ). None ≡ held_run blocks (k ∷ hs)) (same_Some q h first)
    (ap (option_and_then (λ (f : MDBXorbInfo × ℕ). run_at (q ∷ hs) f.0 f.1)) (sym found))

-- what the look-up tells of a hash
pub placed_at : (blocks : List MDBXorbInfo) (q : List ℕ) (k i : ℕ) → Some (k, i) ≡ last_at q blocks → Placed (Some (k, i)) blocks (last_chunk q blocks)
placed_at blocks q k i at = subst (λ (r : Option (ℕ × ℕ)). Placed r blocks (last_chunk q blocks)) (sym at) (placed q blocks)

pub query_found : (blocks : List MDBXorbInfo) (query : List (List ℕ)) (q : List ℕ) (k i : ℕ) (b : MDBXorbInfo) → Some q ≡ slice_get query 0 → Some (k, i) ≡ last_at q blocks → Some b ≡ slice_get blocks k
    → (run_at query b i ≡ held_run blocks query) × (i ≤ length b.chunks)
unfolding held_run
query_found blocks [] q k i b first at there = absurd cc
query_found blocks (h ∷ hs) q k i b first at there =
    let p = placed_at blocks q k i at in
    let same : p.0 ≡ b = same_Some p.0 b (sym p.1 ∙ sym there) in
    let found : last_chunk q blocks ≡ Some (b, i) = p.2 ∙ ap (λ (c : MDBXorbInfo). Some (c, i)) same in (
      subst (λ (k : List ℕ). run_at (k ∷ hs) b i ≡ held_run blocks (k ∷ hs)) (same_Some q h first)
          (ap (option_and_then (λ (f : MDBXorbInfo × ℕ). run_at (q ∷ hs) f.0 f.1)) (sym found)),
      omega (arith, p.3, ap (λ (c : MDBXorbInfo). length c.chunks) same),
    )

pub all_at : {X : Type 0} (P : X → Type 0) (xs : List X) (i : ℕ) (x : X) → Some x ≡ slice_get xs i → AllByRecursion P xs → P x
all_at P [] i x e all = absurd cc
all_at P (y ∷ ys) zero x e all = subst P (sym (same_Some x y e)) all.0
all_at P (y ∷ ys) (suc i) x e all = all_at P ys i x e all.1
