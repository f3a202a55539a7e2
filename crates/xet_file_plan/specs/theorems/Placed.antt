-- Segments that are placed: how many chunks they have, and where each one lies.
use Rattle.std.proofs.Common.{◌≢◌, ◌≡◌, ◌∙◌, MatchBool, ℕ, zero, suc, ◌<◌, Bool, true, false, if◌then◌else◌, List, [], ◌∷◌, ◌++◌, length, map, take, drop, Option, Some, refl, sym, ap, subst, arith, length-append, length-drop}
use Rattle.std.specs.Prelude.{slice_get}
use Rattle.std.specs.Cmp.Lexicographic.{bytes_decides}
use Rattle.xet_hash.specs.Hash.{sentinel}
use Rattle.std.specs.List.{AllByRecursion}
use Rattle.std.proofs.lemmas.List.{append-nil, append_assoc, drop-append-le, drop-drop, drop_all, drop_at, length-take-le, take-append-drop, take-append-le, take_all, take_at}
use Rattle.xet_choices.specs.Ranges.{total}
use Rattle.xet_dedup_queries.specs.Interface.{run_len}
use Rattle.xet_shard_format.specs.declared.record.FileDataSequenceEntry.{FileDataSequenceEntry as Segment}
use Rattle.xet_xorb_chunk.specs.declared.chunk.Chunk.{Chunk}
use Rattle.xet_file_plan.specs.Moves.{counts_of, filled, is_open}
use Rattle.xet_file_plan.specs.Placed.{ArePlaced, HasHashes, LiesInBlock, LiesInXorb}

-- filling in a xorb hash changes no number of chunks
pub counts_filled : (hash : List ℕ) (ss : List Segment) → counts_of (map (filled hash) ss) ≡ counts_of ss
counts_filled hash [] = refl
counts_filled hash (s ∷ ss) = λ i. by (is_open s) i ∷ counts_filled hash ss i
  where
    by : (b : Bool) → run_len (if b then record s { xorb_hash = hash } else s) ≡ run_len s
    by true = refl
    by false = refl

-- a segment with the hash of a xorb is not open
pub not_open : (s : Segment) → s.xorb_hash ≢ sentinel → is_open s ≡ false
not_open s named = by (is_open s) refl
  where
    by : (b : Bool) → is_open s ≡ b → b ≡ false
    by false e = refl
    by true e = absurd (named ((bytes_decides s.xorb_hash sentinel).0 e))

module _ (listing : List ℕ → Option (List ℕ)) (standing : List (List ℕ) → Segment → Type 0) (block : List Chunk) where
  -- the segments have as many chunks as there are hashes
  pub total_placed : (ss : List Segment) (hashes : List (List ℕ)) → ArePlaced listing standing block ss hashes → total (counts_of ss) ≡ length hashes
  unfolding ArePlaced
  total_placed [] hashes p = sym (ap length p)
  total_placed (s ∷ ss) hashes p = omega (arith, total_placed ss (drop (run_len s) hashes) p.3, length-drop (run_len s) hashes, p.1)

  -- and each has some
  pub some_placed : (ss : List Segment) (hashes : List (List ℕ)) → ArePlaced listing standing block ss hashes → AllByRecursion (λ c. 0 < c) (counts_of ss)
  unfolding ArePlaced
  some_placed [] hashes p = tt
  some_placed (s ∷ ss) hashes p = (p.0, some_placed ss (drop (run_len s) hashes) p.3)

  -- each segment has the hashes after those of the segments before it
  pub each_placed : (ss : List Segment) (hashes : List (List ℕ)) (i : ℕ) (s : Segment) → ArePlaced listing standing block ss hashes → slice_get ss i ≡ Some s
      → HasHashes listing standing block s (take (run_len s) (drop (total (counts_of (take i ss))) hashes))
  unfolding ArePlaced
  each_placed [] hashes i s p at = absurd (cc at)
  each_placed (t ∷ ss) hashes zero s p at = let same : t ≡ s = cc at in subst (λ (u : Segment). HasHashes listing standing block u (take (run_len u) hashes)) same p.2
  each_placed (t ∷ ss) hashes (suc i) s p at =
      subst (λ (l : List (List ℕ)). HasHashes listing standing block s (take (run_len s) l)) (drop-drop (total (counts_of (take i ss))) (run_len t) hashes)
      (each_placed ss (drop (run_len t) hashes) i s p.3 at)

  -- an open segment lies in the block
  pub open_lies : (s : Segment) (hashes : List (List ℕ)) → is_open s ≡ true → HasHashes listing standing block s hashes → LiesInBlock block s hashes
  open_lies s hashes is h = by (is_open s) is h
    where
      by : (b : Bool) → b ≡ true → MatchBool b (LiesInBlock block s hashes) (LiesInXorb listing standing s hashes) → LiesInBlock block s hashes
      by true e h = h
      by false e h = absurd (cc e)

  -- and another one lies in a xorb
  pub closed_lies : (s : Segment) (hashes : List (List ℕ)) → is_open s ≡ false → HasHashes listing standing block s hashes → LiesInXorb listing standing s hashes
  closed_lies s hashes is h = by (is_open s) is h
    where
      by : (b : Bool) → b ≡ false → MatchBool b (LiesInBlock block s hashes) (LiesInXorb listing standing s hashes) → LiesInXorb listing standing s hashes
      by true e h = absurd (cc e)
      by false e h = h

  pub has_hashes_open : (s : Segment) (hashes : List (List ℕ)) → is_open s ≡ true → LiesInBlock block s hashes → HasHashes listing standing block s hashes
  has_hashes_open s hashes is l = subst (λ (b : Bool). MatchBool b (LiesInBlock block s hashes) (LiesInXorb listing standing s hashes)) (sym is) l

  pub has_hashes_closed : (s : Segment) (hashes : List (List ℕ)) → is_open s ≡ false → LiesInXorb listing standing s hashes → HasHashes listing standing block s hashes
  has_hashes_closed s hashes is l = subst (λ (b : Bool). MatchBool b (LiesInBlock block s hashes) (LiesInXorb listing standing s hashes)) (sym is) l

  -- one more segment
  pub placed_push : (ss : List Segment) (hashes more : List (List ℕ)) (s : Segment) → ArePlaced listing standing block ss hashes → 0 < run_len s → run_len s ≡ length more
      → HasHashes listing standing block s more → ArePlaced listing standing block (ss ++ s ∷ []) (hashes ++ more)
  unfolding ArePlaced
  placed_push [] hashes more s p some len has =
      subst (λ (l : List (List ℕ)). ArePlaced listing standing block (s ∷ []) (l ++ more)) (sym p) (
        some,
        omega (arith, len),
        subst (HasHashes listing standing block s) (sym (take_all (run_len s) more (omega (arith, len)))) has,
        drop_all (run_len s) more (omega (arith, len)),
      )
  placed_push (t ∷ ss) hashes more s p some len has = (
    p.0,
    omega (arith, p.1, length-append hashes more),
    subst (HasHashes listing standing block t) (sym (take-append-le (run_len t) hashes more p.1)) p.2,
    subst (ArePlaced listing standing block (ss ++ s ∷ [])) (sym (drop-append-le (run_len t) hashes more p.1)) (placed_push ss (drop (run_len t) hashes) more s p.3 some len has),
  )

  -- the last segment, and those before it
  pub placed_last : (ss : List Segment) (hashes : List (List ℕ)) (s : Segment) → ArePlaced listing standing block (ss ++ s ∷ []) hashes
      → (before last : List (List ℕ)) × (hashes ≡ before ++ last) × ArePlaced listing standing block ss before × (0 < run_len s) × (run_len s ≡ length last)
      × HasHashes listing standing block s last
  unfolding ArePlaced
  placed_last [] hashes s p = (
    [],
    take (run_len s) hashes,
    sym (take-append-drop (run_len s) hashes) ∙ ap (λ (l : List (List ℕ)). take (run_len s) hashes ++ l) p.3 ∙ append-nil (take (run_len s) hashes),
    refl,
    p.0,
    sym (length-take-le (run_len s) hashes p.1),
    p.2,
  )
  placed_last (t ∷ ss) hashes s p =
      let r = placed_last ss (drop (run_len t) hashes) s p.3 in
      let first : List (List ℕ) = take (run_len t) hashes in
      let len : length first ≡ run_len t = length-take-le (run_len t) hashes p.1 in (
        first ++ r.0,
        r.1,
        sym (take-append-drop (run_len t) hashes) ∙ ap (λ (l : List (List ℕ)). first ++ l) r.2 ∙ sym (append_assoc first r.0 r.1),
        (
          p.0,
          omega (arith, len, length-append first r.0),
          subst (HasHashes listing standing block t) (sym (take_at first r.0 (run_len t) len)) p.2,
          subst (ArePlaced listing standing block ss) (sym (drop_at first r.0 (run_len t) len)) r.3,
        ),
        r.4,
        r.5,
        r.6,
      )

-- ---- segments that stay, or are filled in

module _ (listing listing' : List ℕ → Option (List ℕ)) (standing standing' : List (List ℕ) → Segment → Type 0) (block block' : List Chunk) where
  pub placed_stays : ((s : Segment) (hashes : List (List ℕ)) → 0 < run_len s → HasHashes listing standing block s hashes → HasHashes listing' standing' block' s hashes)
      → (ss : List Segment) (hashes : List (List ℕ)) → ArePlaced listing standing block ss hashes → ArePlaced listing' standing' block' ss hashes
  unfolding ArePlaced
  placed_stays f [] hashes p = p
  placed_stays f (s ∷ ss) hashes p = (p.0, p.1, f s (take (run_len s) hashes) p.0 p.2, placed_stays f ss (drop (run_len s) hashes) p.3)

  pub placed_changed : (g : Segment → Segment) → ((s : Segment) → run_len (g s) ≡ run_len s)
      → ((s : Segment) (hashes : List (List ℕ)) → 0 < run_len s → HasHashes listing standing block s hashes → HasHashes listing' standing' block' (g s) hashes)
      → (ss : List Segment) (hashes : List (List ℕ)) → ArePlaced listing standing block ss hashes → ArePlaced listing' standing' block' (map g ss) hashes
  unfolding ArePlaced
  placed_changed g same f [] hashes p = p
  placed_changed g same f (s ∷ ss) hashes p = (
    omega (arith, same s, p.0),
    omega (arith, same s, p.1),
    subst (λ (n : ℕ). HasHashes listing' standing' block' (g s) (take n hashes)) (sym (same s)) (f s (take (run_len s) hashes) p.0 p.2),
    subst (λ (n : ℕ). ArePlaced listing' standing' block' (map g ss) (drop n hashes)) (sym (same s)) (placed_changed g same f ss (drop (run_len s) hashes) p.3),
  )
