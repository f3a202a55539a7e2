-- Splitting a stream, one chunk at a time.
use Rattle.std.proofs.Common.{◌≡◌, ◌∙◌, ℕ, ◌+◌, ◌<◌, ◌≤◌, List, [], ◌∷◌, ◌++◌, append_assoc, length, take, drop, Option, Some, None, unwrap_or, refl, sym, ap, arith, length-append}
use Rattle.std.proofs.lemmas.List.{append-nil, drop-append-le, drop_all, take-append-le, take_all}
use Rattle.std.specs.List.{flat_map}
use Rattle.std.specs.Option.{option_to_list}
use Rattle.xet_base.specs.theorems.Pieces.{pieces_none, pieces_step}
use Rattle.xet_cut.specs.declared.limits.LimitSettings.{LimitSettings}
use Rattle.xet_cut.specs.Chunking.{chunking, first_chunk_len}
use Rattle.xet_cut.specs.Streams.{AreSplit, boundary_in, if_any}
use Rattle.xet_cut.specs.theorems.FirstBoundary.{first_chunk_len_is, first_found, is_first, is_first-append}

-- bytes with no boundary within them are one chunk, if there are any
pub chunking_unended : (s : LimitSettings) (bs : List ℕ) → boundary_in s bs ≡ None → chunking s bs ≡ option_to_list (if_any bs)
chunking_unended s [] none = pieces_none (first_chunk_len s) [] refl
chunking_unended s (b ∷ bs) none =
    let all : List ℕ = b ∷ bs in
    let n : length all ≡ first_chunk_len s all = sym (first_chunk_len_is s all ∙ ap (λ (o : Option ℕ). unwrap_or o (length all)) none) in
    pieces_step (first_chunk_len s) all (length all) (omega arith) n (omega arith)
    ∙ ap (λ (t : List ℕ). t ∷ chunking s (drop (length all) all)) (take_all (length all) all (omega arith))
    ∙ ap (λ (t : List ℕ). all ∷ chunking s t) (drop_all (length all) all (omega arith))
    ∙ ap (λ (t : List (List ℕ)). all ∷ t) (pieces_none (first_chunk_len s) [] refl)

-- the first chunk ends at the first boundary, whatever follows
pub chunking_cut : (s : LimitSettings) (bs rest : List ℕ) (k : ℕ) → 1 ≤ s.minimum_chunk → s.minimum_chunk < s.maximum_chunk → boundary_in s bs ≡ Some k
    → chunking s (bs ++ rest) ≡ take k bs ∷ chunking s (drop k bs ++ rest)
chunking_cut s bs rest k some order found =
    let f = is_first s bs k (omega arith) found in
    let all : List ℕ = bs ++ rest in
    let len : length all ≡ length bs + length rest = length-append bs rest in
    let found_all : boundary_in s all ≡ Some k = first_found s all k (is_first-append bs rest f) in
    let n : k ≡ first_chunk_len s all = sym (first_chunk_len_is s all ∙ ap (λ (o : Option ℕ). unwrap_or o (length all)) found_all) in
    pieces_step (first_chunk_len s) all k (omega (arith, f.low, f.within)) n (omega (arith, f.low))
    ∙ ap (λ (t : List ℕ). t ∷ chunking s (drop k all)) (take-append-le k bs rest f.within)
    ∙ ap (λ (t : List ℕ). take k bs ∷ chunking s t) (drop-append-le k bs rest f.within)

-- The chunks of all pieces, and then those of what is left with what follows, are the chunks of the whole.
pub chunking_pieces : (s : LimitSettings) (buffered : List ℕ) (given : List (List ℕ × List (List ℕ))) (left more : List ℕ) → AreSplit s buffered given left
    → chunking s (buffered ++ flat_map (λ p. p.0) given ++ more) ≡ flat_map (λ p. p.1) given ++ chunking s (left ++ more)
chunking_pieces s buffered [] left more is = ap (λ (t : List ℕ). chunking s (t ++ more)) (append-nil buffered ∙ is)
chunking_pieces s buffered (p ∷ given) left more is =
    let pieces : List ℕ = flat_map (λ q. q.0) given in
    let chunks : List (List ℕ) = flat_map (λ q. q.1) given in
    let assoc : buffered ++ (p.0 ++ pieces) ++ more ≡ (buffered ++ p.0) ++ (pieces ++ more) =
    ap (λ (t : List ℕ). t ++ more) (sym (append_assoc buffered p.0 pieces)) ∙ append_assoc (buffered ++ p.0) pieces more in
    ap (chunking s) assoc
    ∙ is.1.joined (pieces ++ more)
    ∙ ap (λ (t : List (List ℕ)). p.1 ++ t) (ap (chunking s) (sym (append_assoc is.0 pieces more)) ∙ chunking_pieces s is.0 given left more is.2)
    ∙ sym (append_assoc p.1 chunks (chunking s (left ++ more)))

-- what is left of a stream is one chunk, if it is anything
pub left_chunks : (s : LimitSettings) (given : List (List ℕ × List (List ℕ))) (left : List ℕ) → AreSplit s [] given left → chunking s left ≡ option_to_list (if_any left)
left_chunks s given left is = by_pieces [] given (chunking_none s) is
  where
    chunking_none : (s : LimitSettings) → chunking s [] ≡ option_to_list (if_any [])
    chunking_none s = pieces_none (first_chunk_len s) [] refl

    by_pieces : (buffered : List ℕ) (given : List (List ℕ × List (List ℕ))) → chunking s buffered ≡ option_to_list (if_any buffered) → AreSplit s buffered given left
        → chunking s left ≡ option_to_list (if_any left)
    by_pieces buffered [] one is = rw (sym is) one
    by_pieces buffered (p ∷ given) one is = by_pieces is.0 given (chunking_unended s is.0 is.1.none) is.2
