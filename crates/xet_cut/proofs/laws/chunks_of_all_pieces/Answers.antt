use Rattle.std.proofs.Common.{◌≡◌, ◌∙◌, ℕ, List, [], ◌++◌, sym, ap}
use Rattle.std.proofs.lemmas.List.{append-nil}
use Rattle.std.specs.List.{flat_map}
use Rattle.xet_cut.specs.Chunking.{chunking}
use Rattle.xet_cut.specs.theorems.Streams.{chunking_pieces, left_chunks}
use Rattle.xet_cut.proofs.laws.chunks_of_all_pieces.Goals as goal

pub returns-clause-followed : goal.returns-clause-followed
returns-clause-followed c = λ s given left is last. sym (chunking_pieces s [] given left last is)

pub returns-clause-finished : goal.returns-clause-finished
returns-clause-finished c = λ s given left is.
    let pieces : List ℕ = flat_map (λ (p : List ℕ × List (List ℕ)). p.0) given in
    let chunks : List (List ℕ) = flat_map (λ (p : List ℕ × List (List ℕ)). p.1) given in
    let whole : chunking s (pieces ++ []) ≡ chunks ++ chunking s (left ++ []) = chunking_pieces s [] given left [] is in
    sym (ap (chunking s) (sym (append-nil pieces)) ∙ whole ∙ ap (λ (t : List ℕ). chunks ++ chunking s t) (append-nil left) ∙ ap (λ (t : List (List ℕ)). chunks ++ t) (left_chunks s given left is))
