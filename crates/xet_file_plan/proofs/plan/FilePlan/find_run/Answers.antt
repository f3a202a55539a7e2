use Rattle.std.proofs.Common.{◌≡◌, ◌∙◌, ℕ, List, ap, drop, map, refl, sym, take, [], ◌∷◌}
use Rattle.std.proofs.lemmas.List.{drop-map, take-map}
use Rattle.xet_choices.specs.Choices.{hashes_of}
use Rattle.xet_xorb_chunk.specs.declared.chunk.Chunk.{Chunk}
use Rattle.xet_xorb_chunk.specs.Chunks.{chunk_leaf}
use Rattle.xet_file_plan.proofs.plan.FilePlan.find_run.Goals as goal

-- the hashes of the leaves are those of the chunks
hashes_of_chunks : (cs : List Chunk) → hashes_of (map chunk_leaf cs) ≡ map (λ (c : Chunk). c.hash) cs
hashes_of_chunks [] = refl
hashes_of_chunks (c ∷ cs) = ap (λ (hs : List (List ℕ)). c.hash ∷ hs) (hashes_of_chunks cs)

pub returns-clause-same : goal.returns-clause-same
returns-clause-same c =
    let start = c.in_ok-start.start in
    let count = c.in_ok-start.count in
    let hash : Chunk → List ℕ = λ d. d.hash in
    (λ i. take count (drop (c.new.ensures i).chunk_index_start (hashes_of (map chunk_leaf (sym c.self.view_is i).block))))
    ∙ ap (λ (hs : List (List ℕ)). take count (drop start hs)) (hashes_of_chunks c.self.inside.block)
    ∙ ap (take count) (drop-map hash start c.self.inside.block)
    ∙ take-map hash count (drop start c.self.inside.block)
    ∙ c.in_ok-start.ensures.same
