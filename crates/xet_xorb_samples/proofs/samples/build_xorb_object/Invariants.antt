use Rattle.std.proofs.Common.{◌≡◌, ℕ, List}
use Rattle.std.specs.List.{concat, flat_map}
use Rattle.xet_xorb_chunk.specs.ChunkEncoding.{encoded_chunk}
use Rattle.xet_xorb_samples.specs.Samples.{AreSamples, chunk_boundaries}
use Rattle.xet_xorb_samples.proofs.samples.build_xorb_object.Given as goal

abbrev pub invariant-draws : goal.invariant-draws
invariant-draws g l =
    (chunks : List (List ℕ)) × AreSamples l.counter l.size (g.G.Rng.stream l.initial.rng) chunks (g.G.Rng.stream l.rng) × (l.stored ≡ flat_map encoded_chunk chunks) × (l.plain.items ≡ concat chunks) × (l.boundaries.items ≡ chunk_boundaries 0 chunks)
