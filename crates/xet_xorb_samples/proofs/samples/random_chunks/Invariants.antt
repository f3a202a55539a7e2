use Rattle.xet_xorb_samples.specs.internal.Samples.{AreSampleChunks}
use Rattle.xet_xorb_samples.proofs.samples.random_chunks.Given as goal

abbrev pub invariant-draws : goal.invariant-draws
invariant-draws g l = AreSampleChunks l.counter l.size (g.G.Rng.stream l.initial.rng) l.chunks.items (g.G.Rng.stream l.rng)
