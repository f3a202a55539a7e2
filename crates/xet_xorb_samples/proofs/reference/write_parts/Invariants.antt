use Rattle.std.proofs.Common.{◌≡◌, ◌≤◌, ◌<◌, ◌^◌, ◌++◌, ℕ, List, drop, length, true}
use Rattle.std.specs.List.{AllByRecursion, flat_map}
use Rattle.xet_xorb_chunk.specs.ChunkEncoding.{encoded_chunk}
use Rattle.xet_xorb_samples.specs.Samples.{Rise, parts_from}
use Rattle.xet_xorb_samples.proofs.reference.write_parts.Given as goal

abbrev pub invariant-loop-chunk : goal.invariant-loop-chunk
invariant-loop-chunk g l = record {
  held : (done : List ℕ) × (done ++ flat_map encoded_chunk (parts_from l.start (drop l.chunk-index l.chunks) l.bytes) ≡ flat_map encoded_chunk (parts_from 0 l.chunks l.bytes))
      × (l.count ≡ length done)
      × (g.W.Sink.tells l.fn.sink ≡ true → g.W.Sink.written l.sink ≡ g.W.Sink.written l.fn.sink ++ done);
  rise : Rise l.start (drop l.chunk-index l.chunks) (length l.bytes);
  small : AllByRecursion (λ p. length p < 2 ^ 24) (parts_from l.start (drop l.chunk-index l.chunks) l.bytes);
  tells : g.W.Sink.tells l.sink ≡ g.W.Sink.tells l.fn.sink;
  later : g.W.Sink.faults l.fn.sink ≤ g.W.Sink.faults l.sink;
}
