use Rattle.std.proofs.Common.{◌≡◌, ◌+◌, ◌≤◌, List, ℕ, nat_eq, take}
use Rattle.std.specs.Cmp.Lexicographic.{pointwise}
use Rattle.indexmap.specs.IndexMap.{get, spare}
use Rattle.xet_shard.specs.internal.LastPlaces.{noted}
use Rattle.xet_shard.proofs.in_memory.places.note_chunks.Given as goal

abbrev pub invariant-loop-chunk : goal.invariant-loop-chunk
invariant-loop-chunk l = record {
  count : l.place ≡ l.chunk-index;
  so_far : (h : List ℕ) → get (pointwise nat_eq) l.places h ≡ noted l.index (take l.chunk-index l.chunks) h (get (pointwise nat_eq) l.fn.places h);
  room : spare l.fn.places ≤ spare l.places + l.chunk-index;
}
