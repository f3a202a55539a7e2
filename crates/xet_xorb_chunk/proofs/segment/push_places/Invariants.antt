use Rattle.std.proofs.Common.{◌≡◌, ◌≤◌, ◌+◌, ◌-◌, ◌++◌, length, map, take, vec_capacity, vec_len}
use Rattle.xet_xorb_chunk.proofs.segment.push_places.Given as goal

abbrev pub invariant-loop-place : goal.invariant-loop-place
invariant-loop-place l = record {
  items : l.indices.items ≡ l.fn.indices.items ++ map (λ place. l.before + place) (take l.place-index l.places);
  room : vec_len l.indices + (length l.places - l.place-index) ≤ vec_capacity l.indices;
}
