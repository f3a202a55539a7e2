use Rattle.std.proofs.Common.{◌≡◌, ◌≤◌, ◌<◌, length}
use Rattle.std.specs.Vec.{vec_capacity, vec_len}
use Rattle.xet_hash_files.proofs.Joining.{IsLoop}
use Rattle.xet_hash_files.proofs.parts.hash_each.Given as goal

abbrev pub invariant-sources : goal.invariant-sources
invariant-sources g l = record {
  loop : IsLoop g.S.Source.tells g.S.Source.left g.S.Source.faults l.fn.limits l.fn.sources l.sources l.at l.infos.items;
  count : vec_len l.infos ≡ l.at;
  room : length l.fn.sources ≤ vec_capacity l.infos;
  some : 0 < length l.block;
}
