use Rattle.std.proofs.Common.{◌≡◌, ℕ, List, ◌+◌, ◌*◌, ◌++◌, take}
use Rattle.xet_hash.specs.Hasher.{Absorbs}
use Rattle.xet_hash.proofs.hasher.DataHasher.take_row.Given as goal

abbrev pub invariant-lanes : goal.invariant-lanes
invariant-lanes l = record {
  key : l.self.key ≡ l.fn.self.key;
  flags : l.self.flags ≡ l.fn.self.flags;
  count : l.self.count ≡ l.fn.self.count + l.lane;
  chunk : l.self.chunk ≡ l.fn.self.chunk;
  held : (key : List ℕ) (flags : ℕ) (m : List ℕ) → Absorbs l.fn.self key flags m → Absorbs l.self key flags (m ++ take (1024 * l.lane) l.bytes);
}
