use Rattle.std.proofs.Common.{◌≡◌, ◌*◌, map, take}
use Rattle.std.specs.List.{concat}
use Rattle.xet_hash.specs.Hasher.{HasAbsorbed, hashed_len}
use Rattle.xet_hash.specs.Keys.{verification_key}
use Rattle.xet_hash.proofs.range.range_hash.Given as goal

abbrev pub invariant-leaves : goal.invariant-leaves
invariant-leaves l = record {
  len : hashed_len l.hasher ≡ 32 * l.hash-index;
  message : HasAbsorbed l.hasher verification_key (concat (map (λ m. m.0) (take l.hash-index l.leaves)));
}
