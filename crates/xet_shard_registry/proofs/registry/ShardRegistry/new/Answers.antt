use Rattle.std.proofs.Common.{◌-◌, ◌^◌, ℕ, ap, min, refl, sym}
use Rattle.xet_shard_registry.proofs.registry.ShardRegistry.new.Goals as goal

pub returns-clause-empty : goal.returns-clause-empty
returns-clause-empty c = record {
  files = c.new-2.ensures.items;
  collections = c.in_ok-collections.ensures.empty;
  hashes = c.new-3.ensures.empty;
  words = sym (ap (λ (w : ℕ). min w (2 ^ 64 - 1)) c.in_ok-collections.ensures.words);
  materialized = refl;
  stored = refl;
}
