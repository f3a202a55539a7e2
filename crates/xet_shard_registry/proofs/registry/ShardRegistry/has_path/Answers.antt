use Rattle.std.proofs.Common.{◌≡◌, ◌∙◌, ℕ, nat_eq, false, List, ap, option_copied, subst, sym}
use Rattle.std.specs.Cmp.Lexicographic.{pointwise}
use Rattle.std.specs.List.{list_any}
use Rattle.std.specs.Map.{keys_of}
use Rattle.xet_shard_registry.proofs.Paths.{no_path, none_under}
use Rattle.xet_shard_registry.proofs.registry.ShardRegistry.has_path.Goals as goal

pub returns-in-None-clause-none : goal.returns-in-None-clause-none
returns-in-None-clause-none c = λ _.
    let numbers = c.self.inside.paths.entries in
    rw (← c.self.view_is) (no_path c.self.inside.files.items numbers c.args.path.now c.self.invariant
    (subst (λ (h : List ℕ). list_any (pointwise nat_eq h) (keys_of numbers) ≡ false) c.digest_of.ensures
    (none_under (pointwise nat_eq c.digest_of.result) numbers (sym c.get.ensures.value ∙ ap option_copied c.in-None.is))))
