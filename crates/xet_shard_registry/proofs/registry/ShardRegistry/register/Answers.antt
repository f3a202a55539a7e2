use Rattle.std.proofs.Common.{◌∙◌, ◌++◌, ◌∷◌, [], List, ℕ, ap, arith, refl}
use Rattle.xet_shard_registry.proofs.Collecting.{registry_more}
use Rattle.xet_shard_registry.proofs.Paths.{have_more}
use Rattle.xet_shard_registry.proofs.registry.ShardRegistry.register.Goals as goal

pub returns-clause-registered : goal.returns-clause-registered
returns-clause-registered c shards records held =
    registry_more c.args.cap shards c.args.file records _ _ c.in_ok-added.added _ _ (omega (arith, c.ranges.cap.fits)) refl
    c.in_ok-added.ensures.added c.in_ok-added.ensures.files
    (c.insert_hash.ensures ∙ ap (λ (ks : List (List ℕ)). ks ++ c.args.file.shard_hash ∷ []) c.in_ok-reserve.ensures.keys)
    c.in_ok-added.ensures.count c.saturating_add-self-inside.ensures c.saturating_add-self-inside-2.ensures c.saturating_add-self-inside-3.ensures (rw (← c.self.view_is) at held)

pub invariant_of-self-2 : goal.invariant_of-self-2
invariant_of-self-2 c =
    rw (c.in_ok-added.ensures.files, c.insert_path.ensures, c.in_ok-reserve-2.ensures.entries, c.digest_of-path.ensures, c.as_str.ensures)
    (have_more c.self.inside.files.items c.self.inside.paths.entries c.args.file _ c.self.invariant)
