use Rattle.std.proofs.Common.{◌≡◌, ◌<◌, ◌∙◌, length, refl, sym, Some, slice_get}
use Rattle.std.proofs.lemmas.Option.{slice_get_read}
use Rattle.xet_shard_registry.proofs.Collecting.{add_to_key, keep_key, keys_set, on_err_then, on_ok_then, same_key}
use Rattle.xet_shard_registry.proofs.collections.Collections.add.Goals as goal

there : (c : goal.After-self-1) → slice_get c.self.inside.list.items c.in-Some.at ≡ Some c.index_mut.result.now
there c =
    let low : c.in-Some.at < length c.self.inside.list.items = rw (← c.self.view_is) at c.in-Some.ensures.within in
    slice_get_read c.self.inside.list.items (length c.self.inside.list.items) c.in-Some.at c.index_mut.result.now refl low c.index_mut.ensures.value

pub invariant_of-self : goal.invariant_of-self
invariant_of-self c =
    let same = same_key c.add.result c.index_mut.result.now c.add.new.self c.args.number c.args.enters _ c.add.ensures.added c.add.ensures.kept in
    (c.self.invariant.0 ∙ sym (keys_set c.self.inside.list.items c.in-Some.at c.index_mut.result.now c.add.new.self (there c) same), c.self.invariant.1)

pub returns-in-Some-clause-added : goal.returns-in-Some-clause-added
returns-in-Some-clause-added c =
    let key = c.in-Some.ensures.found c.index_mut.result.now (rw c.self.view_is at (there c)) in
    on_ok_then c.add.result c.add.ensures.added (λ added s ek ee ei shards held en.
    add_to_key shards s c.self.inside.list.items c.in-Some.at c.index_mut.result.now c.add.new.self c.args.number c.args.enters _ (there c) (key ∙ ek) en ee ei added (rw (← c.self.view_is) at held))

pub returns-in-Some-clause-kept : goal.returns-in-Some-clause-kept
returns-in-Some-clause-kept c =
    on_err_then c.add.result c.add.ensures.kept (λ kept shards held.
    keep_key shards c.self.inside.list.items c.in-Some.at c.index_mut.result.now c.add.new.self (there c) kept (rw (← c.self.view_is) at held))
