use Rattle.std.proofs.Common.{◌≡◌, ◌<◌, ◌∙◌, length, refl, sym, Some, slice_get}
use Rattle.std.proofs.lemmas.Option.{slice_get_read}
use Rattle.xet_shard_registry.proofs.Collecting.{keep_key, keys_set}
use Rattle.xet_shard_registry.proofs.collections.Collections.reserve.Goals as goal

there : (c : goal.After-self-1) → slice_get c.self.inside.list.items c.in-Some.at ≡ Some c.index_mut.result.now
there c =
    let low : c.in-Some.at < length c.self.inside.list.items = rw (← c.self.view_is) at c.in-Some.ensures.within in
    slice_get_read c.self.inside.list.items (length c.self.inside.list.items) c.in-Some.at c.index_mut.result.now refl low c.index_mut.ensures.value

pub invariant_of-self : goal.invariant_of-self
invariant_of-self c =
    (c.self.invariant.0 ∙ sym (keys_set c.self.inside.list.items c.in-Some.at c.index_mut.result.now c.reserve.new.self (there c) c.reserve.ensures.kept.key), c.self.invariant.1)

pub returns-in-Some-clause-stay : goal.returns-in-Some-clause-stay
returns-in-Some-clause-stay c = λ shards held.
    keep_key shards c.self.inside.list.items c.in-Some.at c.index_mut.result.now c.reserve.new.self (there c) c.reserve.ensures.kept (rw (← c.self.view_is) at held)
