use Rattle.std.proofs.Common.{arith}
use Rattle.xet_shard_format.specs.Lookups.{flat_places}
use Rattle.xet_shard_index.specs.Places.{indexed_shard}
use Rattle.xet_shard_index.specs.Runs.{merged}
use Rattle.xet_shard_index.specs.internal.Inserting.{IsInsertion}
use Rattle.xet_shard_index.proofs.Lengths.{rising_merged}
use Rattle.xet_shard_index.proofs.Places.{index_of_absent, inserted_index, inserted_length, inserted_runs}
use Rattle.xet_shard_index.proofs.packed_index.PackedIndex.insert_shard.Goals as goal

pub returns-in_default-clause-index : goal.returns-in_default-clause-index
returns-in_default-clause-index c shards held =
    index_of_absent (indexed_shard c.args.shard (flat_places c.args.items.now)) (merged c.self.inside.runs.items) shards (rw c.in_default.is at c.in_ok-insertion.ensures.none) (rising_merged c.self.inside.runs.items)
    (rw (← c.self.view_is) at held)

new : (c : goal.After-self-1) → IsInsertion c.self.inside.runs.items c.self.inside.words (indexed_shard c.args.shard (flat_places c.args.items.now)) c.in-Some.field-0
new c = rw c.deref.ensures.value at (c.in_ok-insertion.ensures.some c.in-Some.field-0 c.in-Some.is)

pub overflow_add-self : goal.overflow_add-self
overflow_add-self c = let fits = (c.in_ok-insertion.ensures.some c.in-Some.field-0 c.in-Some.is).fits in omega (arith, fits)

pub invariant_of-self-2 : goal.invariant_of-self-2
invariant_of-self-2 c =
    let grown = inserted_length c.self.inside.runs.items c.self.inside.words (indexed_shard c.args.shard (flat_places c.args.items.now)) c.in-Some.field-0 c.self.invariant.0 (new c) in
    rw (c.push_reserved.ensures.items, c.truncate.ensures.items, c.in_ok-reserve.ensures.items) (
      inserted_runs c.self.inside.runs.items c.self.inside.words (indexed_shard c.args.shard (flat_places c.args.items.now)) c.in-Some.field-0 c.self.invariant.0 (new c),
      omega (arith, grown, c.self.invariant.1),
      λ r some. cc (c.take.ensures.after, some),
    )

pub returns-clause-index : goal.returns-clause-index
returns-clause-index c shards held =
    rw (c.push_reserved.ensures.items, c.truncate.ensures.items, c.in_ok-reserve.ensures.items)
    (inserted_index c.self.inside.runs.items c.self.inside.words (indexed_shard c.args.shard (flat_places c.args.items.now)) c.in-Some.field-0 c.self.invariant.0 (new c) shards (rw (← c.self.view_is) at held))

pub returns-clause-count : goal.returns-clause-count
returns-clause-count c =
    rw (c.push_reserved.ensures.items, c.truncate.ensures.items, c.in_ok-reserve.ensures.items, ← c.self.view_is)
    (inserted_length c.self.inside.runs.items c.self.inside.words (indexed_shard c.args.shard (flat_places c.args.items.now)) c.in-Some.field-0 c.self.invariant.0 (new c))
