use Rattle.std.proofs.Common.{◌∙◌, ◌+◌, ℕ, ap, arith, length, subst, sym}
use Rattle.xet_shard_registry.proofs.Collecting.{add_new_key, empty_index, sum_push}
use Rattle.xet_shard_registry.specs.declared.collection.Collection.{Collection}
use Rattle.xet_shard_registry.specs.Collections.{IsNewCollection, words_in}
use Rattle.xet_shard_registry.proofs.collections.Collections.add_key.Goals as goal

fresh : (c : goal.After-insert_key) → IsNewCollection c.replace-collection.result
fresh c = subst IsNewCollection (sym c.replace-collection.ensures.value) c.self.invariant.1

pub returns-clause-added : goal.returns-clause-added
returns-clause-added c s ek ee ei shards held en =
    rw c.in_ok-push.ensures.items (add_new_key shards s c.self.inside.list.items (record c.replace-collection.result { key = c.args.key }) c.add.new.self c.args.number c.args.enters _
    (rw (← c.self.view_is) at c.requires.absent) (fresh c).members (fresh c).index ek en ee ei c.in_ok-added.ensures.added (rw (← c.self.view_is) at held))

pub returns-clause-count : goal.returns-clause-count
returns-clause-count c = rw (← c.self.view_is, c.in_ok-push.ensures.items) (sum_push (λ (d : Collection). length d.index) c.self.inside.list.items c.add.new.self
    ∙ ap (λ (n : ℕ). words_in c.self.inside.list.items + n) (c.in_ok-added.ensures.count ∙ ap (λ (n : ℕ). n + c.in_ok-added.added) (empty_index c.replace-collection.result.index (fresh c).index) ∙ omega arith))
