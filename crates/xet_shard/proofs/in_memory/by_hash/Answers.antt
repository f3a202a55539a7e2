use Rattle.std.proofs.Common.{◌≡◌, ◌∙◌, Bor, List, [], ◌++◌, map, rules, sym, ap}
use Rattle.std.proofs.lemmas.List.{append-nil}
use Rattle.std.proofs.lemmas.List.Sorted.{answers_always}
use Rattle.std.proofs.lemmas.Map.Iter.{rest_so_far}
use Rattle.indexmap.specs.IndexMap.{values}
use Rattle.xet_shard.proofs.Rising.{lent_sorted}
use Rattle.xet_shard.proofs.in_memory.by_hash.Goals as goal

pub returns : goal.returns
returns g c =
    let now : Bor g.row.X.Denot → g.row.X.Denot = λ x. x.now in
    let begun : c.into_iter-value-iterator.result ≡ values c.args.table.now = search rules in
    let ended : c.loop-value.value-iterator ≡ [] = c.in-None.ensures.steps.0 in
    let all : map now c.loop-value.yielded ≡ values c.args.table.now =
    sym (append-nil (map now c.loop-value.yielded)) ∙ ap (λ (t : List g.row.X.Denot). map now c.loop-value.yielded ++ t) (sym ended)
    ∙ sym (rest_so_far now c.loop-value.yielded _ _ c.loop-value.yielded_by) ∙ begun in
    let same : map now c.loop-value.records.items ≡ values c.args.table.now = ap (map now) c.loop-value.invariant ∙ all in
    lent_sorted now g.X.Record.hash_of c.loop-value.records.items c.sort_unstable_by_key.new.self.items (values c.args.table.now) same c.requires c.sort_unstable_by_key.ensures.permutation
    (c.sort_unstable_by_key.ensures.sorted (λ (x : Bor g.row.X.Denot). g.X.Record.hash_of x.now) (answers_always _ _ _ (λ f a r f' k. search rules)))
