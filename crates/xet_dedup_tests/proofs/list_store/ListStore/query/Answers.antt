use Rattle.std.proofs.Common.{◌≡◌, ◌∙◌, ◌++◌, ap, length, sym}
use Rattle.std.proofs.lemmas.Bool.{eqb-true}
use Rattle.xet_dedup_queries.specs.Interface.{asked}
use Rattle.xet_dedup_tests.specs.declared.list_store.ListStore.{ListStore}
use Rattle.xet_dedup_tests.specs.Logged.{calls_from}
use Rattle.xet_dedup_tests.proofs.Logs.{entries_within, nothing_added, some_length}
use Rattle.xet_dedup_tests.proofs.list_store.ListStore.query.Goals as goal

pub returns-then-is_empty-clause-asked : goal.returns-then-is_empty-clause-asked
returns-then-is_empty-clause-asked c =
    let none : length c.args.hashes.now ≡ 0 = eqb-true (length c.args.hashes.now) 0 (sym c.is_empty.ensures ∙ c.if-is_empty.true) in
    (length c.args.self.now.log.items, entries_within c.args.self.now.log.items, ap (λ (s : ListStore). calls_from 0 s.log.items) c.in_ok-count.ensures.same ∙ nothing_added _ c.args.hashes.now _ _ none)

pub log_query-requires : goal.log_query-requires
log_query-requires c = some_length c.args.hashes.now c.is_empty.ensures c.if-is_empty.false

pub returns-clause-asked : goal.returns-clause-asked
returns-clause-asked c =
    let log = ap (λ (s : ListStore). s.log.items) c.in_ok-count.ensures.same in (
      length c.args.self.now.log.items,
      entries_within c.args.self.now.log.items,
      c.in_ok-log_query.ensures.logged ∙ (λ i. calls_from 0 (log i) ++ asked (length (log i)) c.args.hashes.now (c.count_of.ensures i)),
    )
