use Rattle.std.proofs.Common.{◌≡◌, ◌∙◌, ◌++◌, Err, ap, refl, subst, sym}
use Rattle.std.proofs.lemmas.Result.{on_ok_weaker}
use Rattle.xet_clean.specs.Cleaner.{IsCleaning}
use Rattle.xet_clean.specs.Policies.{HasBytesBy}
use Rattle.xet_hash.specs.declared.error.StoreError.TheVariants.{TooLarge}
use Rattle.xet_hash.specs.declared.error.What.TheVariants.{Source}
use Rattle.xet_single_file.specs.Single.{SingleFileState}
use Rattle.xet_single_file.specs.internal.Kept.{holder_in}
use Rattle.xet_single_file.proofs.Clauses.{few_clause, follows_clause, single_errors, too_long}
use Rattle.xet_single_file.proofs.Passes.{if_ok, kept_after, kept_moved, when_err, when_ok}
use Rattle.xet_single_file.proofs.single.SingleFileCleaner.add.Goals as goal

pub add_all-result-requires : goal.add_all-result-requires
add_all-result-requires g c = record { shared = c.requires.shared; cleaning = (_, (c.self.invariant.1 (ap (λ (s : SingleFileState). s.whole) c.self.view_is ∙ c.requires.whole)).cleaning) }

pub invariant_of-self : goal.invariant_of-self
invariant_of-self g c =
    let same = c.add_all-result.ensures.same in
    let d = c.add_all-result.new.cleaner in
    let new = d.deduper.interface.steps in
    let more = sym c.more-self-inside.ensures in
    let was = c.self.invariant.1 (ap (λ (s : SingleFileState). s.whole) c.self.view_is ∙ c.requires.whole) in (
      kept_moved g.J.Naming.store _ _ _ _ _ _ _ (ap (λ a. a.steps) same.0) same.2 same.1
          (kept_after g.J.Naming.store _ _ new _ _ c.self.invariant.0 c.recall_passing.ensures.start c.recall_passing.ensures.passing c.add_all-result.ensures.follows.follows),
      λ ok. record {
        cleaning = subst (IsCleaning (holder_in d.deduper.start.value.steps) (holder_in new) d.deduper.whole d.deduper.plan d.deduper.global d.chunker d.byte_count) more
            (if_ok c.add_all-result.result c.is_ok-self-inside.result c.is_ok-self-inside.ensures.value ok (c.add_all-result.ensures.cleaning _ was.cleaning));
        hashed = subst (HasBytesBy c.self.inside.policy c.add_all-result.new.generator) more (if_ok c.add_all-result.result c.is_ok-self-inside.result c.is_ok-self-inside.ensures.value ok (c.add_all-result.ensures.hashed _ was.hashed));
      },
    )

pub returns-clause-added : goal.returns-clause-added
returns-clause-added g c =
    on_ok_weaker c.add_all-result.result (λ ok. (ok, c.more-self-inside.ensures ∙ ap (λ (s : SingleFileState). s.bytes ++ c.args.bytes.now) c.self.view_is)) (when_ok c.add_all-result.result c.is_ok-self-inside.result c.is_ok-self-inside.ensures.value)

pub returns-clause-broken : goal.returns-clause-broken
returns-clause-broken g c = when_err c.add_all-result.result c.is_ok-self-inside.result c.is_ok-self-inside.ensures.value

pub returns-clause-same : goal.returns-clause-same
returns-clause-same g c =
    let same = c.add_all-result.ensures.same in (
      ap (λ a. a.steps.start) same.0 ∙ ap (λ (s : SingleFileState). s.start) c.self.view_is,
      same.1 ∙ ap (λ (s : SingleFileState). s.source) c.self.view_is,
      ap (λ (s : SingleFileState). s.policy) c.self.view_is,
    )

pub returns-clause-follows : goal.returns-clause-follows
returns-clause-follows g c =
    let new = c.add_all-result.new.cleaner.deduper.interface.steps in
    follows_clause g.J.Naming.store _ _ new _ _ _ _ _ _ c.self.view_is c.self.invariant.0 c.recall_passing.ensures.start c.recall_passing.ensures.passing c.add_all-result.ensures.follows new.pass refl

pub returns-clause-long : goal.returns-clause-long
returns-clause-long g c = λ long.
    let was = c.self.invariant.1 (ap (λ (s : SingleFileState). s.whole) c.self.view_is ∙ c.requires.whole) in
    subst (λ (s : SingleFileState). c.add_all-result.result ≡ Err (TooLarge (Source s.source))) c.self.view_is
    (c.add_all-result.ensures.long (too_long g.J.Naming.store _ _ _ _ _ _ _ _ c.self.view_is c.self.invariant.0 _ c.args.bytes.now was.cleaning.counted long)).0

pub returns-clause-few : goal.returns-clause-few
returns-clause-few g c =
    let new = c.add_all-result.new.cleaner.deduper.interface.steps in
    let was = c.self.invariant.1 (ap (λ (s : SingleFileState). s.whole) c.self.view_is ∙ c.requires.whole) in
    few_clause g.J.Naming.store _ _ new _ _ _ _ _ _ c.self.view_is c.self.invariant.0 c.recall_passing.ensures.start c.recall_passing.ensures.passing c.add_all-result.ensures.follows c.add_all-result.result c.add_all-result.new.cleaner.deduper.start.value.steps
    (ap (λ a. a.steps) c.add_all-result.ensures.same.0) c.args.bytes.now new.pass refl (c.add_all-result.ensures.few _ was.cleaning)

pub returns-clause-refused : goal.returns-clause-refused
returns-clause-refused g c =
    let new = c.add_all-result.new.cleaner.deduper.interface.steps in
    let was = c.self.invariant.1 (ap (λ (s : SingleFileState). s.whole) c.self.view_is ∙ c.requires.whole) in
    single_errors g.J.Naming.store _ _ new _ _ _ _ _ _ c.self.view_is c.self.invariant.0 c.recall_passing.ensures.start c.recall_passing.ensures.passing c.add_all-result.ensures.follows c.add_all-result.result _ c.args.bytes.now was.cleaning.counted
    (λ long. ap (λ x. x.deduper.interface.steps.pass) (c.add_all-result.ensures.long long).1) c.add_all-result.ensures.refused
