use Rattle.std.proofs.Common.{rules, ◌≡◌, ◌∙◌, ap, sym, subst, arith, [], ◌∷◌, ◌++◌, ◌+◌, ℕ, List, length, append_assoc, length-append, map}
use Rattle.std.specs.List.{AllByRecursion}
use Rattle.std.proofs.lemmas.List.{append-nil, length-map}
use mathlib.Core.List.{IsPrefix}
use Rattle.xet_history.specs.declared.entry.Entry.{Entry}
use Rattle.xet_shared_history.specs.Owned.{HasEachOnce}
use Rattle.xet_store.specs.Holders.{Holder, seen}
use Rattle.xet_locked_session.specs.Passes.{IsSeen, NumbersDiffer, own_numbers}
use Rattle.xet_store.specs.Recorded.{RecordedState}
use Rattle.xet_locked_session.specs.internal.Guarded.{IsGuarded}
use Rattle.xet_locked_session.specs.internal.Returned.{IsReturned}
use Rattle.xet_locked_session.proofs.Guarding.{guarded_few}
use Rattle.xet_locked_session.proofs.Returning.{returned_known, returned_once, returned_prefixes}
use Rattle.xet_locked_session.proofs.session.SharedStore.close_stopped.Goals as goal

pub passes-init : goal.passes-init
passes-init g c =
    let d = c.desk-2.invariant in
    record {
      tables = (c.args.self.named, d.0);
      history = ap (λ s. s.history) c.store.view_is ∙ d.1;
      book = d.3;
      back = [];
      split = sym (append-nil c.args.passes.items);
      rest = (omega (arith, d.4), d.5);
      returned = tt;
    }

pub passes-preserved : goal.passes-preserved
passes-preserved g c =
    let was = c.passes.invariant in
    let pass = c.in-Some.pass in
    let start = g.J.Naming.store in
    let same = c.return_pass.ensures.writer in
    record {
      tables = (was.tables.0, ap (λ s. s.table) same ∙ was.tables.1);
      history = was.history ∙ ap (λ s. start.history ++ s.seen) (sym same);
      book = was.book ∙ ap (λ s. length s.seen) (sym same);
      back = pass ∷ was.back;
      split = was.split ∙ ap (λ (l : List Holder). l ++ was.back) c.in-Some.ensures.items ∙ append_assoc c.pop.new.self.items (pass ∷ []) was.back;
      rest = (
        omega (arith, c.return_pass.ensures.rest.0, was.rest.0),
        omega (arith, c.return_pass.ensures.rest.1, was.rest.1, length-append (map (λ (p : ℕ × Entry). p.0) pass.own) (own_numbers was.back), length-map pass.own (λ (p : ℕ × Entry). p.0)),
      );
      returned = subst (λ (known : List Entry). AllByRecursion (IsReturned start (start.history ++ known)) (pass ∷ was.back)) (ap (λ s. s.seen) (sym same)) (c.return_pass.ensures.returned, was.returned);
    }

nothing : {X : Type 0} (xs ys zs : List X) → zs ≡ xs ++ ys → length xs ≡ 0 → zs ≡ ys
nothing [] ys zs is none = is
nothing (x ∷ xs) ys zs is none = absurd (omega (arith, none))

pub returns-clause-seen : goal.returns-clause-seen
returns-clause-seen g c =
    let was = c.passes.invariant in
    let start = g.J.Naming.store in
    let none : length c.passes.left.items ≡ 0 = search rules in
    let all : c.args.passes.items ≡ was.back = nothing c.passes.left.items was.back c.args.passes.items was.split none in
    subst (λ (hs : List Holder). AllByRecursion (λ h. IsPrefix (seen h) c.store.inside.store.history) hs) (sym all)
    (returned_prefixes start c.store.inside.store.history was.back (subst (λ (h : List Entry). AllByRecursion (IsReturned start h) was.back) (sym was.history) was.returned))

pub returns-clause-own : goal.returns-clause-own
returns-clause-own g c =
    let was = c.passes.invariant in
    let start = g.J.Naming.store in
    let history = c.store.inside.store.history in
    let none : length c.passes.left.items ≡ 0 = search rules in
    let all : c.args.passes.items ≡ was.back = nothing c.passes.left.items was.back c.args.passes.items was.split none in
    let whole = c.audit.ensures.whole (omega (arith, was.rest.0, ap length all, c.requires.all)) in
    let count : length start.history + length (own_numbers was.back) ≡ length history = omega (arith, ap length was.history, length-append start.history c.passes.writer.seen, was.rest.1, whole, was.book) in
    subst (λ (hs : List Holder). HasEachOnce (length start.history) (length history) (own_numbers hs)) (sym all)
    (returned_once start history was.back (subst (λ (h : List Entry). AllByRecursion (IsReturned start h) was.back) (sym was.history) was.returned) (subst NumbersDiffer all c.requires.differ) count)

pub returns-clause-known : goal.returns-clause-known
returns-clause-known g c =
    let was = c.passes.invariant in
    let none : length c.passes.left.items ≡ 0 = search rules in
    let all : c.args.passes.items ≡ was.back = nothing c.passes.left.items was.back c.args.passes.items was.split none in
    subst (λ (hs : List Holder). AllByRecursion IsSeen hs) (sym all) (returned_known g.J.Naming.store (g.J.Naming.store.history ++ c.passes.writer.seen) was.back was.returned)

pub returns-clause-going : goal.returns-clause-going
returns-clause-going g c = (subst (λ (s : RecordedState). IsGuarded g.J.Naming.store g.J.Naming.stops c.desk.inside.stopped s) (sym (c.store.view_is ∙ c.desk-2.view_is)) c.desk.invariant.1).going

pub returns-clause-made : goal.returns-clause-made
returns-clause-made g c = (subst (λ (s : RecordedState). IsGuarded g.J.Naming.store g.J.Naming.stops c.desk.inside.stopped s) (sym (c.store.view_is ∙ c.desk-2.view_is)) c.desk.invariant.1).made

pub returns-clause-one : goal.returns-clause-one
returns-clause-one g c =
    guarded_few g.J.Naming.store g.J.Naming.stops c.desk.inside.stopped c.store.inside.store
    (subst (λ (s : RecordedState). IsGuarded g.J.Naming.store g.J.Naming.stops c.desk.inside.stopped s) (sym (c.store.view_is ∙ c.desk-2.view_is)) c.desk.invariant.1)
