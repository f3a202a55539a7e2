use Rattle.std.proofs.Common.{◌≡◌, ◌∙◌, [], List, length, ap, subst, sym, arith}
use Rattle.std.proofs.lemmas.List.{nil_from_length}
use Rattle.std.specs.List.{AllByRecursion}
use Rattle.std.specs.Vec.Iter.{into_iter_items}
use Rattle.xet_base.specs.theorems.Exits.{exit_with}
use Rattle.xet_shard_format.specs.Records.{IsFile}
use Rattle.xet_clean.specs.Closing.{IsClosingError}
use Rattle.xet_clean.specs.theorems.Adding.{calls_nothing, records_nothing}
use Rattle.xet_clean.proofs.Completing.{Finished, IsCompleting, completing_begins, completing_done, completing_first, completing_more, completing_most, completing_refused, records_of}
use Rattle.xet_clean.proofs.aggregate.complete_all.Goals as goal

pub loop-file-init : goal.loop-file-init
loop-file-init g c =
    let gives = c.into_iter-file-iterator.ensures.into_iter_gives in
    let old = g.S.Stepping.holder c.args.steps.now in
    record {
      completing = subst (λ (fs : List Finished). IsCompleting c.args.files.items fs old old) (sym gives.0) (completing_begins c.args.files.items old c.requires.forms);
      counted = omega (arith, gives.1, ap length gives.0, c.args.files.ok.0);
    }

pub complete-requires : goal.complete-requires
complete-requires g c = record { form = (subst (AllByRecursion (λ (f : Finished). IsFile f.1)) c.in-Some.ensures.steps.0 c.loop-file.invariant.completing.forms).0 }

pub returns-in_err-_added-clause-follows : goal.returns-in_err-_added-clause-follows
returns-in_err-_added-clause-follows g c =
    let old = g.S.Stepping.holder c.args.steps.now in
    let now = g.S.Stepping.holder c.loop-file.steps in
    let is = subst (λ (xs : List Finished). IsCompleting c.args.files.items xs old now) c.in-Some.ensures.steps.0 c.loop-file.invariant.completing in
    (completing_refused c.args.files.items (into_iter_items c.next.new.self) _ old now (g.S.Stepping.holder c.complete.new.self) _ is c.in_err-_added.ensures.refused).1.follows

pub returns-in_err-_added-clause-few : goal.returns-in_err-_added-clause-few
returns-in_err-_added-clause-few g c =
    let old = g.S.Stepping.holder c.args.steps.now in
    let now = g.S.Stepping.holder c.loop-file.steps in
    let is = subst (λ (xs : List Finished). IsCompleting c.args.files.items xs old now) c.in-Some.ensures.steps.0 c.loop-file.invariant.completing in
    (completing_refused c.args.files.items (into_iter_items c.next.new.self) _ old now (g.S.Stepping.holder c.complete.new.self) _ is c.in_err-_added.ensures.refused).1

pub returns-in_err-_added-clause-refused : goal.returns-in_err-_added-clause-refused
returns-in_err-_added-clause-refused g c =
    let old = g.S.Stepping.holder c.args.steps.now in
    let now = g.S.Stepping.holder c.loop-file.steps in
    let is = subst (λ (xs : List Finished). IsCompleting c.args.files.items xs old now) c.in-Some.ensures.steps.0 c.loop-file.invariant.completing in
    exit_with (IsClosingError (records_of c.args.files.items) old (g.S.Stepping.holder c.complete.new.self)) _ _ c.from_residual.ensures.1
    (completing_refused c.args.files.items (into_iter_items c.next.new.self) _ old now (g.S.Stepping.holder c.complete.new.self) _ is c.in_err-_added.ensures.refused).0

pub loop-file-preserved : goal.loop-file-preserved
loop-file-preserved g c =
    let at = c.loop-file in
    let old = g.S.Stepping.holder c.args.steps.now in
    let now = g.S.Stepping.holder c.loop-file.steps in
    let is = subst (λ (xs : List Finished). IsCompleting c.args.files.items xs old now) c.in-Some.ensures.steps.0 c.loop-file.invariant.completing in
    record {
      completing = completing_more c.args.files.items (into_iter_items c.next.new.self) _ old now (g.S.Stepping.holder c.complete.new.self) c.in_ok-_added._added is c.in_ok-_added.ensures.saw;
      counted = omega (arith, c.in-Some.ensures.steps.1, at.invariant.counted, ap length c.in-Some.ensures.steps.0);
    }

pub returns-clause-completed : goal.returns-clause-completed
returns-clause-completed g c =
    let at = c.loop-file in
    let old = g.S.Stepping.holder c.args.steps.now in
    let now = g.S.Stepping.holder c.loop-file.steps in
    let empty : into_iter_items at.file-iterator ≡ [] = nil_from_length (into_iter_items at.file-iterator) (sym at.invariant.counted ∙ c.in-None.ensures.steps.0) in
    completing_done c.args.files.items old now (subst (λ (xs : List Finished). IsCompleting c.args.files.items xs old now) empty at.invariant.completing)

pub returns-clause-follows : goal.returns-clause-follows
returns-clause-follows g c =
    (completing_most c.args.files.items (into_iter_items c.loop-file.file-iterator) (g.S.Stepping.holder c.args.steps.now) (g.S.Stepping.holder c.loop-file.steps) c.loop-file.invariant.completing).follows

pub returns-clause-few : goal.returns-clause-few
returns-clause-few g c =
    completing_most c.args.files.items (into_iter_items c.loop-file.file-iterator) (g.S.Stepping.holder c.args.steps.now) (g.S.Stepping.holder c.loop-file.steps) c.loop-file.invariant.completing

pub returns-in_err-_added-clause-first : goal.returns-in_err-_added-clause-first
returns-in_err-_added-clause-first g c =
    let old = g.S.Stepping.holder c.args.steps.now in
    let now = g.S.Stepping.holder c.loop-file.steps in
    let is = subst (λ (xs : List Finished). IsCompleting c.args.files.items xs old now) c.in-Some.ensures.steps.0 c.loop-file.invariant.completing in
    (completing_refused c.args.files.items (into_iter_items c.next.new.self) _ old now (g.S.Stepping.holder c.complete.new.self) _ is c.in_err-_added.ensures.refused).2

pub returns-clause-first : goal.returns-clause-first
returns-clause-first g c =
    completing_first c.args.files.items (into_iter_items c.loop-file.file-iterator) (g.S.Stepping.holder c.args.steps.now) (g.S.Stepping.holder c.loop-file.steps) (g.S.Stepping.holder c.loop-file.steps) c.loop-file.invariant.completing
    (records_nothing (g.S.Stepping.holder c.loop-file.steps)) (calls_nothing (g.S.Stepping.holder c.loop-file.steps) (records_nothing (g.S.Stepping.holder c.loop-file.steps)).follows)
