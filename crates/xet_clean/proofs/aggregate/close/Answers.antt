use Rattle.std.proofs.Common.{◌+◌, ◌*◌, inl, inr, List, ℕ, length, refl, ap, subst, sym, arith}
use Rattle.std.proofs.lemmas.Result.{IfErr-weaker, on_ok_weaker}
use Rattle.xet_base.specs.theorems.Exits.{exit_with}
use Rattle.xet_dedup_queries.specs.Registering.{IsDue}
use Rattle.xet_store.specs.Holders.{xorb_limits}
use Rattle.xet_store.specs.Stepping.{SawRegister}
use Rattle.xet_store.specs.theorems.Following.{follows_nothing}
use Rattle.xet_xorb.specs.Raw.{raw_leaves}
use Rattle.xet_clean.specs.Closing.{IsClosingError, IsUnclosed, RegistersAtMost}
use Rattle.xet_clean.proofs.Completing.{WasRegistered, closes_either, error_either, forms_are, leaves_of_made, most_either, most_refused, new_xorb, records_of, unclosed_nothing, unclosed_refused}
use Rattle.xet_clean.specs.theorems.Counting.{at_most_more, at_most_nothing}
use Rattle.xet_clean.proofs.aggregate.close.Goals as goal
use Rattle.xet_clean.proofs.aggregate.close.Goals.{then-not-is_empty+in_ok-_added, else-not-is_empty}

pub returns-in_err-xorb-clause-follows : goal.returns-in_err-xorb-clause-follows
returns-in_err-xorb-clause-follows g c = follows_nothing (g.S.Stepping.holder c.args.steps.now)

pub returns-in_err-xorb-clause-few : goal.returns-in_err-xorb-clause-few
returns-in_err-xorb-clause-few g c =
    let a = c.args.aggregate in
    at_most_more 0 (2 * length a.chunks + 2 * length a.files) (g.S.Stepping.holder c.args.steps.now) (g.S.Stepping.holder c.args.steps.now) (omega arith) (at_most_nothing (g.S.Stepping.holder c.args.steps.now))

pub returns-in_err-xorb-clause-refused : goal.returns-in_err-xorb-clause-refused
returns-in_err-xorb-clause-refused g c =
    exit_with (IsUnclosed (RegistersAtMost c.args.aggregate c.args.next.now) c.args.aggregate c.args.next.now (g.S.Stepping.holder c.args.steps.now) (g.S.Stepping.holder c.args.steps.now)) _ _ c.from_residual.ensures.1
    (subst (IsUnclosed (RegistersAtMost c.args.aggregate c.args.next.now) c.args.aggregate c.args.next.now (g.S.Stepping.holder c.args.steps.now) (g.S.Stepping.holder c.args.steps.now)) (sym c.in_err-xorb.ensures.memory) (unclosed_nothing (RegistersAtMost c.args.aggregate c.args.next.now) (inl refl) c.args.aggregate c.args.next.now (g.S.Stepping.holder c.args.steps.now)))

pub register-requires-clause-new : goal.register-requires-clause-new
register-requires-clause-new g c =
    let a = c.args.aggregate in
    new_xorb (g.S.Stepping.holder c.args.steps.now).limits a.chunks a.boundaries c.in_ok-xorb.xorb c.in_ok-xorb.ensures.xorb c.requires.within (c.has_no_chunks-is_empty.ensures.some c.if-not-is_empty.true)

pub register-requires-clause-due : goal.register-requires-clause-due
register-requires-clause-due g c =
    let a = c.args.aggregate in
    subst (λ (ls : List (List ℕ × ℕ)). IsDue (xorb_limits (g.S.Stepping.holder c.args.steps.now).limits) ls c.args.next.now) (sym (leaves_of_made a.chunks a.boundaries c.in_ok-xorb.xorb c.in_ok-xorb.ensures.xorb)) c.requires.due

pub returns-in_err-_added-clause-follows : goal.returns-in_err-_added-clause-follows
returns-in_err-_added-clause-follows g c = (most_refused c.args.aggregate c.args.next.now c.in_ok-xorb.files.items c.in_ok-xorb.xorb c.in_ok-xorb.ensures.xorb c.in_ok-xorb.ensures.files (g.S.Stepping.holder c.args.steps.now) (g.S.Stepping.holder c.register.new.self) _ (c.has_no_chunks-is_empty.ensures.some c.if-not-is_empty.true) c.in_err-_added.ensures.refused).follows

pub returns-in_err-_added-clause-few : goal.returns-in_err-_added-clause-few
returns-in_err-_added-clause-few g c = most_refused c.args.aggregate c.args.next.now c.in_ok-xorb.files.items c.in_ok-xorb.xorb c.in_ok-xorb.ensures.xorb c.in_ok-xorb.ensures.files (g.S.Stepping.holder c.args.steps.now) (g.S.Stepping.holder c.register.new.self) _ (c.has_no_chunks-is_empty.ensures.some c.if-not-is_empty.true) c.in_err-_added.ensures.refused

pub returns-in_err-_added-clause-refused : goal.returns-in_err-_added-clause-refused
returns-in_err-_added-clause-refused g c =
    exit_with (IsUnclosed (RegistersAtMost c.args.aggregate c.args.next.now) c.args.aggregate c.args.next.now (g.S.Stepping.holder c.args.steps.now) (g.S.Stepping.holder c.register.new.self)) _ _ c.from_residual-in_err-_added.ensures.1
    (unclosed_refused c.args.aggregate c.args.next.now c.in_ok-xorb.files.items c.in_ok-xorb.xorb c.in_ok-xorb.ensures.xorb c.in_ok-xorb.ensures.files (g.S.Stepping.holder c.args.steps.now) (g.S.Stepping.holder c.register.new.self) _ (c.has_no_chunks-is_empty.ensures.some c.if-not-is_empty.true) c.in_err-_added.ensures.refused)

pub complete_all-requires : goal.complete_all-requires
complete_all-requires g c = record { forms = forms_are c.args.aggregate c.args.next.now c.in_ok-xorb.files.items c.in_ok-xorb.xorb c.in_ok-xorb.ensures.xorb c.in_ok-xorb.ensures.files c.requires.forms }

pub returns-clause-closes : goal.returns-clause-closes
returns-clause-closes g c =
    let r : WasRegistered c.args.aggregate c.args.next.now c.in_ok-xorb.xorb (g.S.Stepping.holder c.args.steps.now) (g.S.Stepping.holder c.if-not-is_empty.steps) =
    elim c.if-not-is_empty.branch [
      | then-not-is_empty+in_ok-_added w ↦ inr (
        w.in_ok-_added._added,
        c.has_no_chunks-is_empty.ensures.some w.if-not-is_empty.true,
        subst (λ s. SawRegister (raw_leaves c.in_ok-xorb.xorb) c.args.next.now (g.S.Stepping.holder c.args.steps.now) (g.S.Stepping.holder s) w.in_ok-_added._added) (sym w.steps-is) w.in_ok-_added.ensures.saw,
      )
      | else-not-is_empty w ↦ inl (c.has_no_chunks-is_empty.ensures.none w.if-not-is_empty.false, ap g.S.Stepping.holder w.steps-is)
    ] in
    on_ok_weaker c.complete_all.result (λ completes. closes_either c.args.aggregate c.args.next.now c.in_ok-xorb.files.items c.in_ok-xorb.xorb c.in_ok-xorb.ensures.xorb c.in_ok-xorb.ensures.files (g.S.Stepping.holder c.args.steps.now) (g.S.Stepping.holder c.if-not-is_empty.steps) (g.S.Stepping.holder c.complete_all.new.steps) r completes) c.complete_all.ensures.completed

pub returns-clause-follows : goal.returns-clause-follows
returns-clause-follows g c =
    let r : WasRegistered c.args.aggregate c.args.next.now c.in_ok-xorb.xorb (g.S.Stepping.holder c.args.steps.now) (g.S.Stepping.holder c.if-not-is_empty.steps) =
    elim c.if-not-is_empty.branch [
      | then-not-is_empty+in_ok-_added w ↦ inr (
        w.in_ok-_added._added,
        c.has_no_chunks-is_empty.ensures.some w.if-not-is_empty.true,
        subst (λ s. SawRegister (raw_leaves c.in_ok-xorb.xorb) c.args.next.now (g.S.Stepping.holder c.args.steps.now) (g.S.Stepping.holder s) w.in_ok-_added._added) (sym w.steps-is) w.in_ok-_added.ensures.saw,
      )
      | else-not-is_empty w ↦ inl (c.has_no_chunks-is_empty.ensures.none w.if-not-is_empty.false, ap g.S.Stepping.holder w.steps-is)
    ] in
    (most_either c.args.aggregate c.args.next.now c.in_ok-xorb.files.items c.in_ok-xorb.xorb c.in_ok-xorb.ensures.xorb c.in_ok-xorb.ensures.files (g.S.Stepping.holder c.args.steps.now) (g.S.Stepping.holder c.if-not-is_empty.steps) (g.S.Stepping.holder c.complete_all.new.steps) r c.complete_all.ensures.few).follows

pub returns-clause-few : goal.returns-clause-few
returns-clause-few g c =
    let r : WasRegistered c.args.aggregate c.args.next.now c.in_ok-xorb.xorb (g.S.Stepping.holder c.args.steps.now) (g.S.Stepping.holder c.if-not-is_empty.steps) =
    elim c.if-not-is_empty.branch [
      | then-not-is_empty+in_ok-_added w ↦ inr (
        w.in_ok-_added._added,
        c.has_no_chunks-is_empty.ensures.some w.if-not-is_empty.true,
        subst (λ s. SawRegister (raw_leaves c.in_ok-xorb.xorb) c.args.next.now (g.S.Stepping.holder c.args.steps.now) (g.S.Stepping.holder s) w.in_ok-_added._added) (sym w.steps-is) w.in_ok-_added.ensures.saw,
      )
      | else-not-is_empty w ↦ inl (c.has_no_chunks-is_empty.ensures.none w.if-not-is_empty.false, ap g.S.Stepping.holder w.steps-is)
    ] in
    most_either c.args.aggregate c.args.next.now c.in_ok-xorb.files.items c.in_ok-xorb.xorb c.in_ok-xorb.ensures.xorb c.in_ok-xorb.ensures.files (g.S.Stepping.holder c.args.steps.now) (g.S.Stepping.holder c.if-not-is_empty.steps) (g.S.Stepping.holder c.complete_all.new.steps) r c.complete_all.ensures.few

pub returns-clause-refused : goal.returns-clause-refused
returns-clause-refused g c =
    let r : WasRegistered c.args.aggregate c.args.next.now c.in_ok-xorb.xorb (g.S.Stepping.holder c.args.steps.now) (g.S.Stepping.holder c.if-not-is_empty.steps) =
    elim c.if-not-is_empty.branch [
      | then-not-is_empty+in_ok-_added w ↦ inr (
        w.in_ok-_added._added,
        c.has_no_chunks-is_empty.ensures.some w.if-not-is_empty.true,
        subst (λ s. SawRegister (raw_leaves c.in_ok-xorb.xorb) c.args.next.now (g.S.Stepping.holder c.args.steps.now) (g.S.Stepping.holder s) w.in_ok-_added._added) (sym w.steps-is) w.in_ok-_added.ensures.saw,
      )
      | else-not-is_empty w ↦ inl (c.has_no_chunks-is_empty.ensures.none w.if-not-is_empty.false, ap g.S.Stepping.holder w.steps-is)
    ] in
    IfErr-weaker c.complete_all.result (IsClosingError (records_of c.in_ok-xorb.files.items) (g.S.Stepping.holder c.if-not-is_empty.steps) (g.S.Stepping.holder c.complete_all.new.steps)) (IsUnclosed (RegistersAtMost c.args.aggregate c.args.next.now) c.args.aggregate c.args.next.now (g.S.Stepping.holder c.args.steps.now) (g.S.Stepping.holder c.complete_all.new.steps))
    (λ e is. error_either c.args.aggregate c.args.next.now c.in_ok-xorb.files.items c.in_ok-xorb.xorb c.in_ok-xorb.ensures.xorb c.in_ok-xorb.ensures.files (g.S.Stepping.holder c.args.steps.now) (g.S.Stepping.holder c.if-not-is_empty.steps) (g.S.Stepping.holder c.complete_all.new.steps) r c.complete_all.ensures.first e is) c.complete_all.ensures.refused
