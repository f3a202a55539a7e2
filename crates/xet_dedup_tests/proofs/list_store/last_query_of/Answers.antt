use Rattle.std.proofs.Common.{◌≡◌, ◌-◌, ℕ, suc, arith, drop, length, refl, subst, sym}
use Rattle.std.proofs.lemmas.List.{drop_all}
use Rattle.std.proofs.lemmas.Option.{slice_get_read}
use Rattle.std.specs.List.{AllByRecursion}
use Rattle.xet_dedup_tests.proofs.Logs.{IsOther, latest_at, none_latest, other_call, other_from}
use Rattle.xet_dedup_tests.proofs.list_store.last_query_of.Goals as goal

pub loop-at-init : goal.loop-at-init
loop-at-init c =
    let log = c.args.log.now in
    record {
      within = omega arith;
      others = subst (AllByRecursion IsOther) (sym (drop_all (length log) log (omega arith))) tt;
    }

pub returns-in-Asked : goal.returns-in-Asked
returns-in-Asked c = λ before entry ends.
    let log = c.args.log.now in
    let at : ℕ = c.loop-at.at - 1 in
    let next : c.loop-at.at ≡ suc at = omega (arith, c.loop-at-test.true) in
    latest_at log at c.index-log-at.result (slice_get_read log (length log) at c.index-log-at.result refl (omega (arith, c.loop-at-test.true, c.loop-at.invariant.within)) c.index-log-at.is)
    (λ other. subst IsOther c.in-Asked.is other) (subst (λ (n : ℕ). AllByRecursion IsOther (drop n log)) next c.loop-at.invariant.others) before entry ends

pub loop-at-preserved : goal.loop-at-preserved
loop-at-preserved c =
    let log = c.args.log.now in
    let at : ℕ = c.loop-at.at - 1 in
    let next : c.loop-at.at ≡ suc at = omega (arith, c.loop-at-test.true) in
    record {
      within = omega (arith, c.loop-at.invariant.within);
      others = other_from log at c.index-log-at.result (slice_get_read log (length log) at c.index-log-at.result refl (omega (arith, c.loop-at-test.true, c.loop-at.invariant.within)) c.index-log-at.is)
          (other_call c.index-log-at.result c.in_default.not-Asked) (subst (λ (n : ℕ). AllByRecursion IsOther (drop n log)) next c.loop-at.invariant.others);
    }

pub returns : goal.returns
returns c = λ before entry ends.
    let log = c.args.log.now in
    let none : c.loop-at.at ≡ 0 = omega (arith, c.loop-at-test.false) in
    absurd (none_latest log (subst (λ (n : ℕ). AllByRecursion IsOther (drop n log)) none c.loop-at.invariant.others) before entry ends)
