use Rattle.std.proofs.Common.{length, arith, refl, ◌-◌, ◌+◌, ◌≡◌, ℕ, subst, sym}
use Rattle.std.proofs.lemmas.Option.{slice_get_read}
use Rattle.xet_store.proofs.Last.{IsNoQuery, NoneFrom, last_is, last_none, no_query, none_more}
use Rattle.xet_store.proofs.alone.last_query_of.Goals as goal

pub returns-in-Query : goal.returns-in-Query
returns-in-Query c = λ older newer before entry is ends.
    let history = c.args.history.now in
    let at : ℕ = c.loop-at.at - 1 in
    let next : at + 1 ≡ c.loop-at.at = omega (arith, c.loop-at-test.true) in
    last_is history older newer before entry is ends at c.index-history-at.result
    (slice_get_read history (length history) at c.index-history-at.result refl (omega (arith, c.loop-at-test.true, c.loop-at.invariant.within)) c.index-history-at.is)
    (λ none. subst IsNoQuery c.in-Query.is none) (subst (NoneFrom history) (sym next) c.loop-at.invariant.none)

pub loop-at-preserved : goal.loop-at-preserved
loop-at-preserved c =
    let history = c.args.history.now in
    let at : ℕ = c.loop-at.at - 1 in
    let next : at + 1 ≡ c.loop-at.at = omega (arith, c.loop-at-test.true) in
    record {
      within = omega (arith, c.loop-at.invariant.within);
      none = none_more history at c.index-history-at.result
          (slice_get_read history (length history) at c.index-history-at.result refl (omega (arith, c.loop-at-test.true, c.loop-at.invariant.within)) c.index-history-at.is)
          (no_query c.index-history-at.result c.in_default.not-Query) (subst (NoneFrom history) (sym next) c.loop-at.invariant.none);
    }

pub returns : goal.returns
returns c = λ older newer before entry is ends.
    let none : c.loop-at.at ≡ 0 = omega (arith, c.loop-at-test.false) in
    absurd (last_none c.args.history.now older newer before entry is ends (subst (NoneFrom c.args.history.now) none c.loop-at.invariant.none))
