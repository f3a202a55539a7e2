use Rattle.std.proofs.Common.{◌≡◌, ◌∙◌, ◌+◌, ◌++◌, ◌∷◌, Bor, List, ℕ, ap, drop, map, sym, subst}
use Rattle.std.proofs.lemmas.List.{drop_all}
use Rattle.std.proofs.lemmas.Result.{err_from_is_err_and}
use Rattle.xet_shard.specs.internal.Merging.{FirstAgrees, Rises, after_hash, not_below}
use Rattle.xet_shard.specs.Union.{Agree}
use Rattle.xet_shard.proofs.Merging.{agree_back, agree_first, agree_on, behind_rises, merged, merged_is, merged_rest, rest_rises}
use Rattle.xet_shard_format.specs.theorems.Steps.{left}
use Rattle.xet_shard.proofs.Uniting.{merge_step}
use Rattle.xet_shard.proofs.union.merge.Goals as goal

pub loop-this-preserved : goal.loop-this-preserved
loop-this-preserved g c =
    let hash = g.R.Record.hash_of in
    let now : Bor g.row.R.Denot → g.row.R.Denot = λ r. r.now in
    let x = c.this-item.result in
    let later = drop (c.loop-this.this-index + 1) c.args.ours.now in
    let rest = c.loop-this.rest.now in
    let inv = c.loop-this.invariant in
    let e = left c.args.ours.now c.loop-this.this-index x c.loop-this-test.true c.this-item.is in
    let others : c.in_ok-others.others.now ≡ not_below hash (hash x) rest = c.in_ok-others.ensures.rest ∙ ap (λ (h : List ℕ). not_below hash h rest) c.hash.ensures in
    let next : c.in_ok-rest.rest.now ≡ after_hash hash (hash x) (not_below hash (hash x) rest) = c.in_ok-rest.ensures.rest ∙ ap (after_hash hash (hash x)) others in
    let ours : Rises hash (x ∷ later) = subst (Rises hash) e inv.ours in
    record {
      ours = ours.1;
      theirs = subst (Rises hash) (sym next) (behind_rises hash (hash x) (not_below hash (hash x) rest) (rest_rises hash (hash x) rest inv.theirs));
      so_far = merge_step now hash c.loop-this.found.items c.push_below.new.found.items c.push.new.self.items _ _ c.in_ok-others.others.now rest c.in_ok-rest.rest.now later _ c.hash.result
          e c.hash.ensures c.in_ok-others.ensures.pushed c.in_ok-others.ensures.rest c.in_ok-rest.ensures.rest c.in_ok-push.ensures.items inv.so_far;
      agree = λ a. inv.agree
          (subst (λ (l : List g.row.R.Denot). Agree hash l rest) (sym e) (agree_back hash x later rest ours inv.theirs (subst (FirstAgrees hash x) others c.in_ok-rest.ensures.agrees) (subst (Agree hash later) next a)));
      disagree = λ a. subst (Agree hash later) (sym next) (agree_on hash x later rest (subst (λ (l : List g.row.R.Denot). Agree hash l rest) e (inv.disagree a)));
    }

pub returns-in_err-rest-clause-refused : goal.returns-in_err-rest-clause-refused
returns-in_err-rest-clause-refused g c =
    let hash = g.R.Record.hash_of in
    let x = c.this-item.result in
    let rest = c.loop-this.rest.now in
    let later = drop (c.loop-this.this-index + 1) c.args.ours.now in
    let e = left c.args.ours.now c.loop-this.this-index x c.loop-this-test.true c.this-item.is in
    let others : c.in_ok-others.others.now ≡ not_below hash (hash x) rest = c.in_ok-others.ensures.rest ∙ ap (λ (h : List ℕ). not_below hash h rest) c.hash.ensures in
    let p = err_from_is_err_and c.from_residual-in_err-rest.result c.from_residual-in_err-rest.ensures.1 in
    rw (p.1, p.2, c.in_err-rest.ensures.refused)
    (λ a. c.in_err-rest.ensures.differs (subst (FirstAgrees hash x) (sym others) (agree_first hash x later rest (subst (λ (l : List g.row.R.Denot). Agree hash l rest) e (c.loop-this.invariant.disagree a)))))

pub returns-clause-union : goal.returns-clause-union
returns-clause-union g c =
    let hash = g.R.Record.hash_of in
    let now : Bor g.row.R.Denot → g.row.R.Denot = λ r. r.now in
    let rest = c.loop-this.rest.now in
    let none = drop_all c.loop-this.this-index c.args.ours.now c.loop-this-test.false in
    c.in_ok-push_all.ensures ∙ ap (λ (l : List g.row.R.Denot). map now c.loop-this.found.items ++ l) (sym (merged_rest hash rest) ∙ ap (λ (l : List g.row.R.Denot). merged hash l rest) (sym none))
    ∙ c.loop-this.invariant.so_far ∙ merged_is hash c.args.ours.now c.args.theirs.now c.requires.ours c.requires.theirs

pub returns-clause-agree : goal.returns-clause-agree
returns-clause-agree g c =
    c.loop-this.invariant.agree (subst (λ (l : List g.row.R.Denot). Agree g.R.Record.hash_of l c.loop-this.rest.now) (sym (drop_all c.loop-this.this-index c.args.ours.now c.loop-this-test.false)) tt)
