use Rattle.std.proofs.Common.{rules, ◌≡◌, ◌++◌}
use Rattle.std.specs.Prelude.{Err}
use Rattle.xet_hash_files.specs.internal.Sources.{IsPartError}
use Rattle.xet_hash_files.proofs.Joining.{exit_back, exit_front, hashed_all, left_both}
use Rattle.xet_hash_files.proofs.workers.+halves.Goals as goal

pub hash_both-returns-in_err-all-clause-left : goal.hash_both-returns-in_err-all-clause-left
hash_both-returns-in_err-all-clause-left g t c = search (rules, left_both g.S.Source.tells g.S.Source.left g.S.Source.faults)

pub hash_both-returns-in_err-all-clause-refused : goal.hash_both-returns-in_err-all-clause-refused
hash_both-returns-in_err-all-clause-refused g t c =
    let tells = g.S.Source.tells in let left = g.S.Source.left in let faults = g.S.Source.faults in
    let limits = c.args.limits.now in
    let is : IsPartError tells left faults limits c.args.first c.args.front.now c.front-1.given.0 c.in_err-all.field-0.0 = search rules in
    exit_front tells left faults limits c.from_residual.result c.in_err-all.field-0.0 c.args.first c.from_residual.ensures.1 c.args.front.now c.front-1.given.0 c.args.back.now c.back-1.given.0 is

pub hash_both-returns-in_err-rest-clause-left : goal.hash_both-returns-in_err-rest-clause-left
hash_both-returns-in_err-rest-clause-left g t c = search (rules, left_both g.S.Source.tells g.S.Source.left g.S.Source.faults)

pub hash_both-returns-in_err-rest-clause-refused : goal.hash_both-returns-in_err-rest-clause-refused
hash_both-returns-in_err-rest-clause-refused g t c =
    let is : c.join_mut-a.result.1 ≡ Err c.in_err-rest.field-0.0 = search rules in
    search (rules, exit_back g.S.Source.tells g.S.Source.left g.S.Source.faults c.args.limits.now c.from_residual-in_err-rest.result c.join_mut-a.result.1 c.in_err-rest.field-0.0 c.args.first c.args.up c.from_residual-in_err-rest.ensures.1 is)

pub hash_both-returns-in_err-append-clause-left : goal.hash_both-returns-in_err-append-clause-left
hash_both-returns-in_err-append-clause-left g t c = search (rules, left_both g.S.Source.tells g.S.Source.left g.S.Source.faults)

pub hash_both-returns-clause-hashed : goal.hash_both-returns-clause-hashed
hash_both-returns-clause-hashed g t c =
    let all = c.in_ok-all.all.items in
    let rest = c.in_ok-rest.rest.items in
    let more : c.append.new.self.items ≡ all ++ rest = search rules in
    search (rules, hashed_all g.S.Source.tells g.S.Source.left g.S.Source.faults c.args.limits.now all rest c.append.new.self.items more)

pub hash_both-returns-clause-left : goal.hash_both-returns-clause-left
hash_both-returns-clause-left g t c = search (rules, left_both g.S.Source.tells g.S.Source.left g.S.Source.faults)
