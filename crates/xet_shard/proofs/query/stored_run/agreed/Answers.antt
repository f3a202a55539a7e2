use Rattle.std.proofs.Common.{◌∙◌, ◌+◌, ◌*◌, ◌≤◌, Err, List, ap, arith, drop, length, map, sym, take, ℕ, rules}
use Rattle.std.proofs.lemmas.Result.{err_from_is_err_and}
use Rattle.std.specs.Prelude.{Vec}
use Rattle.std.specs.Global.{Global}
use Rattle.xet_shard.specs.internal.ReaderBytes.{piece_at}
use Rattle.xet_shard.specs.Queries.{kept_hash}
use Rattle.xet_shard.proofs.Faulting.{piece_there}
use Rattle.xet_shard.proofs.OneRecord.{stops}
use Rattle.xet_shard_format.specs.Rows.{rows_in}
use Rattle.xet_shard.proofs.Agreeing.{block_agrees, block_differs, block_fails, block_read, is_given, query_ends, rows_end}
use Rattle.xet_shard_format.specs.theorems.RowList.{length-rows_in}
use Rattle.xet_shard_format.specs.theorems.Steps.{none_lent}
use Rattle.xet_shard.proofs.query.stored_run.agreed.Goals as goal
use Rattle.xet_shard.proofs.query.stored_run.agreed.Goals.{then-loop-done-test+else-done-query, else-loop-done-test}

pub returns-in_err-bytes-clause-exact : goal.returns-in_err-bytes-clause-exact
returns-in_err-bytes-clause-exact g c = λ told le.
    let p = err_from_is_err_and c.from_residual.result c.from_residual.ensures.1 in
    let whole = g.R.ReadAt.bytes c.args.reader.now in
    let now = g.R.ReadAt.bytes c.loop-done.reader in
    let some = c.at_once-some in
    let place = c.args.at + 48 * c.from.result in
    let len = 48 * c.from-in-loop-done.result in
    let there : place + len ≤ length now = omega (arith, le, ap length c.loop-done.invariant.same, c.from.ensures, c.from-in-loop-done.ensures, some.ensures.rows) in
    let e = c.in_err-bytes.field-0.0 in
    rw (p.1, p.2) (block_fails (map (kept_hash c.args.key.now) c.args.query.now) c.args.end (rows_in c.args.count (drop c.args.at whole)) _ c.loop-done.done c.loop-done.to some.result (c.loop-done.invariant.so_far told le) e
    (stops (λ (v : Vec ℕ Global). v.items) (λ x. x) e (take len (drop place now)) (piece_at place len now) _ (piece_there place len now there) (c.in_err-bytes.ensures.told (c.loop-done.invariant.tells ∙ told) there)))

pub returns-in_err-found-clause-exact : goal.returns-in_err-found-clause-exact
returns-in_err-found-clause-exact g c = λ told le.
    let p = err_from_is_err_and c.from_residual-in_err-found.result c.from_residual-in_err-found.ensures.1 in
    let whole = g.R.ReadAt.bytes c.args.reader.now in
    let some = c.at_once-some in
    let block = block_read (kept_hash c.args.key.now) c.args.query.now c.loop-done.done some.result c.args.count c.args.at c.args.end c.loop-done.to _ _ _ _ _ _ c.loop-done.invariant.same c.from.ensures
    (omega (arith, some.ensures.rows)) (omega arith) c.from-in-loop-done.ensures le (c.in_ok-bytes.ensures.told (c.loop-done.invariant.tells ∙ told)) c.deref.ensures.value in
    let e = c.in_err-found.field-0.0 in
    rw (p.1, p.2) (block_fails (map (kept_hash c.args.key.now) c.args.query.now) c.args.end (rows_in c.args.count (drop c.args.at whole)) _ c.loop-done.done c.loop-done.to some.result (c.loop-done.invariant.so_far told le) e
    (is_given {X = ℕ × ℕ} (Err e) _ (c.in_err-found.ensures.exact ∙ block) c.in_err-found.ensures.refused))

pub returns-then-found-some-clause-exact : goal.returns-then-found-some-clause-exact
returns-then-found-some-clause-exact g c = λ told le.
    let whole = g.R.ReadAt.bytes c.args.reader.now in
    let some = c.at_once-some in
    let block = block_read (kept_hash c.args.key.now) c.args.query.now c.loop-done.done some.result c.args.count c.args.at c.args.end c.loop-done.to _ _ _ _ _ _ c.loop-done.invariant.same c.from.ensures
    (omega (arith, some.ensures.rows)) (omega arith) c.from-in-loop-done.ensures le (c.in_ok-bytes.ensures.told (c.loop-done.invariant.tells ∙ told)) c.deref.ensures.value in
    let found = c.in_ok-found in
    block_differs (map (kept_hash c.args.key.now) c.args.query.now) c.args.end (rows_in c.args.count (drop c.args.at whole)) _ c.loop-done.done c.loop-done.to some.result (c.loop-done.invariant.so_far told le) found.found found.next
    (sym (found.ensures.exact ∙ block)) c.if-found-some.true

pub loop-done-preserved : goal.loop-done-preserved
loop-done-preserved g c =
    let whole = g.R.ReadAt.bytes c.args.reader.now in
    let some = c.at_once-some in
    let found = c.in_ok-found in
    let read = c.in_ok-bytes.ensures.frame in
    record {
      same = read.same ∙ c.loop-done.invariant.same;
      tells = read.tells ∙ c.loop-done.invariant.tells;
      later = omega (arith, read.later, c.loop-done.invariant.later);
      lent = search rules;
      so_far = λ told le.
          let block = block_read (kept_hash c.args.key.now) c.args.query.now c.loop-done.done some.result c.args.count c.args.at c.args.end c.loop-done.to _ _ _ _ _ _ c.loop-done.invariant.same c.from.ensures
          (omega (arith, some.ensures.rows)) (omega arith) c.from-in-loop-done.ensures le (c.in_ok-bytes.ensures.told (c.loop-done.invariant.tells ∙ told)) c.deref.ensures.value in
          block_agrees (map (kept_hash c.args.key.now) c.args.query.now) c.args.end (rows_in c.args.count (drop c.args.at whole)) _ c.loop-done.done c.loop-done.to some.result (c.loop-done.invariant.so_far told le) found.found found.next
          (sym (found.ensures.exact ∙ block)) (omega (arith, found.ensures.within, c.if-found-some.false));
      within = omega (arith, found.ensures.within, some.ensures.rows);
      hashes = omega (arith, found.ensures.within, some.ensures.hashes, c.if-done-query.true);
      behind = omega (arith, found.ensures.behind, c.loop-done.invariant.behind);
    }

pub returns-clause-exact : goal.returns-clause-exact
returns-clause-exact g c = λ told le.
    let whole = g.R.ReadAt.bytes c.args.reader.now in
    let keep = kept_hash c.args.key.now in
    let ks : List (List ℕ) = map keep c.args.query.now in
    let rows = rows_in c.args.count (drop c.args.at whole) in
    elim c.loop-done-test.branch [
      | then-loop-done-test+else-done-query w ↦ query_ends ks c.args.end rows _ c.loop-done.done c.loop-done.to (none_lent keep c.args.query.now c.loop-done.done w.if-done-query.false) (c.loop-done.invariant.so_far told le)
      | else-loop-done-test w ↦ rows_end ks c.args.end rows _ c.loop-done.done c.loop-done.to (omega (arith, length-rows_in c.args.count (drop c.args.at whole), w.loop-done-test.false)) (c.loop-done.invariant.so_far told le)
    ]
