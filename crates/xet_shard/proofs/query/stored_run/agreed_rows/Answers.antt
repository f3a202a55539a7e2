use Rattle.std.proofs.Common.{◌≡◌, List, arith, map, nat_eq, refl, rules, sym, true, false, ℕ}
use Rattle.std.proofs.lemmas.Result.{err_from_is_err_and}
use Rattle.std.specs.Cmp.Lexicographic.{pointwise}
use Rattle.xet_shard.specs.Queries.{kept_hash}
use Rattle.xet_shard_format.specs.Rows.{rows_in}
use Rattle.xet_shard.proofs.Agreeing.{query_left, row_agrees, row_differs, row_here, row_refused, rows_end, query_ends}
use Rattle.xet_shard_format.specs.theorems.RowList.{length-rows_in}
use Rattle.xet_shard_format.specs.theorems.Steps.{none_lent}
use Rattle.xet_shard.proofs.query.stored_run.agreed_rows.Goals as goal
use Rattle.xet_shard.proofs.query.stored_run.agreed_rows.Goals.{then-loop-done-test+else-done-query, else-loop-done-test}

pub returns-then-ne-clause-exact : goal.returns-then-ne-clause-exact
returns-then-ne-clause-exact c =
    let keep = kept_hash c.args.key.now in
    let ks : List (List ℕ) = map keep c.args.query.now in
    let rows = rows_in c.args.count c.args.bytes.now in
    let other : pointwise nat_eq c.kept_hash.result c.row_of-row.result.hash ≡ false = search rules in
    sym (row_differs ks c.args.end rows _ c.loop-done.done c.loop-done.to c.kept_hash.result c.row_of-row.result (query_left keep c.args.query.now c.loop-done.done _ c.kept_hash.result c.if-done-query.true c.index-query-done.is c.kept_hash.ensures)
    (row_here c.loop-done.done c.args.count c.args.bytes.now _ c.row_of-row.result c.loop-done-test.true c.requires c.row_of-row.ensures refl) other c.loop-done.invariant.so_far)

pub returns-in_err-to-clause-exact : goal.returns-in_err-to-clause-exact
returns-in_err-to-clause-exact c =
    let p = err_from_is_err_and c.from_residual.result c.from_residual.ensures.1 in
    let keep = kept_hash c.args.key.now in
    let ks : List (List ℕ) = map keep c.args.query.now in
    let rows = rows_in c.args.count c.args.bytes.now in
    let same : pointwise nat_eq c.kept_hash.result c.row_of-row.result.hash ≡ true = search rules in
    rw (p.1, p.2) (sym (row_refused ks c.args.end rows _ c.loop-done.done c.loop-done.to c.in_err-to.field-0.0 c.kept_hash.result c.row_of-row.result (query_left keep c.args.query.now c.loop-done.done _ c.kept_hash.result c.if-done-query.true c.index-query-done.is c.kept_hash.ensures)
    (row_here c.loop-done.done c.args.count c.args.bytes.now _ c.row_of-row.result c.loop-done-test.true c.requires c.row_of-row.ensures refl) same (sym c.in_err-to.ensures.exact) c.loop-done.invariant.so_far))

pub loop-done-preserved : goal.loop-done-preserved
loop-done-preserved c =
    let keep = kept_hash c.args.key.now in
    let ks : List (List ℕ) = map keep c.args.query.now in
    let rows = rows_in c.args.count c.args.bytes.now in
    let same : pointwise nat_eq c.kept_hash.result c.row_of-row.result.hash ≡ true = search rules in
    record {
      so_far = row_agrees ks c.args.end rows _ c.loop-done.done c.loop-done.to c.in_ok-to.to c.kept_hash.result c.row_of-row.result (query_left keep c.args.query.now c.loop-done.done _ c.kept_hash.result c.if-done-query.true c.index-query-done.is c.kept_hash.ensures)
          (row_here c.loop-done.done c.args.count c.args.bytes.now _ c.row_of-row.result c.loop-done-test.true c.requires c.row_of-row.ensures refl) same (sym c.in_ok-to.ensures.exact) c.loop-done.invariant.so_far;
      within = omega arith;
      hashes = omega (arith, c.if-done-query.true);
      behind = omega (arith, c.in_ok-to.ensures.behind, c.loop-done.invariant.behind);
    }

pub returns-clause-exact : goal.returns-clause-exact
returns-clause-exact c =
    let ks : List (List ℕ) = map (kept_hash c.args.key.now) c.args.query.now in
    let rows = rows_in c.args.count c.args.bytes.now in
    elim c.loop-done-test.branch [
      | then-loop-done-test+else-done-query w ↦ sym (query_ends ks c.args.end rows _ c.loop-done.done c.loop-done.to (none_lent (kept_hash c.args.key.now) c.args.query.now c.loop-done.done w.if-done-query.false) c.loop-done.invariant.so_far)
      | else-loop-done-test w ↦ sym (rows_end ks c.args.end rows _ c.loop-done.done c.loop-done.to (omega (arith, length-rows_in c.args.count c.args.bytes.now, w.loop-done-test.false)) c.loop-done.invariant.so_far)
    ]
