use Rattle.std.proofs.Common.{◌≢◌, ◌∙◌, nat_lt, true, false, Bool, List, Option, Result, Ok, ap, length, rules, subst, sym, ℕ}
use Rattle.std.proofs.lemmas.Result.{err_from_is_err_and}
use Rattle.xet_hash.specs.declared.error.StoreError.{StoreError}
use Rattle.xet_shard_format.specs.declared.record.FileDataSequenceEntry.{FileDataSequenceEntry}
use Rattle.xet_shard.specs.Queries.{run_in, xorb_table}
use Rattle.xet_codec.specs.Parsing.{GivesUnlessFault}
use Rattle.xet_shard.proofs.Asking.{direct_run_found, direct_run_empty, direct_run_fails}
use Rattle.xet_shard.proofs.Bisecting.{some_index}
use Rattle.xet_shard.proofs.info.MDBShardInfo.chunk_hash_dedup_query_direct.Goals as goal

pub returns-then-is_empty-clause-exact : goal.returns-then-is_empty-clause-exact
returns-then-is_empty-clause-exact g c = λ told.
    let f = c.args.self.now.metadata in
    let whole = g.R.ReadAt.bytes c.args.reader.now in
    let some = some_index (λ (i : ℕ × ℕ). nat_lt i.1 c.args.row) (xorb_table f whole) in
    (some.0, some.1, direct_run_empty f c.args.query.now c.args.row c.args.place some.0 whole (search rules))

pub returns-in_err-has_head-clause-exact : goal.returns-in_err-has_head-clause-exact
returns-in_err-has_head-clause-exact g c = λ told.
    let p = err_from_is_err_and c.from_residual.result c.from_residual.ensures.1 in
    let some : length c.args.query.now ≢ 0 = search rules in
    let found = c.in_err-has_head.ensures.exact told in
    (found.0, found.1, rw (p.1, p.2) (direct_run_fails (λ (there : Bool). there) c.args.self.now.metadata c.args.query.now c.args.row c.args.place found.0 (g.R.ReadAt.bytes c.args.reader.now) c.in_err-has_head.field-0.0 some found.2))

pub returns-then-branch-clause-exact : goal.returns-then-branch-clause-exact
returns-then-branch-clause-exact g c = λ told.
    let f = c.args.self.now.metadata in
    let whole = g.R.ReadAt.bytes c.args.reader.now in
    let some : length c.args.query.now ≢ 0 = search rules in
    let found = c.in_ok-has_head.ensures.exact told in (
      found.0,
      found.1,
      subst (λ (r : Result (Option (ℕ × FileDataSequenceEntry)) StoreError). GivesUnlessFault (λ x. x) c.run_in.result r)
          (ap (λ (b : List ℕ). run_in f c.args.query.now c.args.row c.args.place b) c.in_ok-has_head.ensures.frame.same
          ∙ direct_run_found f c.args.query.now c.args.row c.args.place found.0 whole true some (found.2 ∙ ap (λ (b : Bool). Ok b) c.if-branch.true))
          (c.run_in.ensures.exact (c.in_ok-has_head.ensures.frame.tells ∙ told)),
    )

pub returns-else-branch-clause-exact : goal.returns-else-branch-clause-exact
returns-else-branch-clause-exact g c = λ told.
    let f = c.args.self.now.metadata in
    let whole = g.R.ReadAt.bytes c.args.reader.now in
    let some : length c.args.query.now ≢ 0 = search rules in
    let found = c.in_ok-has_head.ensures.exact told in
    (found.0, found.1, sym (direct_run_found f c.args.query.now c.args.row c.args.place found.0 whole false some (found.2 ∙ ap (λ (b : Bool). Ok b) c.if-branch.false)))
