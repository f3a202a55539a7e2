use Rattle.std.specs.Prelude.{◌==◌}
use Rattle.std.proofs.Common.{◌∙◌, ◌+◌, ◌*◌, ◌≤◌, ◌<◌, Bool, false, ap, arith, drop, length, sym, take, List, ℕ}
use Rattle.std.proofs.lemmas.Result.{err_from_is_err_and}
use Rattle.xet_shard.specs.Queries.{has_head}
use Rattle.xet_shard.proofs.Tables.{faulted, head_at_index, head_past, head_read, heads_index, heads_refused}
use Rattle.xet_shard.proofs.query.lookup_search.kept_head.Goals as goal

pub returns-in_err-index-clause-exact : goal.returns-in_err-index-clause-exact
returns-in_err-index-clause-exact g c = λ told.
    let p = err_from_is_err_and c.from_residual.result c.from_residual.ensures.1 in
    rw (p.1, p.2) (heads_refused c.args.f.now (g.R.ReadAt.bytes c.args.reader.now) (λ (there : Bool). there) c.args.row c.in_err-index.field-0.0 c.requires (c.in_err-index.ensures.exact told))

pub returns-then-index-count-clause-exact : goal.returns-then-index-count-clause-exact
returns-then-index-count-clause-exact g c = λ told.
    let f = c.args.f.now in
    let whole = g.R.ReadAt.bytes c.args.reader.now in
    let found = heads_index f whole c.args.row c.in_ok-index.index (c.in_ok-index.ensures.exact told) in
    (c.in_ok-index.index, found.0, head_at_index f whole c.args.row c.in_ok-index.index false c.requires found.1 (head_past f whole c.args.row c.in_ok-index.index (omega (arith, c.if-index-count.true))))

pub returns-in_err-fill-clause-exact : goal.returns-in_err-fill-clause-exact
returns-in_err-fill-clause-exact g c = λ told.
    let p = err_from_is_err_and c.from_residual-in_err-fill.result c.from_residual-in_err-fill.ensures.1 in
    let f = c.args.f.now in
    let whole = g.R.ReadAt.bytes c.args.reader.now in
    let found = heads_index f whole c.args.row c.in_ok-index.index (c.in_ok-index.ensures.exact told) in
    let there : f.xorb_lookup_offset + 12 * c.in_ok-index.index + 12 ≤ length (g.R.ReadAt.bytes c.bisecting_index.new.reader) = omega (arith, found.1, c.if-index-count.false, ap length c.in_ok-index.ensures.frame.same) in
    (c.in_ok-index.index, found.0, rw (p.1, p.2) (faulted (λ (there : Bool). there) c.in_err-fill.field-0.0 (has_head f c.args.row c.in_ok-index.index whole) (c.in_err-fill.ensures.fault (c.in_ok-index.ensures.frame.tells ∙ told) there)))

pub returns-clause-exact : goal.returns-clause-exact
returns-clause-exact g c = λ told.
    let f = c.args.f.now in
    let whole = g.R.ReadAt.bytes c.args.reader.now in
    let index = c.in_ok-index.index in
    let found = heads_index f whole c.args.row index (c.in_ok-index.ensures.exact told) in
    let lt : index < f.xorb_lookup_num_entry = omega (arith, c.if-index-count.false) in
    let there : f.xorb_lookup_offset + 12 * index + 12 ≤ length (g.R.ReadAt.bytes c.bisecting_index.new.reader) = omega (arith, found.1, lt, ap length c.in_ok-index.ensures.frame.same) in
    let read = c.in_ok-fill.ensures.told (c.in_ok-index.ensures.frame.tells ∙ told) there ∙ ap (λ (b : List ℕ). take 12 (drop (f.xorb_lookup_offset + 12 * index) b)) c.in_ok-index.ensures.frame.same in
    (index, found.0, head_at_index f whole c.args.row index _ c.requires found.1 (head_read f whole c.args.row index c.fill.new.buf lt read ∙ ap (λ (n : ℕ). n == c.args.row) (sym c.half_word.ensures)))
