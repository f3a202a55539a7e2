use Rattle.std.proofs.Common.{◌∙◌, ◌+◌, ◌-◌, ◌*◌, ◌<◌, None, Option, Some, ap, arith, drop, take, List, ℕ}
use Rattle.std.proofs.lemmas.Result.{err_from_is_err_and}
use Rattle.xet_shard.specs.Queries.{chunk_place, chunk_table, place_before}
use Rattle.xet_shard.proofs.Tables.{chunks_index, chunks_refused, faulted, item_before, place_answer, place_other, place_same}
use Rattle.xet_shard.proofs.query.lookup_search.kept_chunk_place.Goals as goal

pub returns-in_err-index-clause-exact : goal.returns-in_err-index-clause-exact
returns-in_err-index-clause-exact g c = λ told.
    let p = err_from_is_err_and c.from_residual.result c.from_residual.ensures.1 in
    rw (p.1, p.2) (chunks_refused c.args.f.now (g.R.ReadAt.bytes c.args.reader.now) (λ (place : Option (ℕ × ℕ)). place) c.args.first c.in_err-index.field-0.0 c.requires (c.in_err-index.ensures.exact told))

pub returns-then-index-eq0-clause-exact : goal.returns-then-index-eq0-clause-exact
returns-then-index-eq0-clause-exact g c = λ told.
    let f = c.args.f.now in
    let whole = g.R.ReadAt.bytes c.args.reader.now in
    place_answer f whole c.args.first c.in_ok-index.index None c.requires (c.in_ok-index.ensures.exact told) (ap (λ (k : ℕ). place_before c.args.first k (chunk_table f whole)) c.if-index-eq0.true)

pub returns-in_err-fill-clause-exact : goal.returns-in_err-fill-clause-exact
returns-in_err-fill-clause-exact g c = λ told.
    let p = err_from_is_err_and c.from_residual-in_err-fill.result c.from_residual-in_err-fill.ensures.1 in
    let f = c.args.f.now in
    let whole = g.R.ReadAt.bytes c.args.reader.now in
    let i = c.in_ok-index.ensures in
    let there = item_before f whole c.args.first c.in_ok-index.index _ (i.exact told) (omega (arith, c.if-index-eq0.false)) i.within i.frame.same in
    (c.in_ok-index.index, (chunks_index f whole c.args.first c.in_ok-index.index (i.exact told)).0, rw (p.1, p.2) (faulted (λ (place : Option (ℕ × ℕ)). place) c.in_err-fill.field-0.0 (chunk_place f c.args.first c.in_ok-index.index whole) (c.in_err-fill.ensures.fault (i.frame.tells ∙ told) there)))

pub returns-then-word-first-clause-exact : goal.returns-then-word-first-clause-exact
returns-then-word-first-clause-exact g c = λ told.
    let f = c.args.f.now in
    let whole = g.R.ReadAt.bytes c.args.reader.now in
    let index = c.in_ok-index.index in
    let i = c.in_ok-index.ensures in
    let some : 0 < index = omega (arith, c.if-index-eq0.false) in
    let read = c.in_ok-fill.ensures.told (i.frame.tells ∙ told) (item_before f whole c.args.first index _ (i.exact told) some i.within i.frame.same) ∙ ap (λ (b : List ℕ). take 16 (drop (f.chunk_lookup_offset + 16 * (index - 1)) b)) i.frame.same in
    place_answer f whole c.args.first index None c.requires (i.exact told) (place_other f whole c.args.first index c.fill.new.buf c.word.result some i.within read c.word.ensures c.if-word-first.true)

pub returns-clause-exact : goal.returns-clause-exact
returns-clause-exact g c = λ told.
    let f = c.args.f.now in
    let whole = g.R.ReadAt.bytes c.args.reader.now in
    let index = c.in_ok-index.index in
    let i = c.in_ok-index.ensures in
    let some : 0 < index = omega (arith, c.if-index-eq0.false) in
    let place = place_same f whole c.args.first index c.fill.new.buf c.word.result c.half_word.result c.half_word-2.result some i.within
    (c.in_ok-fill.ensures.told (i.frame.tells ∙ told) (item_before f whole c.args.first index _ (i.exact told) some i.within i.frame.same) ∙ ap (λ (b : List ℕ). take 16 (drop (f.chunk_lookup_offset + 16 * (index - 1)) b)) i.frame.same)
    c.word.ensures c.half_word.ensures c.half_word-2.ensures c.if-word-first.false in
    place_answer f whole c.args.first index (Some (c.half_word.result, c.half_word-2.result)) c.requires (i.exact told) place
