use Rattle.std.proofs.Common.{◌≡◌, ◌∙◌, ◌⊎◌, ◌++◌, List, ap, arith, inl, inr, length, length-append, refl, subst, sym, take, true, ℕ}
use Rattle.std.proofs.lemmas.List.{length-take-le}
use Rattle.xet_hash.specs.declared.error.StoreError.{StoreError}
use Rattle.xet_hash.specs.declared.error.StoreError.TheVariants.{Io}
use Rattle.xet_hash.specs.declared.error.Place.TheVariants.{Input}
use Rattle.xet_xorb_chunk.specs.Passing.{FailsPassing, RefusesMore, WritesWhole}
use Rattle.xet_base.specs.theorems.Exits.{exit_with}
use Rattle.xet_xorb_chunk.specs.theorems.Passed.{written_after}
use Rattle.xet_xorb_chunk.proofs.Prefixes.{block_prefix, taken_prefix}
use Rattle.xet_xorb_chunk.specs.theorems.Streamed.{block_refused, holds_len, writes_whole}
use Rattle.xet_base.specs.theorems.Written.{block_fed}
use Rattle.xet_xorb_chunk.proofs.stream.feed_all.Goals as goal

pub returns-in_err-count-clause-errors : goal.returns-in_err-count-clause-errors
returns-in_err-count-clause-errors g c = λ told.
    let max_chunk = c.args.decoder.now.max_chunk in
    let left = g.R.Source.left c.args.r.now in
    let tells = g.W.Sink.tells c.args.w.now ≡ true in
    let old = g.W.Sink.written c.args.w.now in
    let now = g.W.Sink.written c.reads.w in
    let i = c.reads.invariant in
    let h = i.held in
    exit_with (λ (e : StoreError). FailsPassing max_chunk 0 left tells old now e ⊎ ((e ≡ Io Input) × (tells → WritesWhole max_chunk left old now))) _ _ c.from_residual.ensures.1
    (inr (c.in_err-count.ensures.errors, λ t. writes_whole c.reads.decoder max_chunk left h.0 _ h.1 old now i.max_chunk h.2 (h.3 told) (h.4 t)))

pub returns-then-count-fed_len-clause-errors : goal.returns-then-count-fed_len-clause-errors
returns-then-count-fed_len-clause-errors g c = λ told.
    let i = c.reads.invariant in
    let h = i.held in
    let next = (c.in_ok-count.ensures.told (i.source_tells ∙ told)).next in
    let whole = block_fed _ h.0 _ c.read_some.new.buf _ c.in_ok-count.count (h.3 told) next in
    let fed = holds_len c.reads.decoder h.0 h.1 h.2 in
    let bound = c.requires.bound told in
    let size = length-take-le c.in_ok-count.count c.read_some.new.buf c.in_ok-count.ensures.bound in
    let rest = g.R.Source.left c.read_some.new.source in
    absurd
    (omega (
      arith,
      fed,
      bound,
      size,
      c.fed_len.ensures,
      ap length whole,
      length-append (h.0 ++ take c.in_ok-count.count c.read_some.new.buf) rest,
      length-append h.0 (take c.in_ok-count.count c.read_some.new.buf),
    ))

pub reads-preserved : goal.reads-preserved
reads-preserved g c =
    let i = c.reads.invariant in
    let h = i.held in
    let f = c.in_ok-feed.ensures.fed h.0 h.1 h.2 in
    let piece : List ℕ = take c.in_ok-count.count c.read_some.new.buf in
    record {
      whole = c.in_ok-feed.ensures.whole.1 refl;
      max_chunk = c.in_ok-feed.ensures.max_chunk ∙ i.max_chunk;
      room = omega (arith, c.in_ok-feed.ensures.len, length-take-le c.in_ok-count.count c.read_some.new.buf c.in_ok-count.ensures.bound, c.fed_len.ensures, i.room);
      held = (
        h.0 ++ piece,
        h.1 ++ f.0,
        f.1,
        λ told. block_fed _ h.0 _ c.read_some.new.buf _ c.in_ok-count.count (h.3 told) (c.in_ok-count.ensures.told (i.source_tells ∙ told)).next,
        λ told. written_after _ _ _ h.1 f.0 (h.4 told) (f.2 (i.sink_tells ∙ told)),
      );
      source_tells = c.in_ok-count.ensures.frame.tells ∙ i.source_tells;
      sink_tells = c.in_ok-feed.ensures.frame.tells ∙ i.sink_tells;
      source_later = omega (arith, c.in_ok-count.ensures.frame.later, i.source_later);
      sink_later = omega (arith, c.in_ok-feed.ensures.frame.later, i.sink_later);
    }

pub returns-in_err-feed-clause-errors : goal.returns-in_err-feed-clause-errors
returns-in_err-feed-clause-errors g c = λ told.
    let max_chunk = c.args.decoder.now.max_chunk in
    let left = g.R.Source.left c.args.r.now in
    let tells = g.W.Sink.tells c.args.w.now ≡ true in
    let now_tells = g.W.Sink.tells c.reads.w ≡ true in
    let old = g.W.Sink.written c.args.w.now in
    let middle = g.W.Sink.written c.reads.w in
    let now = g.W.Sink.written c.feed.new.w in
    let i = c.reads.invariant in
    let h = i.held in
    let next = (c.in_ok-count.ensures.told (i.source_tells ∙ told)).next in
    let whole = block_fed _ h.0 _ c.read_some.new.buf _ c.in_ok-count.count (h.3 told) next in
    exit_with (λ (e : StoreError). FailsPassing max_chunk 0 left tells old now e ⊎ ((e ≡ Io Input) × (tells → WritesWhole max_chunk left old now))) _ _ c.from_residual-in_err-feed.ensures.1
    (inl (block_refused max_chunk left (h.0 ++ take c.in_ok-count.count c.read_some.new.buf) _ h.1 tells now_tells old middle now _ whole (λ t. i.sink_tells ∙ t) h.4
    (subst (λ (m : ℕ). RefusesMore m (h.0 ++ take c.in_ok-count.count c.read_some.new.buf) h.1 now_tells middle now c.in_err-feed.field-0.0) i.max_chunk
    (c.in_err-feed.ensures.errors h.0 h.1 h.2))))

pub returns-in_err-count-clause-consumed : goal.returns-in_err-count-clause-consumed
returns-in_err-count-clause-consumed g c = λ told.
    let i = c.reads.invariant in
    let h = i.held in
    taken_prefix (g.R.Source.left c.args.r.now) h.0 (g.R.Source.left c.read_some.new.source)
    (h.3 told ∙ ap (λ (x : List ℕ). h.0 ++ x) (sym (c.in_err-count.ensures.told (i.source_tells ∙ told))))

pub returns-then-count-eq0-clause-consumed : goal.returns-then-count-eq0-clause-consumed
returns-then-count-eq0-clause-consumed g c = λ told. let i = c.reads.invariant in block_prefix _ _ _ c.read_some.new.buf _ c.in_ok-count.count (i.held.3 told) (c.in_ok-count.ensures.told (i.source_tells ∙ told)).next

pub returns-then-count-fed_len-clause-consumed : goal.returns-then-count-fed_len-clause-consumed
returns-then-count-fed_len-clause-consumed g c = λ told. let i = c.reads.invariant in block_prefix _ _ _ c.read_some.new.buf _ c.in_ok-count.count (i.held.3 told) (c.in_ok-count.ensures.told (i.source_tells ∙ told)).next

pub returns-in_err-feed-clause-consumed : goal.returns-in_err-feed-clause-consumed
returns-in_err-feed-clause-consumed g c = λ told. let i = c.reads.invariant in block_prefix _ _ _ c.read_some.new.buf _ c.in_ok-count.count (i.held.3 told) (c.in_ok-count.ensures.told (i.source_tells ∙ told)).next
