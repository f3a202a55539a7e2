use Rattle.std.proofs.Common.{◌≡◌, ◌∙◌, ◌++◌, ◌+◌, ◌⊎◌, List, arith, ap, length, Err, slice_range, subst, refl, true, ℕ, rules}
use Rattle.xet_hash.specs.declared.error.StoreError.{StoreError}
use Rattle.xet_hash.specs.declared.error.StoreError.TheVariants.{Io}
use Rattle.xet_hash.specs.declared.error.Place.TheVariants.{Input}
use Rattle.xet_codec.specs.Stops.{StopsWriting}
use Rattle.xet_xorb_chunk.specs.Passing.{RefusesMore}
use Rattle.xet_xorb_chunk.specs.Stream.{Decodes}
use Rattle.xet_base.specs.theorems.Exits.{exit_with}
use Rattle.xet_xorb_chunk.specs.theorems.Passed.{written_after}
use Rattle.xet_xorb.proofs.Ranged.{block_added, refused_between}
use Rattle.xet_xorb.proofs.ranges.feed_between.Goals as goal

pub returns-in_err-feed-clause-refused : goal.returns-in_err-feed-clause-refused
returns-in_err-feed-clause-refused g c = λ told len.
    let bytes = g.R.ReadAt.bytes c.args.reader.now in
    let seen = g.R.ReadAt.bytes c.reads.reader in
    let i = c.reads.invariant in
    let h = i.held in
    let at = c.reads.at in
    let n = c.min-count.result in
    let piece : List ℕ = c.read_exact.new.buf in
    let size = c.split_at_mut-piece.ensures.front_len in
    let read = c.in_ok-read_exact.ensures.told (i.reader_tells ∙ told) (omega (arith, len, ap length i.same, c.min-count.ensures, size, c.reads-test.true)) in
    let fed = block_added bytes seen h.0 piece c.args.from at n _ i.after i.same size (h.3 told len) read in
    exit_with (λ (e : StoreError). ((x : List (List ℕ)) × Decodes c.args.decoder.now.max_chunk 0 (slice_range bytes c.args.from c.args.to) x (Err e)) ⊎ (StopsWriting e ⊎ (e ≡ Io Input))) _ _
    c.from_residual-in_err-feed.ensures.1
    (refused_between bytes (h.0 ++ piece) c.args.from (at + n) c.args.to c.args.decoder.now.max_chunk h.1 _ _ _ _ (omega (arith, i.after)) (omega (arith, c.min-count.ensures, c.reads-test.true)) fed
    (subst (λ (m : ℕ). RefusesMore m (h.0 ++ piece) h.1 (g.W.Sink.tells c.reads.w ≡ true) (g.W.Sink.written c.reads.w) (g.W.Sink.written c.feed.new.w) c.in_err-feed.field-0.0) i.max_chunk
    (c.in_err-feed.ensures.errors h.0 h.1 h.2)))

pub reads-preserved : goal.reads-preserved
reads-preserved g c =
    let bytes = g.R.ReadAt.bytes c.args.reader.now in
    let i = c.reads.invariant in
    let h = i.held in
    let f = c.in_ok-feed.ensures.fed h.0 h.1 h.2 in
    let at = c.reads.at in
    let n = c.min-count.result in
    let piece : List ℕ = c.read_exact.new.buf in
    let size = c.split_at_mut-piece.ensures.front_len in
    record {
      whole = c.in_ok-feed.ensures.whole.1 refl;
      max_chunk = c.in_ok-feed.ensures.max_chunk ∙ i.max_chunk;
      after = omega (arith, i.after);
      within = omega (arith, c.min-count.ensures, c.reads-test.true);
      count = omega (arith, i.count, c.in_ok-feed.ensures.len, c.in_ok-read_exact.ensures.len, size);
      held = (
        h.0 ++ piece,
        h.1 ++ f.0,
        f.1,
        λ told len. block_added bytes (g.R.ReadAt.bytes c.reads.reader) h.0 piece c.args.from at n _ i.after i.same size (h.3 told len)
            (c.in_ok-read_exact.ensures.told (i.reader_tells ∙ told) (omega (arith, len, ap length i.same, c.min-count.ensures, size, c.reads-test.true))),
        λ told. written_after _ _ _ h.1 f.0 (h.4 told) (f.2 (i.sink_tells ∙ told)),
      );
      same = c.in_ok-read_exact.ensures.frame.same ∙ i.same;
      reader_tells = c.in_ok-read_exact.ensures.frame.tells ∙ i.reader_tells;
      sink_tells = c.in_ok-feed.ensures.frame.tells ∙ i.sink_tells;
      reader_later = omega (arith, c.in_ok-read_exact.ensures.frame.later, i.reader_later);
      lent = search rules;
      sink_later = omega (arith, c.in_ok-feed.ensures.frame.later, i.sink_later);
    }
