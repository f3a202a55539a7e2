use Rattle.std.proofs.Common.{◌≡◌, ◌++◌, List, true, ℕ}
use Rattle.xet_hash.specs.declared.error.StoreError.{StoreError}
use Rattle.xet_xorb_chunk.specs.Decoder.{WasFed}
use Rattle.xet_xorb_chunk.specs.Passing.{RefusesMore}
use Rattle.xet_xorb_chunk.proofs.Absorbed.{fed_more, refused_more}
use Rattle.xet_base.specs.theorems.Exits.{exit_with}
use Rattle.xet_xorb_chunk.proofs.decoder.ChunkDecoder.feed.Goals as goal

pub returns-in_err-absorb-clause-errors : goal.returns-in_err-absorb-clause-errors
returns-in_err-absorb-clause-errors g c =
    let self = c.args.self.now in
    let piece = c.args.piece.now in
    let told = g.W.Sink.tells c.args.w.now ≡ true in
    let old = g.W.Sink.written c.args.w.now in
    let now = g.W.Sink.written c.absorb.new.w in
    exit_with (λ (e : StoreError). (fed : List ℕ) (before : List (List ℕ)) → WasFed self fed before → RefusesMore self.max_chunk (fed ++ piece) before told old now e) _ _
    c.from_residual.ensures.1
    (λ fed before holds. refused_more self piece fed before told old now _ c.in_err-absorb.ensures.errors holds)

pub returns-clause-fed : goal.returns-clause-fed
returns-clause-fed g c = λ fed before holds.
    fed_more c.args.self.now _ c.args.piece.now fed before _ (g.W.Sink.written c.args.w.now) (g.W.Sink.written c.absorb.new.w) c.in_ok-absorb.ensures.max_chunk c.in_ok-absorb.ensures.rest
    c.in_ok-absorb.ensures.fed holds
