use Rattle.std.proofs.Common.{◌≡◌, ◌∙◌, ◌-◌, ◌++◌, List, ap, arith, drop, length, sym, take, true, ℕ}
use Rattle.std.proofs.lemmas.List.{take_rest}
use Rattle.std.proofs.lemmas.Result.{IfErr-weaker, on_ok_weaker}
use Rattle.xet_xorb_chunk.specs.Passing.{FailsPassing}
use Rattle.xet_xorb_chunk.proofs.Absorbed.{absorbed, absorbs_refusal}
use Rattle.xet_xorb_chunk.proofs.decoder.ChunkDecoder.absorb.Given.{Over}
use Rattle.xet_xorb_chunk.proofs.decoder.ChunkDecoder.absorb.Goals as goal

-- nothing is buffered before what is left of the part
left : (g : Over) (c : goal.After-pass_whole-2 g) → c.complete.new.held.items ++ drop c.in_ok-taken.taken c.args.piece.now ≡ take (length c.args.piece.now - c.in_ok-taken.taken) (drop c.in_ok-taken.taken c.args.piece.now)
left g c =
    let none = c.in_ok-taken.ensures.rest.1 (omega (arith, c.in_ok-taken.ensures.within)) in
    ap (λ (x : List ℕ). x ++ drop c.in_ok-taken.taken c.args.piece.now) none ∙ sym (take_rest c.args.piece.now c.in_ok-taken.taken)

pub returns-clause-fed : goal.returns-clause-fed
returns-clause-fed g c =
    let self = c.args.self.now in let bytes = self.held.items ++ c.args.piece.now in
    let told = g.W.Sink.tells c.args.w.now ≡ true in let tells = g.W.Sink.tells c.complete.new.w ≡ true in
    let written = g.W.Sink.written in
    on_ok_weaker _
    (absorbed self.max_chunk self.passed _ _ bytes _ _ _ told tells (written c.args.w.now) (written c.complete.new.w) (written c.pass_whole-2.new.w) (left g c)
    (λ t. c.in_ok-taken.ensures.frame.tells ∙ t) c.in_ok-taken.ensures.passed)
    c.pass_whole-2.ensures.fed

pub returns-clause-errors : goal.returns-clause-errors
returns-clause-errors g c =
    let self = c.args.self.now in let bytes = self.held.items ++ c.args.piece.now in
    let told = g.W.Sink.tells c.args.w.now ≡ true in let tells = g.W.Sink.tells c.complete.new.w ≡ true in
    let written = g.W.Sink.written in
    IfErr-weaker _ _ (FailsPassing self.max_chunk self.passed.total bytes told (written c.args.w.now) (written c.pass_whole-2.new.w))
    (λ e r.
    absorbs_refusal self.max_chunk self.passed _ bytes _ _ told tells (written c.args.w.now) (written c.complete.new.w) (written c.pass_whole-2.new.w) e (left g c)
    (λ t. c.in_ok-taken.ensures.frame.tells ∙ t) c.in_ok-taken.ensures.passed r)
    c.pass_whole-2.ensures.errors
