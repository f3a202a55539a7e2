use Rattle.std.proofs.Common.{◌≡◌, ◌∙◌, ◌++◌, ◌∷◌, [], ap, arith, length-drop, slice_range, sym, true, List, ℕ, ◌+◌, subst}
use Rattle.std.proofs.lemmas.List.{append-nil, take_rest}
use Rattle.xet_xorb_chunk.specs.Passing.{FailsPassing}
use Rattle.xet_xorb_chunk.specs.Stream.{Fails, prefix_of}
use Rattle.xet_base.specs.theorems.Exits.{exit_with}
use Rattle.xet_xorb_chunk.specs.theorems.Passed.{moves_append, moves_one, refuses_after, refuses_prefix, refuses_one_told, refuses_pass, stands_at, written_after}
use Rattle.xet_xorb_chunk.proofs.decoder.Tally.pass_whole.Goals as goal

pub returns-in_err-len-clause-errors : goal.returns-in_err-len-clause-errors
returns-in_err-len-clause-errors g c =
    let piece = c.args.piece.now in
    let told = g.W.Sink.tells c.args.w.now ≡ true in let written = g.W.Sink.written in
    let p = c.chunks.invariant.passed in
    let fails = subst (λ (b : List ℕ). prefix_of c.args.max_chunk b ≡ Fails c.in_err-len.field-0.0) (take_rest piece c.chunks.at) c.in_err-len.ensures.prefix in
    exit_with (FailsPassing c.args.max_chunk c.args.self.now.total piece told (written c.args.w.now) (written c.chunks.w)) _ _ c.from_residual.ensures.1
    (refuses_after c.args.max_chunk c.args.self.now.total piece p.0 c.chunks.self.total _ told (written c.args.w.now) (written c.chunks.w) (written c.chunks.w) _ p.1.passes p.2
    (refuses_prefix c.args.max_chunk c.chunks.self.total _ told (written c.chunks.w) _ fails))

pub returns-in_err-pass-clause-errors : goal.returns-in_err-pass-clause-errors
returns-in_err-pass-clause-errors g c =
    let piece = c.args.piece.now in
    let told = g.W.Sink.tells c.args.w.now ≡ true in let written = g.W.Sink.written in
    let p = c.chunks.invariant.passed in
    let s = stands_at c.args.max_chunk piece c.chunks.at c.in-Some.len c.chunks.invariant.within (rw c.in-Some.is at c.in_ok-len.ensures.prefix) in
    exit_with (FailsPassing c.args.max_chunk c.args.self.now.total piece told (written c.args.w.now) (written c.pass.new.w)) _ _ c.from_residual-in_err-pass.ensures.1
    (refuses_after c.args.max_chunk c.args.self.now.total piece p.0 c.chunks.self.total _ told (written c.args.w.now) (written c.chunks.w) (written c.pass.new.w) _ p.1.passes p.2
    (refuses_pass c.args.max_chunk c.chunks.self.total _ _ told (written c.chunks.w) (written c.pass.new.w) _ s.prefix
    (refuses_one_told c.chunks.self.total _ (g.W.Sink.tells c.chunks.w ≡ true) told (written c.chunks.w) (written c.pass.new.w) _ (λ t. c.chunks.invariant.tells ∙ t) c.in_err-pass.ensures.errors)))

pub chunks-preserved : goal.chunks-preserved
chunks-preserved g c =
    let piece = c.args.piece.now in
    let i = c.chunks.invariant in
    let p = i.passed in
    let s = stands_at c.args.max_chunk piece c.chunks.at c.in-Some.len i.within (rw c.in-Some.is at c.in_ok-len.ensures.prefix) in
    let chunk : List ℕ = slice_range piece (c.chunks.at + 8) (c.chunks.at + 8 + c.in-Some.len) in
    let one = moves_one c.args.max_chunk c.chunks.self c.pass.new.self _ _ chunk s.prefix c.in_ok-pass.ensures.total.0 c.in_ok-pass.ensures.total.1 s.behind (omega (arith, s.size, s.within, length-drop c.chunks.at piece)) c.in_ok-pass.ensures.counts c.in_ok-pass.ensures.stored in
    record {
      within = s.within;
      passed = (
        p.0 ++ chunk ∷ [],
        moves_append c.args.max_chunk c.args.self.now c.chunks.self c.pass.new.self _ _ _ p.0 (chunk ∷ []) p.1 one,
        λ told. written_after _ _ _ p.0 (chunk ∷ []) (p.2 told) (c.in_ok-pass.ensures.whole (i.tells ∙ told) ∙ ap (λ (x : List ℕ). g.W.Sink.written c.chunks.w ++ x) (sym (append-nil chunk))),
      );
      tells = c.in_ok-pass.ensures.frame.tells ∙ i.tells;
      later = omega (arith, c.in_ok-pass.ensures.frame.later, i.later);
    }
