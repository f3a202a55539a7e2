use Rattle.std.proofs.Common.{◌≡◌, ◌∙◌, ◌++◌, ◌∷◌, [], List, ap, drop, rules, slice_range, subst, sym, true, ℕ, ◌+◌}
use Rattle.std.proofs.lemmas.List.{append-nil}
use Rattle.xet_xorb_chunk.specs.Passing.{FailsPassing}
use Rattle.xet_xorb_chunk.specs.Stream.{Fails, prefix_of}
use Rattle.xet_base.specs.theorems.Exits.{exit_with}
use Rattle.xet_xorb_chunk.proofs.Completed.{completes_none, completes_seen, gather_refuses}
use Rattle.xet_xorb_chunk.specs.theorems.Prefixes.{prefix_few}
use Rattle.xet_xorb_chunk.proofs.Gathered.{fails_ahead}
use Rattle.xet_xorb_chunk.specs.theorems.Passed.{moves_one, refuses_prefix, refuses_pass}
use Rattle.xet_xorb_chunk.proofs.decoder.Tally.complete.Goals as goal

pub returns-in_err-taken-clause-errors : goal.returns-in_err-taken-clause-errors
returns-in_err-taken-clause-errors g c =
    let told = g.W.Sink.tells c.args.w.now ≡ true in
    let written = g.W.Sink.written c.args.w.now in
    exit_with (FailsPassing c.args.max_chunk c.args.self.now.total (c.args.held.now.items ++ c.args.piece.now) told written written) _ _ c.from_residual.ensures.1
    (gather_refuses c.args.max_chunk c.args.self.now.total (c.args.held.now.items ++ c.args.piece.now) told written _ c.in_err-taken.ensures.errors)

pub returns-in_err-len-clause-errors : goal.returns-in_err-len-clause-errors
returns-in_err-len-clause-errors g c =
    let told = g.W.Sink.tells c.args.w.now ≡ true in
    let written = g.W.Sink.written c.args.w.now in
    let fails = subst (λ (b : List ℕ). prefix_of c.args.max_chunk b ≡ Fails c.in_err-len.field-0.0) c.deref.ensures.value c.in_err-len.ensures.prefix in
    exit_with (FailsPassing c.args.max_chunk c.args.self.now.total (c.args.held.now.items ++ c.args.piece.now) told written written) _ _ c.from_residual-in_err-len.ensures.1
    (refuses_prefix c.args.max_chunk c.args.self.now.total _ told written _ (fails_ahead c.args.max_chunk c.args.held.now.items c.args.piece.now _ _ _ c.in_ok-taken.ensures.bytes fails))

pub returns-in_default-clause-passed : goal.returns-in_default-clause-passed
returns-in_default-clause-passed g c =
    ([], completes_none c.args.max_chunk c.args.self.now c.args.held.now.items _ c.args.piece.now _ c.in_ok-taken.ensures.bytes, λ told. sym (append-nil (g.W.Sink.written c.args.w.now)))

pub returns-in_err-pass-clause-errors : goal.returns-in_err-pass-clause-errors
returns-in_err-pass-clause-errors g c =
    let bytes = c.args.held.now.items ++ c.args.piece.now in
    let whole =
    completes_seen c.args.max_chunk c.args.held.now.items _ c.deref-2.result.now _ c.args.piece.now _ _ _ c.deref.ensures.value c.deref-2.ensures.value c.in_ok-taken.ensures.bytes c.in-Some.is c.in_ok-len.ensures.prefix
    (c.in_ok-taken.ensures.gathered c.requires.short) in
    let told = g.W.Sink.tells c.args.w.now ≡ true in
    let written = g.W.Sink.written in
    exit_with (FailsPassing c.args.max_chunk c.args.self.now.total bytes told (written c.args.w.now) (written c.pass.new.w)) _ _ c.from_residual-in_err-pass.ensures.1
    (refuses_pass c.args.max_chunk c.args.self.now.total bytes (slice_range c.deref-2.result.now 8 (8 + c.in-Some.len)) told (written c.args.w.now) (written c.pass.new.w) _ whole.prefix
    c.in_err-pass.ensures.errors)

pub returns-clause-passed : goal.returns-clause-passed
returns-clause-passed g c =
    let piece = c.args.piece.now in let bytes = c.args.held.now.items ++ piece in
    let whole =
    completes_seen c.args.max_chunk c.args.held.now.items _ c.deref-2.result.now _ c.args.piece.now _ _ _ c.deref.ensures.value c.deref-2.ensures.value c.in_ok-taken.ensures.bytes c.in-Some.is c.in_ok-len.ensures.prefix
    (c.in_ok-taken.ensures.gathered c.requires.short) in
    let chunk : List ℕ = slice_range c.deref-2.result.now 8 (8 + c.in-Some.len) in
    let written = g.W.Sink.written in
    let rest : c.clear.new.self.items ++ drop c.in_ok-taken.taken piece ≡ drop c.in_ok-taken.taken piece = ap (λ (x : List ℕ). x ++ drop c.in_ok-taken.taken piece) c.clear.ensures.items in (
      chunk ∷ [],
      moves_one c.args.max_chunk c.args.self.now c.pass.new.self bytes _ chunk whole.prefix c.in_ok-pass.ensures.total.0 c.in_ok-pass.ensures.total.1 (rest ∙ whole.behind) whole.within
          c.in_ok-pass.ensures.counts c.in_ok-pass.ensures.stored,
      λ told. c.in_ok-pass.ensures.whole told ∙ ap (λ (x : List ℕ). written c.args.w.now ++ x) (sym (append-nil chunk)),
    )

pub returns-clause-rest : goal.returns-clause-rest
returns-clause-rest g c =
    let none = c.clear.ensures.items in
    (ap (prefix_of c.args.max_chunk) none ∙ prefix_few c.args.max_chunk [] (search rules), λ some. none)
