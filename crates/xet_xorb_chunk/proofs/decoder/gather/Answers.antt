use Rattle.std.proofs.Common.{◌≡◌, ◌∙◌, ◌⊎◌, ◌+◌, ◌-◌, ◌++◌, List, Ok, ap, arith, inl, length, length-drop, slice_range, subst, take, ℕ}
use Rattle.std.proofs.lemmas.List.{take_rest}
use Rattle.xet_xorb_chunk.specs.Header.{Header}
use Rattle.xet_xorb_chunk.specs.Taking.{header_in}
use Rattle.xet_hash.specs.declared.error.StoreError.{StoreError}
use Rattle.xet_hash.specs.declared.error.StoreError.TheVariants.{OutOfMemory}
use Rattle.xet_xorb_chunk.specs.Stream.{Fails, prefix_of}
use Rattle.xet_base.specs.theorems.Exits.{exit_with}
use Rattle.xet_xorb_chunk.proofs.Gathered.{added_twice, fails_ahead, gathers_more}
use Rattle.xet_xorb_chunk.proofs.decoder.gather.Goals as goal

pub returns-in_err-end-clause-errors : goal.returns-in_err-end-clause-errors
returns-in_err-end-clause-errors c =
    exit_with (λ (e : StoreError). (prefix_of c.args.max_chunk (c.args.held.now.items ++ c.args.piece.now) ≡ Fails e) ⊎ (e ≡ OutOfMemory)) _ _ c.from_residual-in_err-end.ensures.1
    (inl (fails_ahead c.args.max_chunk c.args.held.now.items c.args.piece.now _ _ _ c.in_ok-first.ensures.bytes
    (subst (λ (b : List ℕ). prefix_of c.args.max_chunk b ≡ Fails c.in_err-end.field-0.0) c.deref.ensures.value c.in_err-end.ensures.refused)))

pub returns-clause-bytes : goal.returns-clause-bytes
returns-clause-bytes c =
    added_twice c.args.held.now.items c.args.piece.now c.fill.new.bytes.items _ _ _ c.in_ok-first.ensures.bytes c.in_ok-fill.ensures.bytes

pub returns-clause-gathered : goal.returns-clause-gathered
returns-clause-gathered c = λ short.
    let piece = c.args.piece.now in
    let n = c.in_ok-first.first in
    let some = rw c.in-Some.is at c.in_ok-end.ensures.some in
    let h : Header = some.0 in
    let size : c.in-Some.end ≡ 8 + h.stored = some.2 in
    let old = c.args.held.now.ok.0 in
    let first = c.fill.new.bytes.ok.0 in
    let last = c.fill-2.new.bytes.ok.0 in
    let is = c.deref.ensures.value in
    let tail : length (slice_range piece n (length piece)) ≡ length piece - n = ap length (take_rest piece n) ∙ length-drop n piece in
    let more = c.in_ok-fill.ensures.bytes ∙ ap (λ (x : List ℕ). c.fill.new.bytes.items ++ take c.in_ok-fill.field-0 x) (take_rest piece n) in
    gathers_more c.args.max_chunk c.args.held.now.items c.fill.new.bytes.items c.fill-2.new.bytes.items piece n c.in_ok-fill.field-0 h short c.in_ok-first.ensures.bytes
    c.in_ok-first.ensures.within (λ e. c.in_ok-first.ensures.full (omega (arith, old)))
    (λ e. let m = c.in_ok-first.ensures.max_chunk (omega (arith, old)) in omega (arith, m, first))
    (subst (λ (b : List ℕ). header_in c.args.max_chunk b ≡ Ok h) is some.1) (omega (arith, some.3, ap length is)) more (omega (arith, c.in_ok-fill.ensures.within, tail))
    (λ e. let f = c.in_ok-fill.ensures.filled (omega (arith, tail)) in omega (arith, f, last))
    (λ e. let r = c.in_ok-fill.ensures.max_chunk (omega (arith, first)) in omega (arith, r, last))
