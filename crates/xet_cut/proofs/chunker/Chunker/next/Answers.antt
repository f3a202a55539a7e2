use Rattle.std.proofs.Common.{◌≡◌, ◌∙◌, Some, ap, refl}
use Rattle.xet_cut.proofs.Splitting.{step_cut, step_last, step_more}
use Rattle.xet_cut.proofs.chunker.Chunker.next.Goals as goal

pub returns-then-last-clause-chunk : goal.returns-then-last-clause-chunk
returns-then-last-clause-chunk c = rw (c.if-last.true, step_last c.args.self.now.settings c.args.self.now.buffered c.args.bytes.now c.in_default.ensures.value) c.in_ok-end.ensures.chunk

pub returns-then-last-clause-taken : goal.returns-then-last-clause-taken
returns-then-last-clause-taken c = rw (c.if-last.true, step_last c.args.self.now.settings c.args.self.now.buffered c.args.bytes.now c.in_default.ensures.value) refl

pub returns-then-last-clause-buffered : goal.returns-then-last-clause-buffered
returns-then-last-clause-buffered c = rw (c.if-last.true, step_last c.args.self.now.settings c.args.self.now.buffered c.args.bytes.now c.in_default.ensures.value) c.in_ok-end.ensures.buffered

pub append-requires : goal.append-requires
append-requires c = c.in_default.ensures.value

pub returns-in_default-clause-chunk : goal.returns-in_default-clause-chunk
returns-in_default-clause-chunk c = rw (c.if-last.false, step_more c.args.self.now.settings c.args.self.now.buffered c.args.bytes.now c.in_default.ensures.value) refl

pub returns-in_default-clause-taken : goal.returns-in_default-clause-taken
returns-in_default-clause-taken c = rw (c.if-last.false, step_more c.args.self.now.settings c.args.self.now.buffered c.args.bytes.now c.in_default.ensures.value) refl

pub returns-in_default-clause-buffered : goal.returns-in_default-clause-buffered
returns-in_default-clause-buffered c = rw (c.if-last.false, step_more c.args.self.now.settings c.args.self.now.buffered c.args.bytes.now c.in_default.ensures.value) c.append.ensures

pub returns-clause-chunk : goal.returns-clause-chunk
returns-clause-chunk c =
    let buffered_is : c.deref.result.now ≡ c.args.self.now.buffered = c.deref.ensures.value ∙ ap (λ v. v.buffered) c.self.view_is in
    rw (step_cut c.args.self.now.settings c.args.self.now.buffered c.args.bytes.now c.args.last c.in-Some.taken c.in-Some.ensures.value) (ap Some (rw buffered_is at c.in_ok-chunk.ensures.chunk))

pub returns-clause-taken : goal.returns-clause-taken
returns-clause-taken c = rw (step_cut c.args.self.now.settings c.args.self.now.buffered c.args.bytes.now c.args.last c.in-Some.taken c.in-Some.ensures.value) refl

pub returns-clause-buffered : goal.returns-clause-buffered
returns-clause-buffered c = rw (step_cut c.args.self.now.settings c.args.self.now.buffered c.args.bytes.now c.args.last c.in-Some.taken c.in-Some.ensures.value) c.clear.ensures
