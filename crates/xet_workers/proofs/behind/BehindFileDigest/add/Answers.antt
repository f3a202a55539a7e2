use Rattle.std.proofs.Common.{◌++◌, ℕ, List, None, ap, refl, subst}
use Rattle.xet_clean.specs.Policies.{HasBytes}
use Rattle.xet_workers.proofs.Hashing.{has_all, moved, returned, waits}
use Rattle.xet_workers.proofs.behind.BehindFileDigest.add.Goals as goal

pub returns-then-may_start : goal.returns-then-may_start
returns-then-may_start g c = λ before has.
    let old = c.args.self.now in
    let kept = c.keep.new.self in
    let now = c.wait.new.self in
    let all = before ++ c.args.block.now in
    let same = moved old.generator kept.generator old.running kept.running old.waiting.items old.waiting.items before c.keep.ensures.same.0 c.keep.ensures.same.1 refl has in
    let more = waits kept.generator kept.running old.waiting.items kept.waiting.items before c.args.block.now (c.keep.ensures.waits c.if-keep.true) same in
    c.start.ensures all
    (moved now.generator now.generator None now.running kept.waiting.items now.waiting.items all refl c.wait.ensures.none (ap (λ v. v.items) c.wait.ensures.same)
    (returned kept.generator now.generator kept.running kept.waiting.items all c.wait.ensures.has more))

pub returns-else-may_start : goal.returns-else-may_start
returns-else-may_start g c = λ before has.
    let old = c.args.self.now in
    let kept = c.keep.new.self in
    waits kept.generator kept.running old.waiting.items kept.waiting.items before c.args.block.now (c.keep.ensures.waits c.if-keep.true)
    (moved old.generator kept.generator old.running kept.running old.waiting.items old.waiting.items before c.keep.ensures.same.0 c.keep.ensures.same.1 refl has)

pub returns-else-keep : goal.returns-else-keep
returns-else-keep g c = λ before has.
    let old = c.args.self.now in
    let kept = c.keep.new.self in
    let now = c.catch_up.new.self in
    let had = c.catch_up.ensures.has before (moved old.generator kept.generator old.running kept.running old.waiting.items kept.waiting.items before c.keep.ensures.same.0 c.keep.ensures.same.1 (c.keep.ensures.none c.if-keep.false) has) in
    has_all c.update.new.self now.running now.waiting.items (before ++ c.args.block.now) c.catch_up.ensures.none.0 c.catch_up.ensures.none.1
    (subst (λ (bytes : List ℕ). HasBytes c.update.new.self (before ++ bytes)) c.as_slice.ensures (c.update.ensures before had))
