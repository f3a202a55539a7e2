use Rattle.std.proofs.Common.{◌+◌, sym, arith}
use Rattle.xet_cut.proofs.Boundaries.{found_none, found_one, found_two, passed_none, passed_one, passed_two}
use Rattle.xet_cut.proofs.boundary.scan.Goals as goal

pub loop-i-init : goal.loop-i-init
loop-i-init c = record { to = omega arith; passed = passed_none c.args.gear.now c.args.bytes.now c.args.mask c.args.start }

pub returns-then-first-mask-eq0-clause-found : goal.returns-then-first-mask-eq0-clause-found
returns-then-first-mask-eq0-clause-found c =
    let i = c.loop-i.i in
    λ _. sym (found_one (i + 1) c.loop-i.invariant.passed (omega arith) (omega arith) c.if-first-mask-eq0.true)

pub returns-then-second-mask-eq0-clause-found : goal.returns-then-second-mask-eq0-clause-found
returns-then-second-mask-eq0-clause-found c =
    let i = c.loop-i.i in
    λ _. sym (found_two (i + 1) (i + 2) c.loop-i.invariant.passed (omega arith) (omega arith) (omega arith) c.if-first-mask-eq0.false c.if-second-mask-eq0.true)

pub returns-then-third-mask-eq0-clause-found : goal.returns-then-third-mask-eq0-clause-found
returns-then-third-mask-eq0-clause-found c =
    let i = c.loop-i.i in
    let half = passed_two (i + 1) (i + 2) c.loop-i.invariant.passed (omega arith) (omega arith) (omega arith) c.if-first-mask-eq0.false c.if-second-mask-eq0.false in
    λ _. sym (found_one (i + 3) half (omega arith) (omega arith) c.if-third-mask-eq0.true)

pub returns-then-fourth-mask-eq0-clause-found : goal.returns-then-fourth-mask-eq0-clause-found
returns-then-fourth-mask-eq0-clause-found c =
    let i = c.loop-i.i in
    let half = passed_two (i + 1) (i + 2) c.loop-i.invariant.passed (omega arith) (omega arith) (omega arith) c.if-first-mask-eq0.false c.if-second-mask-eq0.false in
    λ _. sym (found_two (i + 3) (i + 4) half (omega arith) (omega arith) (omega arith) c.if-third-mask-eq0.false c.if-fourth-mask-eq0.true)

pub loop-i-preserved : goal.loop-i-preserved
loop-i-preserved c =
    let i = c.loop-i.i in
    let half = passed_two (i + 1) (i + 2) c.loop-i.invariant.passed (omega arith) (omega arith) (omega arith) c.if-first-mask-eq0.false c.if-second-mask-eq0.false in
    record {
      to = omega arith;
      passed = passed_two (i + 3) (i + 4) half (omega arith) (omega arith) (omega arith) c.if-third-mask-eq0.false c.if-fourth-mask-eq0.false;
    }

pub returns-then-hash-mask-eq0-clause-found : goal.returns-then-hash-mask-eq0-clause-found
returns-then-hash-mask-eq0-clause-found c =
    λ _. sym (found_one (c.loop-j.j + 1) c.loop-j.invariant (omega arith) (omega arith) c.if-hash-mask-eq0.true)

pub loop-j-preserved : goal.loop-j-preserved
loop-j-preserved c = passed_one c.loop-j.invariant (omega arith) c.if-hash-mask-eq0.false

pub returns-clause-none : goal.returns-clause-none
returns-clause-none c = λ _. sym (found_none c.loop-j.invariant (omega arith))
