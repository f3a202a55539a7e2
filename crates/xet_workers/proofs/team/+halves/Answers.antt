use Rattle.std.proofs.Common.{rules, ℕ, ◌≡◌, ◌+◌, ◌/◌, ◌++◌, arith, length, map, refl}
use Rattle.xet_workers.specs.Workers.{HaveEnded}
use Rattle.xet_workers.proofs.Teams.{ended_all, ended_first, later_both, ready_first, ready_split, taken_both, tell_both}
use Rattle.xet_workers.proofs.team.+halves.Goals as goal

pub work_shared-work-requires-clause-ready : goal.work_shared-work-requires-clause-ready
work_shared-work-requires-clause-ready g t c =
    ready_first g.S.Source.tells g.S.Source.left g.S.Source.faults g.J.Naming.store (λ s. record { pass = s.pass; made = s.made }) c.args.seats.now c.args.from.pass c.index-seats-0.result c.if-workers-eq1.true c.requires.ready

pub work_shared-returns-then-workers-eq1-clause-ended : goal.work_shared-returns-then-workers-eq1-clause-ended
work_shared-returns-then-workers-eq1-clause-ended g t c =
    ended_first g.S.Source.tells g.S.Source.left g.S.Source.faults g.J.Naming.store (λ s. record { pass = s.pass; made = s.made }) c.args.seats.now c.work.new.seat c.args.from.pass c.args.from.source c.args.sources.now c.work.new.sources
    c.if-workers-eq1.true c.work.ensures.ended

pub work_shared-work_both-requires-clause-low : goal.work_shared-work_both-requires-clause-low
work_shared-work_both-requires-clause-low g t c κs within =
    let low = c.split_at_mut-low.result.0.now in
    let up = c.split_at_mut-low.result.1.now in
    let ready = ready_split g.S.Source.tells g.S.Source.left g.S.Source.faults g.J.Naming.store (λ s. record { pass = s.pass; made = s.made }) c.args.seats.now low up c.args.from.pass (c.args.from.pass + length low) c.split_at_mut-low.ensures.value
    refl c.requires.ready in
    (ready.0, omega (arith, c.split_at_mut-low.ensures.front_len), omega (arith, c.split_at_mut-low.ensures.front_len))

pub work_shared-work_both-requires-clause-up : goal.work_shared-work_both-requires-clause-up
work_shared-work_both-requires-clause-up g t c κs within =
    let low = c.split_at_mut-low.result.0.now in
    let up = c.split_at_mut-low.result.1.now in
    let next : ℕ = c.args.from.pass + length c.args.seats.now / 2 in
    let ready = ready_split g.S.Source.tells g.S.Source.left g.S.Source.faults g.J.Naming.store (λ s. record { pass = s.pass; made = s.made }) c.args.seats.now low up c.args.from.pass next c.split_at_mut-low.ensures.value
    (omega (arith, c.split_at_mut-low.ensures.front_len)) c.requires.ready in
    (ready.1, omega (arith, c.split_at_mut-low.ensures.back_len), omega (arith, c.split_at_mut-low.ensures.back_len))

pub work_both-returns-clause-ended : goal.work_both-returns-clause-ended
work_both-returns-clause-ended g t c =
    let tells = g.S.Source.tells in let left = g.S.Source.left in let faults = g.S.Source.faults in
    let store = g.J.Naming.store in
    let ss = c.args.front.now in let ts = c.front-1.given.0 in
    let ss' = c.args.back.now in let ts' = c.back-1.given.0 in
    let xs = c.low-1.given.0 in let ys = c.up-1.given.0 in
    let one : HaveEnded tells left faults store c.args.from.pass c.args.from.source ss ts (map (λ s. record { pass = s.pass; made = s.made }) xs) = search rules in
    let two : HaveEnded tells left faults store c.args.next.pass c.args.next.source ss' ts' (map (λ s. record { pass = s.pass; made = s.made }) ys) = search rules in
    let count : length xs ≡ length c.args.low.now = search rules in
    ended_all tells left faults store (λ s. record { pass = s.pass; made = s.made }) (xs ++ ys) xs ys c.args.from.pass c.args.next.pass c.args.from.source c.args.next.source ss ts ss' ts' refl (omega (arith, c.requires.passes.0, count)) c.requires.numbers.0 one two

pub work_both-returns-clause-tell : goal.work_both-returns-clause-tell
work_both-returns-clause-tell g t c = search (rules, tell_both g.S.Source.tells g.S.Source.left g.S.Source.faults)

pub work_both-returns-clause-taken : goal.work_both-returns-clause-taken
work_both-returns-clause-taken g t c = search (rules, taken_both g.S.Source.tells g.S.Source.left g.S.Source.faults)

pub work_both-returns-clause-later : goal.work_both-returns-clause-later
work_both-returns-clause-later g t c = search (rules, later_both g.S.Source.tells g.S.Source.left g.S.Source.faults)
