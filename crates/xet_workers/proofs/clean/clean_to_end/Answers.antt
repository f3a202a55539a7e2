use Rattle.std.proofs.Common.{◌≡◌, ◌++◌, ap, arith, drop, length, take}
use Rattle.xet_workers.proofs.Outcomes.{closed_promises, left_count, left_differ, left_ended, left_length, left_parts}
use Rattle.xet_workers.proofs.Seats.{after_lend, passes_apart, passes_back, passes_new, seats_new, seats_ready}
use Rattle.xet_workers.proofs.clean.clean_to_end.Goals as goal

pub work_shared-requires-clause-ready : goal.work_shared-requires-clause-ready
work_shared-requires-clause-ready g c κs within =
    seats_ready (λ s. s.pass) (λ s. s.made) g.J.Naming.store c.args.workers c.args.passes.items c.requires.passes c.take_seats.new.seats.items c.take_seats.ensures c.deref_mut.result.now c.deref_mut.ensures.value

pub work_shared-requires-clause-workers : goal.work_shared-requires-clause-workers
work_shared-requires-clause-workers g c κs within =
    let all : length c.deref_mut.result.now ≡ length c.take_seats.new.seats.items = ap length c.deref_mut.ensures.value in
    let count : length c.take_seats.new.seats.items ≡ c.args.workers =
    seats_new (λ s. s.pass) (λ s. s.made) g.J.Naming.store c.args.workers c.args.passes.items c.requires.passes c.take_seats.new.seats.items c.take_seats.ensures in
    (omega (arith, c.requires.workers), omega (arith, c.requires.workers), omega (arith, c.requires.workers))

pub leave_seats-passes-requires-clause-room : goal.leave_seats-passes-requires-clause-room
leave_seats-passes-requires-clause-room g c =
    let xs = c.take_seats.new.seats.items in
    let ys = c.work_shared.new.seats in
    let n = c.take_seats.new.seats.len in
    let same = after_lend ys xs n (omega (arith, ap length c.deref_mut.ensures.value, c.work_shared.auto.seats)) (omega (arith, c.deref_mut.ensures.len, ap length c.deref_mut.ensures.value)) in
    let count : length xs ≡ c.args.workers =
    seats_new (λ s. s.pass) (λ s. s.made) g.J.Naming.store c.args.workers c.args.passes.items c.requires.passes c.take_seats.new.seats.items c.take_seats.ensures in
    let given : length c.args.passes.items ≡ c.args.workers = passes_new g.J.Naming.store c.args.workers c.args.passes.items c.requires.passes in
    let room = c.in-Ok.ensures.room in (
      omega (arith, ap length same, count, given, room.1, c.work_shared.auto.seats, ap length c.deref_mut.ensures.value, c.args.passes.ok.0),
      omega (arith, ap length same, count, given, room.2, c.work_shared.auto.seats, ap length c.deref_mut.ensures.value, c.args.passes.ok.0),
    )

pub leave_seats-passes-requires-clause-there : goal.leave_seats-passes-requires-clause-there
leave_seats-passes-requires-clause-there g c =
    let xs = c.take_seats.new.seats.items in
    let ys = c.work_shared.new.seats in
    let n = c.take_seats.new.seats.len in
    let same = after_lend ys xs n (omega (arith, ap length c.deref_mut.ensures.value, c.work_shared.auto.seats)) (omega (arith, c.deref_mut.ensures.len, ap length c.deref_mut.ensures.value)) in
    passes_back (λ s. s.pass) (λ s. s.made) g.S.Source.tells g.S.Source.left g.S.Source.faults g.J.Naming.store c.args.sources.now c.work_shared.new.sources ys c.work_shared.ensures.ended (take n (ys ++ drop (length ys) xs)) same

pub close_and_merge-requires-clause-all : goal.close_and_merge-requires-clause-all
close_and_merge-requires-clause-all g c =
    let xs = c.take_seats.new.seats.items in
    let ys = c.work_shared.new.seats in
    let n = c.take_seats.new.seats.len in
    let same = after_lend ys xs n (omega (arith, ap length c.deref_mut.ensures.value, c.work_shared.auto.seats)) (omega (arith, c.deref_mut.ensures.len, ap length c.deref_mut.ensures.value)) in
    let count : length xs ≡ c.args.workers =
    seats_new (λ s. s.pass) (λ s. s.made) g.J.Naming.store c.args.workers c.args.passes.items c.requires.passes c.take_seats.new.seats.items c.take_seats.ensures in
    let given = left_length (λ s. s.pass) (λ s. s.made) g.S.Source.tells g.S.Source.left g.S.Source.faults c.args.sources.now c.work_shared.new.sources g.J.Naming.store ys (take n (ys ++ drop (length ys) xs)) same c.work_shared.ensures.ended c.leave_seats-passes.result.0.items
    c.leave_seats-passes.ensures.passes (λ v. v.items) c.leave_seats-passes.result.1 c.leave_seats-passes.ensures.workings in
    omega (arith, given, count, c.requires.parts, c.work_shared.auto.seats, ap length c.deref_mut.ensures.value)

pub close_and_merge-requires-clause-differ : goal.close_and_merge-requires-clause-differ
close_and_merge-requires-clause-differ g c =
    let xs = c.take_seats.new.seats.items in
    let ys = c.work_shared.new.seats in
    let n = c.take_seats.new.seats.len in
    let same = after_lend ys xs n (omega (arith, ap length c.deref_mut.ensures.value, c.work_shared.auto.seats)) (omega (arith, c.deref_mut.ensures.len, ap length c.deref_mut.ensures.value)) in
    left_differ (λ s. s.pass) (λ s. s.made) g.S.Source.tells g.S.Source.left g.S.Source.faults c.args.sources.now c.work_shared.new.sources g.J.Naming.store ys (take n (ys ++ drop (length ys) xs)) same c.work_shared.ensures.ended c.leave_seats-passes.result.0.items
    c.leave_seats-passes.ensures.passes (λ v. v.items) c.leave_seats-passes.result.1 c.leave_seats-passes.ensures.workings

pub close_and_merge-requires-clause-count : goal.close_and_merge-requires-clause-count
close_and_merge-requires-clause-count g c =
    let xs = c.take_seats.new.seats.items in
    let ys = c.work_shared.new.seats in
    let n = c.take_seats.new.seats.len in
    let same = after_lend ys xs n (omega (arith, ap length c.deref_mut.ensures.value, c.work_shared.auto.seats)) (omega (arith, c.deref_mut.ensures.len, ap length c.deref_mut.ensures.value)) in
    let count : length xs ≡ c.args.workers =
    seats_new (λ s. s.pass) (λ s. s.made) g.J.Naming.store c.args.workers c.args.passes.items c.requires.passes c.take_seats.new.seats.items c.take_seats.ensures in
    left_count (λ s. s.pass) (λ s. s.made) g.S.Source.tells g.S.Source.left g.S.Source.faults c.args.sources.now c.work_shared.new.sources g.J.Naming.store ys (take n (ys ++ drop (length ys) xs)) same c.work_shared.ensures.ended c.leave_seats-passes.result.0.items
    c.leave_seats-passes.ensures.passes (λ v. v.items) c.leave_seats-passes.result.1 c.leave_seats-passes.ensures.workings
    (omega (arith, count, c.requires.workers.0, c.work_shared.auto.seats, ap length c.deref_mut.ensures.value)) c.requires.count

pub close_and_merge-requires-clause-parts : goal.close_and_merge-requires-clause-parts
close_and_merge-requires-clause-parts g c =
    let xs = c.take_seats.new.seats.items in
    let ys = c.work_shared.new.seats in
    let n = c.take_seats.new.seats.len in
    let same = after_lend ys xs n (omega (arith, ap length c.deref_mut.ensures.value, c.work_shared.auto.seats)) (omega (arith, c.deref_mut.ensures.len, ap length c.deref_mut.ensures.value)) in
    left_parts (λ s. s.pass) (λ s. s.made) g.S.Source.tells g.S.Source.left g.S.Source.faults c.args.sources.now c.work_shared.new.sources g.J.Naming.store ys (take n (ys ++ drop (length ys) xs)) same c.work_shared.ensures.ended c.leave_seats-passes.result.0.items
    c.leave_seats-passes.ensures.passes (λ v. v.items) c.leave_seats-passes.result.1 c.leave_seats-passes.ensures.workings

pub close-requires-clause-all : goal.close-requires-clause-all
close-requires-clause-all g c = omega (arith, passes_new g.J.Naming.store c.args.workers c.args.passes.items c.requires.passes, c.requires.parts)

pub close-requires-clause-differ : goal.close-requires-clause-differ
close-requires-clause-differ g c = passes_apart g.J.Naming.store c.args.workers c.args.passes.items c.requires.passes

pub returns-in-Ok : goal.returns-in-Ok
returns-in-Ok g c = λ sound recorded.
    let xs = c.take_seats.new.seats.items in
    let ys = c.work_shared.new.seats in
    let n = c.take_seats.new.seats.len in
    let same = after_lend ys xs n (omega (arith, ap length c.deref_mut.ensures.value, c.work_shared.auto.seats)) (omega (arith, c.deref_mut.ensures.len, ap length c.deref_mut.ensures.value)) in
    let count : length xs ≡ c.args.workers =
    seats_new (λ s. s.pass) (λ s. s.made) g.J.Naming.store c.args.workers c.args.passes.items c.requires.passes c.take_seats.new.seats.items c.take_seats.ensures in
    let work = c.work_shared.ensures in
    let ended = c.close_and_merge.ensures in
    left_ended (λ s. s.pass) (λ s. s.made) g.S.Source.tells g.S.Source.left g.S.Source.faults c.args.sources.now c.work_shared.new.sources g.J.Naming.store ys (take n (ys ++ drop (length ys) xs)) same c.work_shared.ensures.ended c.leave_seats-passes.result.0.items
    c.leave_seats-passes.ensures.passes (λ v. v.items) c.leave_seats-passes.result.1 c.leave_seats-passes.ensures.workings
    c.close_and_merge.result.0 c.args.workers c.requires.workers.0 (omega (arith, count, c.work_shared.auto.seats, ap length c.deref_mut.ensures.value)) sound recorded work.tell work.taken work.later c.leave_seats-passes.ensures.error
    c.close_and_merge.result.1 ended.merged ended.unmerged ended.failed

pub returns-in-Err : goal.returns-in-Err
returns-in-Err g c = λ sound recorded.
    let closed = c.close.ensures in
    closed_promises c.args.workers c.requires.workers.0 g.S.Source.tells g.S.Source.left g.S.Source.faults c.args.sources.now g.J.Naming.store c.close.result c.args.workers c.args.passes.items c.requires.passes
    (record { since = closed.since; made = closed.made }) closed.own sound
