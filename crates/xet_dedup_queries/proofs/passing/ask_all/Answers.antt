use Rattle.std.proofs.Common.{refl, sym, ◌∙◌, [], ◌++◌}
use Rattle.std.proofs.lemmas.List.{append-nil}
use Rattle.xet_base.specs.theorems.Exits.{exit_on}
use Rattle.xet_dedup_queries.specs.declared.passing.Round.TheVariants.{First, Second}
use Rattle.xet_dedup_queries.specs.theorems.Growing.{places_grow}
use Rattle.xet_dedup_queries.specs.theorems.Queries.{adds_more, adds_same}
use Rattle.xet_dedup_queries.proofs.Rounds.{asked_first, asked_once, asked_twice, first_begins, first_start, passing_ends, second_grows, second_start, stops_ending, stops_ending_again, stops_in_first, stops_in_second}
use Rattle.xet_dedup_queries.proofs.passing.ask_all.Goals as goal

pub pass-requires-clause-begins : goal.pass-requires-clause-begins
pass-requires-clause-begins g c =
    let I = g.I.DeduplicationDataInterface in
    let s = c.args.interface.now in
    let hashes = c.args.hashes.now in
    (first_start hashes (I.calls s) (I.acts s), first_begins (I.lists s) (I.stands s) (First c.args.is_first) hashes (I.calls s) (I.acts s) c.args.places.now c.requires.unasked)

pub returns-in_err-pass-clause-stopped : goal.returns-in_err-pass-clause-stopped
returns-in_err-pass-clause-stopped g c =
    let I = g.I.DeduplicationDataInterface in
    let s = c.args.interface.now in
    let hashes = c.args.hashes.now in
    let start = first_start hashes (I.calls s) (I.acts s) in
    let begun = first_begins (I.lists s) (I.stands s) (First c.args.is_first) hashes (I.calls s) (I.acts s) c.args.places.now c.requires.unasked in
    exit_on _ c.from_residual.result c.from_residual.ensures.1
    (stops_in_first I.is_global c.args.is_first hashes (I.calls s) (I.calls c.pass.new.interface) (I.acts s) (I.acts c.pass.new.interface) (c.in_err-pass.ensures.stopped start begun))

pub returns-in_err-complete_global_dedup_queries-clause-stopped :
    goal.returns-in_err-complete_global_dedup_queries-clause-stopped
returns-in_err-complete_global_dedup_queries-clause-stopped g c =
    let I = g.I.DeduplicationDataInterface in
    let s = c.args.interface.now in
    let hashes = c.args.hashes.now in
    let one = c.pass.new.interface in
    let first = c.in_ok-pass.field-0 in
    let start = first_start hashes (I.calls s) (I.acts s) in
    let begun = first_begins (I.lists s) (I.stands s) (First c.args.is_first) hashes (I.calls s) (I.acts s) c.args.places.now c.requires.unasked in
    let passed = c.in_ok-pass.ensures.ends start begun in
    exit_on _ c.from_residual-in_err-complete_global_dedup_queries.result c.from_residual-in_err-complete_global_dedup_queries.ensures.1
    (stops_ending (I.lists one) (I.stands one) c.args.is_first hashes (I.calls s) (I.calls one) (I.acts s) (I.acts one) c.pass.new.places first.at first.chunks first.bytes passed.0 passed.1
    I.is_global (I.calls c.complete_global_dedup_queries.new.self) (I.acts c.complete_global_dedup_queries.new.self) c.complete_global_dedup_queries.ensures.calls c.in_err-complete_global_dedup_queries.ensures.kept_acts)

pub returns-then-not-branch-clause-places : goal.returns-then-not-branch-clause-places
returns-then-not-branch-clause-places g c =
    let I = g.I.DeduplicationDataInterface in
    let s = c.args.interface.now in
    let hashes = c.args.hashes.now in
    let one = c.pass.new.interface in
    let first = c.in_ok-pass.field-0 in
    let start = first_start hashes (I.calls s) (I.acts s) in
    let begun = first_begins (I.lists s) (I.stands s) (First c.args.is_first) hashes (I.calls s) (I.acts s) c.args.places.now c.requires.unasked in
    let passed = c.in_ok-pass.ensures.ends start begun in
    let new = c.complete_global_dedup_queries.new.self in
    let e = c.complete_global_dedup_queries.ensures in
    let are = passing_ends (I.lists one) (I.stands one) (First c.args.is_first) hashes start (I.calls one) (I.acts one) c.pass.new.places first.at first.chunks first.bytes passed.0 passed.1 in (
      passed.0.added,
      e.calls ∙ passed.0.appended,
      places_grow (I.lists one) (I.lists new) (I.stands one) (I.stands new) e.extends.lists e.extends.stands (I.calls s) passed.0.added [] passed.0.added hashes c.pass.new.places (sym (append-nil passed.0.added)) are,
    )

pub returns-then-not-branch-clause-asked : goal.returns-then-not-branch-clause-asked
returns-then-not-branch-clause-asked g c =
    let I = g.I.DeduplicationDataInterface in
    let s = c.args.interface.now in
    let hashes = c.args.hashes.now in
    let one = c.pass.new.interface in
    let first = c.in_ok-pass.field-0 in
    let start = first_start hashes (I.calls s) (I.acts s) in
    let begun = first_begins (I.lists s) (I.stands s) (First c.args.is_first) hashes (I.calls s) (I.acts s) c.args.places.now c.requires.unasked in
    let passed = c.in_ok-pass.ensures.ends start begun in
    let new = c.complete_global_dedup_queries.new.self in
    asked_first (I.lists one) (I.stands one) c.args.is_first hashes (I.calls s) (I.calls one) (I.acts s) (I.acts one) c.pass.new.places first.at first.chunks first.bytes passed.0 passed.1
    (I.calls new) (I.acts new) c.in_ok-complete_global_dedup_queries.field-0 c.complete_global_dedup_queries.ensures.calls c.in_ok-complete_global_dedup_queries.ensures.acted c.if-not-branch.true

pub returns-then-not-branch-clause-once : goal.returns-then-not-branch-clause-once
returns-then-not-branch-clause-once g c = λ is.
    let I = g.I.DeduplicationDataInterface in
    let s = c.args.interface.now in
    let hashes = c.args.hashes.now in
    let one = c.pass.new.interface in
    let first = c.in_ok-pass.field-0 in
    let start = first_start hashes (I.calls s) (I.acts s) in
    let begun = first_begins (I.lists s) (I.stands s) (First c.args.is_first) hashes (I.calls s) (I.acts s) c.args.places.now c.requires.unasked in
    let passed = c.in_ok-pass.ensures.ends start begun in
    let new = c.complete_global_dedup_queries.new.self in (
      asked_once (I.lists one) (I.stands one) c.args.is_first hashes (I.calls s) (I.calls one) (I.acts s) (I.acts one) c.pass.new.places first.at first.chunks first.bytes passed.0 passed.1
          (I.calls new) (I.acts new) c.in_ok-complete_global_dedup_queries.field-0 c.complete_global_dedup_queries.ensures.calls c.in_ok-complete_global_dedup_queries.ensures.acted c.if-not-branch.true,
      refl,
      refl,
    )

pub pass-requires-2-clause-begins : goal.pass-requires-2-clause-begins
pass-requires-2-clause-begins g c =
    let I = g.I.DeduplicationDataInterface in
    let s = c.args.interface.now in
    let hashes = c.args.hashes.now in
    let one = c.pass.new.interface in
    let first = c.in_ok-pass.field-0 in
    let start = first_start hashes (I.calls s) (I.acts s) in
    let begun = first_begins (I.lists s) (I.stands s) (First c.args.is_first) hashes (I.calls s) (I.acts s) c.args.places.now c.requires.unasked in
    let passed = c.in_ok-pass.ensures.ends start begun in
    let mid = c.complete_global_dedup_queries.new.self in
    let f = c.complete_global_dedup_queries.ensures in
    let ended = c.in_ok-complete_global_dedup_queries.ensures.acted in
    let ready = second_grows (I.lists one) (I.lists mid) (I.stands one) (I.stands mid) f.extends.lists f.extends.stands (First c.args.is_first) Second hashes start (I.calls one) (I.calls mid) (I.acts one) (I.acts mid) c.pass.new.places first.at first.chunks first.bytes f.calls passed.0 passed.1 in
    let next = second_start (I.calls s) passed.0.added (I.acts mid) passed.0.entries c.pass.new.places in
    (next, ready)

pub returns-in_err-found-clause-stopped : goal.returns-in_err-found-clause-stopped
returns-in_err-found-clause-stopped g c =
    let I = g.I.DeduplicationDataInterface in
    let s = c.args.interface.now in
    let hashes = c.args.hashes.now in
    let one = c.pass.new.interface in
    let first = c.in_ok-pass.field-0 in
    let start = first_start hashes (I.calls s) (I.acts s) in
    let begun = first_begins (I.lists s) (I.stands s) (First c.args.is_first) hashes (I.calls s) (I.acts s) c.args.places.now c.requires.unasked in
    let passed = c.in_ok-pass.ensures.ends start begun in
    let mid = c.complete_global_dedup_queries.new.self in
    let f = c.complete_global_dedup_queries.ensures in
    let ended = c.in_ok-complete_global_dedup_queries.ensures.acted in
    let ready = second_grows (I.lists one) (I.lists mid) (I.stands one) (I.stands mid) f.extends.lists f.extends.stands (First c.args.is_first) Second hashes start (I.calls one) (I.calls mid) (I.acts one) (I.acts mid) c.pass.new.places first.at first.chunks first.bytes f.calls passed.0 passed.1 in
    let next = second_start (I.calls s) passed.0.added (I.acts mid) passed.0.entries c.pass.new.places in
    exit_on _ c.from_residual-in_err-found.result c.from_residual-in_err-found.ensures.1
    (stops_in_second (I.lists one) (I.stands one) c.args.is_first hashes (I.calls s) (I.calls one) (I.acts s) (I.acts one) c.pass.new.places first.at first.chunks first.bytes passed.0 passed.1
    (I.acts mid) I.is_global c.in_ok-complete_global_dedup_queries.field-0 ended c.if-not-branch.false c.in_ok-complete_global_dedup_queries.ensures.none (I.calls c.pass-2.new.interface) (I.acts c.pass-2.new.interface) (c.in_err-found.ensures.stopped next ready))

pub returns-in_err-found-clause-prefix : goal.returns-in_err-found-clause-prefix
returns-in_err-found-clause-prefix g c =
    let I = g.I.DeduplicationDataInterface in
    let old = I.calls c.args.interface.now in
    let mid = I.calls c.complete_global_dedup_queries.new.self in
    adds_more old mid (I.calls c.pass-2.new.interface) (adds_same old (I.calls c.pass.new.interface) mid c.pass.ensures.prefix c.complete_global_dedup_queries.ensures.calls) c.pass-2.ensures.prefix

pub returns-in_err-complete_global_dedup_queries-2-clause-stopped :
    goal.returns-in_err-complete_global_dedup_queries-2-clause-stopped
returns-in_err-complete_global_dedup_queries-2-clause-stopped g c =
    let I = g.I.DeduplicationDataInterface in
    let s = c.args.interface.now in
    let hashes = c.args.hashes.now in
    let one = c.pass.new.interface in
    let first = c.in_ok-pass.field-0 in
    let start = first_start hashes (I.calls s) (I.acts s) in
    let begun = first_begins (I.lists s) (I.stands s) (First c.args.is_first) hashes (I.calls s) (I.acts s) c.args.places.now c.requires.unasked in
    let passed = c.in_ok-pass.ensures.ends start begun in
    let mid = c.complete_global_dedup_queries.new.self in
    let f = c.complete_global_dedup_queries.ensures in
    let ended = c.in_ok-complete_global_dedup_queries.ensures.acted in
    let ready = second_grows (I.lists one) (I.lists mid) (I.stands one) (I.stands mid) f.extends.lists f.extends.stands (First c.args.is_first) Second hashes start (I.calls one) (I.calls mid) (I.acts one) (I.acts mid) c.pass.new.places first.at first.chunks first.bytes f.calls passed.0 passed.1 in
    let next = second_start (I.calls s) passed.0.added (I.acts mid) passed.0.entries c.pass.new.places in
    let two = c.pass-2.new.interface in
    let found = c.in_ok-found.found in
    let again = c.in_ok-found.ensures.ends next ready in
    let new = c.complete_global_dedup_queries-2.new.self in
    let e = c.complete_global_dedup_queries-2.ensures in
    exit_on _ c.from_residual-in_err-complete_global_dedup_queries-2.result c.from_residual-in_err-complete_global_dedup_queries-2.ensures.1
    (stops_ending_again (I.lists one) (I.stands one) c.args.is_first hashes (I.calls s) (I.calls one) (I.acts s) (I.acts one) c.pass.new.places first.at first.chunks first.bytes passed.0 passed.1
    (I.acts mid) I.is_global c.in_ok-complete_global_dedup_queries.field-0 ended c.if-not-branch.false c.in_ok-complete_global_dedup_queries.ensures.none
    (I.lists two) (I.stands two) (I.calls two) (I.acts two) c.pass-2.new.places found.at found.chunks found.bytes again.0 again.1 (I.calls new) (I.acts new) e.calls c.in_err-complete_global_dedup_queries-2.ensures.kept_acts)

pub returns-in_err-complete_global_dedup_queries-2-clause-prefix :
    goal.returns-in_err-complete_global_dedup_queries-2-clause-prefix
returns-in_err-complete_global_dedup_queries-2-clause-prefix g c =
    let I = g.I.DeduplicationDataInterface in
    let old = I.calls c.args.interface.now in
    let mid = I.calls c.complete_global_dedup_queries.new.self in
    let last = I.calls c.pass-2.new.interface in
    let second = adds_more old mid last (adds_same old (I.calls c.pass.new.interface) mid c.pass.ensures.prefix c.complete_global_dedup_queries.ensures.calls) c.pass-2.ensures.prefix in
    adds_same old last (I.calls c.complete_global_dedup_queries-2.new.self) second c.complete_global_dedup_queries-2.ensures.calls

pub returns-clause-places : goal.returns-clause-places
returns-clause-places g c =
    let I = g.I.DeduplicationDataInterface in
    let s = c.args.interface.now in
    let hashes = c.args.hashes.now in
    let one = c.pass.new.interface in
    let first = c.in_ok-pass.field-0 in
    let start = first_start hashes (I.calls s) (I.acts s) in
    let begun = first_begins (I.lists s) (I.stands s) (First c.args.is_first) hashes (I.calls s) (I.acts s) c.args.places.now c.requires.unasked in
    let passed = c.in_ok-pass.ensures.ends start begun in
    let mid = c.complete_global_dedup_queries.new.self in
    let f = c.complete_global_dedup_queries.ensures in
    let ended = c.in_ok-complete_global_dedup_queries.ensures.acted in
    let ready = second_grows (I.lists one) (I.lists mid) (I.stands one) (I.stands mid) f.extends.lists f.extends.stands (First c.args.is_first) Second hashes start (I.calls one) (I.calls mid) (I.acts one) (I.acts mid) c.pass.new.places first.at first.chunks first.bytes f.calls passed.0 passed.1 in
    let next = second_start (I.calls s) passed.0.added (I.acts mid) passed.0.entries c.pass.new.places in
    let two = c.pass-2.new.interface in
    let found = c.in_ok-found.found in
    let again = c.in_ok-found.ensures.ends next ready in
    let new = c.complete_global_dedup_queries-2.new.self in
    let e = c.complete_global_dedup_queries-2.ensures in
    let are = passing_ends (I.lists two) (I.stands two) Second hashes next (I.calls two) (I.acts two) c.pass-2.new.places found.at found.chunks found.bytes again.0 again.1 in
    let all = passed.0.added ++ again.0.added in (
      all,
      e.calls ∙ again.0.appended,
      places_grow (I.lists two) (I.lists new) (I.stands two) (I.stands new) e.extends.lists e.extends.stands (I.calls s) all [] all hashes c.pass-2.new.places (sym (append-nil all)) are,
    )

pub returns-clause-asked : goal.returns-clause-asked
returns-clause-asked g c =
    let I = g.I.DeduplicationDataInterface in
    let s = c.args.interface.now in
    let hashes = c.args.hashes.now in
    let one = c.pass.new.interface in
    let first = c.in_ok-pass.field-0 in
    let start = first_start hashes (I.calls s) (I.acts s) in
    let begun = first_begins (I.lists s) (I.stands s) (First c.args.is_first) hashes (I.calls s) (I.acts s) c.args.places.now c.requires.unasked in
    let passed = c.in_ok-pass.ensures.ends start begun in
    let mid = c.complete_global_dedup_queries.new.self in
    let f = c.complete_global_dedup_queries.ensures in
    let ended = c.in_ok-complete_global_dedup_queries.ensures.acted in
    let ready = second_grows (I.lists one) (I.lists mid) (I.stands one) (I.stands mid) f.extends.lists f.extends.stands (First c.args.is_first) Second hashes start (I.calls one) (I.calls mid) (I.acts one) (I.acts mid) c.pass.new.places first.at first.chunks first.bytes f.calls passed.0 passed.1 in
    let next = second_start (I.calls s) passed.0.added (I.acts mid) passed.0.entries c.pass.new.places in
    let two = c.pass-2.new.interface in
    let found = c.in_ok-found.found in
    let again = c.in_ok-found.ensures.ends next ready in
    let new = c.complete_global_dedup_queries-2.new.self in
    let e = c.complete_global_dedup_queries-2.ensures in
    asked_twice (I.lists one) (I.stands one) c.args.is_first hashes (I.calls s) (I.calls one) (I.acts s) (I.acts one) c.pass.new.places first.at first.chunks first.bytes passed.0 passed.1
    (I.acts mid) I.is_global c.in_ok-complete_global_dedup_queries.field-0 ended c.if-not-branch.false c.in_ok-complete_global_dedup_queries.ensures.none
    (I.lists two) (I.stands two) (I.calls two) (I.acts two) c.pass-2.new.places found.at found.chunks found.bytes again.0 again.1
    (I.calls new) (I.acts new) c.in_ok-complete_global_dedup_queries-2.field-0 e.calls c.in_ok-complete_global_dedup_queries-2.ensures.acted

pub returns-clause-prefix : goal.returns-clause-prefix
returns-clause-prefix g c =
    let I = g.I.DeduplicationDataInterface in
    let old = I.calls c.args.interface.now in
    let mid = I.calls c.complete_global_dedup_queries.new.self in
    let last = I.calls c.pass-2.new.interface in
    let second = adds_more old mid last (adds_same old (I.calls c.pass.new.interface) mid c.pass.ensures.prefix c.complete_global_dedup_queries.ensures.calls) c.pass-2.ensures.prefix in
    adds_same old last (I.calls c.complete_global_dedup_queries-2.new.self) second c.complete_global_dedup_queries-2.ensures.calls
