use Rattle.std.proofs.Common.{◌≡◌, refl, arith, length, set, drop, ◌+◌, ◌∷◌, [], ◌++◌, None, ap, ◌∙◌, List}
use Rattle.std.proofs.lemmas.List.{append_assoc, take_rest}
use Rattle.std.proofs.lemmas.Option.{slice_get_read}
use Rattle.xet_base.specs.theorems.Exits.{exit_on}
use Rattle.xet_dedup_queries.specs.Acts.{Act}
use Rattle.xet_dedup_queries.specs.Acts.Act.{Queried}
use Rattle.xet_dedup_queries.specs.Asking.{begun}
use Rattle.xet_dedup_queries.specs.Passing.{IsPassing}
use Rattle.xet_dedup_queries.proofs.Finding.{found_step}
use Rattle.xet_dedup_queries.proofs.Missing.{missed_step, stops_here, stops_missed}
use Rattle.xet_dedup_queries.proofs.Rounds.{passing_grows}
use Rattle.xet_dedup_queries.proofs.passing.ask.Goals as goal

pub returns-in-Some-clause-passing : goal.returns-in-Some-clause-passing
returns-in-Some-clause-passing g c = λ began was.
    let I = g.I.DeduplicationDataInterface in
    let old = c.args.interface.now in
    let new = c.chunk_hash_dedup_query.new.self in
    let at = c.args.progress.at in
    let hashes = c.args.hashes.now in
    let rest = take_rest hashes at in
    let extends = c.in_ok-count.ensures.extends in
    let asked = rw (c.in-Some.is, rest) at c.in_ok-count.ensures.asked in
    let acted = rw (c.in-Some.is, rest) at c.in_ok-count.ensures.acted in
    let found = rw (c.in-Some.is, rest) at c.in_ok-count.ensures.found in
    rw c.keep.ensures.progress
    (found_step (I.lists old) (I.lists new) (I.stands old) (I.stands new) extends.lists extends.stands c.args.round hashes began (I.calls old) (I.calls new) (I.acts old) (I.acts new) c.args.places.now c.keep.new.places at c.args.progress.chunks c.args.progress.bytes asked.0 c.in-Some.count c.in-Some.run' c.in-Some.is_external
    was c.requires.more c.requires.free asked.2 acted found c.keep.ensures.covers)

pub returns-in_err-count-clause-stopped : goal.returns-in_err-count-clause-stopped
returns-in_err-count-clause-stopped g c = λ began was.
    let I = g.I.DeduplicationDataInterface in
    let old = c.args.interface.now in
    exit_on _ c.from_residual.result c.from_residual.ensures.1
    (stops_here (I.lists old) (I.stands old) c.args.round c.args.hashes.now began (I.calls old) (I.acts old) c.args.places.now c.args.progress.at c.args.progress.chunks c.args.progress.bytes was
    (I.calls c.chunk_hash_dedup_query.new.self) (I.acts c.chunk_hash_dedup_query.new.self) c.in_err-count.ensures.kept c.in_err-count.ensures.kept_acts)

pub returns-in_err-ask_elsewhere-in-None-clause-stopped :
    goal.returns-in_err-ask_elsewhere-in-None-clause-stopped
returns-in_err-ask_elsewhere-in-None-clause-stopped g c = λ began was.
    let I = g.I.DeduplicationDataInterface in
    let old = c.args.interface.now in
    let at = c.args.progress.at in
    let hashes = c.args.hashes.now in
    let rest = take_rest hashes at in
    let asked = rw (c.in-None.is, rest) at c.in_ok-count.ensures.asked in
    let acted = rw (c.in-None.is, rest) at c.in_ok-count.ensures.acted in
    let e = c.in_err-ask_elsewhere-in-None.ensures in
    let first = c.index-hashes-at.result in
    let begins_with = slice_get_read hashes (length hashes) at first refl c.requires.more c.index-hashes-at.is in
    exit_on _ c.from_residual-in_err-ask_elsewhere-in-None.result c.from_residual-in_err-ask_elsewhere-in-None.ensures.1
    (stops_missed (I.lists old) (I.stands old) c.args.round hashes began (I.calls old) (I.acts old) c.args.places.now at c.args.progress.chunks c.args.progress.bytes was
    (I.calls c.ask_elsewhere.new.interface) (I.acts c.ask_elsewhere.new.interface) asked.0 first c.requires.free begins_with e.worth (c.ask_elsewhere.ensures.calls ∙ asked.2) (e.kept_acts ∙ acted))

pub returns-in_ok-ask_elsewhere-in-None-clause-passing :
    goal.returns-in_ok-ask_elsewhere-in-None-clause-passing
returns-in_ok-ask_elsewhere-in-None-clause-passing g c = λ began was.
    let I = g.I.DeduplicationDataInterface in
    let old = c.args.interface.now in
    let new = c.chunk_hash_dedup_query.new.self in
    let now = c.ask_elsewhere.new.interface in
    let at = c.args.progress.at in
    let hashes = c.args.hashes.now in
    let places = c.args.places.now in
    let round = c.args.round in
    let rest = take_rest hashes at in
    let extends = c.in_ok-count.ensures.extends in
    let asked = rw (c.in-None.is, rest) at c.in_ok-count.ensures.asked in
    let acted = rw (c.in-None.is, rest) at c.in_ok-count.ensures.acted in
    let here = slice_get_read places (length places) at c.index-places-at.result refl (omega (arith, c.requires.more, was.counted)) c.index-places-at.is in
    let first = c.index-hashes-at.result in
    let begins_with = slice_get_read hashes (length hashes) at first refl c.requires.more c.index-hashes-at.is in
    let chunks = c.args.progress.chunks in
    let bytes = c.args.progress.bytes in
    let all : I.acts now ≡ I.acts old ++ Queried (drop at hashes) None ∷ begun round at first =
    c.in_ok-ask_elsewhere-in-None.ensures.acted ∙ ap (λ (a : List Act). a ++ begun round at first) acted ∙ append_assoc (I.acts old) (Queried (drop at hashes) None ∷ []) (begun round at first) in
    let step : IsPassing (I.lists new) (I.stands new) round hashes began (I.calls new) (I.acts now) (set places at c.missed.result) (at + 1) chunks bytes
    = rw c.missed.ensures (missed_step (I.lists old) (I.lists new) (I.stands old) (I.stands new) extends.lists extends.stands round hashes began (I.calls old) (I.calls new) (I.acts old) (I.acts now) places at chunks bytes asked.0 c.last_query.result first c.index-places-at.result
    was begins_with c.requires.free here asked.2 all asked.1 c.last_query.ensures) in
    let e = c.ask_elsewhere.ensures in
    passing_grows (I.lists new) (I.lists now) (I.stands new) (I.stands now) e.extends.lists e.extends.stands round hashes began (I.calls new) (I.calls now) (I.acts now) (set places at c.missed.result) e.calls (at + 1) chunks bytes step
