use Rattle.std.proofs.Common.{arith}
use Rattle.xet_dedup_queries.proofs.Keeping.{free_at, kept_is_found, passing_over, read_is}
use Rattle.xet_dedup_queries.proofs.passing.next_place.Goals as goal

pub overflow_sub-result : goal.overflow_sub-result
overflow_sub-result g c =
    let I = g.I.DeduplicationDataInterface in
    let s = c.args.interface.now in
    let places = c.args.places.now in
    let at = c.args.progress.at in
    let was = c.requires.passing.1 in
    let here = read_is places at _ _ (omega (arith, c.requires.more, was.counted)) c.in-Kept.is in
    let found = kept_is_found (I.lists s) (I.stands s) c.args.round c.args.hashes.now c.requires.passing.0 (I.calls s) (I.acts s) places at c.args.progress.chunks c.args.progress.bytes was c.in-Kept.run' c.in-Kept.is_external here in
    omega (arith, found.lies.some)

pub ask-requires : goal.ask-requires
ask-requires g c =
    let was = c.requires.passing.1 in
    record {
      passing = c.requires.passing;
      more = c.requires.more;
      free = free_at c.args.places.now c.args.progress.at _ (omega (arith, c.requires.more, was.counted)) c.in_default.not-Kept;
      few = c.requires.few;
    }

pub returns-in-Kept-clause-passing : goal.returns-in-Kept-clause-passing
returns-in-Kept-clause-passing g c = λ began was.
    let I = g.I.DeduplicationDataInterface in
    let s = c.args.interface.now in
    let places = c.args.places.now in
    let at = c.args.progress.at in
    let here = read_is places at _ _ (omega (arith, c.requires.more, was.counted)) c.in-Kept.is in
    passing_over (I.lists s) (I.stands s) c.args.round c.args.hashes.now began (I.calls s) (I.acts s) places at c.args.progress.chunks c.args.progress.bytes was c.in-Kept.run' c.in-Kept.is_external here

pub returns-in-Kept-clause-on : goal.returns-in-Kept-clause-on
returns-in-Kept-clause-on g c =
    let I = g.I.DeduplicationDataInterface in
    let s = c.args.interface.now in
    let places = c.args.places.now in
    let at = c.args.progress.at in
    let was = c.requires.passing.1 in
    let here = read_is places at _ _ (omega (arith, c.requires.more, was.counted)) c.in-Kept.is in
    let found = kept_is_found (I.lists s) (I.stands s) c.args.round c.args.hashes.now c.requires.passing.0 (I.calls s) (I.acts s) places at c.args.progress.chunks c.args.progress.bytes was c.in-Kept.run' c.in-Kept.is_external here in
    omega (arith, found.lies.some)
