use Rattle.std.proofs.Common.{◌∙◌, ◌+◌, ◌-◌, ◌*◌, List, Option, Result, ap, arith, drop, length, map, subst, sym, ℕ}
use Rattle.xet_hash.specs.declared.error.StoreError.{StoreError}
use Rattle.xet_shard_format.specs.declared.record.FileDataSequenceEntry.{FileDataSequenceEntry}
use Rattle.xet_shard.specs.Queries.{kept_hash}
use Rattle.xet_codec.specs.Parsing.{GivesUnlessFault}
use Rattle.xet_shard_format.specs.Rows.{rows_in}
use Rattle.xet_shard.specs.Runs.{run_of}
use Rattle.xet_shard.proofs.RunsRead.{head_bad_a, head_bad_d, head_ends, head_goes_on, head_past}
use Rattle.xet_shard.proofs.query.stored_run.run_from.Goals as goal
use Rattle.xet_shard.proofs.query.stored_run.run_from.Goals.{then-head-ne0-via-then-head-ne0, then-head-ne0-via-else-head-ne0+then-head-ne0-2}

pub returns-then-from-count-clause-exact : goal.returns-then-from-count-clause-exact
returns-then-from-count-clause-exact g c = λ told le.
    let ks : List (List ℕ) = map (kept_hash c.args.key.now) c.args.query.now in
    head_past ks c.args.place c.in_ok-head.head c.args.at c.args.count (g.R.ReadAt.bytes c.args.reader.now) c.requires.some c.requires.few le (c.in_ok-head.ensures.told told (omega (arith, le, c.requires.some)))
    (omega (arith, c.from.ensures, c.if-from-count.true))

pub returns-then-head-ne0-clause-exact : goal.returns-then-head-ne0-clause-exact
returns-then-head-ne0-clause-exact g c = λ told le.
    let ks : List (List ℕ) = map (kept_hash c.args.key.now) c.args.query.now in
    let read = c.in_ok-head.ensures.told told (omega (arith, le, c.requires.some)) in
    let whole = g.R.ReadAt.bytes c.args.reader.now in
    elim c.then-head-ne0.branch [
      | then-head-ne0-via-then-head-ne0 w ↦ head_bad_a ks c.args.place c.in_ok-head.head c.args.at c.args.count whole c.requires.some c.requires.few le read (omega (arith, c.from.ensures, c.if-from-count.false)) w.if-head-ne0.true
      | then-head-ne0-via-else-head-ne0+then-head-ne0-2 w ↦ head_bad_d ks c.args.place c.in_ok-head.head c.args.at c.args.count whole c.requires.some c.requires.few le read (omega (arith, c.from.ensures, c.if-from-count.false)) w.if-head-ne0.false w.if-head-ne0-2.true
    ]

pub returns-then-head-place-clause-exact : goal.returns-then-head-place-clause-exact
returns-then-head-place-clause-exact g c = λ told le.
    let ks : List (List ℕ) = map (kept_hash c.args.key.now) c.args.query.now in
    head_ends ks c.args.place c.in_ok-head.head c.args.at c.args.count (g.R.ReadAt.bytes c.args.reader.now) c.requires.some c.requires.few le (c.in_ok-head.ensures.told told (omega (arith, le, c.requires.some)))
    (omega (arith, c.from.ensures, c.if-from-count.false)) c.if-head-ne0.false c.if-head-ne0-2.false c.if-head-place.true

pub returns-clause-exact : goal.returns-clause-exact
returns-clause-exact g c = λ told le.
    let ks : List (List ℕ) = map (kept_hash c.args.key.now) c.args.query.now in
    let head = c.in_ok-head.head in
    let place = c.args.place in
    let same = c.in_ok-head.ensures.frame.same in
    let goes_on = head_goes_on ks c.args.place c.in_ok-head.head c.args.at c.args.count (g.R.ReadAt.bytes c.args.reader.now) c.requires.some c.requires.few le (c.in_ok-head.ensures.told told (omega (arith, le, c.requires.some)))
    (omega (arith, c.from.ensures, c.if-from-count.false)) c.if-head-ne0.false c.if-head-ne0-2.false (omega (arith, c.if-head-place.false)) in
    subst (λ (r : Result (Option (ℕ × FileDataSequenceEntry)) StoreError). GivesUnlessFault (λ x. x) c.run_of.result r)
    ((λ i. run_of ks place head (rows_in (head.b - place) (drop (c.args.at + 48 + 48 * c.from-2.ensures i) (same i)))) ∙ sym goes_on)
    (c.run_of.ensures.exact (c.in_ok-head.ensures.frame.tells ∙ told) (omega (arith, le, ap length same, c.from-2.ensures, c.from.ensures, c.if-from-count.false, c.if-head-place.false)))
