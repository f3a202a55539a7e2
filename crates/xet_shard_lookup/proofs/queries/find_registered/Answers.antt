use Rattle.std.proofs.Common.{◌<◌, ◌∙◌, ap, arith, length, refl, Ok, Option}
use Rattle.xet_shard_lookup.proofs.Asking.{answer_of_next, none_of_all, none_of_next}
use Rattle.xet_shard_lookup.specs.Found.{Run, first_some, keyed_run}
use Rattle.xet_shard_registry.specs.Registered.{keys_of}
use Rattle.xet_shard_lookup.proofs.queries.find_registered.Goals as goal

pub loop-index-init : goal.loop-index-init
unfolding first_some
loop-index-init g c = record {
  found = λ told shards held holds. refl;
  frame = record { same = refl; tells = refl; later = omega arith };
}

pub returns-then-not-is_none-clause-found : goal.returns-then-not-is_none-clause-found
returns-then-not-is_none-clause-found g c told shards held holds =
    let i = c.loop-index.invariant in
    let files = g.D.Disk.files c.args.disk.now in
    let low : c.loop-index.index < length (keys_of shards) = rw (c.key_count-index-end.ensures shards held) at c.loop-index-test.true in
    answer_of_next (keyed_run files shards c.args.first c.args.query.now) (keys_of shards) c.loop-index.index c.find_at-answer.result low (i.found told shards held holds)
    (c.if-not-is_none.ensures.other refl) (λ key there. rw i.frame.same at (c.find_at-answer.ensures.found (i.frame.tells ∙ told) shards key held (rw i.frame.same holds) there))

pub loop-index-preserved : goal.loop-index-preserved
loop-index-preserved g c =
    let i = c.loop-index.invariant in
    let files = g.D.Disk.files c.args.disk.now in
    let done = c.find_at-answer.ensures.frame in
    record {
      found = λ told shards held holds.
          let low : c.loop-index.index < length (keys_of shards) = rw (c.key_count-index-end.ensures shards held) at c.loop-index-test.true in
          none_of_next (keyed_run files shards c.args.first c.args.query.now) (keys_of shards) c.loop-index.index c.find_at-answer.result low (i.found told shards held holds)
          (c.if-not-is_none.ensures.none refl) (λ key there. rw i.frame.same at (c.find_at-answer.ensures.found (i.frame.tells ∙ told) shards key held (rw i.frame.same holds) there));
      frame = record { same = done.same ∙ i.frame.same; tells = done.tells ∙ i.frame.tells; later = omega (arith, i.frame.later, done.later) };
    }

pub returns-clause-found : goal.returns-clause-found
returns-clause-found g c told shards held holds =
    ap (λ (r : Option Run). Ok r) (none_of_all (keyed_run (g.D.Disk.files c.args.disk.now) shards c.args.first c.args.query.now) (keys_of shards) c.loop-index.index
    (rw (c.key_count-index-end.ensures shards held) at c.loop-index-test.false) (c.loop-index.invariant.found told shards held holds))

pub returns-then-not-is_none-clause-there : goal.returns-then-not-is_none-clause-there
returns-then-not-is_none-clause-there g c told pending =
    let i = c.loop-index.invariant in
    rw i.frame.same at (c.find_at-answer.ensures.there (i.frame.tells ∙ told) pending)
