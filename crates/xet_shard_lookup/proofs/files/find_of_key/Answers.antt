use Rattle.std.proofs.Common.{◌≡◌, ◌∙◌, ap, arith, length, refl}
use Rattle.xet_shard_lookup.proofs.Places.{number_at, numbers_count}
use Rattle.xet_shard_lookup.proofs.Recording.{answer_of_next, none_of_all, none_of_next}
use Rattle.xet_shard_lookup.specs.Records.{answer_of, first_answer}
use Rattle.xet_shard_registry.specs.Registered.{collection}
use Rattle.xet_shard_lookup.proofs.files.find_of_key.Goals as goal

pub loop-number-init : goal.loop-number-init
unfolding first_answer
loop-number-init g c = record {
  found = λ told shards key held holds is. refl;
  frame = record { same = refl; tells = refl; later = omega arith };
}

pub returns-then-not-is_none-clause-there : goal.returns-then-not-is_none-clause-there
returns-then-not-is_none-clause-there g c told pending =
    let i = c.loop-number.invariant in
    rw (c.files.ensures, i.frame.same) at (c.find_at-answer.ensures.there (i.frame.tells ∙ told) pending)

pub returns-then-not-is_none-clause-found : goal.returns-then-not-is_none-clause-found
returns-then-not-is_none-clause-found g c told shards key held holds is =
    let i = c.loop-number.invariant in
    let files = g.D.Disk.files c.args.disk.now in
    let members = c.members-number-items.result.now in
    let (s, number, there) = number_at key shards members c.loop-number.number-index (c.members-number-items.ensures.members shards key held is) c.loop-number-test.true in
    answer_of_next (answer_of files c.args.hash.now) (collection key shards) c.loop-number.number-index s c.find_at-answer.result there (i.found told shards key held holds is)
    (c.if-not-is_none.ensures.other refl) (rw i.frame.same at (c.find_at-answer.ensures.found (i.frame.tells ∙ told) shards s (c.files.ensures ∙ held.files) (rw i.frame.same holds) number))

pub loop-number-preserved : goal.loop-number-preserved
loop-number-preserved g c =
    let i = c.loop-number.invariant in
    let files = g.D.Disk.files c.args.disk.now in
    let members = c.members-number-items.result.now in
    let done = c.find_at-answer.ensures.frame in
    record {
      found = λ told shards key held holds is.
          let (s, number, there) = number_at key shards members c.loop-number.number-index (c.members-number-items.ensures.members shards key held is) c.loop-number-test.true in
          none_of_next (answer_of files c.args.hash.now) (collection key shards) c.loop-number.number-index s c.find_at-answer.result there (i.found told shards key held holds is)
          (c.if-not-is_none.ensures.none refl) (rw i.frame.same at (c.find_at-answer.ensures.found (i.frame.tells ∙ told) shards s (c.files.ensures ∙ held.files) (rw i.frame.same holds) number));
      frame = record { same = done.same ∙ i.frame.same; tells = done.tells ∙ i.frame.tells; later = omega (arith, i.frame.later, done.later) };
    }

pub returns-clause-found : goal.returns-clause-found
returns-clause-found g c told shards key held holds is =
    let count : length c.members-number-items.result.now ≡ length (collection key shards) = ap length (c.members-number-items.ensures.members shards key held is) ∙ numbers_count 0 key shards in
    none_of_all (answer_of (g.D.Disk.files c.args.disk.now) c.args.hash.now) (collection key shards) c.loop-number.number-index (omega (arith, count, c.loop-number-test.false))
    (c.loop-number.invariant.found told shards key held holds is)
