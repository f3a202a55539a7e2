use Rattle.std.proofs.Common.{◌≡◌, ◌<◌, ◌∙◌, ℕ, List, [], Some, arith, get_or, length, map, refl, slice_get}
use Rattle.std.proofs.lemmas.Option.{slice_get-get_or}
use Rattle.xet_shard_lookup.proofs.Recording.{answer_of_next, first_of_lists, none_of_all, none_of_next}
use Rattle.xet_shard_lookup.specs.Records.{answer_of, first_answer}
use Rattle.xet_shard_registry.specs.Registered.{collection, keys_of}
use Rattle.xet_shard_lookup.proofs.files.find_registered.Goals as goal

pub loop-index-init : goal.loop-index-init
unfolding first_answer
loop-index-init g c = record {
  found = λ told shards held holds. refl;
  frame = record { same = refl; tells = refl; later = omega arith };
}

pub returns-then-not-is_none-clause-found : goal.returns-then-not-is_none-clause-found
returns-then-not-is_none-clause-found g c told shards held holds =
    let i = c.loop-index.invariant in
    let files = g.D.Disk.files c.args.disk.now in
    let low : c.loop-index.index < length (keys_of shards) = rw (c.key_count-index-end.ensures shards held) at c.loop-index-test.true in
    let key : List ℕ = get_or (keys_of shards) c.loop-index.index [] in
    let there : slice_get (keys_of shards) c.loop-index.index ≡ Some key = slice_get-get_or (keys_of shards) c.loop-index.index [] low in
    rw (first_of_lists (λ (k : List ℕ). map (answer_of files c.args.hash.now) (collection k shards)) (keys_of shards))
    (answer_of_next (λ (k : List ℕ). first_answer (map (answer_of files c.args.hash.now) (collection k shards))) (keys_of shards) c.loop-index.index key c.find_of_key-answer.result there (i.found told shards held holds)
    (c.if-not-is_none.ensures.other refl) (rw i.frame.same at (c.find_of_key-answer.ensures.found (i.frame.tells ∙ told) shards key held (rw i.frame.same holds) there)))

pub returns-then-not-is_none-clause-there : goal.returns-then-not-is_none-clause-there
returns-then-not-is_none-clause-there g c told pending =
    let i = c.loop-index.invariant in
    rw i.frame.same at (c.find_of_key-answer.ensures.there (i.frame.tells ∙ told) pending)

pub loop-index-preserved : goal.loop-index-preserved
loop-index-preserved g c =
    let i = c.loop-index.invariant in
    let files = g.D.Disk.files c.args.disk.now in
    let done = c.find_of_key-answer.ensures.frame in
    record {
      found = λ told shards held holds.
          let low : c.loop-index.index < length (keys_of shards) = rw (c.key_count-index-end.ensures shards held) at c.loop-index-test.true in
          let key : List ℕ = get_or (keys_of shards) c.loop-index.index [] in
          let there : slice_get (keys_of shards) c.loop-index.index ≡ Some key = slice_get-get_or (keys_of shards) c.loop-index.index [] low in
          none_of_next (λ (k : List ℕ). first_answer (map (answer_of files c.args.hash.now) (collection k shards))) (keys_of shards) c.loop-index.index key c.find_of_key-answer.result there (i.found told shards held holds)
          (c.if-not-is_none.ensures.none refl) (rw i.frame.same at (c.find_of_key-answer.ensures.found (i.frame.tells ∙ told) shards key held (rw i.frame.same holds) there));
      frame = record { same = done.same ∙ i.frame.same; tells = done.tells ∙ i.frame.tells; later = omega (arith, i.frame.later, done.later) };
    }

pub returns-clause-found : goal.returns-clause-found
returns-clause-found g c told shards held holds =
    let files = g.D.Disk.files c.args.disk.now in
    first_of_lists (λ (k : List ℕ). map (answer_of files c.args.hash.now) (collection k shards)) (keys_of shards)
    ∙ none_of_all (λ (k : List ℕ). first_answer (map (answer_of files c.args.hash.now) (collection k shards))) (keys_of shards) c.loop-index.index
    (rw (c.key_count-index-end.ensures shards held) at c.loop-index-test.false) (c.loop-index.invariant.found told shards held holds)
