use Rattle.std.proofs.Common.{nat_le, subst, Option, Result, ℕ}
use Rattle.xet_hash.specs.declared.error.StoreError.{StoreError}
use Rattle.xet_shard_format.specs.declared.record.FileDataSequenceEntry.{FileDataSequenceEntry}
use Rattle.xet_shard.specs.Bisection.{AnswersAt}
use Rattle.xet_shard.specs.Queries.{chunk_table, query_word, run_of_word}
use Rattle.xet_codec.specs.Parsing.{GivesUnlessFault}
use Rattle.xet_shard.proofs.Asking.{first_is, run_first, run_none_first}
use Rattle.xet_shard.proofs.Bisecting.{some_index}
use Rattle.xet_shard.proofs.info.MDBShardInfo.chunk_hash_dedup_query.Goals as goal

pub returns-in-Some-clause-exact : goal.returns-in-Some-clause-exact
returns-in-Some-clause-exact g c = λ told.
    let f = c.args.self.now.metadata in
    let query = c.args.query.now in
    let whole = g.R.ReadAt.bytes c.args.reader.now in
    let word = first_is f query c.in-Some.first.now c.kept_hash.result c.word-word.result c.in-Some.ensures.value c.kept_hash.ensures c.word-word.ensures in
    let found = subst (λ (w : ℕ). AnswersAt (λ i. nat_le i.0 w) (chunk_table f whole) (λ (x : Option (ℕ × FileDataSequenceEntry)). x) c.run_of_word.result (λ index. run_of_word f query w index whole)) word (c.run_of_word.ensures.exact told) in
    (found.0, found.1, subst (λ (r : Result (Option (ℕ × FileDataSequenceEntry)) StoreError). GivesUnlessFault (λ x. x) c.run_of_word.result r) (run_first f query c.in-Some.first.now found.0 whole c.in-Some.ensures.value) found.2)

pub returns-in-None-clause-exact : goal.returns-in-None-clause-exact
returns-in-None-clause-exact g c = λ told.
    let f = c.args.self.now.metadata in
    let whole = g.R.ReadAt.bytes c.args.reader.now in
    let some = some_index (λ (i : ℕ × ℕ × ℕ). nat_le i.0 (query_word f c.args.query.now)) (chunk_table f whole) in
    (some.0, some.1, run_none_first f c.args.query.now some.0 whole c.in-None.ensures.value)
