use Rattle.std.proofs.Common.{◌≡◌, ◌∙◌, ◌+◌, ℕ, suc, List, cond, Bool, drop, ap, arith, map, nat_eq, refl, rules, sym, take, true, false}
use Rattle.std.proofs.lemmas.List.Sums.{sum_by_more}
use Rattle.std.specs.Cmp.Lexicographic.{pointwise}
use Rattle.xet_shard_format.specs.declared.record.XorbChunkSequenceEntry.{XorbChunkSequenceEntry}
use Rattle.xet_shard.specs.Queries.{kept_hash}
use Rattle.xet_shard_format.specs.Records.{chunk_bytes}
use Rattle.xet_shard.specs.Runs.{agreeing, digests}
use Rattle.xet_shard_format.specs.theorems.Steps.{lent_at, none_lent}
use Rattle.xet_shard.proofs.Running.{agreeing-done, agreeing-ended, agreeing-step}
use Rattle.xet_shard.proofs.query.run.run_length.Goals as goal

pub loop-count-preserved : goal.loop-count-preserved
loop-count-preserved c =
    let ks : List (List ℕ) = map (kept_hash c.args.key.now) c.args.query.now in
    let k : List ℕ = kept_hash c.args.key.now c.index-query-count.result in
    let at = lent_at (kept_hash c.args.key.now) c.args.query.now c.loop-count.count c.index-query-count.result k c.loop-count-test.true c.index-query-count.is refl in
    let same : pointwise nat_eq c.kept_hash.result c.index-chunks-count.result.chunk_hash ≡ true = search rules in
    let step : agreeing (drop c.loop-count.count ks) (digests (drop c.loop-count.count c.args.chunks.now))
    ≡ suc (agreeing (drop (c.loop-count.count + 1) ks) (digests (drop (c.loop-count.count + 1) c.args.chunks.now))) =
    agreeing-step ks c.args.chunks.now c.loop-count.count k c.index-chunks-count.result at.0 at.1 c.if-count-chunks.true c.index-chunks-count.is
    ∙ ap (λ (b : Bool). cond b (suc (agreeing (drop (c.loop-count.count + 1) ks) (digests (drop (c.loop-count.count + 1) c.args.chunks.now)))) 0) (ap (λ (h : List ℕ). pointwise nat_eq h c.index-chunks-count.result.chunk_hash) (sym c.kept_hash.ensures) ∙ same) in
    record {
      count = omega (arith, c.loop-count.invariant.count, step);
      bytes = omega (arith, c.loop-count.invariant.bytes, sum_by_more (λ (x : XorbChunkSequenceEntry). x.unpacked_segment_bytes) c.args.chunks.now c.loop-count.count c.index-chunks-count-in-loop-count.result c.if-count-chunks.true);
      within = omega (arith, c.if-count-chunks.true);
    }

pub returns-else-eq-clause-count : goal.returns-else-eq-clause-count
returns-else-eq-clause-count c =
    let ks : List (List ℕ) = map (kept_hash c.args.key.now) c.args.query.now in
    let k : List ℕ = kept_hash c.args.key.now c.index-query-count.result in
    let at = lent_at (kept_hash c.args.key.now) c.args.query.now c.loop-count.count c.index-query-count.result k c.loop-count-test.true c.index-query-count.is refl in
    let other : pointwise nat_eq c.kept_hash.result c.index-chunks-count.result.chunk_hash ≡ false = search rules in
    let step : agreeing (drop c.loop-count.count ks) (digests (drop c.loop-count.count c.args.chunks.now)) ≡ 0 =
    agreeing-step ks c.args.chunks.now c.loop-count.count k c.index-chunks-count.result at.0 at.1 c.if-count-chunks.true c.index-chunks-count.is
    ∙ ap (λ (b : Bool). cond b (suc (agreeing (drop (c.loop-count.count + 1) ks) (digests (drop (c.loop-count.count + 1) c.args.chunks.now)))) 0) (ap (λ (h : List ℕ). pointwise nat_eq h c.index-chunks-count.result.chunk_hash) (sym c.kept_hash.ensures) ∙ other) in
    omega (arith, c.loop-count.invariant.count, step)

pub returns-else-eq-clause-bytes : goal.returns-else-eq-clause-bytes
returns-else-eq-clause-bytes c = c.loop-count.invariant.bytes ∙ ap (λ (n : ℕ). chunk_bytes (take n c.args.chunks.now)) (returns-else-eq-clause-count c)

pub returns-else-count-chunks-clause-count : goal.returns-else-count-chunks-clause-count
returns-else-count-chunks-clause-count c = omega (arith, c.loop-count.invariant.count, agreeing-ended (map (kept_hash c.args.key.now) c.args.query.now) c.args.chunks.now c.loop-count.count c.if-count-chunks.false)

pub returns-else-count-chunks-clause-bytes : goal.returns-else-count-chunks-clause-bytes
returns-else-count-chunks-clause-bytes c = c.loop-count.invariant.bytes ∙ ap (λ (n : ℕ). chunk_bytes (take n c.args.chunks.now)) (returns-else-count-chunks-clause-count c)

pub returns-after-loop-count-clause-count : goal.returns-after-loop-count-clause-count
returns-after-loop-count-clause-count c = omega (arith, c.loop-count.invariant.count, agreeing-done (map (kept_hash c.args.key.now) c.args.query.now) c.args.chunks.now c.loop-count.count (none_lent (kept_hash c.args.key.now) c.args.query.now c.loop-count.count c.loop-count-test.false))

pub returns-after-loop-count-clause-bytes : goal.returns-after-loop-count-clause-bytes
returns-after-loop-count-clause-bytes c = c.loop-count.invariant.bytes ∙ ap (λ (n : ℕ). chunk_bytes (take n c.args.chunks.now)) (returns-after-loop-count-clause-count c)
