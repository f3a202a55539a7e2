use Rattle.std.proofs.Common.{◌≡◌, ◌∙◌, ◌+◌, ◌-◌, ◌<◌, ◌^◌, ap, arith, drop, length, map, take, sym, List, Some, ℕ}
use Rattle.std.proofs.lemmas.List.Sums.{sum_by-take-drop}
use Rattle.xet_shard_format.specs.declared.record.FileDataSequenceEntry.{FileDataSequenceEntry}
use Rattle.xet_shard_format.specs.declared.record.XorbChunkSequenceEntry.{XorbChunkSequenceEntry}
use Rattle.xet_shard.specs.Queries.{kept_hash}
use Rattle.xet_shard_format.specs.Records.{chunk_bytes}
use Rattle.xet_shard.specs.Runs.{agreeing, digests, run_segment}
use Rattle.xet_shard.proofs.Running.{rest_all, run_none, run_some}
use Rattle.xet_shard.proofs.query.run.run_at.Goals as goal

abbrev Chunks : Type 0
Chunks = List XorbChunkSequenceEntry

pub run_length-count-requires : goal.run_length-count-requires
run_length-count-requires c =
    let rest : take (length c.as_slice.result.now - c.args.place) (drop c.args.place c.as_slice.result.now) ≡ drop c.args.place c.args.block.now.chunks =
    rest_all c.as_slice.result.now c.args.place (rw c.as_slice.ensures c.requires.within) ∙ ap (drop c.args.place) c.as_slice.ensures in
    let bytes : chunk_bytes (drop c.args.place c.args.block.now.chunks) < 2 ^ 32 =
    omega (arith, c.requires.form.total, sum_by-take-drop (λ (x : XorbChunkSequenceEntry). x.unpacked_segment_bytes) c.args.block.now.chunks c.args.place) in
    rw rest bytes

pub returns-then-count-eq0 : goal.returns-then-count-eq0
returns-then-count-eq0 c =
    let rest : take (length c.as_slice.result.now - c.args.place) (drop c.args.place c.as_slice.result.now) ≡ drop c.args.place c.args.block.now.chunks =
    rest_all c.as_slice.result.now c.args.place (rw c.as_slice.ensures c.requires.within) ∙ ap (drop c.args.place) c.as_slice.ensures in
    run_none (map (kept_hash c.args.key.now) c.args.query.now) c.args.block.now c.args.place (sym c.if-count-eq0.true ∙ c.run_length-count.ensures.count ∙ ap (λ (cs : Chunks). agreeing (map (kept_hash c.args.key.now) c.args.query.now) (digests cs)) rest)

pub returns : goal.returns
returns c =
    let rest : take (length c.as_slice.result.now - c.args.place) (drop c.args.place c.as_slice.result.now) ≡ drop c.args.place c.args.block.now.chunks =
    rest_all c.as_slice.result.now c.args.place (rw c.as_slice.ensures c.requires.within) ∙ ap (drop c.args.place) c.as_slice.ensures in
    let count : c.run_length-count.result.0 ≡ agreeing (map (kept_hash c.args.key.now) c.args.query.now) (digests (drop c.args.place c.args.block.now.chunks)) =
    c.run_length-count.ensures.count ∙ ap (λ (cs : Chunks). agreeing (map (kept_hash c.args.key.now) c.args.query.now) (digests cs)) rest in
    let bytes : c.run_length-count.result.1 ≡ chunk_bytes (take c.run_length-count.result.0 (drop c.args.place c.args.block.now.chunks)) =
    c.run_length-count.ensures.bytes ∙ ap (λ (cs : Chunks). chunk_bytes (take (agreeing (map (kept_hash c.args.key.now) c.args.query.now) (digests cs)) cs)) rest
    ∙ ap (λ (n : ℕ). chunk_bytes (take n (drop c.args.place c.args.block.now.chunks))) (sym count) in
    let segment : c.new.result ≡ run_segment c.args.block.now c.args.place c.run_length-count.result.0 =
    c.new.ensures ∙ (λ j. record { xorb_hash = c.hash.ensures j; xorb_flags = 0; unpacked_segment_bytes = bytes j; chunk_index_start = c.args.place; chunk_index_end = c.args.place + c.run_length-count.result.0 }) in
    ap (λ (s : FileDataSequenceEntry). Some (c.run_length-count.result.0, s)) segment ∙ run_some (map (kept_hash c.args.key.now) c.args.query.now) c.args.block.now c.args.place c.run_length-count.result.0 c.if-count-eq0.false count
