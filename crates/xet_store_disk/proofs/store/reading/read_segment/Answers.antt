use Rattle.std.proofs.Common.{◌≡◌, ◌∙◌, ◌++◌, ◌≤◌, min, ℕ, List, Some, ap, sym, arith}
use Rattle.std.proofs.lemmas.List.{append-nil}
use Rattle.std.proofs.lemmas.Result.{on_ok_weaker}
use Rattle.std.specs.List.{concat}
use Rattle.xet_hash.specs.Merkle.{leaves_of}
use Rattle.xet_folder.specs.Plan.{part, range}
use Rattle.xet_folder.specs.theorems.Ranges.{range_end, range_out}
use Rattle.xet_store_disk.proofs.Reading.{part_size}
use Rattle.xet_store_disk.proofs.store.reading.read_segment.Goals as goal

pub returns-then-from-end-clause-range : goal.returns-then-from-end-clause-range
returns-then-from-end-clause-range g c = λ _ chunks has.
    let s = c.args.segment.now in
    let size = part_size c.args.xorbs.now.entries s chunks c.requires has.1 in
    let out : min c.args.to s.unpacked_segment_bytes ≤ c.args.from = omega (arith, c.min-end.ensures, c.from.ensures) in
    sym (append-nil c.args.reader.now) ∙ ap (λ (l : List ℕ). c.args.reader.now ++ l) (sym (range_out (concat (part s chunks)) c.args.from c.args.to s.unpacked_segment_bytes size out))

pub returns-clause-range : goal.returns-clause-range
returns-clause-range g c = λ told.
    let s = c.args.segment.now in
    on_ok_weaker c.read_run.result
    (λ run chunks has.
    let whole : Some c.in-Some.leaves.now ≡ Some (leaves_of chunks) = c.in-Some.ensures.value ∙ has.1 in
    let same : leaves_of chunks ≡ c.in-Some.leaves.now = cc in
    let size = part_size c.args.xorbs.now.entries s chunks c.requires has.1 in
    run chunks has.0 same ∙ ap (λ (k : ℕ). c.args.reader.now ++ range (concat (part s chunks)) c.args.from k) (c.min-end.ensures ∙ ap (min c.args.to) c.from.ensures)
    ∙ ap (λ (l : List ℕ). c.args.reader.now ++ l) (range_end (concat (part s chunks)) c.args.from c.args.to s.unpacked_segment_bytes size))
    (c.read_run.ensures.run told)
