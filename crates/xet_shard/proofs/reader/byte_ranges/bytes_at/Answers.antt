use Rattle.std.proofs.Common.{arith, ◌∙◌, ◌++◌, Ok, ap, drop, length, sym, take, ℕ}
use Rattle.std.proofs.Math.Seq.{take-append_seam}
use Rattle.xet_shard.proofs.Faulting.{piece_there}
use Rattle.xet_shard.proofs.reader.byte_ranges.bytes_at.Goals as goal

pub returns-clause-told : goal.returns-clause-told
returns-clause-told g c = λ told le.
    let whole = g.R.ReadAt.bytes c.args.reader.now in
    let buf = c.fill.new.buf in
    let rest = drop (length buf) c.in_ok-bytes.bytes.items in
    let room = c.deref_mut.ensures.len ∙ c.in_ok-bytes.ensures.len in
    let same = c.in_ok-fill.ensures.len ∙ room in
    piece_there c.args.at c.args.len whole le
    ∙ ap Ok (sym (ap (λ (n : ℕ). take n (buf ++ rest)) (c.in_ok-bytes.ensures.len ∙ sym same) ∙ take-append_seam buf rest
    ∙ c.in_ok-fill.ensures.told told (omega (arith, le, room)) ∙ ap (λ (n : ℕ). take n (drop c.args.at whole)) room))
