use Rattle.std.proofs.Common.{◌∙◌, ℕ, ◌+◌, ◌*◌, ◌/◌, ◌%◌, List, ap, arith, drop, length, take, ◌-◌}
use Rattle.std.proofs.lemmas.List.{take_rest}
use Rattle.xet_group.proofs.Counts.{table_same}
use Rattle.xet_group.specs.Histogram.{byte_counts, count_of}
use Rattle.xet_group.proofs.predictor.BG4Predictor.add_data_swar.Goals as goal

pub returns : goal.returns
returns c =
    let b = c.args.b.now in
    let start = c.args.offset % 4 in
    let done = 16 * (length b / 16) in
    c.add_data_reference.ensures
    ∙ table_same (λ g k. count_of c.count_blocks.new.counts g k + byte_counts start (take (length b - done) (drop done b)) g k) (λ g k. count_of c.args.self.now g k + byte_counts start b g k) (λ g k low less.
    let rest = ap (λ (l : List ℕ). byte_counts start l g k) (take_rest b done) in
    let same = ap (λ (t : List (List ℕ)). count_of t g k) c.self.view_is in
    omega (arith, rest, same, c.count_blocks.ensures.counts g k low less))
