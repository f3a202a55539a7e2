use Rattle.std.proofs.Common.{◌≡◌, ◌∙◌, ◌+◌, ◌-◌, ◌++◌, ap, arith, drop, length, length-drop, rules, sym, take, ℕ}
use Rattle.std.proofs.lemmas.List.{length-take, length-take-le, places, with_items_is}
use borrow.Rule.Slice.PartMut.{post_of}
use Rattle.xet_codec.proofs.Blocks.{fewer, refilled_is}
use Rattle.xet_codec.proofs.block.Block.refill.Goals as goal

pub returns-clause-part : goal.returns-clause-part
returns-clause-part g c = λ told room is.
    let bytes = g.R.ReadAt.bytes c.args.reader.now in
    let all = c.deref_mut.result.now in
    let kept = c.min-kept.result in
    let size = c.args.size in
    let old = c.keep.new.self.bytes.items in
    let here = with_items_is c.resize.new.self (take kept all ++ (c.read_exact.new.buf ++ post_of kept (length all - kept) all)) (search (rules, places)) in
    let same : take kept old ≡ take kept (drop c.args.at bytes) = fewer kept c.keep.result old (drop c.args.at bytes) (omega arith) (c.keep.ensures.kept bytes is) in
    let long : length all ≡ size = omega (arith, c.deref_mut.ensures.len, c.in_ok-resize.ensures.len) in
    let rest : length (take (length all - kept) (drop kept all)) ≡ size - kept = omega (arith, long, length-take (length all - kept) (drop kept all), length-drop kept all) in
    let read = c.in_ok-read_exact.ensures.told told (omega arith) in
    let whole : take kept all ++ (c.read_exact.new.buf ++ post_of kept (length all - kept) all) ≡ take size (drop c.args.at bytes) =
    refilled_is c.args.at kept size bytes old _ all c.read_exact.new.buf (omega arith) (omega (arith, c.keep.ensures.few)) same (c.deref_mut.ensures.value ∙ c.in_ok-resize.ensures.items) long
    (read ∙ ap (λ (n : ℕ). take n (drop (c.args.at + kept) bytes)) rest) in
    let count : length (take size (drop c.args.at bytes)) ≡ size = length-take-le size (drop c.args.at bytes) (omega (arith, length-drop c.args.at bytes)) in
    record { is = here ∙ whole ∙ ap (λ (n : ℕ). take n (drop c.args.at bytes)) (sym (ap length (here ∙ whole) ∙ count)) }
