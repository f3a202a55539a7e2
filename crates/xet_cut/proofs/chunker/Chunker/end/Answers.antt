use Rattle.std.proofs.Common.{◌≡◌, ◌∙◌, ◌<◌, ◌++◌, length, Some, ap, option_map, arith, length-append}
use Rattle.xet_xorb_chunk.specs.Chunks.{chunk_of}
use Rattle.xet_cut.proofs.Splitting.{if_any_some}
use Rattle.xet_cut.proofs.chunker.Chunker.end.Goals as goal

pub returns-clause-chunk : goal.returns-clause-chunk
returns-clause-chunk c =
    let buffered_is : c.self.inside.buffered.items ≡ c.args.self.now.buffered = ap (λ v. v.buffered) c.self.view_is in
    let chunk_is : c.in_ok-chunk.chunk ≡ chunk_of (c.args.self.now.buffered ++ c.args.bytes.now) = rw (c.deref.ensures.value, buffered_is) at c.in_ok-chunk.ensures.chunk in
    let some : 0 < length (c.args.self.now.buffered ++ c.args.bytes.now) =
    omega (arith, length-append c.args.self.now.buffered c.args.bytes.now, ap length buffered_is, c.self.inside.buffered.ok.0) in
    ap Some chunk_is ∙ ap (option_map chunk_of) (if_any_some (c.args.self.now.buffered ++ c.args.bytes.now) some)
