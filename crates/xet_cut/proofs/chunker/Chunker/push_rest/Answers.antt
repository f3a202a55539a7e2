use Rattle.std.proofs.Common.{◌≡◌, ◌∙◌, ◌<◌, ◌++◌, ◌∷◌, [], List, length, drop, ap, sym, arith, length-append, length-drop}
use Rattle.std.proofs.lemmas.List.{append-nil, take_rest}
use Rattle.xet_xorb_chunk.specs.declared.chunk.Chunk.{Chunk}
use Rattle.xet_xorb_chunk.specs.Chunks.{chunk_of}
use Rattle.xet_cut.specs.internal.Cutting.{left, unsplit}
use Rattle.xet_cut.proofs.Splitting.{if_any_none, if_any_some}
use Rattle.xet_cut.proofs.chunker.Chunker.push_rest.Goals as goal
use Rattle.xet_cut.proofs.chunker.Chunker.push_rest.Goals.{then-before-bytes-gt0+in_ok-chunk+in_ok-push, else-before-bytes-gt0}

pub returns-clause-chunks : goal.returns-clause-chunks
returns-clause-chunks c =
    let rest : List _ = left c.args.self.now.buffered c.args.bytes.now c.args.taken in
    let len = length-append (unsplit c.args.self.now.buffered c.args.taken) (drop c.args.taken c.args.bytes.now) in
    elim c.if-before-bytes-gt0.branch [
      | then-before-bytes-gt0+in_ok-chunk+in_ok-push w ↦
          let chunk_is : w.in_ok-chunk.field-0 ≡ chunk_of rest = rw (c.unsplit-before.ensures, take_rest c.args.bytes.now c.args.taken) at w.in_ok-chunk.ensures.chunk in
          let some : 0 < length rest = omega (arith, len, ap length c.unsplit-before.ensures, length-drop c.args.taken c.args.bytes.now) in
          rw (w.chunks-is, ← if_any_some rest some) (w.in_ok-push.ensures.items ∙ ap (λ (x : Chunk). c.args.chunks.now.items ++ x ∷ []) chunk_is)
      | else-before-bytes-gt0 w ↦
          let none : length rest ≡ 0 = omega (arith, len, ap length c.unsplit-before.ensures, length-drop c.args.taken c.args.bytes.now) in
          rw (w.chunks-is, ← if_any_none rest none) (sym (append-nil c.args.chunks.now.items))
    ]
