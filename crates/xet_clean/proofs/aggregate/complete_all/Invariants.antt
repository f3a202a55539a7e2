use Rattle.std.proofs.Common.{◌≡◌, length}
use Rattle.std.specs.Vec.Iter.{into_iter_items, into_iter_len}
use Rattle.xet_clean.proofs.Completing.{IsCompleting}
use Rattle.xet_clean.proofs.aggregate.complete_all.Given as goal

abbrev pub invariant-loop-file : goal.invariant-loop-file
invariant-loop-file g l =
    record {
      completing : IsCompleting l.fn.files.items (into_iter_items l.file-iterator) (g.S.Stepping.holder l.fn.steps) (g.S.Stepping.holder l.steps);
      counted : into_iter_len l.file-iterator ≡ length (into_iter_items l.file-iterator);
    }
