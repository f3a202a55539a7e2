use Rattle.std.proofs.Common.{ℕ, ◌+◌, ◌*◌, List, length, map, subst, sym, arith, inl, refl}
use Rattle.xet_base.specs.theorems.Exits.{exit_with}
use Rattle.xet_store.specs.theorems.Following.{follows_nothing}
use Rattle.xet_xorb_chunk.specs.Chunks.{chunk_leaf}
use Rattle.xet_clean.specs.Closing.{IsUnclosed, RegistersFull}
use Rattle.xet_clean.proofs.Completing.{unclosed_nothing}
use Rattle.xet_clean.specs.theorems.Counting.{at_most_more, at_most_nothing}
use Rattle.xet_clean.proofs.working.Working.merge.Goals as goal

pub returns-in_err-add-clause-follows : goal.returns-in_err-add-clause-follows
returns-in_err-add-clause-follows g c = follows_nothing (g.S.Stepping.holder c.args.steps.now)

pub returns-in_err-add-clause-few : goal.returns-in_err-add-clause-few
returns-in_err-add-clause-few g c =
    let a = c.args.self.now.aggregate in
    let h = g.S.Stepping.holder c.args.steps.now in
    at_most_more 0 (2 * length a.chunks + 2 * length a.files) h h (omega arith) (at_most_nothing h)

pub returns-in_err-add-clause-refused : goal.returns-in_err-add-clause-refused
returns-in_err-add-clause-refused g c =
    let a = c.args.self.now.aggregate in
    let h = g.S.Stepping.holder c.args.steps.now in
    let next : List (List ℕ × ℕ) = map chunk_leaf c.args.part.aggregate.chunks in
    exit_with (IsUnclosed (RegistersFull a next) a next h h) _ _ c.from_residual.ensures.1 (subst (IsUnclosed (RegistersFull a next) a next h h) (sym c.in_err-add.ensures.memory) (unclosed_nothing (RegistersFull a next) (inl refl, tt) a next h))
