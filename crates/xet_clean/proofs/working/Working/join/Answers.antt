use Rattle.std.proofs.Common.{◌≡◌, ◌∙◌, ℕ, ◌+◌, ◌*◌, false, List, length, map, ap, subst, sym, arith, inl, refl}
use Rattle.xet_aggregate.specs.Aggregate.{Aggregate, fits}
use Rattle.xet_base.specs.theorems.Exits.{exit_with}
use Rattle.xet_cut.specs.declared.limits.LimitSettings.{LimitSettings}
use Rattle.xet_dedup_queries.specs.Registering.{IsDue}
use Rattle.xet_hash.specs.declared.error.StoreError.TheVariants.{OutOfMemory}
use Rattle.xet_store.specs.Holders.{Follows, xorb_limits}
use Rattle.xet_store.specs.theorems.Following.{follows_nothing}
use Rattle.xet_xorb_chunk.specs.Chunks.{chunk_leaf}
use Rattle.xet_clean.specs.Closing.{IsAtMost, IsUnclosed, RegistersFull}
use Rattle.xet_clean.proofs.Completing.{due_unless_fits, unclosed_after, unclosed_further, unclosed_nothing, unless_memory}
use Rattle.xet_clean.specs.theorems.Counting.{at_most_more, at_most_nothing}
use Rattle.xet_clean.proofs.working.Working.join.Goals as goal
use Rattle.xet_clean.proofs.working.Working.join.Goals.{then-not-fits+in_ok-next+in_ok-close, else-not-fits}

pub returns-in_err-next-clause-follows : goal.returns-in_err-next-clause-follows
returns-in_err-next-clause-follows g c = follows_nothing (g.S.Stepping.holder c.args.steps.now)

pub returns-in_err-next-clause-few : goal.returns-in_err-next-clause-few
returns-in_err-next-clause-few g c =
    let a = c.args.self.now.aggregate in
    let h = g.S.Stepping.holder c.args.steps.now in
    at_most_more 0 (2 * length a.chunks + 2 * length a.files) h h (omega arith) (at_most_nothing h)

pub close-requires-clause-due : goal.close-requires-clause-due
close-requires-clause-due g c =
    let s : LimitSettings = (g.S.Stepping.holder c.args.steps.now).limits in
    let a : Aggregate = c.args.self.now.aggregate in
    let rest : Aggregate = c.args.rest in
    let unfit : fits s a rest ≡ false = ap (λ (l : LimitSettings). fits l a rest) (sym c.limits.ensures) ∙ sym c.fits.ensures ∙ c.if-not-fits.true in
    subst (λ (b : Aggregate). IsDue (xorb_limits s) (map chunk_leaf b.chunks) c.deref.result.now) (sym c.take-full.ensures.taken)
    (subst (IsDue (xorb_limits s) (map chunk_leaf a.chunks)) (sym (c.deref.ensures.value ∙ c.in_ok-next.ensures.leaves ∙ ap (map chunk_leaf) c.chunks.ensures)) (due_unless_fits s a rest unfit))

pub returns-clause-follows : goal.returns-clause-follows
returns-clause-follows g c =
    elim c.if-not-fits.branch [
      | then-not-fits+in_ok-next+in_ok-close w ↦ subst (λ s. Follows (g.S.Stepping.holder c.args.steps.now) (g.S.Stepping.holder s)) (sym w.steps-is) w.close.ensures.follows
      | else-not-fits w ↦ subst (λ s. Follows (g.S.Stepping.holder c.args.steps.now) (g.S.Stepping.holder s)) (sym w.steps-is) (follows_nothing (g.S.Stepping.holder c.args.steps.now))
    ]

pub returns-clause-few : goal.returns-clause-few
returns-clause-few g c =
    let a : Aggregate = c.args.self.now.aggregate in
    let h = g.S.Stepping.holder c.args.steps.now in
    elim c.if-not-fits.branch [
      | then-not-fits+in_ok-next+in_ok-close w ↦ subst (λ s. IsAtMost (2 * length a.chunks + 2 * length a.files) h (g.S.Stepping.holder s)) (sym w.steps-is)
          (subst (λ (b : Aggregate). IsAtMost (2 * length b.chunks + 2 * length b.files) h (g.S.Stepping.holder w.close.new.steps)) w.take-full.ensures.taken w.close.ensures.few)
      | else-not-fits w ↦ subst (λ s. IsAtMost (2 * length a.chunks + 2 * length a.files) h (g.S.Stepping.holder s)) (sym w.steps-is)
          (at_most_more 0 (2 * length a.chunks + 2 * length a.files) h h (omega arith) (at_most_nothing h))
    ]

pub returns-in_err-next-clause-refused : goal.returns-in_err-next-clause-refused
returns-in_err-next-clause-refused g c =
    let a : Aggregate = c.args.self.now.aggregate in
    let h = g.S.Stepping.holder c.args.steps.now in
    let next : List (List ℕ × ℕ) = map chunk_leaf c.args.rest.chunks in
    exit_with (IsUnclosed (RegistersFull a next) a next h h) _ _ c.from_residual.ensures.1
    (subst (IsUnclosed (RegistersFull a next) a next h h) (sym c.in_err-next.ensures.memory) (unclosed_nothing (RegistersFull a next) (inl refl, tt) a next h))

pub returns-in_err-close-clause-refused : goal.returns-in_err-close-clause-refused
returns-in_err-close-clause-refused g c =
    let s : LimitSettings = (g.S.Stepping.holder c.args.steps.now).limits in
    let a : Aggregate = c.args.self.now.aggregate in
    let rest : Aggregate = c.args.rest in
    let h = g.S.Stepping.holder c.args.steps.now in
    let new = g.S.Stepping.holder c.close.new.steps in
    let unfit : fits s a rest ≡ false = ap (λ (l : LimitSettings). fits l a rest) (sym c.limits.ensures) ∙ sym c.fits.ensures ∙ c.if-not-fits.true in
    exit_with (IsUnclosed (RegistersFull a (map chunk_leaf rest.chunks)) a (map chunk_leaf rest.chunks) h new) _ _ c.from_residual-in_err-close.ensures.1
    (unclosed_further s c.take-full.result a rest c.deref.result.now h new _ c.take-full.ensures.taken (c.deref.ensures.value ∙ c.in_ok-next.ensures.leaves ∙ ap (map chunk_leaf) c.chunks.ensures) unfit c.requires.here.1 c.requires.rest.1
    c.in_err-close.ensures.refused)

pub returns-clause-refused : goal.returns-clause-refused
returns-clause-refused g c =
    let a : Aggregate = c.args.self.now.aggregate in
    let h = g.S.Stepping.holder c.args.steps.now in
    let next : List (List ℕ × ℕ) = map chunk_leaf c.args.rest.chunks in
    let limits : LimitSettings = (g.S.Stepping.holder c.args.steps.now).limits in
    unless_memory c.merge_in.result (IsUnclosed (RegistersFull a next) a next h (g.S.Stepping.holder c.if-not-fits.steps)) c.merge_in.ensures.memory (elim c.if-not-fits.branch [
      | then-not-fits+in_ok-next+in_ok-close w ↦ subst (λ s. IsUnclosed (RegistersFull a next) a next h (g.S.Stepping.holder s) OutOfMemory) (sym w.steps-is)
          (unclosed_further limits w.take-full.result a c.args.rest w.deref.result.now h (g.S.Stepping.holder w.close.new.steps) OutOfMemory w.take-full.ensures.taken
          (w.deref.ensures.value ∙ w.in_ok-next.ensures.leaves ∙ ap (map chunk_leaf) w.chunks.ensures)
          (ap (λ (l : LimitSettings). fits l a c.args.rest) (sym c.limits.ensures) ∙ sym c.fits.ensures ∙ w.if-not-fits.true) c.requires.here.1 c.requires.rest.1
          (unclosed_after w.take-full.result w.deref.result.now h (g.S.Stepping.holder w.close.new.steps) w.in_ok-close.ensures.closes))
      | else-not-fits w ↦ subst (λ s. IsUnclosed (RegistersFull a next) a next h (g.S.Stepping.holder s) OutOfMemory) (sym w.steps-is) (unclosed_nothing (RegistersFull a next) (inl refl, tt) a next h)
    ])
