use Rattle.std.proofs.Common.{◌≡◌, ◌∙◌, List, [], ◌++◌, length, map, ap, append-nil, refl, subst, sym, arith, eqb-true}
use Rattle.std.proofs.lemmas.List.{length-map, nil_from_length}
use Rattle.xet_dedup.specs.theorems.Adding.{placed_calls, stopped_calls}
use Rattle.xet_store.specs.Interface.{IsErrorSince}
use Rattle.xet_store.specs.theorems.Following.{extends_asking}
use Rattle.xet_xorb_chunk.specs.Chunks.{chunk_leaf}
use Rattle.xet_store.specs.theorems.Following.{asking_nothing}
use Rattle.xet_xorb_chunk.specs.declared.chunk.Chunk.{Chunk}
use Rattle.xet_clean.proofs.Batches.{batch_error, batch_nothing, batch_of, some_chunks, stops_in_batch}
use Rattle.xet_clean.proofs.cleaner.place.Goals as goal

pub returns-in-Ok-clause-placed : goal.returns-in-Ok-clause-placed
returns-in-Ok-clause-placed g c =
    let p = c.args.deduper.now.plan in
    let leaves = map chunk_leaf c.args.chunks.now in
    batch_of leaves (g.S.Stepping.holder c.args.deduper.now.interface.steps) (g.S.Stepping.holder c.process_chunks.new.self.interface.steps) (omega (arith, c.process_chunks.ensures.queries refl, length-map c.args.chunks.now chunk_leaf))
    (map chunk_leaf p.block) (map chunk_leaf c.process_chunks.new.self.plan.block)
    (placed_calls _ _ _ _ _ c.args.chunks.now c.args.deduper.now.interface p c.process_chunks.new.self.interface c.process_chunks.new.self.plan _ _ c.recall_invariant.ensures.range c.requires.chunks c.in-Ok.ensures.placed)

pub returns-in-Ok-clause-follows : goal.returns-in-Ok-clause-follows
returns-in-Ok-clause-follows g c = extends_asking (λ a. g.S.Stepping.holder a.steps) _ _ _ c.args.deduper.now.interface c.process_chunks.new.self.interface c.process_chunks.ensures.extends

pub returns-in-Err-clause-follows : goal.returns-in-Err-clause-follows
returns-in-Err-clause-follows g c = extends_asking (λ a. g.S.Stepping.holder a.steps) _ _ _ c.args.deduper.now.interface c.process_chunks.new.self.interface c.process_chunks.ensures.extends

pub returns-in-Err-clause-refused : goal.returns-in-Err-clause-refused
returns-in-Err-clause-refused g c = subst (IsErrorSince (g.S.Stepping.holder c.args.deduper.now.interface.steps) (g.S.Stepping.holder c.process_chunks.new.self.interface.steps)) (sym c.store_error.ensures) (batch_error (g.S.Stepping.holder c.args.deduper.now.interface.steps) (g.S.Stepping.holder c.process_chunks.new.self.interface.steps) c.in-Err.error c.in-Err.ensures.refused)

pub returns-then-is_empty-clause-leaves : goal.returns-then-is_empty-clause-leaves
returns-then-is_empty-clause-leaves g c =
    let p = c.args.deduper.now.plan in
    let none : c.args.chunks.now ≡ [] = nil_from_length c.args.chunks.now (eqb-true (length c.args.chunks.now) 0 (sym c.is_empty.ensures ∙ c.if-is_empty.true)) in
    sym (append-nil p.leaves) ∙ ap (λ (cs : List Chunk). p.leaves ++ map chunk_leaf cs) (sym none)

pub returns-then-is_empty-clause-follows : goal.returns-then-is_empty-clause-follows
returns-then-is_empty-clause-follows g c = asking_nothing (g.S.Stepping.holder c.args.deduper.now.interface.steps)

pub returns-in-Err-clause-stopped : goal.returns-in-Err-clause-stopped
returns-in-Err-clause-stopped g c =
    let old = g.S.Stepping.holder c.args.deduper.now.interface.steps in
    let new = g.S.Stepping.holder c.process_chunks.new.self.interface.steps in
    let p = c.args.deduper.now.plan in
    let leaves = map chunk_leaf c.args.chunks.now in
    stops_in_batch leaves old new (omega (arith, c.process_chunks.ensures.queries refl, length-map c.args.chunks.now chunk_leaf)) (map chunk_leaf p.block)
    (stopped_calls _ _ _ _ _ c.args.chunks.now c.args.deduper.now.interface p _ c.process_chunks.new.self.interface c.recall_invariant.ensures.range c.requires.chunks c.in-Err.ensures.stopped)
    (extends_asking (λ a. g.S.Stepping.holder a.steps) _ _ _ c.args.deduper.now.interface c.process_chunks.new.self.interface c.process_chunks.ensures.extends)
    (some_chunks c.args.chunks.now _ c.is_empty.ensures c.if-is_empty.false)

pub returns-then-is_empty-clause-placed : goal.returns-then-is_empty-clause-placed
returns-then-is_empty-clause-placed g c = batch_nothing (map chunk_leaf c.args.chunks.now) (map chunk_leaf c.args.deduper.now.plan.block) (g.S.Stepping.holder c.args.deduper.now.interface.steps)
