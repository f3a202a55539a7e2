use Rattle.std.proofs.Common.{◌++◌, [], List, true, sym, subst}
use Rattle.std.proofs.lemmas.Result.{on_err_weaker, on_ok_weaker}
use Rattle.xet_cut.specs.Streams.{IsBlock}
use Rattle.xet_store.specs.theorems.Following.{asking_nothing}
use Rattle.xet_xorb_chunk.specs.declared.chunk.Chunk.{Chunk}
use Rattle.xet_clean.specs.Cleaner.{IsCleaningBytes}
use Rattle.xet_clean.proofs.Cleaning.{few_here, few_last, last_chunks, last_few, on_err, only_here, only_last, placed_by, planned_last}
use Rattle.xet_clean.proofs.cleaner.place_last.Goals as goal

pub returns-in_err-chunks-clause-follows : goal.returns-in_err-chunks-clause-follows
returns-in_err-chunks-clause-follows g c = asking_nothing (g.S.Stepping.holder c.args.deduper.now.interface.steps)

pub returns-in_err-chunks-clause-few : goal.returns-in_err-chunks-clause-few
returns-in_err-chunks-clause-few g c = λ bytes cleaning. on_err c.from_residual.result (few_here _ _ _ _ _ _ _ _ cleaning)

pub returns-in_err-chunks-clause-own : goal.returns-in_err-chunks-clause-own
returns-in_err-chunks-clause-own g c = λ bytes cleaning. on_err c.from_residual.result (only_here _ _ _ _ _ _ _ _ cleaning)

pub place-requires-clause-chunks : goal.place-requires-clause-chunks
place-requires-clause-chunks g c =
    let s = c.args.chunker.now in
    let left = c.next_block.new.self.buffered in
    let block = subst (λ (cs : List Chunk). IsBlock s.settings (s.buffered ++ []) true cs left) (sym c.deref.ensures.value) c.in_ok-chunks.ensures.block in
    last_chunks _ _ _ _ _ _ _ _ c.requires.cleaning.1 c.deref.result.now left block

pub place-requires-clause-few : goal.place-requires-clause-few
place-requires-clause-few g c =
    let s = c.args.chunker.now in
    let left = c.next_block.new.self.buffered in
    let block = subst (λ (cs : List Chunk). IsBlock s.settings (s.buffered ++ []) true cs left) (sym c.deref.ensures.value) c.in_ok-chunks.ensures.block in
    last_few _ _ _ _ _ _ _ _ c.requires.cleaning.1 c.deref.result.now left block

pub returns-clause-planned : goal.returns-clause-planned
returns-clause-planned g c = λ bytes cleaning.
    let d = c.args.deduper.now in
    let e = c.place.new.deduper in
    let old = g.S.Stepping.holder d.interface.steps in
    let now = g.S.Stepping.holder e.interface.steps in
    let start = g.S.Stepping.holder e.start.value.steps in
    let s = c.args.chunker.now in
    let left = c.next_block.new.self.buffered in
    let chunks = c.deref.result.now in
    let block = subst (λ (cs : List Chunk). IsBlock s.settings (s.buffered ++ []) true cs left) (sym c.deref.ensures.value) c.in_ok-chunks.ensures.block in
    let is = subst (λ a. IsCleaningBytes (g.S.Stepping.holder a.steps) old d.whole d.plan d.global s bytes) (sym c.place.ensures.same.0) cleaning in
    let given = c.place.ensures in
    on_ok_weaker c.place.result (λ placed. planned_last start old _ _ _ _ _ bytes is chunks left block now e.whole e.global e.plan placed)
    (placed_by c.place.result start old now e.whole e.global d.plan e.plan chunks given.whole (given.global cleaning.none_global) given.deduped given.leaves given.settings given.follows given.passed given.placed)

pub returns-clause-few : goal.returns-clause-few
returns-clause-few g c = λ bytes cleaning.
    let d = c.args.deduper.now in
    let e = c.place.new.deduper in
    let old = g.S.Stepping.holder d.interface.steps in
    let now = g.S.Stepping.holder e.interface.steps in
    let start = g.S.Stepping.holder e.start.value.steps in
    let s = c.args.chunker.now in
    let left = c.next_block.new.self.buffered in
    let block = subst (λ (cs : List Chunk). IsBlock s.settings (s.buffered ++ []) true cs left) (sym c.deref.ensures.value) c.in_ok-chunks.ensures.block in
    let is = subst (λ a. IsCleaningBytes (g.S.Stepping.holder a.steps) old d.whole d.plan d.global s bytes) (sym c.place.ensures.same.0) cleaning in
    on_err_weaker c.place.result (λ stops. few_last start old _ _ _ _ _ bytes is c.deref.result.now left block now c.place.ensures.follows stops) c.place.ensures.stopped

pub returns-clause-own : goal.returns-clause-own
returns-clause-own g c = λ bytes cleaning.
    let d = c.args.deduper.now in
    let e = c.place.new.deduper in
    let old = g.S.Stepping.holder d.interface.steps in
    let now = g.S.Stepping.holder e.interface.steps in
    let start = g.S.Stepping.holder e.start.value.steps in
    let s = c.args.chunker.now in
    let left = c.next_block.new.self.buffered in
    let block = subst (λ (cs : List Chunk). IsBlock s.settings (s.buffered ++ []) true cs left) (sym c.deref.ensures.value) c.in_ok-chunks.ensures.block in
    let is = subst (λ a. IsCleaningBytes (g.S.Stepping.holder a.steps) old d.whole d.plan d.global s bytes) (sym c.place.ensures.same.0) cleaning in
    on_err_weaker c.place.result (λ stops. only_last start old _ _ _ _ _ bytes is c.deref.result.now left block now c.place.ensures.follows stops) c.place.ensures.stopped
