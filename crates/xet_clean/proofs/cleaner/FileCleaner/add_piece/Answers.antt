use Rattle.std.proofs.Common.{◌++◌, List, false, append_assoc, refl, sym, ap, subst, arith}
use Rattle.std.proofs.lemmas.Result.{on_err_weaker, on_ok_weaker}
use Rattle.xet_cut.specs.Streams.{IsBlock}
use Rattle.xet_cut.specs.declared.limits.LimitSettings.{LimitSettings}
use Rattle.xet_store.specs.theorems.Following.{asking_nothing}
use Rattle.xet_xorb_chunk.specs.declared.chunk.Chunk.{Chunk}
use Rattle.xet_clean.specs.Cleaner.{IsCleaning}
use Rattle.xet_clean.specs.Planning.{RegistersOnly}
use Rattle.xet_clean.proofs.Cleaning.{cleaning_more, few_more, few_with, more_chunks, more_few, on_err, only_more, only_with, placed_by}
use Rattle.xet_clean.proofs.cleaner.FileCleaner.add_piece.Goals as goal

pub returns-then-bytes-most-clause-follows : goal.returns-then-bytes-most-clause-follows
returns-then-bytes-most-clause-follows g c = asking_nothing (g.S.Stepping.holder c.args.self.now.deduper.interface.steps)

pub returns-then-bytes-most-clause-few : goal.returns-then-bytes-most-clause-few
returns-then-bytes-most-clause-few g c = λ before cleaning. few_with _ _ _ _ _ _ _ _ cleaning c.args.bytes.now

-- the chunks that were registered before these bytes
pub returns-then-bytes-most-clause-own : goal.returns-then-bytes-most-clause-own
returns-then-bytes-most-clause-own g c = λ before rest cleaning.
    let d = c.args.self.now.deduper in
    subst (RegistersOnly (g.S.Stepping.holder d.start.value.steps) (g.S.Stepping.holder d.interface.steps)) (sym (append_assoc before c.args.bytes.now rest)) (only_with _ _ _ _ _ _ _ _ cleaning (c.args.bytes.now ++ rest))

pub returns-in_err-chunks-clause-own : goal.returns-in_err-chunks-clause-own
returns-in_err-chunks-clause-own g c = λ before rest cleaning.
    let d = c.args.self.now.deduper in
    on_err c.from_residual.result (subst (RegistersOnly (g.S.Stepping.holder d.start.value.steps) (g.S.Stepping.holder d.interface.steps)) (sym (append_assoc before c.args.bytes.now rest)) (only_with _ _ _ _ _ _ _ _ cleaning (c.args.bytes.now ++ rest)))

pub returns-in_err-chunks-clause-follows : goal.returns-in_err-chunks-clause-follows
returns-in_err-chunks-clause-follows g c = asking_nothing (g.S.Stepping.holder c.args.self.now.deduper.interface.steps)

pub returns-in_err-chunks-clause-few : goal.returns-in_err-chunks-clause-few
returns-in_err-chunks-clause-few g c = λ before cleaning. on_err c.from_residual.result (few_with _ _ _ _ _ _ _ _ cleaning c.args.bytes.now)

pub place-requires-clause-chunks : goal.place-requires-clause-chunks
place-requires-clause-chunks g c =
    let s = c.args.self.now.chunker in
    let bytes = c.args.bytes.now in
    let left = c.next_chunks.new.chunker.buffered in
    let is = c.requires.cleaning.1 in
    let block = subst (λ (cs : List Chunk). IsBlock s.settings (s.buffered ++ bytes) false cs left) (sym c.deref.ensures.value) c.in_ok-chunks.ensures.block in
    more_chunks _ _ _ _ _ _ _ _ is bytes c.deref.result.now left
    (omega (arith, c.if-bytes-most.false, c.max_source_bytes-most.ensures.value, ap (λ (l : LimitSettings). l.max_source_bytes) c.limits.ensures, is.counted, is.short)) block

pub place-requires-clause-few : goal.place-requires-clause-few
place-requires-clause-few g c =
    let s = c.args.self.now.chunker in
    let bytes = c.args.bytes.now in
    let left = c.next_chunks.new.chunker.buffered in
    let is = c.requires.cleaning.1 in
    let block = subst (λ (cs : List Chunk). IsBlock s.settings (s.buffered ++ bytes) false cs left) (sym c.deref.ensures.value) c.in_ok-chunks.ensures.block in
    more_few _ _ _ _ _ _ _ _ is bytes c.deref.result.now left
    (omega (arith, c.if-bytes-most.false, c.max_source_bytes-most.ensures.value, ap (λ (l : LimitSettings). l.max_source_bytes) c.limits.ensures, is.counted, is.short)) block

pub returns-clause-cleaning : goal.returns-clause-cleaning
returns-clause-cleaning g c = λ before cleaning.
    let d = c.args.self.now.deduper in
    let e = c.place.new.deduper in
    let old = g.S.Stepping.holder d.interface.steps in
    let now = g.S.Stepping.holder e.interface.steps in
    let start = g.S.Stepping.holder e.start.value.steps in
    let s = c.args.self.now.chunker in
    let bytes = c.args.bytes.now in
    let left = c.next_chunks.new.chunker.buffered in
    let chunks = c.deref.result.now in
    let block = subst (λ (cs : List Chunk). IsBlock s.settings (s.buffered ++ bytes) false cs left) (sym c.deref.ensures.value) c.in_ok-chunks.ensures.block in
    let is = subst (λ a. IsCleaning (g.S.Stepping.holder a.steps) old d.whole d.plan d.global s c.args.self.now.byte_count before) (sym c.place.ensures.same.0) cleaning in
    let given = c.place.ensures in
    on_ok_weaker c.place.result
    (λ placed.
    cleaning_more start old _ _ _ _ _ before is bytes chunks left
    (omega (arith, c.if-bytes-most.false, c.max_source_bytes-most.ensures.value, ap (λ (l : LimitSettings). l.max_source_bytes) c.limits.ensures, cleaning.counted, cleaning.short))
    block now e.whole e.global e.plan c.next_chunks.new.chunker _ placed c.next_chunks.ensures.settings refl refl)
    (placed_by c.place.result start old now e.whole e.global d.plan e.plan chunks given.whole (given.global cleaning.none_global) given.deduped given.leaves given.settings given.follows given.passed given.placed)

pub returns-clause-few : goal.returns-clause-few
returns-clause-few g c = λ before cleaning.
    let d = c.args.self.now.deduper in
    let e = c.place.new.deduper in
    let old = g.S.Stepping.holder d.interface.steps in
    let now = g.S.Stepping.holder e.interface.steps in
    let start = g.S.Stepping.holder e.start.value.steps in
    let s = c.args.self.now.chunker in
    let bytes = c.args.bytes.now in
    let left = c.next_chunks.new.chunker.buffered in
    let block = subst (λ (cs : List Chunk). IsBlock s.settings (s.buffered ++ bytes) false cs left) (sym c.deref.ensures.value) c.in_ok-chunks.ensures.block in
    let is = subst (λ a. IsCleaning (g.S.Stepping.holder a.steps) old d.whole d.plan d.global s c.args.self.now.byte_count before) (sym c.place.ensures.same.0) cleaning in
    on_err_weaker c.place.result
    (λ stops.
    few_more start old _ _ _ _ _ before is bytes c.deref.result.now left
    (omega (arith, c.if-bytes-most.false, c.max_source_bytes-most.ensures.value, ap (λ (l : LimitSettings). l.max_source_bytes) c.limits.ensures, cleaning.counted, cleaning.short))
    block now c.place.ensures.follows stops)
    c.place.ensures.stopped

pub returns-clause-own : goal.returns-clause-own
returns-clause-own g c = λ before rest cleaning.
    let d = c.args.self.now.deduper in
    let e = c.place.new.deduper in
    let old = g.S.Stepping.holder d.interface.steps in
    let now = g.S.Stepping.holder e.interface.steps in
    let start = g.S.Stepping.holder e.start.value.steps in
    let s = c.args.self.now.chunker in
    let bytes = c.args.bytes.now in
    let left = c.next_chunks.new.chunker.buffered in
    let block = subst (λ (cs : List Chunk). IsBlock s.settings (s.buffered ++ bytes) false cs left) (sym c.deref.ensures.value) c.in_ok-chunks.ensures.block in
    let is = subst (λ a. IsCleaning (g.S.Stepping.holder a.steps) old d.whole d.plan d.global s c.args.self.now.byte_count before) (sym c.place.ensures.same.0) cleaning in
    on_err_weaker c.place.result
    (λ stops.
    only_more start old _ _ _ _ _ before is bytes c.deref.result.now left
    (omega (arith, c.if-bytes-most.false, c.max_source_bytes-most.ensures.value, ap (λ (l : LimitSettings). l.max_source_bytes) c.limits.ensures, cleaning.counted, cleaning.short))
    block now c.place.ensures.follows stops rest)
    c.place.ensures.stopped
