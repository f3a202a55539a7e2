use Rattle.std.proofs.Common.{◌∙◌, ◌+◌, ◌++◌, ap, arith, drop, length, length-append, refl, slice_range, subst, sym, take}
use Rattle.std.proofs.lemmas.List.{append-nil}
use Rattle.std.proofs.lemmas.Result.{IfErr-weaker, on_err_weaker, on_ok_weaker}
use Rattle.xet_base.specs.theorems.Exits.{exit_on, exit_with}
use Rattle.xet_clean.specs.Cleaner.{IsCleaning}
use Rattle.xet_clean.specs.Errors.{IsCleanerError}
use Rattle.xet_clean.specs.Planning.{IsFew}
use Rattle.xet_clean.specs.Policies.{HasBytesBy}
use Rattle.xet_store.specs.Interface.{IsErrorSince}
use Rattle.xet_store.specs.theorems.Following.{asking_nothing, asking_then}
use Rattle.xet_single_file.proofs.Piecewise.{few_of_whole, in_pieces, more_range, piece_error, whole_range}
use Rattle.xet_single_file.proofs.pieces.add_pieces.Goals as goal

pub pieces-init : goal.pieces-init
pieces-init g c =
    let d = c.args.cleaner.now in
    record {
      some = omega (arith, c.block_bytes-most.ensures.range.0);
      within = omega arith;
      start = refl;
      number = refl;
      id = refl;
      follows = asking_nothing (g.S.Stepping.holder d.deduper.interface.steps);
      added = λ before is.
          subst (IsCleaning (g.S.Stepping.holder d.deduper.start.value.steps) (g.S.Stepping.holder d.deduper.interface.steps) d.deduper.whole d.deduper.plan d.deduper.global d.chunker d.byte_count) (sym (append-nil before)) is;
      hashed = λ before has. subst (HasBytesBy c.args.policy.now c.args.generator.now) (sym (append-nil before)) has;
    }

pub add_piece-requires-clause-cleaning : goal.add_piece-requires-clause-cleaning
add_piece-requires-clause-cleaning g c = let some = c.requires.cleaning in (some.0 ++ take c.pieces.from c.args.bytes.now, c.pieces.invariant.added some.0 some.1)

pub returns-in_err-add_piece-clause-follows : goal.returns-in_err-add_piece-clause-follows
returns-in_err-add_piece-clause-follows g c = asking_then _ _ _ c.pieces.invariant.follows c.add_piece.ensures.follows

pub returns-in_err-add_piece-clause-few : goal.returns-in_err-add_piece-clause-few
returns-in_err-add_piece-clause-few g c = λ before is.
    let from = c.pieces.from in
    let to = from + c.block_bytes-most.result in
    let bytes = c.args.bytes.now in
    let mid = g.S.Stepping.holder c.pieces.cleaner.deduper.interface.steps in
    let now = g.S.Stepping.holder c.add_piece.new.cleaner.deduper.interface.steps in
    let start = g.S.Stepping.holder c.add_piece.new.cleaner.deduper.start.value.steps in
    let here = c.pieces.invariant.added before is in
    exit_on _ c.from_residual.result c.from_residual.ensures.1
    (few_of_whole start mid now before (take from bytes) (slice_range bytes from to) (drop to bytes) bytes here.range c.add_piece.ensures.follows.follows (in_pieces from to bytes (omega arith) c.pieces.invariant.within)
    (c.in_err-add_piece.ensures.few (before ++ take from bytes) here))

pub returns-in_err-add_piece-clause-refused : goal.returns-in_err-add_piece-clause-refused
returns-in_err-add_piece-clause-refused g c =
    let i = c.pieces.invariant in
    let some = c.requires.cleaning in
    let from = c.pieces.from in
    let to = from + c.block_bytes-most.result in
    let bytes = c.args.bytes.now in
    let done = take from bytes in
    let piece = slice_range bytes from to in
    let old = g.S.Stepping.holder c.args.cleaner.now.deduper.interface.steps in
    let mid = g.S.Stepping.holder c.pieces.cleaner.deduper.interface.steps in
    let now = g.S.Stepping.holder c.add_piece.new.cleaner.deduper.interface.steps in
    let here = i.added some.0 some.1 in
    exit_with (IsErrorSince old now) c.from_residual.result _ c.from_residual.ensures.1
    (piece_error c.pieces.cleaner.number c.pieces.cleaner.byte_count piece old mid now _ i.follows.follows
    (omega (arith, c.requires.short, here.counted, some.1.counted, length-append some.0 done, ap length (in_pieces from to bytes (omega arith) i.within), length-append (done ++ piece) (drop to bytes), length-append done piece))
    c.in_err-add_piece.ensures.refused)

pub pieces-preserved : goal.pieces-preserved
pieces-preserved g c =
    let i = c.pieces.invariant in
    let from = c.pieces.from in
    let to = from + c.block_bytes-most.result in
    let bytes = c.args.bytes.now in
    let d = c.add_piece.new.cleaner in
    let same = c.add_piece.ensures.same in
    record {
      some = i.some;
      within = omega (arith, c.pieces-test.true, i.within);
      start = same.0 ∙ i.start;
      number = same.1 ∙ i.number;
      id = same.2 ∙ i.id;
      follows = asking_then _ _ _ i.follows c.add_piece.ensures.follows;
      added = λ before is.
          more_range (IsCleaning (g.S.Stepping.holder d.deduper.start.value.steps) (g.S.Stepping.holder d.deduper.interface.steps) d.deduper.whole d.deduper.plan d.deduper.global d.chunker d.byte_count) before bytes from to (omega arith) i.within
          (c.in_ok-add_piece.ensures.cleaning (before ++ take from bytes) (i.added before is));
      hashed = λ before has. more_range (HasBytesBy c.args.policy.now c.add_piece.new.generator) before bytes from to (omega arith) i.within (c.in_ok-add_piece.ensures.hashed (before ++ take from bytes) (i.hashed before has));
    }

pub add_piece-requires-2-clause-cleaning : goal.add_piece-requires-2-clause-cleaning
add_piece-requires-2-clause-cleaning g c = let some = c.requires.cleaning in (some.0 ++ take c.pieces.from c.args.bytes.now, c.pieces.invariant.added some.0 some.1)

pub returns-clause-cleaning : goal.returns-clause-cleaning
returns-clause-cleaning g c = λ before is.
    let i = c.pieces.invariant in
    let bytes = c.args.bytes.now in
    let d = c.add_piece-2.new.cleaner in
    on_ok_weaker c.add_piece-2.result
    (whole_range (IsCleaning (g.S.Stepping.holder d.deduper.start.value.steps) (g.S.Stepping.holder d.deduper.interface.steps) d.deduper.whole d.deduper.plan d.deduper.global d.chunker d.byte_count) before bytes c.pieces.from i.within)
    (c.add_piece-2.ensures.cleaning (before ++ take c.pieces.from bytes) (i.added before is))

pub returns-clause-hashed : goal.returns-clause-hashed
returns-clause-hashed g c = λ before has.
    let i = c.pieces.invariant in
    let bytes = c.args.bytes.now in
    on_ok_weaker c.add_piece-2.result (whole_range (HasBytesBy c.args.policy.now c.add_piece-2.new.generator) before bytes c.pieces.from i.within) (c.add_piece-2.ensures.hashed (before ++ take c.pieces.from bytes) (i.hashed before has))

pub returns-clause-follows : goal.returns-clause-follows
returns-clause-follows g c = asking_then _ _ _ c.pieces.invariant.follows c.add_piece-2.ensures.follows

pub returns-clause-few : goal.returns-clause-few
returns-clause-few g c = λ before is.
    let i = c.pieces.invariant in
    let bytes = c.args.bytes.now in
    let d = c.add_piece-2.new.cleaner.deduper in
    on_err_weaker c.add_piece-2.result (whole_range (IsFew (g.S.Stepping.holder d.start.value.steps) (g.S.Stepping.holder d.interface.steps)) before bytes c.pieces.from i.within)
    (c.add_piece-2.ensures.few (before ++ take c.pieces.from bytes) (i.added before is))

pub returns-clause-refused : goal.returns-clause-refused
returns-clause-refused g c =
    let i = c.pieces.invariant in
    let some = c.requires.cleaning in
    let from = c.pieces.from in
    let bytes = c.args.bytes.now in
    let done = take from bytes in
    let rest = slice_range bytes from (length bytes) in
    let old = g.S.Stepping.holder c.args.cleaner.now.deduper.interface.steps in
    let mid = g.S.Stepping.holder c.pieces.cleaner.deduper.interface.steps in
    let now = g.S.Stepping.holder c.add_piece-2.new.cleaner.deduper.interface.steps in
    let number = c.pieces.cleaner.number in
    let count = c.pieces.cleaner.byte_count in
    let here = i.added some.0 some.1 in
    IfErr-weaker c.add_piece-2.result (IsCleanerError number count rest mid now) (IsErrorSince old now)
    (λ e is.
    piece_error number count rest old mid now e i.follows.follows
    (omega (arith, c.requires.short, here.counted, some.1.counted, length-append some.0 done, ap length (in_pieces from (length bytes) bytes i.within i.within), length-append (done ++ rest) (drop (length bytes) bytes), length-append done rest)) is)
    c.add_piece-2.ensures.refused
