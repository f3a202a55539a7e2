use Rattle.std.proofs.Common.{◌∙◌, ℕ, ap, take}
use Rattle.std.proofs.lemmas.Result.{on_ok_weaker}
use Rattle.xet_codec.specs.theorems.Buffering.{direct, direct_prefix, on_err}
use Rattle.xet_codec.proofs.buffer.Buffer.put.Goals as goal

pub returns-then-piece-gt-ROOM-clause-moved : goal.returns-then-piece-gt-ROOM-clause-moved
returns-then-piece-gt-ROOM-clause-moved g c = λ told.
    let made = c.in_ok-make_room.ensures in
    on_ok_weaker c.write_piece.result (direct c.args.piece.now (made.moved told) (ap (λ (n : ℕ). take n c.make_room.new.self.bytes) (made.empty c.if-piece-gt-ROOM.true))) (c.write_piece.ensures.whole (made.frame.tells ∙ told))

pub returns-then-piece-gt-ROOM-clause-prefix : goal.returns-then-piece-gt-ROOM-clause-prefix
returns-then-piece-gt-ROOM-clause-prefix g c = λ told.
    let made = c.in_ok-make_room.ensures in
    let f = c.write_piece.ensures.prefix (made.frame.tells ∙ told) in
    on_err c.write_piece.result (direct_prefix (made.moved told) (ap (λ (n : ℕ). take n c.make_room.new.self.bytes) (made.empty c.if-piece-gt-ROOM.true)) (record { count = f.0; written = f.1 }))
