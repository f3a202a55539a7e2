use Rattle.std.proofs.Common.{◌∙◌, ap, sym, arith}
use Rattle.xet_shared_history.proofs.Moves.{copies}
use Rattle.xet_shared_history.proofs.seats.HistoryWord.reader.Goals as goal

pub split_seat-requires : goal.split_seat-requires
split_seat-requires c = (ap (λ s. s.table) c.writer.view_is ∙ c.requires ∙ sym c.self.view_is, omega (arith, c.self.invariant), copies c.writer.inside.seat.id c.writer.inside.seat.me.0)
