use Rattle.std.proofs.Common.{◌∙◌, ap, sym, arith}
use Rattle.xet_shared_history.proofs.Moves.{copies, shows}
use Rattle.xet_shared_history.proofs.seats.HistoryWord.catch_up.Goals as goal

pub split_seat-copy-requires : goal.split_seat-copy-requires
split_seat-copy-requires c = (ap (λ s. s.table) c.writer.view_is ∙ c.requires.0 ∙ sym c.self.view_is, omega (arith, c.self.invariant), copies c.writer.inside.seat.id c.writer.inside.seat.me.0)

pub join_seat-requires : goal.join_seat-requires
join_seat-requires c =
    let copy = c.split_seat-copy in (
      ap (λ s. s.table) c.reader.view_is ∙ c.requires.1 ∙ sym c.self.view_is,
      copy.ensures.3 ∙ ap (λ s. s.table) c.writer.view_is ∙ c.requires.0 ∙ sym c.self.view_is,
      ap (λ m. m.1) copy.ensures.4,
      omega (arith, c.self.invariant),
      shows c.reader.inside.seat.id c.reader.inside.seat.me.0 copy.result.id copy.result.me.0 (ap (λ v. v.keeps) c.reader.invariant.0),
    )
