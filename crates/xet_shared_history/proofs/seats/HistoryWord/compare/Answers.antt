use Rattle.std.proofs.Common.{◌∙◌, ap, sym, arith}
use Rattle.xet_shared_history.proofs.Moves.{compares, copies, tells}
use Rattle.xet_shared_history.proofs.seats.HistoryWord.compare.Goals as goal

pub split_seat-copy-requires : goal.split_seat-copy-requires
split_seat-copy-requires c = (ap (λ s. s.table) c.reader.view_is ∙ c.requires.1 ∙ sym c.self.view_is, omega (arith, c.self.invariant), copies c.reader.inside.seat.id c.reader.inside.seat.me.0)

pub join_seat-requires : goal.join_seat-requires
join_seat-requires c =
    let copy = c.split_seat-copy in (
      ap (λ s. s.table) c.writer.view_is ∙ c.requires.0 ∙ sym c.self.view_is,
      copy.ensures.3 ∙ ap (λ s. s.table) c.reader.view_is ∙ c.requires.1 ∙ sym c.self.view_is,
      ap (λ m. m.1) copy.ensures.4,
      omega (arith, c.self.invariant),
      tells c.writer.inside.seat.id c.writer.inside.seat.me.0 copy.result.id copy.result.me.0,
    )

pub load-requires : goal.load-requires
load-requires c =
    let seat = c.join_seat.new.seat in (
      c.join_seat.ensures.0 ∙ ap (λ s. s.table) c.writer.view_is ∙ c.requires.0 ∙ sym c.self.view_is,
      omega (arith, c.self.invariant),
      compares c.self.inside.words.shared.table_id.slots seat.id seat.me.0 seat.me.1 (ap (λ m. m.0.keeps) c.join_seat.ensures.2 ∙ ap (λ v. v.keeps) c.writer.invariant.0),
    )
