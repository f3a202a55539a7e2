use Rattle.std.proofs.Common.{◌∙◌, ap, sym, arith, length}
use Rattle.xet_shared_history.proofs.Moves.{adds_as}
use Rattle.xet_shared_history.proofs.seats.HistoryWord.announce.Goals as goal

pub compare_exchange_with-requires : goal.compare_exchange_with-requires
compare_exchange_with-requires c =
    let seat = c.writer.inside.seat in (
      ap (λ s. s.table) c.writer.view_is ∙ c.requires.table ∙ sym c.self.view_is,
      omega (arith, c.self.invariant),
      adds_as c.self.inside.words.shared.table_id.slots seat.id seat.me c.args.entry.now c.args.count c.writer.invariant.0 (c.requires.count.0 ∙ ap (λ s. length s.seen) (sym c.writer.view_is)),
    )
