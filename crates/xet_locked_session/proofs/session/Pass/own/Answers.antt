use Rattle.std.proofs.Common.{◌∙◌, ◌++◌, ℕ, length, map, ap, sym}
use Rattle.xet_history.specs.declared.entry.Entry.{Entry}
use Rattle.xet_store.specs.Holders.{Holder}
use Rattle.xet_locked_session.proofs.Entries.{numbers_at}
use Rattle.xet_locked_session.proofs.session.Pass.own.Goals as goal

pub returns : goal.returns
returns g c =
    let start = g.J.Naming.store in
    let own = c.self.inside.known.own.items in
    c.deref.ensures.value ∙ sym (numbers_at c.self.inside.number (start.history ++ c.self.inside.known.reader.seen) (length start.history) own c.self.invariant.2) ∙ ap (λ (h : Holder). map (λ (p : ℕ × Entry). p.0) h.own) c.self.view_is
