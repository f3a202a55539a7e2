use Rattle.std.proofs.Common.{◌≡◌, ◌∙◌, ◌++◌, ℕ, length, ap, sym, subst, arith}
use Rattle.std.proofs.lemmas.List.{length-map}
use Rattle.xet_history.specs.declared.entry.Entry.{Entry}
use Rattle.xet_shared_history.specs.Owned.{AreOwn}
use Rattle.xet_shared_history.specs.theorems.Prefixes.{prefix_after}
use Rattle.xet_store.specs.Holders.{Holder}
use Rattle.xet_locked_session.specs.Passes.{entries_at}
use Rattle.xet_locked_session.specs.internal.Returned.{IsReturned}
use Rattle.xet_locked_session.proofs.Entries.{numbers_at, pass_seen}
use Rattle.xet_locked_session.proofs.session.closing.return_pass.Goals as goal

pub returns-clause-returned : goal.returns-clause-returned
returns-clause-returned g c =
    let start = g.J.Naming.store in
    let number = c.pass.inside.number in
    let own = c.pass.inside.known.own.items in
    let seen = c.pass.inside.known.reader.seen in
    let are = c.pass.invariant.2 in
    subst (IsReturned start (start.history ++ c.args.writer.now.seen)) c.pass.view_is
    (record {
      prefix = prefix_after start.history seen c.args.writer.now.seen c.compare.ensures.prefix;
      known = pass_seen start number own seen are c.pass.invariant.3;
      own = subst (AreOwn number (start.history ++ seen) (length start.history)) (sym (numbers_at number (start.history ++ seen) (length start.history) own are)) are;
    })

pub returns-clause-rest : goal.returns-clause-rest
returns-clause-rest g c =
    let start = g.J.Naming.store in
    let own = c.pass.inside.known.own.items in
    let history = start.history ++ c.pass.inside.known.reader.seen in
    let numbers = numbers_at c.pass.inside.number history (length start.history) own c.pass.invariant.2 in
    let count : length (entries_at history own) ≡ length own = sym (length-map (entries_at history own) (λ (p : ℕ × Entry). p.0)) ∙ ap length numbers in (
      omega (arith, c.merge.ensures.parts, c.pass.invariant.4),
      omega (arith, c.merge.ensures.amount, c.pass.invariant.5, count, ap (λ (h : Holder). length h.own) c.pass.view_is),
    )
