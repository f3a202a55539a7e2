use Rattle.std.proofs.Common.{subst, sym}
use Rattle.xet_locked_session.specs.Passes.{IsSeen}
use Rattle.xet_locked_session.proofs.Entries.{pass_seen}
use Rattle.xet_locked_session.proofs.session.Pass.recall_invariant.Goals as goal

pub returns-clause-of : goal.returns-clause-of
returns-clause-of g c = record {
  number = c.self.inside.number;
  own = c.self.inside.known.own.items;
  since = c.self.inside.known.reader.seen;
  is = sym c.self.view_is;
}

pub returns-clause-seen : goal.returns-clause-seen
returns-clause-seen g c =
    subst IsSeen c.self.view_is (pass_seen g.J.Naming.store c.self.inside.number c.self.inside.known.own.items c.self.inside.known.reader.seen c.self.invariant.2 c.self.invariant.3)
