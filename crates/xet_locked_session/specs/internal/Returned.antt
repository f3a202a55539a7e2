-- What is known of a pass that is given back.
use Rattle.std.specs.Prelude.{List, length, map}
use mathlib.Core.List.{IsPrefix}
use Rattle.xet_history.specs.declared.entry.Entry.{Entry}
use Rattle.xet_shared_history.specs.Owned.{AreOwn}
use Rattle.xet_store.specs.Holders.{Holder, seen}
use Rattle.xet_store.specs.Recorded.{RecordedState}
use Rattle.xet_locked_session.specs.Passes.{IsSeen}

-- What it has seen is legal and a prefix of the history, and its own entries are there, after what was there when the session was
-- made.
pub record IsReturned (start : RecordedState) (history : List Entry) (h : Holder) : Type 0 where
  pub prefix : IsPrefix (seen h) history
  pub known : IsSeen h
  pub own : AreOwn h.number (seen h) (length start.history) (map (λ p. p.0) h.own)
