-- A pass of a session, as a holder that begins where the pass has got to.
use Rattle.std.specs.Prelude.{◌≡◌, ◌++◌, Bool, false, length, drop}
use Rattle.xet_store.specs.Holders.{Follows, Holder, IsHolder, core_at, seen}

-- What contracts see of it: the pass when it began, the pass now, and whether a step has failed.
pub record PassingState : Type 0 where
  pub start : Holder
  pub pass : Holder
  pub stopped : Bool

-- the state of these parts
abbrev pub passing_state : Holder → Holder → Bool → PassingState
passing_state start pass stopped = record { start = start; pass = pass; stopped = stopped }

-- What a pass has seen and done since it began, as a holder: what the pass had seen when it began was there before, and entries
-- are its own if they were added since then. Its entries of before then are the earlier ones.
abbrev pub passing_of : Holder → Holder → Bool → Holder
passing_of start now stopped = record {
  origin = start.origin;
  tells = start.tells;
  limits = start.limits;
  number = start.number;
  before = seen start;
  base = core_at start;
  since = drop (length start.since) now.since;
  own = drop (length start.own) now.own;
  earlier = start.earlier ++ start.own;
  stopped = stopped;
}

-- Since it began, the pass has only seen more and added entries. What it has seen since then is legal. Its own entries since
-- then are there, in order, and each xorb among them was registered with the chunks that did not fit into it, or with none. That
-- it has stopped is not noted in the pass.
pub record IsPassing (start now : Holder) (stopped : Bool) : Type 0 where
  pub follows : Follows start now
  pub holds : IsHolder (passing_of start now stopped)
  pub going : start.stopped ≡ false
  pub still : now.stopped ≡ false
