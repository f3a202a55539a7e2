-- What was done with a store: each call that did not fail, with its arguments and its answer. To ask for the number of the
-- last query is none.
use Rattle.std.specs.Prelude.{ℕ, Bool, List, Option}
use Rattle.xet_dedup_queries.specs.declared.interface.FileXorbDependency.{FileXorbDependency}
use Rattle.xet_shard_format.specs.declared.record.FileDataSequenceEntry.{FileDataSequenceEntry as Segment}
use Rattle.xet_xorb.specs.declared.raw.RawXorbData.{RawXorbData}

-- a run that a query found, and whether it is external
abbrev pub Found : Type 0
Found = Segment × Bool

-- One call that did not fail. Queried: a query for these chunk hashes, with what it found, if anything. Begun: a query for a
-- hash was begun elsewhere. Ended: the queries elsewhere were ended, and had found something or nothing. Stored: a xorb was
-- stored, with the chunks that did not fit into it. Noted: these dependencies were noted.
pub data Act : Type 0 where
  Queried : (hashes : List (List ℕ)) (reply : Option Found) → Act
  Begun : (hash : List ℕ) → Act
  Ended : (found : Bool) → Act
  Stored : (xorb : RawXorbData) (next : List (List ℕ × ℕ)) → Act
  Noted : (dependencies : List FileXorbDependency) → Act
