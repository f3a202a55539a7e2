-- The memory that a manager took ahead.
use Rattle.std.specs.Option.{ForSome}
use Rattle.std.specs.Prelude.{◌≡◌, ℕ, List}
use Rattle.xet_manager.specs.declared.room.Room.{Room}
use Rattle.xet_shard.specs.Held.{Held, nothing}
use Rattle.xet_shard_flush.specs.Due.{IsDue}

-- The next shard has no records, and the shard that is due, if there is one, is that of what is pending.
pub record HasRoomFor (folder : List ℕ) (pending : Held) (moment : ℕ) (r : Room) : Type 0 where
  pub next : r.next ≡ nothing
  pub due : ForSome r.due (IsDue folder pending moment)
