-- The memory that is taken ahead fits what is pending.
use Rattle.std.proofs.Common.{◌≡◌, ℕ, List, None, Some, subst}
use Rattle.xet_manager.specs.declared.room.Room.{Room}
use Rattle.xet_manager.specs.internal.Room.{HasRoomFor}
use Rattle.xet_shard.specs.Held.{Held, nothing}
use Rattle.xet_shard_flush.specs.Due.{Due, IsDue}

-- no shard is due
pub none_due : (folder : List ℕ) (pending : Held) (moment : ℕ) (r : Room) → r.next ≡ nothing → r.due ≡ None → HasRoomFor folder pending moment r
none_due folder pending moment r next due = record { next = next; due = λ d is. absurd (cc (due, is)) }

-- the shard that is due was prepared of what is pending
pub one_due : (folder : List ℕ) (pending : Held) (moment : ℕ) (r : Room) (due : Due) → r.next ≡ nothing → r.due ≡ Some due → IsDue folder pending moment due → HasRoomFor folder pending moment r
one_due folder pending moment r due next one is = record {
  next = next;
  due = λ d other. let same : due ≡ d = cc (one, other) in subst (IsDue folder pending moment) same is;
}
