-- What lasts in a core: records that are pending, or in a registered shard that never expires.
use Rattle.std.specs.Prelude.{◌≡◌, ◌⊎◌, Any}
use Rattle.std.specs.List.{IsAmong}
use Rattle.xet_shard.specs.Held.{never}
use Rattle.xet_shard_format.specs.Encoding.{Shard}
use Rattle.xet_shard_format.specs.declared.record.MDBFileInfo.{MDBFileInfo}
use Rattle.xet_history.specs.Core.{Core}

-- The shard has this record, and never expires.
pub record HasLasting (s : Shard) (f : MDBFileInfo) : Type 0 where
  pub among : IsAmong s.files f
  pub expiry : s.expiry ≡ never

-- A record lasts in a core: it is pending, or in a registered shard that never expires.
abbrev pub LastsIn : Core → MDBFileInfo → Type 0
LastsIn c f = IsAmong c.pending.files f ⊎ Any (λ r. HasLasting r.contents f) c.shards
