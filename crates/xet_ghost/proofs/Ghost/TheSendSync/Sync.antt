use denote.RattleType.{RattleType}
use denote.Param.Send.{IsSync, part_keyless}
use Rattle.xet_ghost.specs.contracts.Ghost.{the_row}
use Rattle.xet_ghost.proofs.Ghost.TheSendSync.Send.{send}

pub sync : (Y : RattleType) → IsSync (the_row Y)
sync Y = record { shared = λ d b o κ q. part_keyless (the_row Y) (send Y) q d b o }
