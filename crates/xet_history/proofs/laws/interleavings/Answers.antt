use Rattle.std.proofs.Common.{[]}
use Rattle.xet_history.specs.theorems.Interleaving.{legal_entries, stays_sound}
use Rattle.xet_history.proofs.laws.interleavings.Goals as goal

pub returns-clause-legal : goal.returns-clause-legal
returns-clause-legal c = λ tells folder core files moves run. legal_entries tells folder [] core files moves run

pub returns-clause-sound : goal.returns-clause-sound
returns-clause-sound c = λ folder core files moves sound apart run. stays_sound folder [] core files moves tt sound apart run
