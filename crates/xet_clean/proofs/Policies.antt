-- What is so if the SHA-256 is computed.
use Rattle.xet_clean.specs.Policies.{IfComputed}
use Rattle.xet_clean.specs.declared.policy.Sha256Policy.{Sha256Policy}
use Rattle.xet_clean.specs.declared.policy.Sha256Policy.TheVariants.{Compute, Provided, Skip}

pub if_computed : {A : Type 0} (policy : Sha256Policy) → A → IfComputed policy A
if_computed Compute a = a
if_computed (Provided digest) a = tt
if_computed Skip a = tt
