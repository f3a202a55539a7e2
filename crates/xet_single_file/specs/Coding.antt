-- A code of the model of a file that is cleaned over a pass, which the toolchain requires (`ghost coded`).
use Rattle.std.specs.Prelude.{◌≡◌, ℕ, Bool, List, Option, None, Some, refl}
use Rattle.std.specs.Coded.{Coded, code_by, coded×, coded_ℕ, coded_bool, coded_list, coded_option}
use Rattle.xet_clean.specs.declared.policy.Sha256Policy.{Sha256Policy}
use Rattle.xet_clean.specs.declared.policy.Sha256Policy.TheVariants.{Compute, Provided, Skip}
use Rattle.xet_locked_session.specs.Coding.{holder_code}
use Rattle.xet_store.specs.Holders.{Holder}
use Rattle.xet_single_file.specs.Single.{SingleFileState}

-- ---- where the SHA-256 comes from

abbrev pub option_of : Sha256Policy → Option (Option (List ℕ))
option_of Compute = None
option_of (Provided digest) = Some (Some digest)
option_of Skip = Some None

abbrev pub policy_of : Option (Option (List ℕ)) → Sha256Policy
policy_of None = Compute
policy_of (Some None) = Skip
policy_of (Some (Some digest)) = Provided digest

pub policy_of-option_of : (policy : Sha256Policy) → policy_of (option_of policy) ≡ policy
policy_of-option_of Compute = refl
policy_of-option_of (Provided digest) = refl
policy_of-option_of Skip = refl

abbrev pub policy_code : Coded Sha256Policy
policy_code = code_by (Option (Option (List ℕ))) (coded_option (coded_option (coded_list coded_ℕ))) option_of policy_of policy_of-option_of

-- ---- the state

abbrev pub single_code : Coded SingleFileState
single_code = code_by ((Holder × Holder) × ((ℕ × Sha256Policy) × (List ℕ × Bool)))
    (coded× (coded× holder_code holder_code) (coded× (coded× coded_ℕ policy_code) (coded× (coded_list coded_ℕ) coded_bool)))
    (λ s. ((s.start, s.pass), ((s.source, s.policy), (s.bytes, s.whole))))
    (λ p. record { start = p.0.0; pass = p.0.1; source = p.1.0.0; policy = p.1.0.1; bytes = p.1.1.0; whole = p.1.1.1 })
    (λ _. refl)
