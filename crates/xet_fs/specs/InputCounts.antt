-- What contracts see of inputs in a real folder.
use Rattle.std.specs.Prelude.{ℕ, refl}
use Rattle.std.specs.Coded.{Coded, code_by, coded×, coded_ℕ}

-- The number of failures and the number of open sources.
pub record InputCounts : Type 0 where
  pub faults : ℕ
  pub opened : ℕ

abbrev pub counts_code : Coded InputCounts
counts_code = code_by (ℕ × ℕ) (coded× coded_ℕ coded_ℕ) (λ c. (c.faults, c.opened)) (λ p. record { faults = p.0; opened = p.1 }) (λ _. refl)
