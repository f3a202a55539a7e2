-- A code of the model of a pass that makes steps, which the toolchain requires (`ghost coded`).
use Rattle.std.specs.Prelude.{Bool, refl}
use Rattle.std.specs.Coded.{Coded, code_by, coded×, coded_bool}
use Rattle.xet_locked_session.specs.Coding.{holder_code}
use Rattle.xet_store.specs.Holders.{Holder}
use Rattle.xet_locked_session.specs.Passing.{PassingState}

abbrev pub passing_code : Coded PassingState
passing_code = code_by (Holder × (Holder × Bool)) (coded× holder_code (coded× holder_code coded_bool))
    (λ s. (s.start, (s.pass, s.stopped)))
    (λ p. record { start = p.0; pass = p.1.0; stopped = p.1.1 })
    (λ _. refl)
