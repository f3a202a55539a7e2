-- A code of the model of a store that one caller has alone, which the toolchain requires (`ghost coded`).
use Rattle.std.specs.Prelude.{Bool, refl}
use Rattle.std.specs.Coded.{Coded, code_by, coded×, coded_bool}
use Rattle.xet_store.specs.Coding.{recorded_code}
use Rattle.xet_store.specs.Recorded.{RecordedState}
use Rattle.xet_store.specs.Alone.{AloneState}

abbrev pub alone_code : Coded AloneState
alone_code = code_by (RecordedState × (RecordedState × Bool)) (coded× recorded_code (coded× recorded_code coded_bool))
    (λ s. (s.start, (s.store, s.stopped)))
    (λ p. record { start = p.0; store = p.1.0; stopped = p.1.1 })
    (λ _. refl)
