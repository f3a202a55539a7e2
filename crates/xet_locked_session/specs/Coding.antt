-- A code of holders, which the toolchain requires of a model (`ghost coded`).
use Rattle.std.specs.Prelude.{ℕ, Bool, List, refl}
use Rattle.std.specs.Coded.{Coded, code_by, coded×, coded_ℕ, coded_bool, coded_list}
use Rattle.xet_cut.specs.declared.limits.LimitSettings.{LimitSettings}
use Rattle.xet_history.specs.Coding.{core_code, entry_code, history_code}
use Rattle.xet_history.specs.Core.{Core}
use Rattle.xet_history.specs.declared.entry.Entry.{Entry}
use Rattle.xet_store.specs.Coding.{recorded_code}
use Rattle.xet_store.specs.Recorded.{RecordedState}
use Rattle.xet_store.specs.Holders.{Holder}
use Rattle.xet_store_disk.specs.Coding.{limits_code}

-- numbered entries
abbrev own_code : Coded (List (ℕ × Entry))
own_code = coded_list (coded× coded_ℕ entry_code)

abbrev pub holder_code : Coded Holder
holder_code = code_by
    (((RecordedState × Bool) × (LimitSettings × ℕ)) × ((List Entry × Core) × (List Entry × (List (ℕ × Entry) × (List (ℕ × Entry) × Bool)))))
    (coded× (coded× (coded× recorded_code coded_bool) (coded× limits_code coded_ℕ)) (coded× (coded× history_code core_code) (coded× history_code (coded× own_code (coded× own_code coded_bool)))))
    (λ h. (((h.origin, h.tells), (h.limits, h.number)), ((h.before, h.base), (h.since, (h.own, (h.earlier, h.stopped))))))
    (λ p. record {
      origin = p.0.0.0;
      tells = p.0.0.1;
      limits = p.0.1.0;
      number = p.0.1.1;
      before = p.1.0.0;
      base = p.1.0.1;
      since = p.1.1.0;
      own = p.1.1.1.0;
      earlier = p.1.1.1.1.0;
      stopped = p.1.1.1.1.1;
    })
    (λ _. refl)
