-- Codes of the model of a store, which the toolchain requires (`ghost coded`).
use Rattle.std.specs.Prelude.{ℕ, zero, suc, ◌≡◌, Bool, List, refl}
use Rattle.std.specs.Coded.{Coded, code_by, coded×, coded_ℕ, coded_bool, coded_list}
use Rattle.xet_io.specs.Disk.{Files}
use Rattle.xet_io.specs.Memory.{files_code}
use Rattle.xet_xorb_chunk.specs.declared.scheme.CompressionScheme.{CompressionScheme}
use Rattle.xet_xorb_chunk.specs.declared.scheme.CompressionScheme.TheVariants as scheme
use Rattle.xet_cut.specs.declared.limits.LimitSettings.{LimitSettings}
use Rattle.xet_shard.specs.Held.{Held}
use Rattle.xet_folder.specs.Xorbs.{FileRecords, Xorbs}
use Rattle.xet_history.specs.Coding.{Bytes, Pair, bytes_code, held_code, pair_code, records_code, xorbs_code}
use Rattle.xet_store_disk.specs.Store.{State, state}

abbrev pub scheme_index : CompressionScheme → ℕ
scheme_index scheme.None = 0
scheme_index scheme.LZ4 = 1
scheme_index scheme.ByteGrouping4LZ4 = 2
scheme_index scheme.Auto = 3

abbrev pub scheme_at : ℕ → CompressionScheme
scheme_at zero = scheme.None
scheme_at (suc zero) = scheme.LZ4
scheme_at (suc (suc zero)) = scheme.ByteGrouping4LZ4
scheme_at (suc (suc (suc n))) = scheme.Auto

pub scheme_back : (s : CompressionScheme) → scheme_at (scheme_index s) ≡ s
scheme_back scheme.None = refl
scheme_back scheme.LZ4 = refl
scheme_back scheme.ByteGrouping4LZ4 = refl
scheme_back scheme.Auto = refl

abbrev pub scheme_code : Coded CompressionScheme
scheme_code = code_by ℕ coded_ℕ scheme_index scheme_at scheme_back

abbrev pub limits_code : Coded LimitSettings
limits_code = code_by
    ((Pair × (Pair × Pair)) × ((ℕ × (Pair × (Pair × Pair))) × (CompressionScheme × (Pair × List ℕ))))
    (coded× (coded× pair_code (coded× pair_code pair_code)) (coded× (coded× coded_ℕ (coded× pair_code (coded× pair_code pair_code))) (coded× scheme_code (coded× pair_code (coded_list coded_ℕ)))))
    (λ s. (((s.target_chunk, s.minimum_chunk), ((s.maximum_chunk, s.cut_bytes), (s.cut_chunks, s.shard_target))), ((s.guard_window, (s.min_range, (s.low_factor, (s.block_bytes, s.max_source_bytes)))), (s.scheme, ((s.index_cap, s.expiry_buffer), s.gear)))))
    (λ p. record {
      target_chunk = p.0.0.0;
      minimum_chunk = p.0.0.1;
      maximum_chunk = p.0.1.0.0;
      cut_bytes = p.0.1.0.1;
      cut_chunks = p.0.1.1.0;
      shard_target = p.0.1.1.1;
      guard_window = p.1.0.0;
      min_range = p.1.0.1.0;
      low_factor = p.1.0.1.1.0;
      block_bytes = p.1.0.1.1.1.0;
      max_source_bytes = p.1.0.1.1.1.1;
      scheme = p.1.1.0;
      index_cap = p.1.1.1.0.0;
      expiry_buffer = p.1.1.1.0.1;
      gear = p.1.1.1.1;
    })
    (λ _. refl)

abbrev pub state_code : Coded State
state_code = code_by ((Bool × (Files × ℕ)) × ((Bytes × (LimitSettings × ℕ)) × ((Xorbs × FileRecords) × (List Bytes × Held))))
    (coded× (coded× coded_bool (coded× files_code coded_ℕ)) (coded× (coded× bytes_code (coded× limits_code coded_ℕ)) (coded× (coded× xorbs_code records_code) (coded× (coded_list bytes_code) held_code))))
    (λ s. ((s.tells, (s.files, s.faults)), ((s.folder, (s.limits, s.opened)), ((s.xorbs, s.records), (s.shards, s.pending)))))
    (λ p. state p.0.0 p.0.1.0 p.0.1.1 p.1.0.0 p.1.0.1.0 p.1.0.1.1 p.1.1.0.0 p.1.1.0.1 p.1.1.1.0 p.1.1.1.1)
    (λ _. refl)
