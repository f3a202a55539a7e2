-- How many chunks fit into a xorb, one chunk more at a time.
use Rattle.std.proofs.Common.{◌≡◌, ◌∙◌, ℕ, zero, suc, ◌+◌, ◌-◌, ◌<◌, ◌≤◌, Bool, true, false, nat_le, List, [], ◌∷◌, length, map, take, drop, get_or, min, inl, inr, refl, sym, ap, arith}
use Rattle.std.proofs.lemmas.Bool.{cases_lt, le-leb, leb-true}
use Rattle.std.proofs.lemmas.List.{drop_all, drop_more, take_more}
use Rattle.std.proofs.lemmas.List.Sums.{sum_by-append, sum_by-cons}
use Rattle.xet_xorb_chunk.specs.Chunks.{bytes_of_chunk, total}
use Rattle.xet_xorb_chunk.specs.declared.chunk.Chunk.{Chunk}
use Rattle.xet_cut.specs.declared.limits.LimitSettings.{LimitSettings}
use Rattle.xet_dedup.specs.Packing.{fitting, pack_len}

-- one chunk more fits
fitting_more : (bytes count : ℕ) (chunks rest : List (List ℕ)) (c : List ℕ) → chunks ≡ c ∷ rest → 0 < count → length c ≤ bytes
    → fitting bytes count chunks ≡ suc (fitting (bytes - length c) (count - 1) rest)
unfolding fitting
fitting_more bytes zero chunks rest c e some fits = absurd (omega arith)
fitting_more bytes (suc count) chunks rest c e some fits =
    let t : nat_le (length c) bytes ≡ true = le-leb (length c) bytes fits in
    let here : fitting bytes (suc count) (c ∷ rest) ≡ suc (fitting (bytes - length c) count rest) = rw (t, fitting) refl in
    let less : count ≡ suc count - 1 = omega arith in
    ap (fitting bytes (suc count)) e ∙ here ∙ ap (λ (m : ℕ). suc (fitting (bytes - length c) m rest)) less

-- none more fits: so many are taken already, none is left, or the next has too many bytes
fitting_full : (bytes : ℕ) (chunks : List (List ℕ)) → fitting bytes 0 chunks ≡ 0
unfolding fitting
fitting_full bytes chunks = refl

fitting_none : (bytes count : ℕ) → fitting bytes count [] ≡ 0
unfolding fitting
fitting_none bytes zero = refl
fitting_none bytes (suc count) = refl

fitting_long : (bytes count : ℕ) (chunks rest : List (List ℕ)) (c : List ℕ) → chunks ≡ c ∷ rest → bytes < length c → fitting bytes count chunks ≡ 0
unfolding fitting
fitting_long bytes zero chunks rest c e long = refl
fitting_long bytes (suc count) chunks rest c e long = ap (fitting bytes (suc count)) e ∙ by_cases (nat_le (length c) bytes) refl
  where
    by_cases : (b : Bool) → nat_le (length c) bytes ≡ b → fitting bytes (suc count) (c ∷ rest) ≡ 0
    by_cases true t = let fits : length c ≤ bytes = leb-true (length c) bytes t in absurd (omega arith)
    by_cases false t = rw (t, fitting) refl

-- how many fit at the start
pub fitting_start : (s : LimitSettings) (room : ℕ) (chunks : List (List ℕ)) → room ≡ s.cut_bytes → 0 + fitting room (s.cut_chunks - 0) chunks ≡ pack_len s chunks
unfolding pack_len
fitting_start s room chunks e =
    let all : s.cut_chunks - 0 ≡ s.cut_chunks = omega arith in
    let same : fitting room (s.cut_chunks - 0) chunks ≡ fitting s.cut_bytes s.cut_chunks chunks = ap (λ (n : ℕ). fitting room n chunks) all ∙ ap (λ (r : ℕ). fitting r s.cut_chunks chunks) e in
    omega (arith, same)

-- one more at place k, where at most `max_count` may be taken
pub fitting_step : (bytes max_count k n : ℕ) (chunks : List Chunk) (d : Chunk) → k < length chunks → k < max_count → n ≡ length (get_or chunks k d).bytes → n ≤ bytes
    → fitting bytes (max_count - k) (map bytes_of_chunk (drop k chunks)) ≡ suc (fitting (bytes - n) (max_count - (k + 1)) (map bytes_of_chunk (drop (k + 1) chunks)))
fitting_step bytes max_count k n chunks d here less len fits =
    let c : Chunk = get_or chunks k d in
    let later : max_count - k - 1 ≡ max_count - (k + 1) = omega arith in
    let rest : List (List ℕ) = map bytes_of_chunk (drop (k + 1) chunks) in
    fitting_more bytes (max_count - k) (map bytes_of_chunk (drop k chunks)) rest c.bytes (ap (map bytes_of_chunk) (drop_more chunks k d here)) (omega arith) (omega arith)
    ∙ ap (λ (m : ℕ). suc (fitting (bytes - m) (max_count - k - 1) rest)) (sym len) ∙ ap (λ (m : ℕ). suc (fitting (bytes - n) m rest)) later

-- none more at place k
pub fitting_stop : (bytes max_count k : ℕ) (chunks : List Chunk) (d : Chunk) → k < length chunks → bytes < length (get_or chunks k d).bytes
    → fitting bytes (max_count - k) (map bytes_of_chunk (drop k chunks)) ≡ 0
fitting_stop bytes max_count k chunks d here long =
    fitting_long bytes (max_count - k) (map bytes_of_chunk (drop k chunks)) (map bytes_of_chunk (drop (k + 1) chunks)) (get_or chunks k d).bytes (ap (map bytes_of_chunk) (drop_more chunks k d here)) long

-- nor where so many are taken, or all
pub fitting_end : (bytes max_count k : ℕ) (chunks : List Chunk) → min (length chunks) max_count ≤ k → fitting bytes (max_count - k) (map bytes_of_chunk (drop k chunks)) ≡ 0
fitting_end bytes max_count k chunks past = elim (cases_lt k max_count) [
  | inl less ↦
      ap (λ (l : List Chunk). fitting bytes (max_count - k) (map bytes_of_chunk l)) (drop_all k chunks (omega arith)) ∙ fitting_none bytes (max_count - k)
  | inr done ↦
      let none : max_count - k ≡ 0 = omega arith in
      ap (λ (m : ℕ). fitting bytes m (map bytes_of_chunk (drop k chunks))) none ∙ fitting_full bytes (map bytes_of_chunk (drop k chunks))
]

-- the bytes of one chunk more
pub total_more : (k : ℕ) (chunks : List Chunk) (d : Chunk) → k < length chunks → total (take (k + 1) chunks) ≡ total (take k chunks) + length (get_or chunks k d).bytes
total_more k chunks d here =
    ap total (take_more chunks k d here) ∙ sum_by-append (λ (c : Chunk). length c.bytes) (take k chunks) (get_or chunks k d ∷ [])
    ∙ ap (λ (n : ℕ). total (take k chunks) + n) (one (get_or chunks k d))
  where
    one : (c : Chunk) → total (c ∷ []) ≡ length c.bytes
    one c = omega (arith, sum_by-cons (λ (x : Chunk). length x.bytes) c [])
