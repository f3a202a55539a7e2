-- Chunking, one chunk at a time.
use Rattle.std.proofs.Common.{◌≡◌, ◌≢◌, ◌∙◌, ℕ, ◌<◌, List, [], ◌∷◌, ◌++◌, append_assoc, length, take, drop, map, sym, ap, arith}
use Rattle.std.proofs.lemmas.List.{append-nil}
use Rattle.xet_base.specs.theorems.Pieces.{pieces_none, pieces_step}
use Rattle.xet_cut.specs.declared.limits.LimitSettings.{LimitSettings}
use Rattle.xet_cut.specs.Chunking.{chunking, first_chunk_len}

-- what is made of each piece, with the next piece among those that are done
pub chunking_step : {X : Type 0} (f : List ℕ → X) (s : LimitSettings) (done : List X) (bs : List ℕ) (n : ℕ) → length bs ≢ 0 → n ≡ first_chunk_len s bs → (0 < length bs → 0 < n)
    → (done ++ f (take n bs) ∷ []) ++ map f (chunking s (drop n bs)) ≡ done ++ map f (chunking s bs)
chunking_step f s done bs n some e positive =
    append_assoc done (f (take n bs) ∷ []) (map f (chunking s (drop n bs)))
    ∙ ap (λ (t : List _). done ++ t) (sym (ap (map f) (pieces_step (first_chunk_len s) bs n (omega arith) e (positive (omega arith)))))

-- with nothing left
pub chunking_end : {X : Type 0} (f : List ℕ → X) (s : LimitSettings) (done : List X) (bs : List ℕ) → length bs ≡ 0 → done ≡ done ++ map f (chunking s bs)
chunking_end f s done bs none = sym (ap (λ (p : List (List ℕ)). done ++ map f p) (pieces_none (first_chunk_len s) bs none) ∙ append-nil done)
