-- Numbers that are written one after the other.
use Rattle.std.proofs.Common.{◌≡◌, ℕ, List, [], ◌∷◌, ◌++◌, refl, sym, ap, ◌∙◌, append_assoc}
use Rattle.std.specs.Int.{to_le_bytes, w64}
use Rattle.std.specs.List.{flat_map}
use Rattle.std.proofs.lemmas.List.{append-nil}
use Rattle.std.proofs.lemmas.List.Concat.{flat_map-cons}

-- the encodings of numbers before other bytes
abbrev pub words_before : List ℕ → List ℕ → List ℕ
words_before [] rest = rest
words_before (w ∷ ws) rest = to_le_bytes w64 w ++ words_before ws rest

pub before_rest : (ws rest : List ℕ) → flat_map (to_le_bytes w64) ws ++ rest ≡ words_before ws rest
before_rest [] rest = refl
before_rest (w ∷ ws) rest =
    ap (λ (t : List ℕ). t ++ rest) (flat_map-cons (to_le_bytes w64) w ws)
    ∙ append_assoc (to_le_bytes w64 w) (flat_map (to_le_bytes w64) ws) rest
    ∙ ap (λ (t : List ℕ). to_le_bytes w64 w ++ t) (before_rest ws rest)

-- without other bytes after them
pub four_words : (a b c d : ℕ) → flat_map (to_le_bytes w64) (a ∷ b ∷ c ∷ d ∷ []) ≡ to_le_bytes w64 a ++ (to_le_bytes w64 b ++ (to_le_bytes w64 c ++ to_le_bytes w64 d))
four_words a b c d =
    sym (append-nil (flat_map (to_le_bytes w64) (a ∷ b ∷ c ∷ d ∷ [])))
    ∙ before_rest (a ∷ b ∷ c ∷ d ∷ []) []
    ∙ ap (λ (t : List ℕ). to_le_bytes w64 a ++ (to_le_bytes w64 b ++ (to_le_bytes w64 c ++ t))) (append-nil (to_le_bytes w64 d))
