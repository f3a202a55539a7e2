-- A name that has a file is not absent.
use Rattle.std.proofs.Common.{◌≡◌, ◌∙◌, ℕ, zero, suc, ◌<◌, List, [], ◌∷◌, length, map, get_or, Some, None, sym, ap, arith}
use Rattle.std.specs.FinMap.{get}
use Rattle.xet_io.specs.Named.{Named}
use Rattle.xet_program.specs.Answers.{AreNamed}

pub none_absent : (inputs : Named (List ℕ)) (names files : List (List ℕ)) (k : ℕ) (name : List ℕ) → AreNamed inputs names files → k < length names → get_or names k name ≡ name → get inputs name ≡ None → ⊥
none_absent inputs [] files k name named below is none = omega arith
none_absent inputs (n ∷ ns) [] k name named below is none = cc named
none_absent inputs (n ∷ ns) (f ∷ fs) zero name named below is none =
    let here : get inputs n ≡ Some f = cc named in
    cc (sym here ∙ ap (get inputs) is ∙ none)
none_absent inputs (n ∷ ns) (f ∷ fs) (suc k) name named below is none =
    let rest : map (get inputs) ns ≡ map Some fs = cc named in
    none_absent inputs ns fs k name rest (omega arith) is none
