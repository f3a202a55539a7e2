-- The arguments of a command, each as the bytes of its text.
use Rattle.std.specs.Prelude.{ℕ, ◌==◌, Bool, false, List, [], ◌∷◌, Option, Some, None, option_map}
use Rattle.xet_arguments.specs.declared.arguments.MakeArguments.{MakeArguments}
use Rattle.xet_arguments.specs.declared.arguments.PackArguments.{PackArguments}
use Rattle.xet_arguments.specs.declared.arguments.ReadArguments.{ReadArguments}

-- whether a word begins with `-`
abbrev pub is_option : List ℕ → Bool
is_option [] = false
is_option (b ∷ bs) = b == 45

-- the words, if there are two
abbrev pub two_of : List (List ℕ) → Option (List ℕ × List ℕ)
two_of (a ∷ b ∷ []) = Some (a, b)
two_of _ = None

-- the words, if there are two, or three: then also the third
abbrev pub two_or_three_of : List (List ℕ) → Option (List ℕ × List ℕ × Option (List ℕ))
two_or_three_of (a ∷ b ∷ []) = Some (a, b, None)
two_or_three_of (a ∷ b ∷ c ∷ []) = Some (a, b, Some c)
two_or_three_of _ = None

-- the words, if there are three
abbrev pub three_of : List (List ℕ) → Option (List ℕ × List ℕ × List ℕ)
three_of (a ∷ b ∷ c ∷ []) = Some (a, b, c)
three_of _ = None

-- TARGET and GEAR, and WORKERS if it is there
abbrev pub pack_texts : PackArguments → List ℕ × List ℕ × Option (List ℕ)
pack_texts arguments = (arguments.target.now, arguments.gear.now, option_map (λ word. word.now) arguments.workers)

-- SEED and BYTES
abbrev pub make_texts : MakeArguments → List ℕ × List ℕ
make_texts arguments = (arguments.seed.now, arguments.bytes.now)

-- HASH, FROM and TO
abbrev pub read_texts : ReadArguments → List ℕ × List ℕ × List ℕ
read_texts arguments = (arguments.hash.now, arguments.from.now, arguments.to.now)
