-- What a parse of words without a hyphen at their beginning gives for `clean`.
use Rattle.std.proofs.Common.{◌≡◌, ◌∙◌, ◌≤◌, ◌<◌, ◌==◌, ◌++◌, ℕ, ap, ap₂, subst, sym, true, false, refl, arith, List, [], ◌∷◌, length, Some, None, codes, append-nil, append_assoc, nat_lt}
use Rattle.std.proofs.lemmas.Bool.{lt-ltb}
use Rattle.std.proofs.lemmas.Bool.Decides.{nat_tests}
use Rattle.std.specs.List.{fold}
use Rattle.clap.specs.Words.{Text, IsAmong, Kinds}
use Rattle.clap.specs.Lexer.{usize_max}
use Rattle.clap.specs.Simple.{Shape}
use Rattle.clap.specs.Walk.{Held, Walk, finished, positional, settled}
use Rattle.clap.specs.Kinds.{or_else, range_kinds, values_kinds}
use Rattle.clap.specs.Faults.{check_fault, defaults_fault, settle_fault}
use Rattle.clap.specs.declared.error.kind.ErrorKind.{ErrorKind}
use Rattle.clap.specs.declared.builder.value_parser.ValueParser.TheVariants as vp
use Rattle.xet_arguments.specs.internal.Commands.{clean_app}
use Rattle.xet_arguments.proofs.Plain.{plain_end, plain_fault, plain_level, plain_walked}
use Rattle.xet_arguments.proofs.Parses.{Reads, shape_of}

abbrev clean_shape : Shape
clean_shape = shape_of clean_app

-- what is held after the words vs, of which there is at least one
abbrev holding : List Text → Held
holding vs = record { rows = []; pending = Some (codes "name", vs); skip = 0 }

abbrev after : List Text → Walk
after vs = record { held = holding vs; waiting = positional; position = 1; is_trailing = false; stopped = None }

walk_after : (vs ws : List Text) → fold (plain_walked clean_shape.rules) (after vs) ws ≡ after (vs ++ ws)
walk_after vs [] = ap after (sym (append-nil vs))
walk_after vs (w ∷ ws) = walk_after (vs ++ w ∷ []) ws ∙ ap after (append_assoc vs (w ∷ []) ws)

no_fault_after : (vs ws : List Text) → plain_fault clean_shape (after vs) ws ≡ []
no_fault_after vs [] = refl
no_fault_after vs (w ∷ ws) = no_fault_after (vs ++ w ∷ []) ws

end_of_words : (w : Text) (ws : List Text) → plain_end clean_shape (w ∷ ws) ≡ holding (w ∷ ws)
end_of_words w ws = ap (λ (v : Walk). v.held) (walk_after (w ∷ []) ws)

many_fit : (n : ℕ) → 0 < n → n ≤ usize_max → range_kinds 1 usize_max n ≡ []
many_fit n some most =
    let a : (n == 0) ≡ false = grind (arith, nat_tests) in
    let b : nat_lt n 1 ≡ false = grind (arith, nat_tests) in
    let c : nat_lt usize_max n ≡ false = grind (arith, nat_tests) in
    simp (a, b, c)

all_texts : (vs : List Text) → values_kinds false vp.String vs ≡ []
all_texts [] = refl
all_texts (v ∷ vs) = all_texts vs

settles : (w : Text) (ws : List Text) → length (w ∷ ws) ≤ usize_max → settle_fault clean_shape.rules false (holding (w ∷ ws)) ≡ []
settles w ws most = ap₂ or_else (many_fit (length (w ∷ ws)) (omega arith) most) (all_texts (w ∷ ws))

-- one word or more have no fault
fits : (w : Text) (ws : List Text) → length (w ∷ ws) ≤ usize_max → plain_level clean_shape (w ∷ ws) ≡ []
unfolding defaults_fault
fits w ws most =
    let rest : Held → Kinds = λ h. or_else (settle_fault clean_shape.rules false h)
    (or_else (defaults_fault (settled clean_shape.rules h).rows clean_shape.rules) (check_fault clean_shape (finished clean_shape.rules h) false)) in
    ap₂ or_else (no_fault_after (w ∷ []) ws) (ap rest (end_of_words w ws)) ∙ ap (λ ks. or_else ks []) (settles w ws most)

accepted : (words : List Text) → plain_level clean_shape words ≡ [] → true ≡ nat_lt 0 (length words)
unfolding defaults_fault
accepted [] e = cc
accepted (w ∷ ws) e = sym (lt-ltb 0 (length (w ∷ ws)) (omega arith))

rejected : (words : List Text) → length words ≤ usize_max → (k : ErrorKind) → IsAmong k (plain_level clean_shape words) → false ≡ nat_lt 0 (length words)
rejected [] most k h = refl
rejected (w ∷ ws) most k h = let bad : ⊥ = subst (IsAmong k) (fits w ws most) h in absurd bad

pub clean_reads : (words : List Text) → length words ≤ usize_max → Reads clean_app words (λ _. true) false (nat_lt 0 (length words))
clean_reads words most = record { alone_is = refl; all_are_arguments = refl; accepted = accepted words; rejected = rejected words most }
