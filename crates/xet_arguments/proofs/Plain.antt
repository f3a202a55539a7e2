-- The parse of a command without subcommands, over words without a hyphen at their beginning.
use Rattle.std.proofs.Common.{◌≡◌, ◌∙◌, ◌||◌, ℕ, Bool, true, false, refl, ap, ap₂, List, [], ◌∷◌, Option, Some, None, is_some, cond, ◌==◌}
use Rattle.std.specs.List.{fold, list_any}
use Rattle.clap.specs.Walk.{Held, Rule, Text, Waiting, Walk, is_multiple, idle, option, positional, value, walked, word_met, arg_by_index, to_positional, walk, walk_from, nothing_held, finished, settled, rows_after}
use Rattle.clap.specs.Simple.{App, Shape, entered}
use Rattle.clap.specs.Kinds.{Kinds, or_else}
use Rattle.clap.specs.Faults.{built_fault, check_fault, defaults_fault, entered_fault, level_fault, settle_fault, step_fault, turn_fault, walk_fault, word_fault}
use Rattle.xet_arguments.specs.Arguments.{is_option}

-- no option waits for the word
abbrev pub waits_for_none : Waiting → Bool
waits_for_none (option id) = false
waits_for_none _ = true

-- such a word is no flag, so it goes to a positional
plain_met : (c : List Rule) (t : Bool) (waiting : Waiting) (i : ℕ) (word : Text) (h : Held) → is_option word ≡ false → waits_for_none waiting ≡ true
    → word_met c [] t waiting i word h ≡ (h, value)
plain_met c true waiting i word h p q = refl
plain_met c false idle i [] h p q = refl
plain_met c false positional i [] h p q = refl
plain_met c false (option id) i word h p q = cc
plain_met c false idle i (x ∷ xs) h p q = let no : (x == 45) ≡ false = p in simp no
plain_met c false positional i (x ∷ xs) h p q = let no : (x == 45) ≡ false = p in simp no

plain_word_fault : (s : Shape) (t : Bool) (waiting : Waiting) (word : Text) (h : Held) → is_option word ≡ false → waits_for_none waiting ≡ true
    → word_fault s [] t waiting word h ≡ []
plain_word_fault s true waiting word h p q = refl
plain_word_fault s false idle [] h p q = refl
plain_word_fault s false positional [] h p q = refl
plain_word_fault s false (option id) word h p q = cc
plain_word_fault s false idle (x ∷ xs) h p q = let no : (x == 45) ≡ false = p in simp no
plain_word_fault s false positional (x ∷ xs) h p q = let no : (x == 45) ≡ false = p in simp no

-- ---- the walk, where each word goes to a positional

abbrev pub plain_walked : List Rule → Walk → Text → Walk
plain_walked c w word = to_positional c (arg_by_index c w.position) word w w.held

abbrev pub plain_fault : Shape → Walk → List Text → Kinds
plain_fault s w [] = []
plain_fault s w (word ∷ rest) = or_else (step_fault s w.position w.held value) (plain_fault s (plain_walked s.rules w word) rest)

still_open : (c : List Rule) (w : Walk) (word : Text) → w.stopped ≡ None → waits_for_none w.waiting ≡ true
    → ((plain_walked c w word).stopped ≡ None) × (waits_for_none (plain_walked c w word).waiting ≡ true)
still_open c w word s q = go (arg_by_index c w.position)
  where
    both : (b : Bool) → waits_for_none (cond b positional idle) ≡ true
    both true = refl
    both false = refl

    go : (o : Option Rule) → ((to_positional c o word w w.held).stopped ≡ None) × (waits_for_none (to_positional c o word w w.held).waiting ≡ true)
    go None = (s, q)
    go (Some a) = (refl, both (is_multiple a))

plain_step : (c : List Rule) (w : Walk) (word : Text) → w.stopped ≡ None → waits_for_none w.waiting ≡ true → is_option word ≡ false
    → walked c [] w word ≡ plain_walked c w word
unfolding walked
plain_step c w word s q p = rw (s, plain_met c w.is_trailing w.waiting w.position word w.held p q) refl

plain_turn : (s : Shape) (w : Walk) (word : Text) → w.stopped ≡ None → waits_for_none w.waiting ≡ true → is_option word ≡ false
    → turn_fault s [] w word ≡ step_fault s w.position w.held value
plain_turn s w word e q p =
    rw (e, plain_met s.rules w.is_trailing w.waiting w.position word w.held p q, plain_word_fault s w.is_trailing w.waiting word w.held p q) refl

head_plain : (word : Text) (rest : List Text) → list_any is_option (word ∷ rest) ≡ false → (is_option word ≡ false) × (list_any is_option rest ≡ false)
head_plain word rest p = go (is_option word) (list_any is_option rest) p
  where
    go : (a b : Bool) → (a || b) ≡ false → (a ≡ false) × (b ≡ false)
    go false b e = (refl, e)
    go true b e = cc

-- the walk over such words, and its faults
pub plain_walk : (c : List Rule) (w : Walk) (words : List Text) → w.stopped ≡ None → waits_for_none w.waiting ≡ true → list_any is_option words ≡ false
    → fold (walked c []) w words ≡ fold (plain_walked c) w words
plain_walk c w [] s q p = refl
plain_walk c w (word ∷ rest) s q p =
    let heads = head_plain word rest p in
    let open_after = still_open c w word s q in
    ap (λ v. fold (walked c []) v rest) (plain_step c w word s q heads.0) ∙ plain_walk c (plain_walked c w word) rest open_after.0 open_after.1 heads.1

pub plain_walk_fault : (s : Shape) (w : Walk) (words : List Text) → w.stopped ≡ None → waits_for_none w.waiting ≡ true → list_any is_option words ≡ false
    → walk_fault s [] w words ≡ plain_fault s w words
unfolding walk_fault
plain_walk_fault s w [] e q p = refl
plain_walk_fault s w (word ∷ rest) e q p =
    let heads = head_plain word rest p in
    let open_after = still_open s.rules w word e q in
    ap₂ or_else (plain_turn s w word e q heads.0)
    (ap (λ v. walk_fault s [] v rest) (plain_step s.rules w word e q heads.0) ∙ plain_walk_fault s (plain_walked s.rules w word) rest open_after.0 open_after.1 heads.1)

-- ---- a command without subcommands

abbrev pub start : Walk
start = walk_from nothing_held

abbrev pub plain_end : Shape → List Text → Held
plain_end s words = (fold (plain_walked s.rules) start words).held

abbrev pub plain_level : Shape → List Text → Kinds
plain_level s words =
    let end = plain_end s words in
    or_else (plain_fault s start words)
    (or_else (settle_fault s.rules s.args_override_self end)
    (or_else (defaults_fault (settled s.rules end).rows s.rules) (check_fault s (finished s.rules end) false)))

abbrev pub alone : Shape → App
alone s = record { top = s; subs = [] }

none_entered : (s : Shape) (stop : Option (Text × List Text)) → (is_some (entered (alone s) stop) ≡ false) × (entered_fault (alone s) stop ≡ [])
none_entered s None = (refl, refl)
none_entered s (Some p) = (refl, refl)

pub plain_fault_of : (s : Shape) (words : List Text) → list_any is_option words ≡ false → built_fault (alone s) nothing_held words ≡ plain_level s words
plain_fault_of s words p =
    let none = none_entered s (walk s.rules [] nothing_held words).stopped in
    ap₂ (λ b ks. level_fault s [] nothing_held words b ks) none.0 none.1
    ∙ ap₂ (λ (v : Walk) ks. or_else ks
    (or_else (settle_fault s.rules s.args_override_self v.held)
    (or_else (defaults_fault (settled s.rules v.held).rows s.rules) (check_fault s (finished s.rules v.held) false))))
    (plain_walk s.rules start words refl refl p) (plain_walk_fault s start words refl refl p)

pub plain_rows : (s : Shape) (words : List Text) → list_any is_option words ≡ false → rows_after s.rules [] words ≡ finished s.rules (plain_end s words)
plain_rows s words p = ap (λ (v : Walk). finished s.rules v.held) (plain_walk s.rules start words refl refl p)
