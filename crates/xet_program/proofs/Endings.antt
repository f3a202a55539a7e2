-- How a run may end, and what it prints then.
use Rattle.std.proofs.Common.{◌≡◌, ◌≢◌, ◌⊎◌, ◌∙◌, ℕ, ◌<◌, ◌≤◌, inl, inr, Bool, true, List, [], ◌++◌, length, subst, Option, Some, None, refl, sym, ap, arith}
use Rattle.std.proofs.lemmas.Bool.{cases_lt, lt-ltb, le-ltb}
use Rattle.std.proofs.lemmas.List.{append-nil}
use Rattle.xet_group.specs.Groups.{grouped}
use Rattle.xet_io.specs.Disk.{Files}
use Rattle.xet_hash.specs.declared.error.StoreError.{StoreError}
use Rattle.xet_folder.specs.Admission.{Refuses}
use Rattle.xet_folder.specs.declared.contents.Contents.{Contents}
use Rattle.xet_program.specs.Words.{Command}
use Rattle.xet_program.specs.Words.Command.{Pack, Clean, Make, Read, ListFiles, Group}
use Rattle.xet_program.specs.Start.{Start}
use Rattle.xet_program.specs.Early.{IsEarly, Outcome, bad_line_text, group_outcome, max_input, outcome}
use Rattle.xet_program.specs.Tasks.{store_folder}
use Rattle.xet_program.specs.Answers.{Answers, CleanAnswer, ReadAnswer}
use Rattle.xet_program.specs.Ending.{IsRejected, IsShardName, IsSilent, MayEnd, Prints, bad_shard_text}
use Rattle.xet_program.specs.Ending.MayEnd.{answered, early, full, malformed, refused, stopped, too_many}
use Rattle.xet_program.proofs.Answered.{none_of_six}

-- ---- the statuses at which something is printed

no_silent : (n status : ℕ) → status ≡ n → n ≢ 2 → n ≢ 4 → n ≢ 6 → n ≢ 8 → n ≢ 9 → n ≢ 10 → IsSilent status → ⊥
no_silent n status is a b c d e f silent = none_of_six 2 4 6 8 9 10 n status is a b c d e f silent

status_not_silent : (status : ℕ) → (status ≡ 0) ⊎ (status ≡ 1) ⊎ (status ≡ 3) ⊎ (status ≡ 5) ⊎ (status ≡ 7) → IsSilent status → ⊥
status_not_silent status (inl is) = no_silent 0 status is (λ e. omega arith) (λ e. omega arith) (λ e. omega arith) (λ e. omega arith) (λ e. omega arith) (λ e. omega arith)
status_not_silent status (inr (inl is)) = no_silent 1 status is (λ e. omega arith) (λ e. omega arith) (λ e. omega arith) (λ e. omega arith) (λ e. omega arith) (λ e. omega arith)
status_not_silent status (inr (inr (inl is))) = no_silent 3 status is (λ e. omega arith) (λ e. omega arith) (λ e. omega arith) (λ e. omega arith) (λ e. omega arith) (λ e. omega arith)
status_not_silent status (inr (inr (inr (inl is)))) = no_silent 5 status is (λ e. omega arith) (λ e. omega arith) (λ e. omega arith) (λ e. omega arith) (λ e. omega arith) (λ e. omega arith)
status_not_silent status (inr (inr (inr (inr is)))) = no_silent 7 status is (λ e. omega arith) (λ e. omega arith) (λ e. omega arith) (λ e. omega arith) (λ e. omega arith) (λ e. omega arith)

-- ---- kinds of ends

-- an end by its status and text
data Kind (start : Start) (o : Outcome) : Type 0 where
  done : o.status ≡ 0 → Kind start o
  quiet : (n : ℕ) → o.status ≡ n → n ≤ 10 → n ≢ 3 → n ≢ 7 → o.text ≡ [] → Kind start o
  line : (n : ℕ) → o ≡ outcome 3 (bad_line_text n) → Kind start o
  shard : IsRejected start o → Kind start o

status_is : (o p : Outcome) → o ≡ p → o.status ≡ p.status
status_is o p is = ap (λ (x : Outcome). x.status) is

quiet_of : (start : Start) (o : Outcome) (n : ℕ) → o ≡ outcome n [] → n ≤ 10 → n ≢ 3 → n ≢ 7 → Kind start o
quiet_of start o n is low three seven = Kind.quiet n (ap (λ (x : Outcome). x.status) is) low three seven (ap (λ (x : Outcome). x.text) is)

pub group_long : (input : List ℕ) → max_input < length input → group_outcome input ≡ outcome 9 []
unfolding group_outcome
group_long input long = rw (lt-ltb max_input (length input) long) refl

pub group_short : (input : List ℕ) → length input ≤ max_input → group_outcome input ≡ outcome 0 (grouped input)
unfolding group_outcome
group_short input short = rw (le-ltb max_input (length input) short) refl

module _ (start : Start) (o : Outcome) where
  kind_group : (input : List ℕ) → o ≡ group_outcome input → Kind start o
  kind_group input is = elim (cases_lt max_input (length input)) [
    | inl long ↦ quiet_of start o 9 (is ∙ group_long input long) (omega arith) (λ e. omega arith) (λ e. omega arith)
    | inr short ↦ Kind.done (status_is o (outcome 0 (grouped input)) (is ∙ group_short input short))
  ]

  kind_early : (command : Option Command) → IsEarly command o → Kind start o
  kind_early None is = quiet_of start o 2 is (omega arith) (λ e. omega arith) (λ e. omega arith)
  kind_early (Some (Pack s workers)) (inl is) = quiet_of start o 8 is (omega arith) (λ e. omega arith) (λ e. omega arith)
  kind_early (Some (Pack s workers)) (inr (inl is)) = quiet_of start o 9 is (omega arith) (λ e. omega arith) (λ e. omega arith)
  kind_early (Some (Pack s workers)) (inr (inr (n, is))) = Kind.line n is
  kind_early (Some Group) (input, is) = kind_group input is
  kind_early (Some (Clean names)) of = absurd of
  kind_early (Some (Make seed bytes)) of = absurd of
  kind_early (Some (Read h from to)) of = absurd of
  kind_early (Some ListFiles) of = absurd of

  kind_answer : (c : Command) (contents : Contents) (new : Files) → Answers c start contents new o → Kind start o
  kind_answer (Pack s workers) contents new answer = Kind.done answer.status
  kind_answer (Clean names) contents new (CleanAnswer.absent none is) = quiet_of start o 8 is (omega arith) (λ e. omega arith) (λ e. omega arith)
  kind_answer (Clean names) contents new (CleanAnswer.too_long long is) = quiet_of start o 9 is (omega arith) (λ e. omega arith) (λ e. omega arith)
  kind_answer (Clean names) contents new (CleanAnswer.reported report) = Kind.done report.status
  kind_answer (Make seed bytes) contents new answer = Kind.done answer.status
  kind_answer (Read h from to) contents new (ReadAnswer.none absent is) = quiet_of start o 8 is (omega arith) (λ e. omega arith) (λ e. omega arith)
  kind_answer (Read h from to) contents new (ReadAnswer.read nought ordered len is) = Kind.done nought
  kind_answer ListFiles contents new answer = Kind.done (ap (λ (x : Outcome). x.status) answer.is)
  kind_answer Group contents new never = absurd never

  kind_of : (command : Option Command) (new : Files) → MayEnd command start new o → Kind start o
  kind_of command new (early e of) = kind_early command of
  kind_of command new (refused opens none rejected) = Kind.shard rejected
  kind_of command new (answered none answer) = kind_answer answer.asked answer.contents new answer.answer
  kind_of command new (stopped (inl one) silent) = Kind.quiet 1 one (omega arith) (λ e. omega arith) (λ e. omega arith) silent
  kind_of command new (stopped (inr (inl (four, reads))) silent) = Kind.quiet 4 four (omega arith) (λ e. omega arith) (λ e. omega arith) silent
  kind_of command new (stopped (inr (inr (inl (four, opens, valid)))) silent) = Kind.quiet 4 four (omega arith) (λ e. omega arith) (λ e. omega arith) silent
  kind_of command new (stopped (inr (inr (inr (six, opens, none)))) silent) = Kind.quiet 6 six (omega arith) (λ e. omega arith) (λ e. omega arith) silent
  kind_of command new (too_many opens none many is) = quiet_of start o 9 is (omega arith) (λ e. omega arith) (λ e. omega arith)
  kind_of command new (full stores found many is) = quiet_of start o 9 is (omega arith) (λ e. omega arith) (λ e. omega arith)
  kind_of command new (malformed found never is) = quiet_of start o 10 is (omega arith) (λ e. omega arith) (λ e. omega arith)

  -- ---- its status and text

  kind_bounded : Kind start o → o.status ≤ 10
  kind_bounded (Kind.done nought) = omega arith
  kind_bounded (Kind.quiet n is low three seven silent) = omega (arith, is, low)
  kind_bounded (Kind.line n is) = omega (arith, status_is o (outcome 3 (bad_line_text n)) is)
  kind_bounded (Kind.shard rejected) = omega (arith, status_is o (outcome 7 (bad_shard_text rejected.name)) rejected.is)

  kind_silent : Kind start o → IsSilent o.status → o.text ≡ []
  kind_silent (Kind.done nought) silent = absurd (status_not_silent o.status (inl nought) silent)
  kind_silent (Kind.quiet n is low three seven text) silent = text
  kind_silent (Kind.line n is) silent = absurd (status_not_silent o.status (inr (inr (inl (status_is o (outcome 3 (bad_line_text n)) is)))) silent)
  kind_silent (Kind.shard rejected) silent = absurd (status_not_silent o.status (inr (inr (inr (inr (status_is o (outcome 7 (bad_shard_text rejected.name)) rejected.is))))) silent)

  kind_line : Kind start o → o.status ≡ 3 → (n : ℕ) × (o.text ≡ bad_line_text n)
  kind_line (Kind.done nought) is_three = absurd (omega arith)
  kind_line (Kind.quiet n is low three seven text) is_three = absurd (three (sym is ∙ is_three))
  kind_line (Kind.line n is) is_three = (n, ap (λ (x : Outcome). x.text) is)
  kind_line (Kind.shard rejected) is_three = absurd (omega (arith, status_is o (outcome 7 (bad_shard_text rejected.name)) rejected.is))

  kind_shard : Kind start o → o.status ≡ 7 → IsRejected start o
  kind_shard (Kind.done nought) is_seven = absurd (omega arith)
  kind_shard (Kind.quiet n is low three seven text) is_seven = absurd (seven (sym is ∙ is_seven))
  kind_shard (Kind.line n is) is_seven = absurd (omega (arith, status_is o (outcome 3 (bad_line_text n)) is))
  kind_shard (Kind.shard rejected) is_seven = rejected

-- ---- what is printed

module _ (command : Option Command) (start : Start) (new : Files) (output_tells : Bool) (before after : List ℕ) (status : ℕ) where
  abbrev pub Printed : Type 0
  Printed = (o : Outcome) × MayEnd command start new o × Prints output_tells o before after status

  pub bounded_of : Printed → status ≤ 10
  bounded_of (o, may, inl (is, wrote)) = omega (arith, is, kind_bounded start o (kind_of start o command new may))
  bounded_of (o, may, inr (inl one, some, wrote)) = omega arith
  bounded_of (o, may, inr (inr five, some, wrote)) = omega arith

  pub silent_of : Printed → output_tells ≡ true → IsSilent status → after ≡ before
  silent_of (o, may, inl (is, wrote)) told silent =
      wrote told ∙ ap (λ (t : List ℕ). before ++ t) (kind_silent start o (kind_of start o command new may) (subst IsSilent is silent)) ∙ append-nil before
  silent_of (o, may, inr (inl one, some, wrote)) told silent = absurd (status_not_silent status (inr (inl one)) silent)
  silent_of (o, may, inr (inr five, some, wrote)) told silent = absurd (status_not_silent status (inr (inr (inr (inl five)))) silent)

  pub bad_line_of : Printed → output_tells ≡ true → status ≡ 3 → (n : ℕ) × (after ≡ before ++ bad_line_text n)
  bad_line_of (o, may, inl (is, wrote)) told three =
      let line = kind_line start o (kind_of start o command new may) (sym is ∙ three) in (line.0, wrote told ∙ ap (λ (t : List ℕ). before ++ t) line.1)
  bad_line_of (o, may, inr (inl one, some, wrote)) told three = absurd (omega arith)
  bad_line_of (o, may, inr (inr five, some, wrote)) told three = absurd (omega arith)

  pub bad_shard_of : Printed → status ≡ 7
      → (name : List ℕ) × IsShardName name × (start.tells ≡ true → (e : StoreError) × Refuses start.files store_folder start.now e name) × (output_tells ≡ true → after ≡ before ++ bad_shard_text name)
  bad_shard_of (o, may, inl (is, wrote)) seven =
      let rejected = kind_shard start o (kind_of start o command new may) (sym is ∙ seven) in
      (rejected.name, rejected.named, rejected.fails, λ told. wrote told ∙ ap (λ (t : List ℕ). before ++ t) (ap (λ (x : Outcome). x.text) rejected.is))
  bad_shard_of (o, may, inr (inl one, some, wrote)) seven = absurd (omega arith)
  bad_shard_of (o, may, inr (inr five, some, wrote)) seven = absurd (omega arith)

-- ---- invalid arguments

pub invalid_of : (X : Type 0) (e : Outcome) (status : ℕ) → (e.status ≡ 2 → X) → (status ≡ e.status) ⊎ (status ≡ 1) ⊎ (status ≡ 5) → status ≡ 2 → X
invalid_of X e status invalid (inl is) two = invalid (sym is ∙ two)
invalid_of X e status invalid (inr (inl one)) two = absurd (omega arith)
invalid_of X e status invalid (inr (inr five)) two = absurd (omega arith)

pub words_of : (X : Type 0) (e : Outcome) (status : ℕ) → (X → (e.status ≡ 2) ⊎ (e.status ≡ 1)) → (X → e.text ≡ []) → (e.text ≡ [] → status ≡ e.status) → X → (status ≡ 2) ⊎ (status ≡ 1)
words_of X e status words silent same x = go (same (silent x)) (words x)
  where
    go : status ≡ e.status → (e.status ≡ 2) ⊎ (e.status ≡ 1) → (status ≡ 2) ⊎ (status ≡ 1)
    go is (inl two) = inl (is ∙ two)
    go is (inr one) = inr (is ∙ one)
