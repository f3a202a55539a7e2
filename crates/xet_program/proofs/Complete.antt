-- A run without a cause for another status ends with status 0, unless it is stopped.
use Rattle.std.proofs.Common.{◌≡◌, ◌⊎◌, ◌∙◌, ℕ, inl, inr, Bool, true, false, List, [], ◌∷◌, length, map, subst, Option, Some, None, refl, sym, ap, arith}
use Rattle.std.proofs.lemmas.Bool.{false≢true}
use Rattle.std.proofs.lemmas.List.{length-map}
use Rattle.xet_io.specs.Disk.{Files}
use Rattle.xet_io.specs.Named.{Named}
use Rattle.xet_folder.specs.Contents.{HasTooMany}
use Rattle.xet_shard_file.specs.Shards.{ShardFile}
use Rattle.xet_folder.specs.Xorbs.{FileRecords}
use Rattle.xet_folder.specs.declared.contents.Contents.{Contents}
use Rattle.xet_folder.specs.theorems.Agreeing.{not_both}
use Rattle.xet_program.specs.Allowed.{are_short}
use Rattle.xet_program.specs.Answers.{Answers, AreNamed, CleanAnswer, IsNoRange, ReadAnswer}
use Rattle.xet_program.specs.Early.{Outcome, group_outcome}
use Rattle.xet_program.specs.Ending.{CanOpen, IsAnswer, IsCutShort, IsFaultless, IsRejected, IsStopped, IsStoppedSilent, MayEnd, Prints}
use Rattle.xet_program.specs.Ending.MayEnd.{answered, early, full, malformed, refused, stopped, too_many}
use Rattle.xet_program.specs.Start.{Observes, Start}
use Rattle.xet_program.specs.Tasks.{default_limits, store_folder}
use Rattle.xet_program.specs.Words.{Command}
use Rattle.xet_program.specs.Words.Command.{Pack, Clean, Make, Read, ListFiles, Group}
use Rattle.xet_program.proofs.Absent.{none_absent}
use Rattle.xet_program.proofs.Contents.{never_too_many, records_once}
use Rattle.xet_program.proofs.Endings.{group_short}

some_once : (xs ys : List (List ℕ)) → map {B = Option (List ℕ)} Some xs ≡ map Some ys → xs ≡ ys
some_once [] [] e = refl
some_once [] (y ∷ ys) e = cc e
some_once (x ∷ xs) [] e = cc e
some_once (x ∷ xs) (y ∷ ys) e =
    let here : x ≡ y = cc e in
    let rest : map {B = Option (List ℕ)} Some xs ≡ map Some ys = cc e in
    ap (λ (z : List ℕ). z ∷ xs) here ∙ ap (λ (zs : List (List ℕ)). y ∷ zs) (some_once xs ys rest)

-- the files under names are one list
named_once : (inputs : Named (List ℕ)) (names a b : List (List ℕ)) → AreNamed inputs names a → AreNamed inputs names b → a ≡ b
named_once inputs names a b na nb = some_once a b (sym na ∙ nb)

answer_of : (c : Command) (start : Start) (new : Files) (o : Outcome) → (answer : IsAnswer (Some c) start new o) → Answers c start answer.contents new o
answer_of c start new o answer =
    let same : answer.asked ≡ c = cc (answer.is) in
    subst (λ (x : Command). Answers x start answer.contents new o) same answer.answer

stopped_silent : (command : Option Command) (start : Start) (status : ℕ) → IsStoppedSilent command start status → IsStopped status
stopped_silent command start status (inl one) = inl one
stopped_silent command start status (inr (inl (four, reads))) = inr (inl four)
stopped_silent command start status (inr (inr (inl (four, opens, valid)))) = inr (inl four)
stopped_silent command start status (inr (inr (inr (six, opens, none)))) = inr (inr (inr six))

module _ (start : Start) (new : Files) (o : Outcome) where
  abbrev Ends : Type 0
  Ends = (o.status ≡ 0) ⊎ IsStopped o.status

  not_rejected : (X : Type 0) (contents : Contents) → start.tells ≡ true → CanOpen start.files start.now contents → IsRejected start o → X
  not_rejected X contents told can rejected =
      let refuses = rejected.fails told in absurd (not_both start.files store_folder start.now can.valid.shards refuses.0 rejected.name can.valid.admits refuses.1)

  -- a folder that can be opened has not too many shards
  not_too_many : (X : Type 0) (contents : Contents) → start.tells ≡ true → CanOpen start.files start.now contents → (start.tells ≡ true → HasTooMany start.files store_folder start.now) → X
  not_too_many X contents told can many = never_too_many X start.files start.now contents can (many told)

  not_malformed : (X : Type 0) → start.tells ≡ true → start.tells ≡ false → X
  not_malformed X told never = absurd (false≢true (sym never ∙ told))

  of_clean : (names : List (List ℕ)) (contents : Contents) (files : List (List ℕ)) → start.inputs_tell ≡ true → AreNamed start.inputs names files → are_short default_limits files ≡ true
      → CleanAnswer names start new o → Ends
  of_clean names contents files told named short (CleanAnswer.absent none is) =
      let a = none told in absurd (none_absent start.inputs names files a.0 a.1 named a.2 a.3 a.4)
  of_clean names contents files told named short (CleanAnswer.too_long long is) =
      let l = long told in
      absurd (false≢true (sym l.2 ∙ ap (are_short default_limits) (named_once start.inputs names l.0 files l.1 named) ∙ short))
  of_clean names contents files told named short (CleanAnswer.reported report) = inl report.status

  of_read : (h : List ℕ) (from to : ℕ) (contents : Contents) → start.tells ≡ true → IsFaultless (Some (Read h from to)) start new
      → (start.tells ≡ true → CanOpen start.files start.now contents) → ReadAnswer h from to start contents o → Ends
  of_read h from to contents told fine valid (ReadAnswer.none absent is) =
      let one = records_once start.files store_folder start.now contents fine.0 (valid told).valid fine.1.valid in
      absurd (fine.2 (subst (λ (r : FileRecords). IsNoRange r h from to) one (absent told)))
  of_read h from to contents told fine valid (ReadAnswer.read nought ordered len is) = inl nought

  end_of : (command : Option Command) → Observes start command → start.tells ≡ true → IsFaultless command start new → MayEnd command start new o → Ends
  end_of None observes told fine may = absurd fine
  end_of (Some c) observes told fine (stopped stop silent) = inr (stopped_silent (Some c) start o.status stop)
  end_of (Some (Pack s workers)) observes told fine (full stores found many is) = absurd (fine.3 (many told))
  end_of (Some (Clean names)) observes told fine (full stores found many is) = absurd (fine.5 (many told))
  end_of (Some (Make seed bytes)) observes told fine (full stores found many is) = absurd (fine.2 (many told))
  end_of (Some (Read h from to)) observes told fine (full stores found many is) = absurd stores
  end_of (Some ListFiles) observes told fine (full stores found many is) = absurd stores
  end_of (Some Group) observes told fine (full stores found many is) = absurd stores
  end_of (Some (Pack s workers)) observes told fine (malformed found never is) = absurd (never observes told fine.2)
  end_of (Some (Clean names)) observes told fine (malformed found never is) = absurd (never observes told fine.4)
  end_of (Some (Make seed bytes)) observes told fine (malformed found never is) = absurd (never told fine.1)
  end_of (Some (Read h from to)) observes told fine (malformed found never is) = not_malformed Ends told never
  end_of (Some ListFiles) observes told fine (malformed found never is) = absurd never
  end_of (Some Group) observes told fine (malformed found never is) = absurd never
  end_of (Some (Pack s workers)) observes told fine (too_many opens none many is) = not_too_many Ends fine.1.0 told fine.1.1 many
  end_of (Some (Clean names)) observes told fine (too_many opens none many is) = not_too_many Ends fine.3.0 told fine.3.1 many
  end_of (Some (Make seed bytes)) observes told fine (too_many opens none many is) = not_too_many Ends fine.0.0 told fine.0.1 many
  end_of (Some (Read h from to)) observes told fine (too_many opens none many is) = not_too_many Ends fine.0 told fine.1 many
  end_of (Some ListFiles) observes told fine (too_many opens none many is) = not_too_many Ends fine.0 told fine.1 many
  end_of (Some Group) observes told fine (too_many opens none many is) = absurd opens
  end_of (Some (Pack s workers)) observes told fine (early e of) = absurd (cc (sym fine.0 ∙ e observes))
  end_of (Some (Pack s workers)) observes told fine (refused opens none rejected) = not_rejected Ends fine.1.0 told fine.1.1 rejected
  end_of (Some (Pack s workers)) observes told fine (answered none answer) = inl (answer_of (Pack s workers) start new o answer).status
  end_of (Some (Clean names)) observes told fine (early e of) = absurd of
  end_of (Some (Clean names)) observes told fine (refused opens none rejected) = not_rejected Ends fine.3.0 told fine.3.1 rejected
  end_of (Some (Clean names)) observes told fine (answered none answer) =
      of_clean names answer.contents fine.0 (observes.1 tt) fine.1 fine.2 (answer_of (Clean names) start new o answer)
  end_of (Some (Make seed bytes)) observes told fine (early e of) = absurd of
  end_of (Some (Make seed bytes)) observes told fine (refused opens none rejected) = not_rejected Ends fine.0.0 told fine.0.1 rejected
  end_of (Some (Make seed bytes)) observes told fine (answered none answer) = inl (answer_of (Make seed bytes) start new o answer).status
  end_of (Some (Read h from to)) observes told fine (early e of) = absurd of
  end_of (Some (Read h from to)) observes told fine (refused opens none rejected) = not_rejected Ends fine.0 told fine.1 rejected
  end_of (Some (Read h from to)) observes told fine (answered none answer) = of_read h from to answer.contents told fine answer.valid (answer_of (Read h from to) start new o answer)
  end_of (Some ListFiles) observes told fine (early e of) = absurd of
  end_of (Some ListFiles) observes told fine (refused opens none rejected) = not_rejected Ends fine.0 told fine.1 rejected
  end_of (Some ListFiles) observes told fine (answered none answer) = inl (ap (λ (x : Outcome). x.status) (answer_of ListFiles start new o answer).is)
  end_of (Some Group) observes told fine (early e of) =
      let is : group_outcome start.input ≡ o = cc (e observes) in
      inl (ap (λ (x : Outcome). x.status) (sym is ∙ group_short start.input fine))
  end_of (Some Group) observes told fine (refused opens none rejected) = absurd opens
  end_of (Some Group) observes told fine (answered none answer) = absurd (answer_of Group start new o answer)

stopped_short : (status : ℕ) → IsCutShort status → IsStopped status
stopped_short status (inl one) = inl one
stopped_short status (inr five) = inr (inr (inl five))

pub complete_of : (command : Option Command) (start : Start) (new : Files) (o : Outcome) (output_tells : Bool) (before after : List ℕ) (status : ℕ) → MayEnd command start new o → Prints output_tells o before after status
    → Observes start command → start.tells ≡ true → IsFaultless command start new → (status ≡ 0) ⊎ IsStopped status
complete_of command start new o output_tells before after status may (inr (short, some, wrote)) observes told fine = inr (stopped_short status short)
complete_of command start new o output_tells before after status may (inl (is, wrote)) observes told fine = go (end_of start new o command observes told fine may)
  where
    go : (o.status ≡ 0) ⊎ IsStopped o.status → (status ≡ 0) ⊎ IsStopped status
    go (inl nought) = inl (is ∙ nought)
    go (inr stop) = inr (subst IsStopped (sym is) stop)
