-- Ranges that are read of a session.
use Rattle.std.proofs.Common.{◌≡◌, ◌∙◌, inl, inr, ℕ, ◌≤◌, List, [], ◌∷◌, ◌++◌, Option, Some, None, Result, Ok, Err, OnOk, Vec, Global, append_assoc, refl, sym, ap, subst, arith}
use Rattle.std.proofs.lemmas.Bool.{cases_lt}
use Rattle.std.proofs.lemmas.List.{append-nil}
use Rattle.std.specs.Result.{IsErrOf}
use Rattle.xet_hash.specs.declared.error.StoreError.{StoreError}
use Rattle.xet_hash.specs.declared.error.StoreError.TheVariants.{FileNotFound, InvalidRange}
use Rattle.xet_shard_format.specs.declared.record.FileDataSequenceEntry.{FileDataSequenceEntry as Segment}
use Rattle.xet_store_disk.specs.Cleaning.{Keeps}
use Rattle.xet_store_disk.specs.Ranges.{IsOutside, IsUnchanged}
use Rattle.xet_store_disk.specs.Store.{State, plan_of}
use Rattle.xet_store_disk.specs.declared.info.XetFileInfo.{XetFileInfo}
use Rattle.xet_store_disk.specs.theorems.Keeping.{keeps_counted}
use Rattle.xet_program.specs.declared.lines.FileRange.{FileRange}
use Rattle.xet_program.specs.internal.Steps.{AreRead, IsLineRead}

-- ---- after reading all is as it was

pub unchanged_then : (a b c : State) → IsUnchanged a b → IsUnchanged b c → IsUnchanged a c
unchanged_then a b c x y = record { is = y.is ∙ ap (λ (s : State). record s { faults = c.faults }) x.is; later = omega (arith, x.later, y.later) }

pub keeps_unchanged : (a b : State) → IsUnchanged a b → Keeps a b
keeps_unchanged a b x = subst (λ (s : State). Keeps a s) (sym x.is) (keeps_counted a b.faults x.later)

-- ---- what was read

module _ (infos : List XetFileInfo) where
  line_faults : (s : State) (f : ℕ) (r : FileRange) (line : List ℕ) → IsLineRead (record s { faults = f }) infos r line → IsLineRead s infos r line
  line_faults s f r line l = record {
    bytes = l.bytes;
    read = λ told.
        let g = l.read told in record { plan = g.plan; planned = g.planned; chunks = g.chunks; resolves = g.resolves; is = g.is };
    is = l.is;
  }

  line_faults_after : (s : State) (f : ℕ) (r : FileRange) (line : List ℕ) → IsLineRead s infos r line → IsLineRead (record s { faults = f }) infos r line
  line_faults_after s f r line l = record {
    bytes = l.bytes;
    read = λ told.
        let g = l.read told in record { plan = g.plan; planned = g.planned; chunks = g.chunks; resolves = g.resolves; is = g.is };
    is = l.is;
  }

  -- a line that is read later is that of before
  pub line_before : (a b : State) (r : FileRange) (line : List ℕ) → IsUnchanged a b → IsLineRead b infos r line → IsLineRead a infos r line
  line_before a b r line x l = line_faults a b.faults r line (subst (λ (s : State). IsLineRead s infos r line) x.is l)

  -- and lines that were read are those of after
  pub read_after : (a b : State) (rs : List FileRange) (text : List ℕ) → IsUnchanged a b → AreRead a infos rs text → AreRead b infos rs text
  read_after a b [] text x are = are
  read_after a b (r ∷ rs) text x (line, rest, one, is, more) =
      (line, rest, subst (λ (s : State). IsLineRead s infos r line) (sym x.is) (line_faults_after a b.faults r line one), is, read_after a b rs rest x more)

  -- one line more
  pub read_more : (s : State) (rs : List FileRange) (r : FileRange) (text line : List ℕ) → AreRead s infos rs text → IsLineRead s infos r line → AreRead s infos (rs ++ r ∷ []) (text ++ line)
  read_more s [] r text line are one =
      let none : text ++ line ≡ line = ap (λ (t : List ℕ). t ++ line) are in
      (line, [], one, none ∙ sym (append-nil line), refl)
  read_more s (q ∷ rs) r text line (first, rest, of, is, more) one =
      (first, rest ++ line, of, ap (λ (t : List ℕ). t ++ line) is ∙ append_assoc first rest line, read_more s rs r rest line more one)

-- ---- a range that was read is not reversed

no_answer : {T E : Type 0} (X : Type 0) (r : Result T E) (e : E) → IsErrOf r e → OnOk r X
no_answer X (Ok t) e is = absurd (cc is)
no_answer X (Err f) e is = tt

pub ordered_of : (s : State) (h : List ℕ) (from to : ℕ) (r : Result (Vec ℕ Global) StoreError) → (plan_of s.records h ≡ None → IsErrOf r FileNotFound) → (IsOutside s h from to → IsErrOf r InvalidRange) → OnOk r (from ≤ to)
ordered_of s h from to r missing outside = go (plan_of s.records h) refl
  where
    given : (x : Result (Vec ℕ Global) StoreError) → from ≤ to → OnOk x (from ≤ to)
    given (Ok t) le = le
    given (Err e) le = tt

    go : (o : Option (List Segment)) → plan_of s.records h ≡ o → OnOk r (from ≤ to)
    go None none = no_answer (from ≤ to) r FileNotFound (missing none)
    go (Some plan) planned = elim (cases_lt to from) [
      | inl reversed ↦ no_answer (from ≤ to) r InvalidRange (outside record { plan = plan; planned = planned; outside = inl reversed })
      | inr ordered ↦ given r ordered
    ]
