-- True choices stay true where there are more calls; so each file has choices that are true by all calls.
use Rattle.std.proofs.Common.{◌≡◌, ◌∙◌, inl, inr, ℕ, suc, List, [], ◌∷◌, ◌++◌, length, map, Option, Some, None, refl, sym, ap, subst, arith}
use Rattle.std.specs.List.{AllByRecursion, Contains, sum_by}
use Rattle.std.proofs.lemmas.List.{length-map, nil_from_length}
use Rattle.std.proofs.lemmas.List.Elements.{Contains-append_left, Contains-append_right}
use Rattle.std.proofs.lemmas.List.Sums.{sum_by-cons}
use Rattle.xet_choices.specs.Calls.{Call, IsAskedIn}
use Rattle.xet_choices.specs.Calls.Call.{Asked}
use Rattle.xet_choices.specs.Choices.{AllTrue, IsFound, Setting, TrueAt, hashes_of, new_chunks}
use Rattle.xet_choices.specs.Ranges.{total}
use Rattle.xet_choices.specs.declared.choice.Choice.{Choice}
use Rattle.xet_choices.specs.declared.choice.Choice.TheVariants.{Reused, NoPlace, Refused, Inside}
use Rattle.xet_cut.specs.declared.limits.LimitSettings.{LimitSettings}
use Rattle.xet_dedup.specs.Records.{file_record}
use Rattle.xet_file_plan.specs.Moves.{counts_of}
use Rattle.xet_file_plan.specs.theorems.Placed.{total_placed}
use Rattle.xet_history.specs.declared.entry.Entry.{Entry}
use Rattle.xet_shard_format.specs.declared.record.MDBFileInfo.{MDBFileInfo}
use Rattle.xet_store_disk.specs.Separate.{Among}
use Rattle.xet_store.specs.Holders.{Follows, Holder, calls_in, calls_of, numbered}
use Rattle.xet_clean.specs.Cleaning.{AreChosen}
use Rattle.xet_clean.specs.Files.{HasChoices, leaves_in}
use Rattle.xet_clean.specs.Working.{AreRecorded, BeginsWithRecord, IsRecordOf, Planned, WasPlanned}
use Rattle.xet_clean.specs.theorems.Rising.{calls_stay}
use Rattle.xet_clean.specs.theorems.Sums.{no_leaves}
use Rattle.xet_clean.specs.Policies.{sha256_by}
use Rattle.xet_clean.specs.declared.policy.Sha256Policy.{Sha256Policy}

-- ---- more calls

module _ (s : Setting) (calls : List Call) (more : (c : Call) → Contains s.calls c → Contains calls c) where
  abbrev t : Setting
  t = record s { calls = calls }

  asked_more : (n : ℕ) (h : List ℕ) (reply : Option ℕ) → IsAskedIn s.calls n h reply → IsAskedIn calls n h reply
  asked_more n h reply is = (is.0, more (Asked n (h ∷ is.0) reply) is.1)

  found_more : (j : ℕ) (h : List ℕ) (k : ℕ) → IsFound s j h k → IsFound t j h k
  found_more j h k (inl asked) = inl (asked.0, asked_more asked.0 h (Some k) asked.1)
  found_more j h k (inr there) = inr there

  true_more : (j : ℕ) (h : List ℕ) (c : Choice) → TrueAt s j h c → TrueAt t j h c
  true_more j h (Reused segment) is = (is.0, λ begins. let run = is.1 begins in (run.0, found_more j h run.0 run.1, run.2, run.3))
  true_more j h (NoPlace entry) is = (asked_more entry h None is.0, is.1)
  true_more j h (Refused run) is = (found_more j h run is.0, is.1)
  true_more j h (Inside start) is = (is.0, is.1, is.2, is.3, asked_more is.2 is.0.0 (Some is.1) is.4, is.5, is.6, is.7, is.8)

  pub all_true_more : AllTrue s → AllTrue t
  all_true_more all j leaf c at there = true_more j leaf.0 c (all j leaf c at there)

-- ---- the choices of the files

-- an entry among numbered ones is one of the entries
pub unnumbered : (n : ℕ) (es : List Entry) (m : ℕ) (e : Entry) → Among (numbered n es) (m, e) → Among es e
unnumbered n [] m e a = absurd a
unnumbered n (x ∷ es) m e (inl same) = inl (ap (λ (p : ℕ × Entry). p.1) same)
unnumbered n (x ∷ es) m e (inr a) = inr (unnumbered (suc n) es m e a)

module _ (policy : Sha256Policy) (s : LimitSettings) (calls : List Call) where
  begins_chosen : (bytes : List ℕ) (choices : List Choice) (others : List (List ℕ)) (rest : List (List Choice)) (is : MDBFileInfo → Type 0) (P : List MDBFileInfo → Type 0) → (length bytes ≡ 0 → choices ≡ [])
      → ((r : MDBFileInfo) → is r → HasChoices policy s calls bytes choices r) → ((rs : List MDBFileInfo) → P rs → AreChosen policy s calls others rest rs) → (rs : List MDBFileInfo) → BeginsWithRecord bytes is P rs
      → AreChosen policy s calls (bytes ∷ others) (choices ∷ rest) rs
  begins_chosen [] choices others rest is P none one go rs all = (none refl, go rs all)
  begins_chosen (b ∷ bs) choices others rest is P none one go [] all = absurd all
  begins_chosen (b ∷ bs) choices others rest is P none one go (r ∷ rs) all = (one r all.0, go rs all.1)

module _ (start now : Holder) (follows : Follows start now) (fresh : start.own ≡ []) (first : ℕ) (entries : List Entry) (own : follows.own ≡ numbered first entries) (policy : Sha256Policy) where
  -- all calls
  all_calls : calls_of now ≡ calls_in (numbered first entries)
  all_calls = ap (λ (h : Holder). calls_in h.own) follows.is ∙ ap (λ (l : List (ℕ × Entry)). calls_in (l ++ follows.own)) fresh ∙ ap calls_in own

  module _ (f : Planned) (was : WasPlanned start now f) where
    same_limits : was.last.limits ≡ start.limits
    same_limits = sym (ap (λ (h : Holder). h.limits) was.to.is) ∙ ap (λ (h : Holder). h.limits) follows.is

    same_leaves : f.plan.leaves ≡ leaves_in start.limits f.bytes
    same_leaves = was.planned.leaves ∙ ap (λ (s : LimitSettings). leaves_in s f.bytes) same_limits

    since : List Call
    since = was.planned.deduped.plan.since

    later : (c : Call) → Contains was.planned.deduped.plan.since c → Contains (calls_in (numbered first entries)) c
    later c a =
        subst (λ (cs : List Call). Contains cs c) (sym (calls_stay was.last now was.to) ∙ all_calls)
        (Contains-append_left (calls_of was.last) (calls_in was.to.own) c
        (subst (λ (cs : List Call). Contains cs c) (sym was.planned.deduped.plan.added) (Contains-append_right (calls_of was.first) was.planned.deduped.plan.since c a)))

    one_each : length f.plan.choices ≡ length (leaves_in start.limits f.bytes)
    one_each = was.planned.deduped.plan.plan.one_each ∙ ap length same_leaves

    covers : total (counts_of f.plan.segments) ≡ length (leaves_in start.limits f.bytes)
    covers =
        total_placed _ _ _ f.plan.segments (hashes_of f.plan.leaves) was.planned.deduped.plan.plan.placed
        ∙ length-map f.plan.leaves (λ leaf. leaf.0)
        ∙ ap length same_leaves

    all_true : (counts : List ℕ) → counts ≡ counts_of f.plan.segments
        → AllTrue (record { settings = start.limits; leaves = leaves_in start.limits f.bytes; calls = calls_in (numbered first entries); counts = counts; choices = f.plan.choices })
    all_true counts same =
        let settings : f.plan.settings ≡ start.limits = was.planned.settings ∙ same_limits in
        let before : Setting = record { settings = f.plan.settings; leaves = f.plan.leaves; calls = was.planned.deduped.plan.since; counts = counts_of f.plan.segments; choices = f.plan.choices } in
        let after : AllTrue (record { settings = f.plan.settings; leaves = f.plan.leaves; calls = calls_in (numbered first entries); counts = counts_of f.plan.segments; choices = f.plan.choices }) =
        all_true_more before (calls_in (numbered first entries)) later was.planned.deduped.plan.plan.choices in
        subst AllTrue (λ i. record { settings = settings i; leaves = same_leaves i; calls = calls_in (numbered first entries); counts = sym same i; choices = f.plan.choices }) after

    no_choices : length f.bytes ≡ 0 → f.plan.choices ≡ []
    no_choices none = nil_from_length f.plan.choices (omega (arith, one_each, no_leaves start.limits f.bytes none))

    choices_of : f.policy ≡ policy → (file : MDBFileInfo) → IsRecordOf f file → HasChoices policy start.limits (calls_in (numbered first entries)) f.bytes f.plan.choices file
    choices_of same file is = record {
      segments = is.segments;
      is = is.is ∙ (λ i. file_record (same_leaves i) is.segments (sha256_by (same i) f.bytes));
      covers = ap total is.counts ∙ covers;
      one_each = one_each;
      true_choices = all_true (counts_of is.segments) is.counts;
    }

  pub are_chosen : (files : List Planned) (records : List MDBFileInfo) → AllByRecursion (WasPlanned start now) files → AllByRecursion (λ f. f.policy ≡ policy) files → AreRecorded files records
      → AreChosen policy start.limits (calls_in (numbered first entries)) (map (λ f. f.bytes) files) (map (λ f. f.plan.choices) files) records
  are_chosen [] records planned same none = none
  are_chosen (f ∷ fs) records planned same all =
      begins_chosen policy start.limits (calls_in (numbered first entries)) f.bytes f.plan.choices (map (λ (g : Planned). g.bytes) fs) (map (λ (g : Planned). g.plan.choices) fs) (IsRecordOf f) (λ l. AreRecorded fs l)
      (no_choices f planned.0) (choices_of f planned.0 same.0) (λ l a. are_chosen fs l planned.1 same.1 a) records all

-- ---- sums over the files and over their choices

pub new_sum : (files : List Planned) → sum_by (λ f. new_chunks f.plan.choices) files ≡ sum_by new_chunks (map (λ f. f.plan.choices) files)
new_sum [] = refl
new_sum (f ∷ fs) =
    omega (arith, new_sum fs, sum_by-cons (λ (g : Planned). new_chunks g.plan.choices) f fs, sum_by-cons new_chunks f.plan.choices (map (λ (g : Planned). g.plan.choices) fs))

pub leaves_sum : (start now : Holder) (files : List Planned) → AllByRecursion (WasPlanned start now) files
    → sum_by (λ f. length f.plan.leaves) files ≡ sum_by (λ (c : List Choice). length c) (map (λ f. f.plan.choices) files)
leaves_sum start now [] planned = refl
leaves_sum start now (f ∷ fs) planned =
    omega (
      arith,
      leaves_sum start now fs planned.1,
      planned.0.planned.deduped.plan.plan.one_each,
      sum_by-cons (λ (g : Planned). length g.plan.leaves) f fs,
      sum_by-cons (λ (c : List Choice). length c) f.plan.choices (map (λ (g : Planned). g.plan.choices) fs),
    )
