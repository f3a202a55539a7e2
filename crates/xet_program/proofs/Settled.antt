-- What is reported, stored and recorded where nothing is pending any more.
use Rattle.std.proofs.Common.{◌≡◌, ◌≢◌, ◌⊎◌, ◌∙◌, inl, inr, ℕ, zero, suc, ◌&&◌, Bool, true, false, cond, leb, List, [], ◌∷◌, ◌++◌, length, map, Option, Some, None, IsSome, Result, Ok, Err, OnOk, IfOk, Vec, Global, is_some, unwrap_or, subst, refl, sym, ap, arith}
use Rattle.std.proofs.lemmas.Bool.{and_parts, false≢true}
use Rattle.std.specs.List.{AllByRecursion, flat_map, list_all}
use Rattle.std.specs.Option.{option_and_then}
use Rattle.xet_hash.specs.Merkle.{file_hash, leaves_of}
use Rattle.xet_folder.specs.Contents.{HasContents}
use Rattle.xet_folder.specs.Listed.{ResolvesTo, Lists}
use Rattle.xet_folder.specs.Plan.{range}
use Rattle.xet_folder.specs.Xorbs.{Xorbs, found}
use Rattle.xet_cut.specs.declared.limits.LimitSettings.{LimitSettings}
use Rattle.xet_store_disk.specs.declared.info.XetFileInfo.{XetFileInfo}
use Rattle.xet_store_disk.specs.Cleaning.{HasFile, Keeps, info_of}
use Rattle.xet_cut.specs.Chunking.{chunking}
use Rattle.xet_cut.specs.Limits.{AreInRange}
use Rattle.xet_store_disk.specs.Opening.{contents_of}
use Rattle.xet_store_disk.specs.Ranges.{IsRange}
use Rattle.xet_store_disk.specs.Separate.{Among, IsNamed, Separate, SeparateIn}
use Rattle.xet_store_disk.specs.Store.{State, Sound}
use Rattle.xet_history.specs.Core.{Core, is_new}
use Rattle.xet_history.specs.History.{after_all}
use Rattle.xet_history.specs.declared.entry.Entry.{Entry}
use Rattle.xet_history.specs.theorems.Naming.{InShard, Names, OfXorb, listed_named}
use Rattle.xet_history.specs.theorems.Staying.{Leaves, new_if_none, not_new_if_found}
use Rattle.xet_shard.specs.Held.{Held, nothing}
use Rattle.xet_store.specs.Recorded.{IsRecorded, RecordedState, core_of}
use Rattle.xet_store.specs.Steps.{Steps}
use Rattle.xet_store.specs.theorems.Joining.{steps_both}
use Rattle.xet_store.specs.theorems.Lasting.{in_shard_named}
use Rattle.xet_store_disk.specs.theorems.Keeping.{keeps_then}
use Rattle.xet_store_disk.specs.theorems.Rows.{is_some_found}
use Rattle.xet_store_disk.specs.theorems.Sessions.{has_file_stays, named_stays, range_of_file, recorded_by_folder, separate_by_folder}
use Rattle.xet_program.specs.declared.ending.Stop.{Stop}
use Rattle.xet_program.specs.declared.lines.FileRange.{FileRange}
use Rattle.xet_program.specs.Lines.{Line, bytes_in, files_of, numbered, range_bytes}
use Rattle.xet_program.specs.Answers.{AreSeparate}
use Rattle.xet_program.specs.Tasks.{store_folder}
use Rattle.xet_program.specs.internal.Parsing.{ForLines, Said, are_good, parted}
use Rattle.xet_program.specs.Report.{IsReport, bytes_line, file_line, file_report, range_report}
use Rattle.xet_program.specs.internal.Report.{info_line}
use Rattle.xet_program.specs.internal.Steps.{AreRead, IsLineRead, IsSettled, hash_at}
use Rattle.xet_program.specs.Stored.{IsRecorded as IsRecordedIn, Records}
use Rattle.xet_program.proofs.Cleaned.{lines_of_infos}
use Rattle.xet_program.proofs.Chunkings.{concat_chunking, chunking_some}
use Rattle.xet_program.proofs.Ranged.{range_none}

-- ---- ranges

hash_numbered : (l : LimitSettings) (files : List (List ℕ)) (n : ℕ) (f : List ℕ) → numbered files n ≡ Some f → hash_at (map (info_of l) files) n ≡ file_hash (leaves_of (chunking l f))
hash_numbered l [] n f e = absurd (cc e)
hash_numbered l (g ∷ gs) zero f e = absurd (cc e)
hash_numbered l (g ∷ gs) (suc zero) f e =
    let same : g ≡ f = cc e in ap (λ (b : List ℕ). file_hash (leaves_of (chunking l b))) same
hash_numbered l (g ∷ gs) (suc (suc n)) f e = hash_numbered l gs (suc n) f e

all_numbered : (P : List (List ℕ) → Type 0) (l : LimitSettings) (files : List (List ℕ)) (n : ℕ) (f : List ℕ) → numbered files n ≡ Some f → AllByRecursion P (map (chunking l) files) → P (chunking l f)
all_numbered P l [] n f e all = absurd (cc e)
all_numbered P l (g ∷ gs) zero f e all = absurd (cc e)
all_numbered P l (g ∷ gs) (suc zero) f e all =
    let same : g ≡ f = cc e in subst (λ (b : List ℕ). P (chunking l b)) same all.0
all_numbered P l (g ∷ gs) (suc (suc n)) f e all = all_numbered P l gs (suc n) f e all.1

-- a good range's bytes
good_bytes : (files : List (List ℕ)) (r : FileRange) (f : List ℕ) → numbered files r.file ≡ Some f → is_some (range_bytes files r) ≡ true → range_bytes files r ≡ Some (range f r.from r.to)
unfolding range_bytes
good_bytes files r f e good = ap (option_and_then (bytes_in r.from r.to)) e ∙ by_test (leb r.from r.to && leb r.to (length f)) (sym (ap (λ (o : Option (List ℕ)). is_some (option_and_then (bytes_in r.from r.to) o)) e) ∙ good)
  where
    by_test : (t : Bool) → is_some (cond t (Some (range f r.from r.to)) None) ≡ true → cond t (Some (range f r.from r.to)) None ≡ Some (range f r.from r.to)
    by_test true is = refl
    by_test false is = absurd (false≢true is)

module _ (s : State) (l : LimitSettings) (files : List (List ℕ)) (told : s.tells ≡ true) (fits : AreInRange l) (has : AllByRecursion (HasFile s) (map (chunking l) files)) where
  line_exact : (r : FileRange) (line : List ℕ) → is_some (range_bytes files r) ≡ true → IsLineRead s (map (info_of l) files) r line → line ≡ bytes_line (unwrap_or (range_bytes files r) [])
  line_exact r line good one = by_file (numbered files r.file) refl
    where
      by_file : (o : Option (List ℕ)) → numbered files r.file ≡ o → line ≡ bytes_line (unwrap_or (range_bytes files r) [])
      by_file None e = absurd (false≢true (sym (range_none files r e) ∙ good))
      by_file (Some f) e =
          let is_range : IsRange s (file_hash (leaves_of (chunking l f))) r.from r.to one.bytes = subst (λ (h : List ℕ). IsRange s h r.from r.to one.bytes) (hash_numbered l files r.file f e) (one.read told) in
          let read : one.bytes ≡ range f r.from r.to =
          range_of_file s (chunking l f) r.from r.to one.bytes (all_numbered (HasFile s) l files r.file f e has) is_range ∙ ap (λ (b : List ℕ). range b r.from r.to) (concat_chunking l f fits) in
          one.is ∙ ap bytes_line (read ∙ ap (λ (o : Option (List ℕ)). unwrap_or o []) (sym (good_bytes files r f e good)))

  lines_exact : (rs : List FileRange) (text : List ℕ) → list_all (λ r. is_some (range_bytes files r)) rs ≡ true → AreRead s (map (info_of l) files) rs text
      → text ≡ flat_map (λ r. bytes_line (unwrap_or (range_bytes files r) [])) rs
  lines_exact [] text good are = are
  lines_exact (r ∷ rs) text good (line, rest, one, is, more) =
      let parts = and_parts (is_some (range_bytes files r)) (list_all (λ q. is_some (range_bytes files q)) rs) good in
      is ∙ ap (λ (t : List ℕ). t ++ rest) (line_exact r line parts.0 one) ∙ ap (λ (t : List ℕ). bytes_line (unwrap_or (range_bytes files r) []) ++ t) (lines_exact rs rest parts.1 more)

-- ---- after files were cleaned, and nothing is pending

-- A session before files were cleaned, after that, and after it has kept what was pending.
pub record AreSteps (first before after : RecordedState) : Type 0 where
  pub cleaned : Keeps first.store before.store
  pub keeps : Keeps before.store after.store
  pub sound : Sound before.store
  pub flushed : Sound after.store
  pub recorded : IsRecorded after
  pub folder : first.store.folder ≡ store_folder
  pub fresh : first.store.pending ≡ nothing
  pub fits : AreInRange first.store.limits
  pub contents : first.store.tells ≡ true → HasContents first.store.files first.store.folder first.store.opened (contents_of first.store)

-- Such a session, and the files that were cleaned.
pub record IsDone (first before after : RecordedState) (files : List (List ℕ)) : Type 0 where
  pub steps : AreSteps first before after
  pub has : first.store.tells ≡ true → Separate before.store (map (chunking first.store.limits) files) → AllByRecursion (HasFile before.store) (map (chunking first.store.limits) files)
  pub entries : List Entry
  pub taken : Steps first before entries

module _ (first before after : RecordedState) (files : List (List ℕ)) (done : IsDone first before after files) where
  abbrev chunked : List (List (List ℕ))
  chunked = map (chunking first.store.limits) files

  folder_after : after.store.folder ≡ store_folder
  folder_after = done.steps.keeps.folder ∙ done.steps.cleaned.folder ∙ done.steps.folder

  opened_after : after.store.opened ≡ first.store.opened
  opened_after = done.steps.keeps.opened ∙ done.steps.cleaned.opened

  told_after : first.store.tells ≡ true → after.store.tells ≡ true
  told_after told = done.steps.keeps.tells ∙ done.steps.cleaned.tells ∙ told

  module _ (settled : IsSettled before after) where
    in_core : first.store.tells ≡ true → (h : List ℕ) → OfXorb after.store.pending.blocks h ⊎ InShard (core_of after) h → IsNamed after.store.files after.store.folder after.store.opened h
    in_core told h (inl (i, b, below, at, is)) = let none : length after.store.pending.blocks ≡ 0 = ap (λ (p : Held). length p.blocks) settled.nothing_pending in absurd (omega (arith, below, none))
    in_core told h (inr any) = in_shard_named after done.steps.flushed done.steps.recorded (told_after told) h any

    -- a xorb that is listed was so at first, or came since; it is named by a shard
    named_either : first.store.tells ≡ true → (h : List ℕ) → is_new after.store.xorbs h ≡ false → (o : Option Leaves) → found first.store.xorbs h ≡ o → IsNamed after.store.files after.store.folder after.store.opened h
    named_either told h listed (Some leaves) e =
        let keeps = keeps_then first.store before.store after.store done.steps.cleaned done.steps.keeps in
        let named : IsNamed after.store.files first.store.folder first.store.opened h = named_stays first.store (done.steps.contents told) after.store told keeps h (is_some_found first.store.xorbs h leaves e) in
        let at : IsNamed after.store.files after.store.folder first.store.opened h = subst (λ (f : List ℕ). IsNamed after.store.files f first.store.opened h) (sym keeps.folder) named in
        subst (λ (n : ℕ). IsNamed after.store.files after.store.folder n h) (sym opened_after) at
    named_either told h listed None e =
        let steps : Steps first after (done.entries ++ settled.entries) = steps_both first before after done.entries settled.entries done.taken settled.steps in
        let listed_then : is_new (after_all (core_of first) (done.entries ++ settled.entries)).xorbs h ≡ false = subst (λ (c : Core). is_new c.xorbs h ≡ false) steps.moves.leads listed in
        in_core told h (subst (λ (c : Core). Names c h) (sym steps.moves.leads) (listed_named (core_of first) (done.entries ++ settled.entries) h (new_if_none first.store.xorbs h e) listed_then))

    -- each xorb that is then listed is named by a shard
    all_named : first.store.tells ≡ true → (h : List ℕ) → IsSome (found before.store.xorbs h) → IsNamed after.store.files after.store.folder after.store.opened h
    all_named told h is = go (found before.store.xorbs h) refl is
      where
        go : (o : Option Leaves) → found before.store.xorbs h ≡ o → IsSome o → IsNamed after.store.files after.store.folder after.store.opened h
        go None e bad = absurd (cc bad)
        go (Some leaves) e ok = named_either told h (not_new_if_found after.store.xorbs h leaves (ap (λ (x : Xorbs). found x h) settled.xorbs ∙ e)) (found first.store.xorbs h) refl

    separates : first.store.tells ≡ true → SeparateIn after.store.files store_folder first.store.opened chunked → Separate before.store chunked
    separates told apart =
        let by_folder : SeparateIn after.store.files after.store.folder first.store.opened chunked = subst (λ (f : List ℕ). SeparateIn after.store.files f first.store.opened chunked) (sym folder_after) apart in
        separate_by_folder before.store after.store (done.steps.cleaned.tells ∙ told) done.steps.sound done.steps.flushed done.steps.keeps settled.records settled.nothing_pending chunked (all_named told)
        (subst (λ (n : ℕ). SeparateIn after.store.files after.store.folder n chunked) (sym opened_after) by_folder)

    each_after : (cs : List (List (List ℕ))) → first.store.tells ≡ true → AllByRecursion (HasFile before.store) cs → AllByRecursion (HasFile after.store) cs
    each_after [] told all = tt
    each_after (c ∷ cs) told all = (has_file_stays before.store after.store (done.steps.cleaned.tells ∙ told) done.steps.sound done.steps.keeps settled.records c all.0, each_after cs told all.1)

    -- the report
    report_of : (infos : List XetFileInfo) (ranges : List FileRange) (text read_lines : List ℕ) → infos ≡ map (info_of first.store.limits) files → list_all (λ r. is_some (range_bytes files r)) ranges ≡ true
        → AreRead after.store infos ranges read_lines → text ≡ flat_map info_line infos ++ read_lines → (lines : List Line) → parted lines ≡ record { files = files; ranges = ranges }
        → IsReport (AreSeparate first.store.tells after.store.files first.store.opened first.store.limits (files_of lines)) first.store.limits lines text
    unfolding file_report range_report
    report_of infos ranges text read_lines infos_are good read is lines parts =
        let read_of : AreRead after.store (map (info_of first.store.limits) files) ranges read_lines = subst (λ (i : List XetFileInfo). AreRead after.store i ranges read_lines) infos_are read in
        record {
          ranges = read_lines;
          is = is ∙ ap (λ (i : List XetFileInfo). flat_map info_line i ++ read_lines) infos_are ∙ ap (λ (t : List ℕ). t ++ read_lines) (lines_of_infos first.store.limits files)
              ∙ ap (λ (x : Said). flat_map (file_line first.store.limits) x.files ++ read_lines) (sym parts);
          exact = λ given.
              let apart : SeparateIn after.store.files store_folder first.store.opened chunked = subst (λ (x : Said). SeparateIn after.store.files store_folder first.store.opened (map (chunking first.store.limits) x.files)) parts given.1 in
              lines_exact after.store first.store.limits files (done.steps.keeps.tells ∙ done.steps.cleaned.tells ∙ given.0) done.steps.fits (each_after chunked given.0 (done.has given.0 (separates given.0 apart))) ranges read_lines good read_of
              ∙ ap (λ (x : Said). flat_map (λ r. bytes_line (unwrap_or (range_bytes x.files r) [])) x.ranges) (sym parts);
          none = λ none. subst (λ (rs : List FileRange). AreRead after.store infos rs read_lines) (ap (λ (x : Said). x.ranges) (sym parts) ∙ none) read;
        }

    -- what is recorded
    record_one : first.store.tells ≡ true → SeparateIn after.store.files store_folder first.store.opened chunked → (bytes : List ℕ) → Among chunked (chunking first.store.limits bytes) → HasFile before.store (chunking first.store.limits bytes) → bytes ≢ []
        → IsRecordedIn first.store.limits after.store.files first.store.opened bytes
    record_one told apart bytes given there some =
        let chunks = chunking first.store.limits bytes in
        let r = recorded_by_folder before.store after.store (done.steps.cleaned.tells ∙ told) done.steps.sound done.steps.flushed done.steps.keeps settled.records settled.nothing_pending chunks
        (apart.lists.not_zero (leaves_of chunks) (inr (chunks, given, chunking_some first.store.limits bytes done.steps.fits some, refl))) there in
        let by_folder : Lists after.store.files store_folder after.store.opened r.0 = subst (λ (f : List ℕ). Lists after.store.files f after.store.opened r.0) folder_after r.1 in
        record {
          record_of_it = r.0;
          lists = subst (λ (n : ℕ). Lists after.store.files store_folder n r.0) opened_after by_folder;
          hash = r.2;
          resolves = subst (λ (f : List ℕ). ResolvesTo after.store.files f r.0 chunks) folder_after r.3;
        }

    record_all : first.store.tells ≡ true → SeparateIn after.store.files store_folder first.store.opened chunked → (fs : List (List ℕ)) → ((c : List (List ℕ)) → Among (map (chunking first.store.limits) fs) c → Among chunked c)
        → AllByRecursion (HasFile before.store) (map (chunking first.store.limits) fs) → AllByRecursion (λ bytes. bytes ≢ [] → IsRecordedIn first.store.limits after.store.files first.store.opened bytes) fs
    record_all told apart [] given all = tt
    record_all told apart (f ∷ fs) given all =
        (record_one told apart f (given (chunking first.store.limits f) (inl refl)) all.0, record_all told apart fs (λ c a. given c (inr a)) all.1)

    pub recorded_of : first.store.tells ≡ true → Records first.store.limits files first.store.opened after.store.files
    recorded_of told = λ apart. record_all told apart files (λ c a. a) (done.has told (separates told apart))

-- where the lines of an input were stored
module _ (first before after : RecordedState) (said : Said) (done : IsDone first before after said.files) where
  pub reports : (infos : List XetFileInfo) (ranges : List FileRange) → infos ≡ map (info_of first.store.limits) said.files → ranges ≡ said.ranges → are_good said ≡ true
      → (r : Result (Vec ℕ Global) Stop) → OnOk r (IsSettled before after) → IfOk r (λ text. (lines : List ℕ) × AreRead after.store infos ranges lines × (text.items ≡ flat_map info_line infos ++ lines))
      → IfOk r (λ text. ForLines said (λ lines. IsReport (AreSeparate first.store.tells after.store.files first.store.opened first.store.limits (files_of lines)) first.store.limits lines text.items))
  reports infos ranges told same good (Ok t) settled (text, read, is) = λ lines parts.
      report_of first before after said.files done settled infos said.ranges t.items text told good (subst (λ (rs : List FileRange). AreRead after.store infos rs text) same read) is lines parts
  reports infos ranges told same good (Err stop) settled text = tt
