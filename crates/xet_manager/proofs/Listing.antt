-- The records of shard files, one file after the other.
use Rattle.std.proofs.Common.{◌≡◌, ◌∙◌, ℕ, ◌+◌, ◌<◌, ◌≤◌, List, [], ◌∷◌, ◌++◌, get_or, length, take, Result, Ok, sym, ap, subst, Err, drop}
use Rattle.std.proofs.lemmas.List.{append-nil, drop_more, flat_map_more, take-append-drop, take_all, take_more}
use Rattle.std.specs.List.{flat_map}
use Rattle.xet_hash.specs.declared.error.StoreError.{StoreError}
use Rattle.xet_io.specs.Disk.{Files, file_at}
use Rattle.xet_manager.specs.Manager.{FailsAt, ReadsEach}
use Rattle.xet_shard.specs.Sections.{files_in}
use Rattle.xet_shard_directory.specs.Answers.{GivesUnlessDisk, in_file}
use Rattle.xet_shard_directory.specs.declared.shard_file.MDBShardFile.{MDBShardFile}
use Rattle.xet_shard_format.specs.declared.record.MDBFileInfo.{MDBFileInfo}

abbrev pub files_of : Files → MDBShardFile → Result (List MDBFileInfo) StoreError
files_of files s = in_file (file_at files s.path) (λ f. files_in s.shard.metadata f.bytes)

module _ (files : Files) where
  each_more : (ss : List MDBShardFile) (ls : List (List MDBFileInfo)) (s : MDBShardFile) (l : List MDBFileInfo) → ReadsEach files ss ls → files_of files s ≡ Ok l → ReadsEach files (ss ++ s ∷ []) (ls ++ l ∷ [])
  unfolding ReadsEach
  each_more [] [] s l each read = (read, tt)
  each_more [] (m ∷ ls) s l each read = absurd each
  each_more (q ∷ ss) [] s l each read = absurd each
  each_more (q ∷ ss) (m ∷ ls) s l each read = (each.0, each_more ss ls s l each.1 read)

  -- the records of the first shard files stand after those of `start`
  pub record AreAdded (ss : List MDBShardFile) (start all : List MDBFileInfo) : Type 0 where
    pub lists : List (List MDBFileInfo)
    pub reads : ReadsEach files ss lists
    pub items : all ≡ start ++ flat_map (λ l. l) lists

  pub added_none : (start : List MDBFileInfo) → AreAdded [] start start
  unfolding ReadsEach
  added_none start = record { lists = []; reads = tt; items = sym (append-nil start) }

  module _ (ss : List MDBShardFile) (start items : List MDBFileInfo) (i : ℕ) where
    pub added_more : (s : MDBShardFile) → i < length ss → s ≡ get_or ss i s → AreAdded (take i ss) start items → (found new : List MDBFileInfo) → files_of files s ≡ Ok found → new ≡ items ++ found → AreAdded (take (i + 1) ss) start new
    added_more s below is so_far found new read adds = record {
      lists = so_far.lists ++ found ∷ [];
      reads = subst (λ (qs : List MDBShardFile). ReadsEach files qs (so_far.lists ++ found ∷ [])) (ap (λ (q : MDBShardFile). take i ss ++ q ∷ []) is ∙ sym (take_more ss i s below)) (each_more (take i ss) so_far.lists s found so_far.reads read);
      items = adds ∙ ap (λ (l : List MDBFileInfo). l ++ found) so_far.items ∙ flat_map_more (λ (l : List MDBFileInfo). l) start so_far.lists found;
    }

    pub fails_at : (s : MDBShardFile) (e : StoreError) → i < length ss → s ≡ get_or ss i s → AreAdded (take i ss) start items → GivesUnlessDisk (λ (l : List MDBFileInfo). l) (Err e) (files_of files s) → FailsAt files ss e
    fails_at s e below is so_far failed = record {
      before = take i ss;
      at = s;
      after = drop (i + 1) ss;
      parts = sym (take-append-drop i ss) ∙ ap (λ (l : List MDBShardFile). take i ss ++ l) (drop_more ss i s below ∙ ap (λ (q : MDBShardFile). q ∷ drop (i + 1) ss) (sym is));
      lists = so_far.lists;
      reads = so_far.reads;
      failed = failed;
    }

    pub added_end : length ss ≤ i → AreAdded (take i ss) start items → AreAdded ss start items
    added_end end so_far = subst (λ (qs : List MDBShardFile). AreAdded qs start items) (take_all i ss end) so_far
