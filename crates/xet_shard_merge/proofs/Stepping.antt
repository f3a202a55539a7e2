-- Shards that are merged one after the other: how the groups and their results grow.
use Rattle.std.proofs.Common.{◌≡◌, ◌∙◌, ℕ, OnOk, Result, Ok, Err, zero, suc, Bool, true, false, List, [], ◌∷◌, ◌++◌, get_or, None, Option, Some, is_some, inl, inr, refl, sym, ap, subst, append_assoc, append-nil, arith}
use Rattle.std.proofs.lemmas.Grind.{flat_map-append}
use Rattle.std.proofs.lemmas.List.{get_or_append_left, length-append}
use Rattle.std.proofs.lemmas.List.Elements.{All-append, All-cons, All-nil}
use Rattle.std.proofs.lemmas.List.Quantifiers.{Any-push}
use Rattle.std.specs.List.{All, Any, flat_map}
use Rattle.std.specs.Prelude.{IsOk}
use Rattle.xet_codec.specs.Parsing.{◌>>=◌}
use Rattle.xet_hash.specs.Merkle.{chunk_hash}
use Rattle.xet_hash.specs.declared.error.StoreError.{StoreError}
use Rattle.xet_io.specs.Disk.{File, Files, bytes_at, file_at}
use Rattle.xet_shard.specs.Sections.{info_at}
use Rattle.xet_shard.specs.Union.{ShardRecords}
use Rattle.xet_shard_directory.specs.Answers.{in_file}
use Rattle.xet_shard_directory.specs.Values.{loaded, shard_value}
use Rattle.xet_shard_directory.specs.declared.shard_file.MDBShardFile.{MDBShardFile}
use Rattle.xet_shard_file.specs.theorems.Paths.{shard_no_temp}
use Rattle.xet_shard_merge.specs.Groups.{Begins, Ends, Group, Groups, IsSkipped, Joins, Offered, alone, if_open, joined}
use Rattle.xet_shard_merge.specs.Merging.{AddsResults, AreResults, IsCopy, IsNoTemp, IsResult, Stands}
use Rattle.xet_shard_merge.specs.declared.progress.Progress.{Progress}
use Rattle.xet_shard_merge.specs.internal.Keeping.{IsIntact, Preserves}
use Rattle.xet_shard_merge.specs.internal.Progressing.{Closes, ClosesGroup, ClosesIf, Ended, IsIntactIfOpen, IsJoined, NowOpen, NowOpenIs, NowSkipped, Went}
use Rattle.xet_shard_merge.proofs.Placing.{writes_more}
use Rattle.xet_shard_merge.proofs.Preserved.{same_bytes, still_there}
use Rattle.xet_shard_merge.proofs.Within.{passed_close, passed_enter, passed_skip, passed_start}
use Rattle.xet_shard_merge.proofs.Unique.{enter_only, follow_only, skip_only, start_only}

-- ---- files that are kept

pub preserves_then : (a b c : Files) → Preserves a b → Preserves b c → Preserves a c
preserves_then a b c first then = record {
  files = λ name f plain there. then.files name f plain (first.files name f plain there);
  durable = λ name plain was. then.durable name plain (first.durable name plain was);
}

pub preserves_itself : (a : Files) → Preserves a a
preserves_itself a = record { files = λ name f plain there. there; durable = λ name plain was. was }

pub intact_later : (a b : Files) (s : MDBShardFile) → Preserves a b → IsIntact a s → IsIntact b s
intact_later a b s keeps is = record { bytes = is.bytes; there = same_bytes a b keeps.files s.path is.bytes is.name is.there; value = is.value; name = is.name }

pub adds_nothing : (a : Files) (rs : List MDBShardFile) → AddsResults a a rs
adds_nothing a rs name plain absent there = let bad : ◌≡◌ {A = Bool} true false = sym there ∙ ap is_some absent in absurd (cc bad)

-- ---- results

module _ (now after : Files) (folder : List ℕ) (keeps : Preserves now after) where
  value_in : (s : MDBShardFile) → file_at after s.path ≡ file_at now s.path → loaded now s.shard_hash s.path ≡ Ok s → loaded after s.shard_hash s.path ≡ Ok s
  value_in s same value = ap (λ (found : Option File). in_file found (λ f. info_at f.bytes >>= λ shard. Ok (shard_value s.shard_hash s.path shard f.modified))) same ∙ value

  stands_kept : (bytes : List ℕ) (s : MDBShardFile) → Stands now folder bytes s → Stands after folder bytes s
  stands_kept bytes s st =
      let plain : IsNoTemp s.path = λ p e. shard_no_temp folder (chunk_hash bytes) p (sym st.path ∙ e) in
      record {
        hash = st.hash;
        path = st.path;
        there = same_bytes now after keeps.files s.path bytes plain st.there;
        durable = keeps.durable s.path plain st.durable;
        value = value_in s (still_there now after keeps.files s.path bytes plain st.there) st.value;
      }

  copy_kept : (start : Files) (s r : MDBShardFile) → IsCopy start now folder s r → IsCopy start after folder s r
  copy_kept start s r (inl here) = inl here
  copy_kept start s r (inr (other, bytes, there, st)) = inr (other, bytes, there, stands_kept bytes r st)

  result_kept : (start : Files) (g : Group) (r : MDBShardFile) → IsResult start now folder g r → IsResult start after folder g r
  result_kept start g r = by g.taken
    where
      by : (taken : List MDBShardFile) → IsResult start now folder (record g { taken = taken }) r → IsResult start after folder (record g { taken = taken }) r
      by [] h = h
      by (s ∷ []) h = copy_kept start s r h
      by (s ∷ t ∷ more) h = record { bytes = h.bytes; form = h.form; stands = stands_kept h.bytes r h.stands }

  pub results_kept : (start : Files) (gs : List Group) (rs : List MDBShardFile) → AreResults start now folder gs rs → AreResults start after folder gs rs
  unfolding AreResults
  results_kept start [] [] h = tt
  results_kept start (g ∷ gs) (r ∷ rs) h = (result_kept start g r h.0, results_kept start gs rs h.1)
  results_kept start [] (r ∷ rs) h = h
  results_kept start (g ∷ gs) [] h = h

pub results_push : (start now : Files) (folder : List ℕ) (gs : List Group) (rs : List MDBShardFile) (g : Group) (r : MDBShardFile) → AreResults start now folder gs rs
    → IsResult start now folder g r → AreResults start now folder (gs ++ g ∷ []) (rs ++ r ∷ [])
unfolding AreResults
results_push start now folder [] [] g r h is = (is, tt)
results_push start now folder (x ∷ xs) (y ∷ ys) g r h is = (h.0, results_push start now folder xs ys g r h.1 is)
results_push start now folder [] (y ∷ ys) g r h is = absurd h
results_push start now folder (x ∷ xs) [] g r h is = absurd h

-- what is copied has the bytes that it had at the start
module _ (start now after : Files) (folder : List ℕ) (keeps : Preserves start now) where
  copy_of_start : (s r : MDBShardFile) → IsIntact start s → IsCopy now after folder s r → IsCopy start after folder s r
  copy_of_start s r is (inl here) = inl here
  copy_of_start s r is (inr (other, bytes, there, st)) =
      let later : bytes_at now s.path ≡ Some is.bytes = same_bytes start now keeps.files s.path is.bytes is.name is.there in
      let same : is.bytes ≡ bytes = cc in
      inr (other, bytes, is.there ∙ ap (λ (b : List ℕ). Some b) same, st)

  pub result_of_start : (g : Group) (r : MDBShardFile) → All (IsIntact start) g.taken → IsResult now after folder g r → IsResult start after folder g r
  result_of_start g r = by g.taken
    where
      by : (taken : List MDBShardFile) → All (IsIntact start) taken → IsResult now after folder (record g { taken = taken }) r → IsResult start after folder (record g { taken = taken }) r
      by [] all h = h
      by (s ∷ []) all h = copy_of_start s r (all 0 s (omega arith)) h
      by (s ∷ t ∷ more) all h = h

  any_left : (P : MDBShardFile → Type 0) (rs : List MDBShardFile) (r : MDBShardFile) → Any P rs → Any P (rs ++ r ∷ [])
  any_left P rs r (k, x, lt, at, here) = (k, x, omega (arith, lt, length-append rs (r ∷ [])), get_or_append_left rs (r ∷ []) x k lt ∙ at, here)

  any_one : (P : MDBShardFile → Type 0) (r : MDBShardFile) → Any P (r ∷ []) → P r
  any_one P r (zero, x, lt, at, here) = subst P (sym at) here
  any_one P r (suc k, x, lt, at, here) = absurd (omega arith)

  pub adds_more : (rs : List MDBShardFile) (r : MDBShardFile) → AddsResults start now rs → AddsResults now after (r ∷ []) → AddsResults start after (rs ++ r ∷ [])
  adds_more rs r first then name plain absent there = by (file_at now name) refl
    where
      P : MDBShardFile → Type 0
      P x = x.path ≡ name

      by : (found : Option File) → file_at now name ≡ found → Any P (rs ++ r ∷ [])
      by None is = Any-push P rs r (any_one P r (then name plain is there))
      by (Some f) is = any_left P rs r (first name plain absent (ap is_some is))

-- ---- the rules

module _ (limit : ℕ) (cur : Option Group) (o : Offered) (os : List Offered) (gs : List Group) (ss : List MDBShardFile) where
  pub skip_step : IsSkipped limit cur o → Groups limit cur os gs ss → Groups limit cur (o ∷ os) gs (o.file ∷ ss)
  unfolding Groups
  skip_step is rest = inl (is, (ss, refl, rest))

  pub start_step : (records : ShardRecords) → Begins cur o records → Groups limit (Some (alone o.file o.length records)) os gs ss → Groups limit cur (o ∷ os) gs ss
  unfolding Groups
  start_step records is rest = inr (inl (records, is, rest))

  pub follow_step : (g : Group) (records : ShardRecords) → Ends limit cur o g records → Groups limit (Some (alone o.file o.length records)) os gs ss → Groups limit cur (o ∷ os) (g ∷ gs) ss
  unfolding Groups
  follow_step g records is rest = inr (inr (inl (g, records, gs, is, refl, rest)))

  pub enter_step : (g : Group) (records : ShardRecords) → Joins limit cur o g records → Groups limit (Some (joined g o.file records)) os gs ss → Groups limit cur (o ∷ os) gs ss
  unfolding Groups
  enter_step g records is rest = inr (inr (inr (g, records, is, rest)))

pub end_step : (limit : ℕ) (cur : Option Group) → Groups limit cur [] (if_open cur) []
unfolding Groups
end_step limit cur = (refl, refl)

-- ---- the steps

module _ (start now : Files) (folder : List ℕ) (limit : ℕ) (skip : Bool) (all : List Offered) (o : Offered) (rest : List Offered) (ok : skip ≡ false → IsOk o.records) where
  pub went_skip : (p q : Progress) → IsSkipped limit p.open o → NowSkipped p o.file q → Went start now folder limit skip all (o ∷ rest) p → Went start now folder limit skip all rest q
  went_skip p q is done w = record {
    closed = w.closed;
    on = λ gs ss h.
        subst (λ (l : List MDBShardFile). Groups limit None all (w.closed ++ gs) l) (sym (append_assoc p.skipped.items (o.file ∷ []) ss) ∙ ap (λ (l : List MDBShardFile). l ++ ss) (sym done.skipped))
        (w.on gs (o.file ∷ ss) (skip_step limit p.open o rest gs ss is (subst (λ (c : Option Group). Groups limit c rest gs ss) done.open_is h)));
    first = λ gs ss h.
        let f = w.first gs ss h in
        let left = skip_only limit p.open o rest f.more f.skipped is f.grouped in
        record { more = f.more; skipped = left.0; first = f.first; grouped = subst (λ (c : Option Group). Groups limit c rest f.more left.0) (sym done.open_is) left.1 };
    results = subst (AreResults start now folder w.closed) (sym done.merged) w.results;
    taken = done.taken ∙ w.taken;
    adds = subst (AddsResults start now) (sym done.merged) w.adds;
    writes = w.writes;
    keeps = w.keeps;
    intact = subst (IsIntactIfOpen start) (sym done.open_is) w.intact;
    passed = passed_skip skip all o rest ok w.closed p.open w.passed q.open done.open_is;
    reads = λ e more. w.reads e (ok e, more);
  }

  module _ (records : ShardRecords) (whole : IsIntact start o.file) where
    pub went_enter : (p q : Progress) (g : Group) → Joins limit p.open o g records → IsJoined p o.file records q → Went start now folder limit skip all (o ∷ rest) p → Went start now folder limit skip all rest q
    went_enter p q g is done w =
        let h = done.group in
        let was : p.open ≡ Some h = done.was in
        let opened : p.open ≡ Some g = is.is_open in
        let same : g ≡ h = cc in
        let joins : Joins limit p.open o h records = subst (λ (x : Group). Joins limit p.open o x records) same is in
        let intact : All (IsIntact start) h.taken = subst (IsIntactIfOpen start) was w.intact in
        record {
          closed = w.closed;
          on = λ gs ss k.
              subst (λ (l : List MDBShardFile). Groups limit None all (w.closed ++ gs) (l ++ ss)) (sym done.now.skipped)
              (w.on gs ss (enter_step limit p.open o rest gs ss h records joins (subst (λ (c : Option Group). Groups limit c rest gs ss) done.now.open_is k)));
          first = λ gs ss k.
              let f = w.first gs ss k in
              record {
                more = f.more;
                skipped = f.skipped;
                first = f.first;
                grouped = subst (λ (c : Option Group). Groups limit c rest f.more f.skipped) (sym done.now.open_is) (enter_only limit p.open o rest f.more f.skipped h records joins f.grouped);
              };
          results = subst (AreResults start now folder w.closed) (sym done.now.merged) w.results;
          taken = done.now.taken ∙ w.taken;
          adds = subst (AddsResults start now) (sym done.now.merged) w.adds;
          writes = w.writes;
          keeps = w.keeps;
          intact = subst (IsIntactIfOpen start) (sym done.now.open_is) (All-append (IsIntact start) h.taken (o.file ∷ []) intact (All-cons (IsIntact start) o.file [] whole (All-nil (IsIntact start))));
          passed = passed_enter skip all o rest ok w.closed p.open w.passed h records q.open was done.now.open_is;
          reads = λ e more. w.reads e (ok e, more);
        }

    pub went_start : (p q r : Progress) (after : Files) → Begins p.open o records → Closes now after folder p q → NowOpen q (alone o.file o.length records) r
        → Went start now folder limit skip all (o ∷ rest) p → Went start after folder limit skip all rest r
    went_start p q r after is closes done w =
        let none : (after ≡ now) × NowOpenIs p None q = subst (λ (c : Option Group). ClosesIf now after folder p c q) is.is_open closes in
        let skipped : r.skipped.items ≡ p.skipped.items = done.skipped ∙ none.1.skipped in
        let merged : r.merged.items ≡ p.merged.items = done.merged ∙ none.1.merged in
        subst (λ (fs : Files). Went start fs folder limit skip all rest r) (sym none.0) (record {
          closed = w.closed;
          on = λ gs ss k.
              subst (λ (l : List MDBShardFile). Groups limit None all (w.closed ++ gs) (l ++ ss)) (sym skipped)
              (w.on gs ss (start_step limit p.open o rest gs ss records is (subst (λ (c : Option Group). Groups limit c rest gs ss) done.open_is k)));
          first = λ gs ss k.
              let f = w.first gs ss k in
              record {
                more = f.more;
                skipped = f.skipped;
                first = f.first;
                grouped = subst (λ (c : Option Group). Groups limit c rest f.more f.skipped) (sym done.open_is) (start_only limit p.open o rest f.more f.skipped records is f.grouped);
              };
          results = subst (AreResults start now folder w.closed) (sym merged) w.results;
          taken = done.taken ∙ none.1.taken ∙ w.taken;
          adds = subst (AddsResults start now) (sym merged) w.adds;
          writes = w.writes;
          keeps = w.keeps;
          intact = subst (IsIntactIfOpen start) (sym done.open_is) (All-cons (IsIntact start) o.file [] whole (All-nil (IsIntact start)));
          passed = passed_start skip all o rest ok w.closed p.open w.passed o.length records r.open done.open_is;
          reads = λ e more. w.reads e (ok e, more);
        })

-- a group was closed
module _ (start now after : Files) (folder : List ℕ) (limit : ℕ) (skip : Bool) (all rest : List Offered) (p q : Progress) (g : Group) (opened : p.open ≡ Some g)
    (done : ClosesGroup now after folder p g q) (keeps : Preserves now after) (w : Went start now folder limit skip all rest p) where
  closed_results : AreResults start after folder (w.closed ++ g ∷ []) q.merged.items
  closed_results =
      let intact : All (IsIntact start) g.taken = subst (IsIntactIfOpen start) opened w.intact in
      subst (AreResults start after folder (w.closed ++ g ∷ [])) (sym done.merged)
      (results_push start after folder w.closed p.merged.items g done.result (results_kept now after folder keeps start w.closed p.merged.items w.results)
      (result_of_start start now after folder w.keeps g done.result intact done.is_result))

  closed_taken : q.taken.items ≡ flat_map (λ x. x.taken) (w.closed ++ g ∷ [])
  closed_taken =
      done.taken ∙ ap (λ (l : List MDBShardFile). l ++ g.taken) w.taken ∙ ap (λ (l : List MDBShardFile). flat_map (λ (x : Group). x.taken) w.closed ++ l) (sym (append-nil g.taken))
      ∙ sym (flat_map-append (λ (x : Group). x.taken) w.closed (g ∷ []))

  closed_adds : AddsResults start after q.merged.items
  closed_adds = subst (AddsResults start after) (sym done.merged) (adds_more start now after folder w.keeps p.merged.items done.result w.adds done.adds)

pub went_follow : (start now after : Files) (folder : List ℕ) (limit : ℕ) (skip : Bool) (all : List Offered) (o : Offered) (rest : List Offered) → (skip ≡ false → IsOk o.records)
    → (records : ShardRecords) → IsIntact start o.file → (p q r : Progress) (g : Group) → Ends limit p.open o g records → Closes now after folder p q → Preserves now after
    → NowOpen q (alone o.file o.length records) r → Went start now folder limit skip all (o ∷ rest) p → Went start after folder limit skip all rest r
went_follow start now after folder limit skip all o rest ok records whole p q r g is closes keeps opens w =
    let done : ClosesGroup now after folder p g q = subst (λ (c : Option Group). ClosesIf now after folder p c q) is.is_open closes in
    record {
      closed = w.closed ++ g ∷ [];
      on = λ gs ss k.
          subst (λ (l : List MDBShardFile). Groups limit None all ((w.closed ++ g ∷ []) ++ gs) (l ++ ss)) (sym (opens.skipped ∙ done.skipped))
          (subst (λ (l : List Group). Groups limit None all l (p.skipped.items ++ ss)) (sym (append_assoc w.closed (g ∷ []) gs))
          (w.on (g ∷ gs) ss (follow_step limit p.open o rest gs ss g records is (subst (λ (c : Option Group). Groups limit c rest gs ss) opens.open_is k))));
      first = λ gs ss k.
          let f = w.first gs ss k in
          let left = follow_only limit p.open o rest f.more f.skipped g records is f.grouped in
          record {
            more = left.0;
            skipped = f.skipped;
            first = f.first ∙ ap (λ (l : List Group). w.closed ++ l) left.1 ∙ sym (append_assoc w.closed (g ∷ []) left.0);
            grouped = subst (λ (c : Option Group). Groups limit c rest left.0 f.skipped) (sym opens.open_is) left.2;
          };
      results = subst (AreResults start after folder (w.closed ++ g ∷ [])) (sym opens.merged) (closed_results start now after folder limit skip all (o ∷ rest) p q g is.is_open done keeps w);
      taken = opens.taken ∙ closed_taken start now after folder limit skip all (o ∷ rest) p q g is.is_open done keeps w;
      adds = subst (AddsResults start after) (sym opens.merged) (closed_adds start now after folder limit skip all (o ∷ rest) p q g is.is_open done keeps w);
      writes = writes_more start now after folder w.keeps w.closed g (subst (IsIntactIfOpen start) is.is_open w.intact) w.writes done.writes;
      keeps = preserves_then start now after w.keeps keeps;
      intact = subst (IsIntactIfOpen start) (sym opens.open_is) (All-cons (IsIntact start) o.file [] whole (All-nil (IsIntact start)));
      passed = passed_start skip all o rest ok (w.closed ++ g ∷ []) None (passed_close skip all (o ∷ rest) w.closed p.open w.passed g is.is_open) o.length records r.open opens.open_is;
      reads = λ e more. w.reads e (ok e, more);
    }

-- all shards went
pub went_all : (start now after : Files) (folder : List ℕ) (limit : ℕ) (skip : Bool) (all : List Offered) (p q : Progress) → Closes now after folder p q → Preserves now after
    → Went start now folder limit skip all [] p → Ended start after folder limit skip all q
went_all start now after folder limit skip all p q closes keeps w = by p.open refl closes
  where
    grouped : Groups limit None all (w.closed ++ if_open p.open) (p.skipped.items ++ [])
    grouped = w.on (if_open p.open) [] (end_step limit p.open)

    by : (c : Option Group) → p.open ≡ c → ClosesIf now after folder p c q → Ended start after folder limit skip all q
    by None is done =
        subst (λ (fs : Files). Ended start fs folder limit skip all q) (sym done.0) (record {
          groups = w.closed;
          grouped =
              subst (λ (l : List MDBShardFile). Groups limit None all w.closed l) (append-nil p.skipped.items ∙ sym done.1.skipped)
              (subst (λ (l : List Group). Groups limit None all l (p.skipped.items ++ [])) (ap (λ (x : Option Group). w.closed ++ if_open x) is ∙ append-nil w.closed) grouped);
          results = subst (AreResults start now folder w.closed) (sym done.1.merged) w.results;
          taken = done.1.taken ∙ w.taken;
          adds = subst (AddsResults start now) (sym done.1.merged) w.adds;
          reads = λ e. w.reads e tt;
        })
    by (Some g) is done = record {
      groups = w.closed ++ g ∷ [];
      grouped =
          subst (λ (l : List MDBShardFile). Groups limit None all (w.closed ++ g ∷ []) l) (append-nil p.skipped.items ∙ sym done.skipped)
          (subst (λ (x : Option Group). Groups limit None all (w.closed ++ if_open x) (p.skipped.items ++ [])) is grouped);
      results = closed_results start now after folder limit skip all [] p q g is done keeps w;
      taken = closed_taken start now after folder limit skip all [] p q g is done keeps w;
      adds = closed_adds start now after folder limit skip all [] p q g is done keeps w;
      reads = λ e. w.reads e tt;
    }

-- ---- what calls returned

pub open_later : (a b : Files) → Preserves a b → (c : Option Group) → IsIntactIfOpen a c → IsIntactIfOpen b c
open_later a b keeps None h = tt
open_later a b keeps (Some g) h = λ i s lt. intact_later a b (get_or g.taken i s) keeps (h i s lt)

pub begun : (now after : Files) (folder : List ℕ) (p q : Progress) (g : Group) (result : Result (Unit {0}) StoreError) (r : Progress) → Closes now after folder p q → OnOk result (NowOpen q g r)
    → OnOk result ((x : Progress) × Closes now after folder p x × NowOpen x g r)
begun now after folder p q g (Ok _) r closes opens = (q, closes, opens)
begun now after folder p q g (Err e) r closes opens = tt

module _ (start now : Files) (folder : List ℕ) (limit : ℕ) (skip : Bool) (all : List Offered) (o : Offered) (rest : List Offered) (ok : skip ≡ false → IsOk o.records) where
  pub skipped : (p q : Progress) (result : Result (Unit {0}) StoreError) → IsSkipped limit p.open o → OnOk result (NowSkipped p o.file q)
      → Went start now folder limit skip all (o ∷ rest) p → OnOk result (Went start now folder limit skip all rest q)
  skipped p q (Ok _) is done w = went_skip start now folder limit skip all o rest ok p q is done w
  skipped p q (Err e) is done w = tt

  module _ (records : ShardRecords) (whole : IsIntact start o.file) where
    pub entered : (p q : Progress) (result : Result (Unit {0}) StoreError) → (g : Group) × Joins limit p.open o g records → OnOk result (IsJoined p o.file records q)
        → Went start now folder limit skip all (o ∷ rest) p → OnOk result (Went start now folder limit skip all rest q)
    entered p q (Ok _) is done w = went_enter start now folder limit skip all o rest ok records whole p q is.0 is.1 done w
    entered p q (Err e) is done w = tt

    pub started : (p r : Progress) (after : Files) (result : Result (Unit {0}) StoreError) → Begins p.open o records
        → OnOk result ((x : Progress) × Closes now after folder p x × NowOpen x (alone o.file o.length records) r)
        → Went start now folder limit skip all (o ∷ rest) p → OnOk result (Went start after folder limit skip all rest r)
    started p r after (Ok _) is done w = went_start start now folder limit skip all o rest ok records whole p done.0 r after is done.1 done.2 w
    started p r after (Err e) is done w = tt

    pub followed : (p r : Progress) (after : Files) (result : Result (Unit {0}) StoreError) → (g : Group) × Ends limit p.open o g records
        → OnOk result ((x : Progress) × Closes now after folder p x × NowOpen x (alone o.file o.length records) r) → Preserves now after
        → Went start now folder limit skip all (o ∷ rest) p → OnOk result (Went start after folder limit skip all rest r)
    followed p r after (Ok _) is done keeps w = went_follow start now after folder limit skip all o rest ok records whole p done.0 r is.0 is.1 done.1 keeps done.2 w
    followed p r after (Err e) is done keeps w = tt
