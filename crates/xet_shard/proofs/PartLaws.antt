-- The parts of a shard by their own pieces of its bytes.
use Rattle.std.proofs.Common.{◌≡◌, ◌≢◌, if◌then◌else◌, ℕ, ◌+◌, ◌-◌, ◌*◌, ◌/◌, ◌^◌, Bool, true, false, List, length, take, drop, nat_le, nat_lt, None, Result, Ok, Err, refl, sym, ap, subst, ◌∙◌}
use Rattle.xet_hash.specs.declared.error.Reason.{Reason}
use Rattle.xet_hash.specs.declared.error.Reason.TheVariants.{SectionPlace}
use Rattle.xet_hash.specs.declared.error.StoreError.{StoreError}
use Rattle.xet_hash.specs.declared.error.StoreError.TheVariants.{MalformedData}
use Rattle.xet_shard_format.specs.declared.header_footer.MDBShardFileFooter.{MDBShardFileFooter}
use Rattle.xet_shard_format.specs.declared.row.Row.{Row}
use Rattle.xet_shard.specs.Bisection.{in_table}
use Rattle.xet_shard.specs.Queries.{file_items_from}
use Rattle.xet_codec.specs.Parsing.{◌>>=◌, Gives, GivesUnlessFault, reaches, wants}
use Rattle.xet_shard_format.specs.Reading.{section_at}
use Rattle.xet_shard.specs.internal.ReaderBytes.{piece_at, rows_at}
use Rattle.xet_shard_format.specs.Rows.{rows_in}
use Rattle.xet_shard.specs.Sections.{block_heads_in, blocks_in, chunk_lookup_in, files_in, heads_in, heads_of, places_in, row_count, section_in, xorb_lookup_in}
use Rattle.std.specs.Prelude.{◌==◌}
use Rattle.std.proofs.lemmas.Bool.{eq-eqb, ne_eqb}
use Rattle.xet_shard_format.specs.Lookups.{chunk_items, file_items, xorb_items}
use Rattle.xet_shard.proofs.ItemLists.{heads_first, places_first}
use Rattle.xet_shard.proofs.Faulting.{fault_on, gives_on}
use Rattle.xet_shard_format.specs.theorems.Refusing.{IsAnswer, gives_whole}
use Rattle.xet_shard_format.specs.theorems.RowLaws.{ok_is}
use Rattle.xet_shard_format.specs.theorems.RowList.{rows_first}

-- two tests, and what follows them
regroup : {P Y : Type 0} (a b : Bool) (reason : Reason) (p : P) (f : P → Result Y StoreError) (x : Result Y StoreError) → f p ≡ x
    → ((wants a reason >>= λ _. reaches b >>= λ _. Ok p) >>= f) ≡ (wants a reason >>= λ _. reaches b >>= λ _. x)
regroup false b reason p f x e = refl
regroup true false reason p f x e = refl
regroup true true reason p f x e = e

-- whole rows are counted
pub count_whole : (from to : ℕ) → to ≡ from + 48 * ((to - from) / 48) → row_count from to ≡ Ok ((to - from) / 48)
unfolding row_count
count_whole from to e = rw (eq-eqb _ _ e) refl

pub counted : {B Y : Type 0} (view : B → Y) (from to n : ℕ) (result : Result B StoreError) (f : ℕ → Result Y StoreError) → Ok n ≡ row_count from to → GivesUnlessFault view result (f n) → GivesUnlessFault view result (row_count from to >>= f)
counted view from to n result f is gives = subst (λ (r : Result ℕ StoreError). GivesUnlessFault view result (r >>= f)) is gives

pub count_fails : {B Y : Type 0} (view : B → Y) (from to : ℕ) (e : StoreError) (f : ℕ → Result Y StoreError) → e ≡ MalformedData SectionPlace → Err e ≡ row_count from to → GivesUnlessFault view (Err e) (row_count from to >>= f)
count_fails {B} {Y} view from to e f is refused =
    let fails : (row_count from to >>= f) ≡ Err (MalformedData SectionPlace) = ap (λ (r : Result ℕ StoreError). r >>= f) (sym refused) ∙ ap Err is in
    subst (λ (d : StoreError). GivesUnlessFault {X = B} view (Err d) (row_count from to >>= f)) (sym is) fails

module _ {X : Type 0} (record_at : Row → List Row → Result (X × List Row) StoreError) (hash : X → List ℕ) (at count : ℕ) (whole : List ℕ) where
  -- how a section is read of its rows' bytes
  abbrev of_rows : List ℕ → Result (List X) StoreError
  of_rows bytes = section_at record_at hash count None (rows_in count bytes)

  section_is : (rows_at at count whole >>= of_rows) ≡ section_in record_at hash at count whole
  unfolding section_in rows_at piece_at
  section_is = regroup (nat_lt count (2 ^ 32)) (nat_le (at + 48 * count) (length whole)) SectionPlace (take (48 * count) (drop at whole)) of_rows (of_rows (drop at whole)) (ap (section_at record_at hash count None) (rows_first count (drop at whole)))

  pub section_gives : {A B : Type 0} (first : A → List ℕ) (view : B → List X) (a : A) (result : Result B StoreError) → IsAnswer (of_rows (first a)) → rows_at at count whole ≡ Ok (first a) → Gives view result (of_rows (first a))
      → GivesUnlessFault view result (section_in record_at hash at count whole)
  section_gives {A} {B} first view a result answers e gives =
      subst (λ (r : Result (List X) StoreError). GivesUnlessFault view result r) section_is
      (gives_on first view a (rows_at at count whole) of_rows result e (gives_whole view result (of_rows (first a)) (of_rows (first a)) answers refl gives))

  pub section_fault : {A B : Type 0} (first : A → List ℕ) (view : B → List X) (e : StoreError) → GivesUnlessFault first (Err e) (rows_at at count whole) → GivesUnlessFault view (Err e) (section_in record_at hash at count whole)
  section_fault {A} {B} first view e gives =
      subst (λ (r : Result (List X) StoreError). GivesUnlessFault {X = B} view (Err e) r) section_is (fault_on first view e (rows_at at count whole) of_rows gives)

-- ---- look-ups

-- a test, and what follows it
next : {P Y : Type 0} (b : Bool) (p : P) (f : P → Result Y StoreError) (x : Result Y StoreError) → f p ≡ x → ((reaches b >>= λ _. Ok p) >>= f) ≡ (reaches b >>= λ _. x)
next false p f x e = refl
next true p f x e = e

pub chosen_first : {Y : Type 0} (n : ℕ) (x y : Y) → n ≡ 0 → x ≡ (if n == 0 then x else y)
chosen_first n x y e = rw (eq-eqb n 0 e) refl

pub chosen_second : {Y : Type 0} (n : ℕ) (x y : Y) → n ≢ 0 → y ≡ (if n == 0 then x else y)
chosen_second n x y ne = rw (ne_eqb n 0 ne) refl

pub heads_kept : (at n : ℕ) (whole : List ℕ) → (piece_at at (12 * n) whole >>= λ p. Ok (heads_in n p)) ≡ in_table at (12 * n) whole (heads_in n (drop at whole))
unfolding piece_at
heads_kept at n whole = next (nat_le (at + 12 * n) (length whole)) (take (12 * n) (drop at whole)) (λ p. Ok (heads_in n p)) _ (ap Ok (heads_first n (drop at whole)))

pub reached_is : {Y : Type 0} (b : Bool) (x y : Y) → (reaches b >>= λ _. Ok x) ≡ Ok y → x ≡ y
reached_is true x y e = ok_is x y e
reached_is false x y e = absurd (cc e)

-- the items of a table that was stored, by its own piece of the bytes
stored : {I : Type 0} (n at len : ℕ) (whole : List ℕ) (items : List ℕ → I) (made : Result I StoreError) → n ≢ 0 → items (take len (drop at whole)) ≡ items (drop at whole)
    → (piece_at at len whole >>= λ p. Ok (items p)) ≡ (if n == 0 then made else in_table at len whole (items (drop at whole)))
unfolding piece_at
stored n at len whole items made ne first = next (nat_le (at + len) (length whole)) (take len (drop at whole)) (λ p. Ok (items p)) _ (ap Ok first) ∙ chosen_second n _ _ ne

pub xorbs_kept : (f : MDBShardFileFooter) (whole : List ℕ) → f.xorb_lookup_num_entry ≢ 0
    → (piece_at f.xorb_lookup_offset (12 * f.xorb_lookup_num_entry) whole >>= λ p. Ok (heads_in f.xorb_lookup_num_entry p)) ≡ xorb_lookup_in f whole
unfolding xorb_lookup_in
xorbs_kept f whole ne = stored f.xorb_lookup_num_entry f.xorb_lookup_offset (12 * f.xorb_lookup_num_entry) whole (heads_in f.xorb_lookup_num_entry) _ ne (heads_first f.xorb_lookup_num_entry (drop f.xorb_lookup_offset whole))

pub chunks_kept : (f : MDBShardFileFooter) (whole : List ℕ) → f.chunk_lookup_num_entry ≢ 0
    → (piece_at f.chunk_lookup_offset (16 * f.chunk_lookup_num_entry) whole >>= λ p. Ok (places_in f.chunk_lookup_num_entry p)) ≡ chunk_lookup_in f whole
unfolding chunk_lookup_in
chunks_kept f whole ne = stored f.chunk_lookup_num_entry f.chunk_lookup_offset (16 * f.chunk_lookup_num_entry) whole (places_in f.chunk_lookup_num_entry) _ ne (places_first f.chunk_lookup_num_entry (drop f.chunk_lookup_offset whole))

pub files_made : (f : MDBShardFileFooter) (index : ℕ) (whole : List ℕ) → f.file_lookup_num_entry ≡ 0 → (files_in f whole >>= λ files. Ok (file_items files)) ≡ file_items_from f index whole
unfolding file_items_from
files_made f index whole e = chosen_first f.file_lookup_num_entry _ _ e

pub xorbs_made : (f : MDBShardFileFooter) (whole : List ℕ) → f.xorb_lookup_num_entry ≡ 0 → (blocks_in f whole >>= λ blocks. Ok (xorb_items blocks)) ≡ xorb_lookup_in f whole
unfolding xorb_lookup_in
xorbs_made f whole e = chosen_first f.xorb_lookup_num_entry _ _ e

pub chunks_made : (f : MDBShardFileFooter) (whole : List ℕ) → f.chunk_lookup_num_entry ≡ 0 → (blocks_in f whole >>= λ blocks. Ok (chunk_items blocks)) ≡ chunk_lookup_in f whole
unfolding chunk_lookup_in
chunks_made f whole e = chosen_first f.chunk_lookup_num_entry _ _ e

-- what a reading that goes on as another gives
pub goes_on : {A B X Y : Type 0} (first : A → X) (view : B → Y) (a : A) (b : B) (read : Result X StoreError) (f : X → Y) (whole : Result Y StoreError) → (read >>= λ x. Ok (f x)) ≡ whole → read ≡ Ok (first a) → view b ≡ f (first a) → whole ≡ Ok (view b)
goes_on {X = X} first view a b read f whole is e made = sym is ∙ ap (λ (r : Result X StoreError). r >>= λ x. Ok (f x)) e ∙ ap Ok (sym made)

pub fails_on_whole : {A B X Y : Type 0} (first : A → X) (view : B → Y) (e : StoreError) (read : Result X StoreError) (f : X → Y) (whole : Result Y StoreError) → (read >>= λ x. Ok (f x)) ≡ whole → GivesUnlessFault first (Err e) read → GivesUnlessFault view (Err e) whole
fails_on_whole {B = B} {Y = Y} first view e read f whole is gives = subst (λ (r : Result Y StoreError). GivesUnlessFault {X = B} view (Err e) r) is (fault_on first view e read (λ x. Ok (f x)) gives)

pub heads_made : (f : MDBShardFileFooter) (whole : List ℕ) → (blocks_in f whole >>= λ blocks. Ok (heads_of 0 blocks)) ≡ block_heads_in f whole
unfolding block_heads_in
heads_made f whole = refl
