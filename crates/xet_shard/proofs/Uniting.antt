-- The union of two shards, by what was read of them.
use Rattle.std.proofs.Common.{◌≡◌, ◌++◌, ◌∷◌, [], ℕ, ◌<◌, ◌^◌, inr, List, None, append_assoc, arith, get_or, zero, suc, length, map, subst, sym, take, Result, Ok, Err, refl, ap, ◌∙◌}
use Rattle.std.specs.List.{AllByRecursion}
use Rattle.std.proofs.lemmas.List.{map-append}
use Rattle.xet_hash.specs.declared.error.StoreError.{StoreError}
use Rattle.xet_hash.specs.declared.error.StoreError.TheVariants as errors
use Rattle.xet_shard.specs.declared.info.MDBShardInfo.{MDBShardInfo}
use Rattle.xet_shard_format.specs.declared.header_footer.MDBShardFileFooter.{MDBShardFileFooter}
use Rattle.xet_shard_format.specs.declared.record.MDBFileInfo.{MDBFileInfo}
use Rattle.xet_shard_format.specs.declared.record.MDBXorbInfo.{MDBXorbInfo}
use Rattle.xet_shard_format.specs.declared.row.Row.{Row}
use Rattle.xet_shard.specs.internal.Merging.{AreOfShard, IsNoText, after_hash, below, not_below}
use Rattle.xet_codec.specs.Parsing.{GivesUnlessFault}
use Rattle.xet_shard_format.specs.Records.{AreRecords, IsFile, IsXorb, file_record_hash, file_section, section, xorb_record_hash, xorb_section}
use Rattle.xet_shard.specs.Sections.{blocks_in, files_in}
use Rattle.xet_shard_format.specs.Encoding.{IsShard}
use Rattle.xet_shard.specs.Union.{HasUnionPrefix, IsNoUnion, IsUnion, ShardRecords, both_in, records_in, union, union_shard}
use Rattle.xet_shard_format.specs.theorems.Counts.{length-section}
use Rattle.xet_shard.proofs.Faulting.{fault_on, gives_on}
use Rattle.xet_shard.proofs.Merging.{all_union, merged, merged_is, merged_one, records_merged, records_rise}
use Rattle.xet_shard_format.specs.theorems.Steps.{onto}

-- ---- reading

module _ (f : MDBShardFileFooter) (bytes : List ℕ) where
  pub records_fail : {A B : Type 0} (view : A → List MDBFileInfo) (then : B → ShardRecords) (e : StoreError) → GivesUnlessFault view (Err e) (files_in f bytes) → GivesUnlessFault then (Err e) (records_in f bytes)
  unfolding records_in
  records_fail view then e gives = fault_on view then e (files_in f bytes) _ gives

  pub records_end : {A B : Type 0} (view : A → List MDBXorbInfo) (then : B → ShardRecords) (e : StoreError) (files : List MDBFileInfo) → files_in f bytes ≡ Ok files → GivesUnlessFault view (Err e) (blocks_in f bytes) → GivesUnlessFault then (Err e) (records_in f bytes)
  unfolding records_in
  records_end view then e files is gives = gives_on (λ (x : List MDBFileInfo). x) then files (files_in f bytes) _ (Err e) is (fault_on view then e (blocks_in f bytes) _ gives)

  pub records_are : (files : List MDBFileInfo) (blocks : List MDBXorbInfo) → files_in f bytes ≡ Ok files → blocks_in f bytes ≡ Ok blocks → records_in f bytes ≡ Ok (blocks, files)
  unfolding records_in
  records_are files blocks e1 e2 = rw (e1, e2) refl

  module _ (g : MDBShardFileFooter) (others : List ℕ) where
    pub both_fail : {A B : Type 0} (view : A → ShardRecords) (then : B → ShardRecords × ShardRecords) (e : StoreError) → GivesUnlessFault view (Err e) (records_in f bytes) → GivesUnlessFault then (Err e) (both_in f bytes g others)
    unfolding both_in
    both_fail view then e gives = fault_on view then e (records_in f bytes) _ gives

    pub both_end : {A B : Type 0} (view : A → ShardRecords) (then : B → ShardRecords × ShardRecords) (e : StoreError) (ours : ShardRecords) → records_in f bytes ≡ Ok ours → GivesUnlessFault view (Err e) (records_in g others) → GivesUnlessFault then (Err e) (both_in f bytes g others)
    unfolding both_in
    both_end view then e ours is gives = gives_on (λ (x : ShardRecords). x) then ours (records_in f bytes) _ (Err e) is (fault_on view then e (records_in g others) _ gives)

    pub both_are : (ours theirs : ShardRecords) → records_in f bytes ≡ Ok ours → records_in g others ≡ Ok theirs → both_in f bytes g others ≡ Ok (ours, theirs)
    unfolding both_in
    both_are ours theirs e1 e2 = rw (e1, e2) refl

-- ---- references that are pushed

pub pushed_on : {B X : Type 0} (now : B → X) (found : List B) (b : B) (rest total whole : List X) → whole ≡ now b ∷ rest → map now found ++ whole ≡ total → map now (found ++ b ∷ []) ++ rest ≡ total
pushed_on now found b rest total whole e so_far = ap (λ (l : List _). l ++ rest) (map-append now found (b ∷ [])) ∙ onto (map now found) (now b) rest total whole e so_far

-- ---- the shard of both

-- a record has fewer rows than its section
each_few : {X : Type 0} (rows : X → List Row) (n : ℕ) (xs : List X) → length (section rows xs) < n → AllByRecursion (λ x. length (rows x) < n) xs
each_few rows n [] few = tt
each_few rows n (x ∷ xs) few = (omega (arith, length-section rows x xs, few), each_few rows n xs (omega (arith, length-section rows x xs, few)))

pub union_few : {X : Type 0} (hash : X → List ℕ) (rows : X → List Row) (n : ℕ) (xs ys zs : List X) → zs ≡ union hash xs ys → length (section rows xs) < n → length (section rows ys) < n → AllByRecursion (λ x. length (rows x) < n) zs
union_few hash rows n xs ys zs e first second = subst (AllByRecursion (λ x. length (rows x) < n)) (sym e) (all_union hash (λ x. length (rows x) < n) xs ys (each_few rows n xs first) (each_few rows n ys second))

union_records : {X : Type 0} (hash : X → List ℕ) (Form : X → Type 0) (xs ys : List X) → AreRecords hash Form None xs → AreRecords hash Form None ys → AreRecords hash Form None (union hash xs ys)
union_records hash Form xs ys r s = subst (AreRecords hash Form None) (merged_is hash xs ys (records_rise hash Form None xs r) (records_rise hash Form None ys s)) (records_merged hash Form None xs ys r s)

pub union_is_shard : (p : ShardRecords × ShardRecords) (creation other : ℕ) → AreOfShard p.0 → AreOfShard p.1 → length (file_section (union file_record_hash p.0.1 p.1.1)) < 2 ^ 32 → length (xorb_section (union xorb_record_hash p.0.0 p.1.0)) < 2 ^ 32 → IsShard (union_shard p creation other)
union_is_shard p creation other ours theirs few_files few_blocks = record {
  files = union_records file_record_hash IsFile p.0.1 p.1.1 ours.files theirs.files;
  blocks = union_records xorb_record_hash IsXorb p.0.0 p.1.0 ours.blocks theirs.blocks;
  few_files = few_files;
  few_blocks = few_blocks;
}

-- ---- the steps of a merge

pub all_at : {X : Type 0} (P : X → Type 0) (xs : List X) (i : ℕ) (x : X) → AllByRecursion P xs → i < length xs → x ≡ get_or xs i x → P x
all_at P [] i x all lt is = absurd (omega arith)
all_at P (y ∷ ys) zero x all lt is = subst P (sym is) all.0
all_at P (y ∷ ys) (suc i) x all lt is = all_at P ys i x all.1 (omega arith) is

module _ {B X : Type 0} (now : B → X) (hash : X → List ℕ) where
  -- one more record of the first list, after those of the second that are below it
  pub merge_step : (found pushed added : List B) (b : B) (xs others rest left later total : List X) (h : List ℕ) → xs ≡ now b ∷ later → h ≡ hash (now b) → map now pushed ≡ map now found ++ below hash h rest
      → others ≡ not_below hash h rest → left ≡ after_hash hash (hash (now b)) others → added ≡ pushed ++ b ∷ [] → map now found ++ merged hash xs rest ≡ total → map now added ++ merged hash later left ≡ total
  merge_step found pushed added b xs others rest left later total h e1 e2 e3 e4 e5 e6 so_far =
      let next : left ≡ after_hash hash (hash (now b)) (not_below hash (hash (now b)) rest) = e5 ∙ ap (after_hash hash (hash (now b))) (e4 ∙ ap (λ (k : List ℕ). not_below hash k rest) e2) in
      let whole : map now pushed ++ (now b ∷ merged hash later left) ≡ total =
      ap (λ (l : List X). l ++ (now b ∷ merged hash later left)) (e3 ∙ ap (λ (k : List ℕ). map now found ++ below hash k rest) e2)
      ∙ append_assoc (map now found) (below hash (hash (now b)) rest) (now b ∷ merged hash later left)
      ∙ ap (λ (l : List X). map now found ++ (below hash (hash (now b)) rest ++ (now b ∷ merged hash later l))) next
      ∙ ap (λ (l : List X). map now found ++ l) (sym (merged_one hash (now b) later rest) ∙ ap (λ (l : List X). merged hash l rest) (sym e1)) ∙ so_far in
      ap (λ (l : List B). map now l ++ merged hash later left) e6 ∙ pushed_on now pushed b (merged hash later left) total (now b ∷ merged hash later left) refl whole

-- ---- how it ends

-- a front of it is written
pub union_prefix : (read : Result (ShardRecords × ShardRecords) StoreError) (p : ShardRecords × ShardRecords) (creation other : ℕ) (info : MDBShardInfo) (encoding lent before after : List ℕ)
    → read ≡ Ok p → IsUnion (Ok p) creation other info [] encoding → lent ≡ encoding → (n : ℕ) × (after ≡ before ++ take n lent) → HasUnionPrefix read creation other before after
union_prefix read p creation other info encoding lent before after e u lends wrote =
    inr (u.both, wrote.0, e ∙ u.found, u.agree, wrote.1 ∙ ap (λ (t : List ℕ). before ++ take wrote.0 t) (lends ∙ u.encoding))

-- the records have no union, or it is too large
pub not_united : (f g : MDBShardFileFooter) (read : Result (ShardRecords × ShardRecords) StoreError) (p : ShardRecords × ShardRecords) (e : StoreError) → read ≡ Ok p → IsNoText p f.shard_creation_timestamp g.shard_creation_timestamp e → IsNoUnion f g read e
not_united f g read p errors.OutOfMemory is no_text = tt
not_united f g read p (errors.Io place) is no_text = absurd no_text
not_united f g read p errors.UnexpectedEof is no_text = absurd no_text
not_united f g read p (errors.TooLarge what) is no_text = absurd no_text
not_united f g read p errors.FileNotFound is no_text = absurd no_text
not_united f g read p errors.InvalidRange is no_text = absurd no_text
not_united f g read p errors.InvalidArguments is no_text = inr (inr (p, is, no_text))
not_united f g read p (errors.MalformedData reason) is no_text = inr (ap errors.MalformedData no_text.0, p, is, no_text.1, no_text.2)
not_united f g read p errors.ChunkHeaderParse is no_text = absurd no_text
not_united f g read p errors.HashMismatch is no_text = absurd no_text
not_united f g read p (errors.InvalidShard hash reason) is no_text = absurd no_text
not_united f g read p errors.TruncatedHashCollision is no_text = absurd no_text
not_united f g read p errors.BadFilename is no_text = absurd no_text
not_united f g read p (errors.CompressionError number) is no_text = absurd no_text
not_united f g read p (errors.BadLimits field) is no_text = absurd no_text
