-- What is listed, and what stands in runs, of the xorbs that a holder has seen.
use Rattle.std.proofs.Common.{◌≡◌, inl, inr, ◌∙◌, ℕ, ◌-◌, ◌<◌, ◌≤◌, ◌^◌, List, [], ◌∷◌, ◌++◌, drop, take, length, map, Option, Some, None, option_map, refl, sym, ap, subst, arith, length-append}
use Rattle.std.specs.Prelude.{Any, sum}
use Rattle.std.proofs.lemmas.List.{drop-map, length-map, take-map}
use Rattle.std.proofs.lemmas.List.Elements.{Contains-append_left}
use Rattle.std.proofs.lemmas.List.Sums.{sum-map}
use Rattle.xet_dedup_queries.specs.Interface.{Extends, IsFoundRun, run_len}
use Rattle.xet_dedup_queries.specs.Registering.{EachPartStands, IsNewXorb, part_run}
use Rattle.xet_file_plan.specs.theorems.Closing.{raw_leaves_of}
use Rattle.xet_folder.specs.Plan.{part}
use Rattle.xet_folder.specs.Xorbs.{IsListed, found}
use Rattle.xet_hash.specs.Hash.{zero_hash}
use Rattle.xet_hash.specs.Merkle.{xorb_hash}
use Rattle.xet_hash.specs.declared.error.Place.TheVariants.{Disk}
use Rattle.xet_hash.specs.declared.error.StoreError.{StoreError}
use Rattle.xet_hash.specs.declared.error.StoreError.TheVariants.{Io, MalformedData, OutOfMemory, TooLarge}
use Rattle.xet_hash.specs.declared.error.What.TheVariants.{Shards}
use Rattle.xet_history.specs.Core.{Core, RegisteredShard}
use Rattle.xet_history.specs.Found.{key_of}
use Rattle.xet_history.specs.History.{after_all}
use Rattle.xet_history.specs.Sound.{IsKey, IsUsableRun}
use Rattle.xet_history.specs.theorems.Joining.{after_all-append}
use Rattle.xet_history.specs.theorems.Staying.{listed_after_all, shards_after_all}
use Rattle.xet_shard.specs.Queries.{kept_hash}
use Rattle.xet_shard_format.specs.declared.record.FileDataSequenceEntry.{FileDataSequenceEntry as Segment}
use Rattle.xet_xorb.specs.Raw.{raw_leaves}
use Rattle.xet_xorb.specs.declared.raw.RawXorbData.{RawXorbData}
use Rattle.xet_store.specs.Interface.{IsErrorSince, IsRefused, Stands}
use Rattle.xet_store.specs.Holders.{Follows, FollowsAsking, Holder, core_at, lengths_in, seen, xorb_limits}
use Rattle.xet_store.specs.theorems.Following.{asking_then}

abbrev Leaves : Type 0
Leaves = List (List ℕ × ℕ)

-- the hash of a new xorb is that of its chunks
pub new_xorb_hash : (limits : ℕ × ℕ) (x : RawXorbData) → IsNewXorb limits x → x.xorb_info.metadata.xorb_hash ≡ xorb_hash (raw_leaves x)
new_xorb_hash limits x new =
    ap (λ (r : RawXorbData). r.xorb_info.metadata.xorb_hash) new.made
    ∙ ap xorb_hash (sym (raw_leaves_of new.chunks new.boundaries) ∙ ap raw_leaves (sym new.made))

-- ---- after more entries

module _ (a b : Holder) (f : Follows a b) where
  core_follows : core_at b ≡ after_all (core_at a) f.since
  core_follows = ap core_at f.is ∙ after_all-append a.base a.since f.since

  tells_follow : b.tells ≡ a.tells
  tells_follow = ap (λ (h : Holder). h.tells) f.is

  listed_follows : (h : List ℕ) (leaves : Leaves) → IsListed (core_at a).xorbs h leaves → IsListed (core_at b).xorbs h leaves
  listed_follows h leaves is = subst (λ (c : Core). IsListed c.xorbs h leaves) (sym core_follows) (listed_after_all (core_at a) f.since h leaves is)

  -- the lists of lengths stay
  lengths_follow : (h lengths : List ℕ) → lengths_in (core_at a) h ≡ Some lengths → lengths_in (core_at b) h ≡ Some lengths
  lengths_follow h lengths is = go (found (core_at a).xorbs h) refl is
    where
      go : (o : Option Leaves) → found (core_at a).xorbs h ≡ o → option_map (λ (leaves : Leaves). map (λ m. m.1) leaves) o ≡ Some lengths → lengths_in (core_at b) h ≡ Some lengths
      go None at e = absurd (cc e)
      go (Some leaves) at e = ap (λ (o : Option Leaves). option_map (λ (ls : Leaves). map (λ m. m.1) ls) o) (listed_follows h leaves at) ∙ e

  key_follows : (key : List ℕ) → IsKey (core_at a) key → IsKey (core_at b) key
  key_follows key (inl zero) = inl zero
  key_follows key (inr any) =
      let more = shards_after_all (core_at a) f.since in
      let at = Contains-append_left (core_at a).shards more.0 any.1 (any.0, any.2, any.3) in
      inr (subst (λ (ss : List RegisteredShard). Any (λ s. key_of s ≡ key) ss) (more.1 ∙ ap (λ (c : Core). c.shards) (sym core_follows)) (at.0, any.1, at.1, at.2, any.4))

  stands_follow : (hashes : List (List ℕ)) (run : Segment) → Stands a hashes run → Stands b hashes run
  stands_follow hashes run stands told =
      let s = stands (sym tells_follow ∙ told) in
      record { leaves = s.leaves; listed = listed_follows run.xorb_hash s.leaves s.listed; key = s.key; is_key = key_follows s.key s.is_key; same = s.same }

  pub seen_follows : length (seen a) ≤ length (seen b)
  seen_follows =
      let grown : length (seen b) ≡ length (a.before ++ (a.since ++ f.since)) = ap (λ (h : Holder). length (seen h)) f.is in
      omega (arith, grown, length-append a.before (a.since ++ f.since), length-append a.since f.since, length-append a.before a.since)

  -- an error since the later state is one since the earlier
  error_earlier : (later : Holder) (e : StoreError) → IsErrorSince b later e → IsErrorSince a later e
  error_earlier later (Io Disk) is = record { number = is.number; kind = is.kind; among = is.among; since = omega (arith, seen_follows, is.since) }
  error_earlier later OutOfMemory is = tt
  error_earlier later (TooLarge Shards) is = is
  error_earlier later (MalformedData reason) is = is
  error_earlier later e is = absurd is

-- What no call takes back.
pub extends_by : {I : Type 0} (holder : I → Holder) (old new : I) → FollowsAsking (holder old) (holder new)
    → Extends (λ a h. lengths_in (core_at (holder a)) h) (λ a hashes run. Stands (holder a) hashes run) (λ a b e. IsRefused (holder a) (holder b) e) (λ a. xorb_limits (holder a).limits) old new
extends_by holder old new m = record {
  lists = lengths_follow (holder old) (holder new) m.follows;
  stands = stands_follow (holder old) (holder new) m.follows;
  earlier = λ later e is. (asking_then (holder old) (holder new) (holder later) m is.0, error_earlier (holder old) (holder new) m.follows (holder later) e is.1);
  limits = ap (λ (h : Holder). xorb_limits h.limits) m.follows.is;
}

-- ---- runs

part_lengths : (start count : ℕ) (leaves : Leaves) → take count (drop start (map (λ m. m.1) leaves)) ≡ map (λ m. m.1) (take count (drop start leaves))
part_lengths start count leaves = ap (take count) (drop-map (λ (m : List ℕ × ℕ). m.1) start leaves) ∙ take-map (λ (m : List ℕ × ℕ). m.1) count (drop start leaves)

-- a run that a plan may use, as a query finds it
pub found_of : (c : Core) (standing : List (List ℕ) → Segment → Type 0) (hashes : List (List ℕ)) (run : ℕ × Segment) → IsUsableRun c.xorbs hashes run → standing (take run.0 hashes) run.1
    → IsFoundRun (lengths_in c) standing hashes run.0 run.1
found_of c standing hashes run usable stands =
    let lies = usable.lies in
    let count : run_len run.1 ≡ run.0 = omega (arith, lies.count) in
    record {
      some = omega (arith, lies.lies.some, lies.count);
      within = usable.within;
      counted = count;
      lies = record {
        lengths = map (λ m. m.1) lies.leaves;
        listed = ap (option_map (λ (leaves : Leaves). map (λ m. m.1) leaves)) lies.listed;
        some = lies.lies.some;
        within = omega (arith, lies.lies.within, length-map lies.leaves (λ (m : List ℕ × ℕ). m.1));
        bytes = lies.lies.bytes ∙ sym (sum-map (λ (m : List ℕ × ℕ). m.1) (part run.1 lies.leaves)) ∙ ap (λ (l : List ℕ). sum l) (sym (part_lengths run.1.chunk_index_start (run_len run.1) lies.leaves));
        small = subst (λ (n : ℕ). n < 2 ^ 32) (sym (sum-map (λ (m : List ℕ × ℕ). m.1) lies.leaves)) usable.small;
        plain = usable.plain;
        named = usable.named;
      };
      stands = stands;
    }

-- ---- a xorb that is listed with its chunks

map_both : {X Y Z : Type 0} (f : Y → Z) (g : X → Y) (xs : List X) → map f (map g xs) ≡ map (λ x. f (g x)) xs
map_both f g [] = refl
map_both f g (x ∷ xs) = ap (λ l. f (g x) ∷ l) (map_both f g xs)

part_hashes : (start count : ℕ) (leaves : Leaves) → take count (drop start (map (λ m. m.0) leaves)) ≡ map (λ m. m.0) (take count (drop start leaves))
part_hashes start count leaves = ap (take count) (drop-map (λ (m : List ℕ × ℕ). m.0) start leaves) ∙ take-map (λ (m : List ℕ × ℕ). m.0) count (drop start leaves)

module _ (h : Holder) (limits : ℕ × ℕ) (x : RawXorbData) (new : IsNewXorb limits x) (listed : IsListed (core_at h).xorbs (xorb_hash (raw_leaves x)) (raw_leaves x)) where
  listed_here : IsListed (core_at h).xorbs x.xorb_info.metadata.xorb_hash (raw_leaves x)
  listed_here = subst (λ (k : List ℕ). IsListed (core_at h).xorbs k (raw_leaves x)) (sym (new_xorb_hash limits x new)) listed

  pub lists_new : lengths_in (core_at h) x.xorb_info.metadata.xorb_hash ≡ Some (map (λ m. m.1) (raw_leaves x))
  lists_new = ap (option_map (λ (leaves : Leaves). map (λ m. m.1) leaves)) listed_here

  pub parts_stand : EachPartStands (Stands h) x
  parts_stand start count some within told =
      let keyed : List ℕ → List ℕ = kept_hash zero_hash in
      let run = part_run x start count in
      let n : run.chunk_index_end - run.chunk_index_start ≡ count = omega arith in
      record {
        leaves = raw_leaves x;
        listed = listed_here;
        key = zero_hash;
        is_key = inl refl;
        same = ap (λ (k : ℕ). map (λ (m : List ℕ × ℕ). keyed m.0) (take k (drop start (raw_leaves x)))) n
            ∙ sym (map_both keyed (λ (m : List ℕ × ℕ). m.0) (take count (drop start (raw_leaves x))))
            ∙ ap (map keyed) (sym (part_hashes start count (raw_leaves x)));
      }
