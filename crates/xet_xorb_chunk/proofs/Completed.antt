-- What is at hand, filled up from a piece to a whole chunk.
use Rattle.std.proofs.Common.{◌≡◌, ◌∙◌, ◌⊎◌, ℕ, ◌+◌, ◌-◌, ◌≤◌, List, [], ◌++◌, length, take, drop, slice_range, Ok, Option, Some, sym, ap, subst, inl, inr, refl, arith, length-append, length-drop}
use Rattle.std.proofs.lemmas.List.{append-nil, drop_at, length-take-le}
use Rattle.xet_hash.specs.declared.error.StoreError.{StoreError}
use Rattle.xet_hash.specs.declared.error.StoreError.TheVariants.{OutOfMemory}
use Rattle.xet_xorb_chunk.specs.declared.decoder.Tally.{Tally}
use Rattle.xet_xorb_chunk.specs.Decoder.{Forwards}
use Rattle.xet_codec.specs.Stops.{StopsWriting}
use Rattle.xet_xorb_chunk.specs.internal.Passing.{Gathers}
use Rattle.xet_xorb_chunk.specs.Passing.{FailsPassing, ShowsPrefix}
use Rattle.xet_xorb_chunk.specs.Stream.{Fails, Whole, prefix_of}
use Rattle.xet_xorb_chunk.proofs.Gathered.{added}
use Rattle.xet_xorb_chunk.specs.theorems.More.{whole_more}
use Rattle.xet_xorb_chunk.specs.theorems.Passed.{moves_none, refuses_prefix}

-- it stays less than a chunk
pub completes_none : (max_chunk : ℕ) (t : Tally) (old held piece : List ℕ) (n : ℕ) → held ≡ old ++ take n piece → Forwards max_chunk t t (old ++ piece) (held ++ drop n piece) []
completes_none max_chunk t old held piece n e =
    subst (λ (b : List ℕ). Forwards max_chunk t t (old ++ piece) b []) (sym (added old piece held n e)) (moves_none max_chunk t (old ++ piece))

-- it is a whole chunk
pub record Completes (max_chunk : ℕ) (bytes held rest : List ℕ) (len : ℕ) : Type 0 where
  pub prefix : prefix_of max_chunk bytes ≡ Whole (slice_range held 8 (8 + len))
  pub behind : rest ≡ drop (8 + length (slice_range held 8 (8 + len))) bytes
  pub within : 8 + length (slice_range held 8 (8 + len)) ≤ length bytes
  pub size : length (slice_range held 8 (8 + len)) ≡ len

pub completes_one : (max_chunk : ℕ) (old held piece : List ℕ) (n len : ℕ) → held ≡ old ++ take n piece → ShowsPrefix max_chunk held (Ok (Some len)) → Gathers max_chunk held piece n
    → Completes max_chunk (old ++ piece) held (drop n piece) len
completes_one max_chunk old held piece n len e shows gathers =
    let bytes : held ++ drop n piece ≡ old ++ piece = added old piece held n e in
    let count : 8 + len - 8 ≡ len = omega arith in
    let is : take len (drop 8 held) ≡ slice_range held 8 (8 + len) = ap (λ (k : ℕ). take k (drop 8 held)) (sym count) in
    let size : length (slice_range held 8 (8 + len)) ≡ len = ap length (sym is) ∙ length-take-le len (drop 8 held) (omega (arith, shows.1, length-drop 8 held)) in
    let prefix : prefix_of max_chunk held ≡ Whole (slice_range held 8 (8 + len)) = shows.0 ∙ ap (λ (x : List ℕ). Whole x) is in
    let room = gathers.one (slice_range held 8 (8 + len)) prefix in
    let all : length held ≡ 8 + length (slice_range held 8 (8 + len)) = omega (arith, shows.1, size) in
    record {
      prefix = subst (λ (b : List ℕ). prefix_of max_chunk b ≡ Whole (slice_range held 8 (8 + len))) bytes (whole_more max_chunk held (drop n piece) (slice_range held 8 (8 + len)) prefix);
      behind = sym (ap (drop (8 + length (slice_range held 8 (8 + len)))) (sym bytes) ∙ drop_at held (drop n piece) (8 + length (slice_range held 8 (8 + len))) all);
      within = omega (arith, ap length bytes, length-append held (drop n piece));
      size = size;
    }

-- by what is seen of it
pub completes_seen : (max_chunk : ℕ) (old seen held items piece : List ℕ) (n len : ℕ) (found : Option ℕ) → seen ≡ items → held ≡ items → items ≡ old ++ take n piece → found ≡ Some len → ShowsPrefix max_chunk seen (Ok found)
    → Gathers max_chunk items piece n → Completes max_chunk (old ++ piece) held (drop n piece) len
completes_seen max_chunk old seen held items piece n len found first is bytes some shows gathers =
    let whole = subst (λ (b : List ℕ). ShowsPrefix max_chunk b (Ok (Some len))) (first ∙ sym is) (subst (λ (o : Option ℕ). ShowsPrefix max_chunk seen (Ok o)) some shows) in
    completes_one max_chunk old held piece n len (is ∙ bytes) whole (subst (λ (b : List ℕ). Gathers max_chunk b piece n) (sym is) gathers)

-- there was no memory, and nothing was written
pub refuses_memory : (max_chunk total : ℕ) (bytes : List ℕ) (told : Type 0) (now : List ℕ) (e : StoreError) → StopsWriting e → FailsPassing max_chunk total bytes told now now e
refuses_memory max_chunk total bytes told now e stop = inr (stop, λ t. ([], 0, (total, bytes, (refl, refl)), sym (append-nil now)))

pub gather_refuses : (max_chunk total : ℕ) (bytes : List ℕ) (told : Type 0) (now : List ℕ) (e : StoreError) → (prefix_of max_chunk bytes ≡ Fails e) ⊎ (e ≡ OutOfMemory)
    → FailsPassing max_chunk total bytes told now now e
gather_refuses max_chunk total bytes told now e (inl fails) = refuses_prefix max_chunk total bytes told now e fails
gather_refuses max_chunk total bytes told now e (inr memory) = refuses_memory max_chunk total bytes told now e (inr memory)
