-- The invariant of a plan stays as the plan grows.
use Rattle.std.proofs.Common.{◌≡◌, ◌∙◌, ◌≢◌, ℕ, zero, suc, ◌+◌, ◌-◌, ◌≤◌, ◌<◌, ◌^◌, ◌&&◌, if◌then◌else◌, Bool, true, false, true≢false, nat_eq, nat_le, List, [], ◌∷◌, ◌++◌, drop, length, length-append, map, refl, sym, ap, subst, take, arith}
use Rattle.std.proofs.Math.Seq.{take-add}
use Rattle.std.proofs.lemmas.Bool.Decides.{nat_tests}
use Rattle.std.proofs.lemmas.List.{append-nil, drop_all, drop_at, length-drop, length-map, map-append, take-append-drop, take-append-le, take_all, take_rest}
use Rattle.std.proofs.lemmas.List.Sums.{sum_by-append, sum_by-cons, sum_by-take-le, sum_by_push}
use Rattle.std.specs.Cmp.Lexicographic.{bytes_decides, pointwise}
use Rattle.std.specs.List.{AllByRecursion, sum_by}
use Rattle.xet_base.specs.theorems.Elements.{all_more, all_push, all_take}
use Rattle.xet_choices.specs.Choices.{fits}
use Rattle.xet_cut.specs.Limits.{AreInRange}
use Rattle.xet_cut.specs.declared.limits.LimitSettings.{LimitSettings}
use Rattle.xet_dedup_queries.specs.Interface.{run_len}
use Rattle.xet_dedup_queries.specs.Registering.{max_chunk_len}
use Rattle.xet_fragmentation.specs.Fragmentation.{Fragmentation, chunks_in}
use Rattle.xet_hash.specs.Hash.{sentinel}
use Rattle.xet_hash.specs.Merkle.{total_len}
use Rattle.xet_shard_format.specs.declared.record.FileDataSequenceEntry.{FileDataSequenceEntry as Segment}
use Rattle.xet_xorb.specs.Raw.{ArePartsOfXorb}
use Rattle.xet_xorb_chunk.specs.declared.chunk.Chunk.{Chunk}
use Rattle.xet_xorb_chunk.specs.Chunks.{bytes_of_chunk, chunk_leaf, total}
use Rattle.xet_file_plan.specs.Kept.{IsBlockRun, joined_bytes, max_chunks}
use Rattle.xet_file_plan.specs.Moves.{extended, filled, goes_on, is_open, next_run, with_run}
use Rattle.xet_file_plan.specs.Kept.{IsBlockWithin}
use Rattle.xet_file_plan.specs.internal.Invariant.{EndsWithin, IsKept, NoneOpen, OpenEndWithin}
use borrow.Rule.Slice.PartMut.{post_of, put_mid}

-- ---- runs that go on

both : (a b : Bool) → (a && b) ≡ true → (a ≡ true) × (b ≡ true)
both true b e = (refl, e)
both false b e = absurd (cc e)

same_number : (m n : ℕ) → nat_eq m n ≡ true → m ≡ n
same_number m n e = grind (arith, nat_tests)

-- a run that goes on lies in the same xorb, from where the segment ends
goes_on_there : (s run : Segment) → goes_on s run ≡ true → (s.xorb_hash ≡ run.xorb_hash) × (s.chunk_index_end ≡ run.chunk_index_start)
goes_on_there s run e =
    let r = both (pointwise nat_eq s.xorb_hash run.xorb_hash) (nat_eq s.chunk_index_end run.chunk_index_start) e in
    ((bytes_decides s.xorb_hash run.xorb_hash).0 r.0, same_number s.chunk_index_end run.chunk_index_start r.1)

-- and is open if and only if the segment is
goes_on_open : (s run : Segment) → goes_on s run ≡ true → is_open run ≡ is_open s
goes_on_open s run e = ap (λ (hash : List ℕ). pointwise nat_eq hash sentinel) (sym (goes_on_there s run e).0)

-- ---- open segments end within the open block

-- the bytes up to the end of a run of the block
bytes_to : (block : List Chunk) (start count : ℕ) → total (take (start + count) block) ≡ total (take start block) + total (take count (drop start block))
bytes_to block start count =
    ap total (take-add start count block) ∙ sum_by-append (λ (c : Chunk). length c.bytes) (take start block) (take count (drop start block))

run_end : (block : List Chunk) (run : Segment) → IsBlockRun block run → run.chunk_index_end ≡ run.chunk_index_start + run_len run
run_end block run is = λ i. (is.same i).chunk_index_end

run_bytes : (block : List Chunk) (run : Segment) → IsBlockRun block run → run.unpacked_segment_bytes ≡ total (take (run_len run) (drop run.chunk_index_start block))
run_bytes block run is = λ i. (is.same i).unpacked_segment_bytes

run_ends : (block : List Chunk) (run : Segment) → IsBlockRun block run → EndsWithin block run
run_ends block run is = record {
  end = omega (arith, run_end block run is, is.within);
  bytes =
      (let sum = bytes_to block run.chunk_index_start (run_len run) in
      let end : total (take run.chunk_index_end block) ≡ total (take (run.chunk_index_start + run_len run) block) = ap (λ (n : ℕ). total (take n block)) (run_end block run is) in
      omega (arith, sum, end, run_bytes block run is));
}

extended_ends : (block : List Chunk) (s run : Segment) → goes_on s run ≡ true → EndsWithin block s → IsBlockRun block run → EndsWithin block (extended s run)
extended_ends block s run goes before is = record {
  end = (run_ends block run is).end;
  bytes =
      (let sum = bytes_to block run.chunk_index_start (run_len run) in
      let end : total (take run.chunk_index_end block) ≡ total (take (run.chunk_index_start + run_len run) block) = ap (λ (n : ℕ). total (take n block)) (run_end block run is) in
      let seam : total (take s.chunk_index_end block) ≡ total (take run.chunk_index_start block) = ap (λ (n : ℕ). total (take n block)) (goes_on_there s run goes).1 in
      omega (arith, sum, end, seam, before.bytes, run_bytes block run is));
}

-- a run joins the segments
opened_run : (block : List Chunk) (ss : List Segment) (run : Segment) → OpenEndWithin block ss → (is_open run ≡ true → IsBlockRun block run) → OpenEndWithin block (with_run ss run)
unfolding with_run
opened_run block [] run opened is = (λ o. run_ends block run (is o), tt)
opened_run block (s ∷ []) run opened is = by (goes_on s run) refl
  where
    by : (b : Bool) → goes_on s run ≡ b → OpenEndWithin block (if b then extended s run ∷ [] else s ∷ run ∷ [])
    by true e = (λ o. extended_ends block s run e (opened.0 o) (is (goes_on_open s run e ∙ o)), tt)
    by false e = (opened.0, ((λ o. run_ends block run (is o)), tt))
opened_run block (s ∷ t ∷ ss) run opened is = (opened.0, opened_run block (t ∷ ss) run opened.1 is)

-- the block has more chunks
opened_more : (block added : List Chunk) (ss : List Segment) → OpenEndWithin block ss → OpenEndWithin (block ++ added) ss
opened_more block added ss opened = all_more (λ (s : Segment). is_open s ≡ true → EndsWithin block s) (λ (s : Segment). is_open s ≡ true → EndsWithin (block ++ added) s) ss
    (λ s ends o.
    let was : EndsWithin block s = ends o in
    record {
      end = omega (arith, was.end, length-append block added);
      bytes = subst (λ (cs : List Chunk). s.unpacked_segment_bytes ≤ total cs) (sym (take-append-le s.chunk_index_end block added was.end)) was.bytes;
    })
    opened

-- ---- segments that are not open

opened_none : (block : List Chunk) (ss : List Segment) → NoneOpen ss → OpenEndWithin block ss
opened_none block ss none = all_more (λ (s : Segment). is_open s ≡ false) (λ (s : Segment). is_open s ≡ true → EndsWithin block s) ss
    (λ s closed o. absurd (true≢false (sym o ∙ closed))) none

none_run : (k : ℕ) (ss : List Segment) (run : Segment) → k ≤ length ss → NoneOpen (take k ss) → NoneOpen (take k (with_run ss run))
unfolding with_run
none_run zero ss run le none = tt
none_run (suc k) [] run le none = absurd (omega arith)
none_run (suc zero) (s ∷ []) run le none = by (goes_on s run)
  where
    by : (b : Bool) → NoneOpen (take 1 (if b then extended s run ∷ [] else s ∷ run ∷ []))
    by true = (none.0, tt)
    by false = (none.0, tt)
none_run (suc (suc k)) (s ∷ []) run le none = absurd (omega arith)
none_run (suc k) (s ∷ t ∷ ss) run le none = (none.0, none_run k (t ∷ ss) run (omega arith) none.1)

pub more_segments : (ss : List Segment) (run : Segment) → (length ss ≤ length (with_run ss run)) × (1 ≤ length (with_run ss run))
unfolding with_run
more_segments [] run = (omega arith, omega arith)
more_segments (s ∷ []) run = by (goes_on s run)
  where
    by : (b : Bool) → (1 ≤ length (if b then extended s run ∷ [] else s ∷ run ∷ [])) × (1 ≤ length (if b then extended s run ∷ [] else s ∷ run ∷ []))
    by true = (omega arith, omega arith)
    by false = (omega arith, omega arith)
more_segments (s ∷ t ∷ ss) run = let r = more_segments (t ∷ ss) run in (omega (arith, r.0), omega (arith, r.1))

-- filling in a xorb hash leaves none open, and changes no other one
none_filled : (hash : List ℕ) (ss : List Segment) → hash ≢ sentinel → NoneOpen (map (filled hash) ss)
none_filled hash [] other = tt
none_filled hash (s ∷ ss) other = (by (is_open s) refl, none_filled hash ss other)
  where
    no : (b : Bool) → pointwise nat_eq hash sentinel ≡ b → pointwise nat_eq hash sentinel ≡ false
    no true e = absurd (other ((bytes_decides hash sentinel).0 e))
    no false e = e

    by : (b : Bool) → is_open s ≡ b → is_open (if b then record s { xorb_hash = hash } else s) ≡ false
    by true e = no (pointwise nat_eq hash sentinel) refl
    by false e = e

filled_none : (hash : List ℕ) (ss : List Segment) → NoneOpen ss → map (filled hash) ss ≡ ss
filled_none hash [] none = refl
filled_none hash (s ∷ ss) none = λ i. ap (λ (b : Bool). if b then record s { xorb_hash = hash } else s) none.0 i ∷ filled_none hash ss none.1 i

-- ---- the open block

block_more : (settings : LimitSettings) (block : List Chunk) (chunk : Chunk) → IsBlockWithin settings block → total block + length chunk.bytes ≤ settings.cut_bytes → length block + 1 ≤ settings.cut_chunks
    → length chunk.bytes ≤ max_chunk_len → IsBlockWithin settings (block ++ chunk ∷ [])
block_more settings block chunk within bytes count small = record {
  bytes = omega (arith, sum_by_push (λ (c : Chunk). length c.bytes) block chunk, bytes);
  count = omega (arith, length-append block (chunk ∷ []), count);
  small = all_push (λ (c : Chunk). length c.bytes ≤ max_chunk_len) block chunk within.small small;
}

leaf_bytes : (block : List Chunk) → total_len (map chunk_leaf block) ≡ total block
leaf_bytes [] = refl
leaf_bytes (c ∷ cs) =
    omega (arith, sum_by-cons (λ (m : List ℕ × ℕ). m.1) (chunk_leaf c) (map chunk_leaf cs), sum_by-cons (λ (d : Chunk). length d.bytes) c cs, leaf_bytes cs)

-- a chunk that fits stays within the limits of a xorb
pub fitting : (settings : LimitSettings) (block : List Chunk) (len : ℕ) → fits settings (map chunk_leaf block) len ≡ true → (total block + len ≤ settings.cut_bytes) × (length block + 1 ≤ settings.cut_chunks)
fitting settings block len e =
    let r = both (nat_le (total_len (map chunk_leaf block) + len) settings.cut_bytes) (nat_le (length (map chunk_leaf block) + 1) settings.cut_chunks) e in (
      omega (arith, leaf_bytes block, at_most (total_len (map chunk_leaf block) + len) settings.cut_bytes r.0),
      omega (arith, length-map block chunk_leaf, at_most (length (map chunk_leaf block) + 1) settings.cut_chunks r.1),
    )
  where
    at_most : (m n : ℕ) → nat_le m n ≡ true → m ≤ n
    at_most m n e = grind (arith, nat_tests)

pub parts_of_xorb : (settings : LimitSettings) (block : List Chunk) → AreInRange settings → IsBlockWithin settings block → ArePartsOfXorb (map bytes_of_chunk block)
parts_of_xorb settings block range within = record {
  count = omega (arith, length-map block bytes_of_chunk, within.count, range.cut_chunks_to);
  small = small block within.small;
  total = omega (arith, sum block, within.bytes, range.cut_bytes_to);
}
  where
    small : (cs : List Chunk) → AllByRecursion (λ (c : Chunk). length c.bytes ≤ max_chunk_len) cs → AllByRecursion (λ (p : List ℕ). length p < 2 ^ 24) (map bytes_of_chunk cs)
    small [] each = tt
    small (c ∷ cs) each = (omega (arith, each.0), small cs each.1)

    sum : (cs : List Chunk) → sum_by length (map bytes_of_chunk cs) ≡ total cs
    sum [] = refl
    sum (c ∷ cs) = omega (arith, sum_by-cons (λ (p : List ℕ). length p) (bytes_of_chunk c) (map bytes_of_chunk cs), sum_by-cons (λ (d : Chunk). length d.bytes) c cs, sum cs)

-- ---- a chunk is stored

-- its run
pub next_is_run : (block : List Chunk) (chunk : Chunk) → IsBlockRun (block ++ chunk ∷ []) (next_run block chunk)
next_is_run block chunk =
    let one : run_len (next_run block chunk) ≡ 1 = omega arith in
    let seam : drop (length block) (block ++ chunk ∷ []) ≡ chunk ∷ [] = drop_at block (chunk ∷ []) (length block) refl in
    let bytes : length chunk.bytes ≡ total (take (run_len (next_run block chunk)) (drop (length block) (block ++ chunk ∷ []))) =
    (omega arith ∙ sym (sum_by-cons (λ (c : Chunk). length c.bytes) chunk [])) ∙ (λ i. total (take (sym one i) (sym seam i))) in
    record {
      within = omega (arith, one, length-append block (chunk ∷ []));
      same = λ i. record {
        xorb_hash = sentinel;
        xorb_flags = 0;
        unpacked_segment_bytes = bytes i;
        chunk_index_start = length block;
        chunk_index_end = length block + sym one i;
      };
    }

-- its bytes with those of the last segment are at most those of the block with it
pub next_bytes : (block : List Chunk) (chunk : Chunk) (ss : List Segment) → OpenEndWithin block ss → joined_bytes ss (next_run block chunk) ≤ total block + length chunk.bytes
unfolding joined_bytes
next_bytes block chunk [] opened = omega arith
next_bytes block chunk (s ∷ []) opened = by (goes_on s (next_run block chunk)) refl
  where
    by : (b : Bool) → goes_on s (next_run block chunk) ≡ b → (if b then s.unpacked_segment_bytes + length chunk.bytes else length chunk.bytes) ≤ total block + length chunk.bytes
    by true e =
        let opened_s : is_open s ≡ true = sym (goes_on_open s (next_run block chunk) e) ∙ (bytes_decides sentinel sentinel).1 refl in
        omega (arith, (opened.0 opened_s).bytes, sum_by-take-le (λ (c : Chunk). length c.bytes) block s.chunk_index_end)
    by false e = omega arith
next_bytes block chunk (s ∷ t ∷ ss) opened = next_bytes block chunk (t ∷ ss) opened.1

-- ---- the invariant

pub kept_joined : (settings : LimitSettings) (leaves more : List (List ℕ × ℕ)) (ss now : List Segment) (run : Segment) (block : List Chunk) (guard next : Fragmentation) (closed : ℕ)
    → IsKept settings leaves ss block guard closed → length leaves ≤ length more → length more ≤ max_chunks → (is_open run ≡ true → IsBlockRun block run) → now ≡ with_run ss run
    → chunks_in next ≤ length more → IsKept settings more now block next closed
kept_joined settings leaves more ss now run block guard next closed kept longer few is joined ranges =
    let count = more_segments ss run in
    subst (λ (us : List Segment). IsKept settings more us block next closed) (sym joined) (record {
      range = kept.range;
      few = few;
      ranges = ranges;
      within = kept.within;
      opened = opened_run block ss run kept.opened is;
      counted = omega (arith, kept.counted, count.0);
      none_open = none_run closed ss run kept.counted kept.none_open;
    })

-- the open block has one more chunk
pub kept_block : (settings : LimitSettings) (leaves more : List (List ℕ × ℕ)) (ss now : List Segment) (block whole : List Chunk) (chunk : Chunk) (guard : Fragmentation) (closed : ℕ)
    → IsKept settings leaves ss block guard closed → length leaves ≤ length more → length more ≤ max_chunks → fits settings (map chunk_leaf block) (length chunk.bytes) ≡ true → length chunk.bytes ≤ max_chunk_len
    → whole ≡ block ++ chunk ∷ [] → now ≡ ss → IsKept settings more now whole guard closed
kept_block settings leaves more ss now block whole chunk guard closed kept longer few fit small pushed same =
    let r = fitting settings block (length chunk.bytes) fit in
    subst (λ (us : List Segment). IsKept settings more us whole guard closed) (sym same) (
    subst (λ (cs : List Chunk). IsKept settings more ss cs guard closed) (sym pushed) (record {
      range = kept.range;
      few = few;
      ranges = omega (arith, kept.ranges, longer);
      within = block_more settings block chunk kept.within r.0 r.1 small;
      opened = opened_more block (chunk ∷ []) ss kept.opened;
      counted = kept.counted;
      none_open = kept.none_open;
    })
    )

-- the open block was registered
pub kept_closed : (settings : LimitSettings) (leaves : List (List ℕ × ℕ)) (ss now : List Segment) (block none : List Chunk) (guard : Fragmentation) (closed count : ℕ) (hash : List ℕ)
    → IsKept settings leaves ss block guard closed → hash ≢ sentinel → now ≡ map (filled hash) ss → none ≡ [] → count ≡ length ss → IsKept settings leaves now none guard count
kept_closed settings leaves ss now block none guard closed count hash kept other is empty all =
    let no_more = none_filled hash ss other in
    subst (λ (us : List Segment). IsKept settings leaves us none guard count) (sym is) (
    subst (λ (cs : List Chunk). IsKept settings leaves (map (filled hash) ss) cs guard count) (sym empty) (record {
      range = kept.range;
      few = kept.few;
      ranges = kept.ranges;
      within = record { bytes = omega arith; count = omega arith; small = tt };
      opened = opened_none [] (map (filled hash) ss) no_more;
      counted = omega (arith, all, length-map ss (filled hash));
      none_open = all_take (λ (s : Segment). is_open s ≡ false) count (map (filled hash) ss) no_more;
    })
    )

-- only the segments after those that are not open were written
pub closed_segments : (settings : LimitSettings) (leaves : List (List ℕ × ℕ)) (ss now part : List Segment) (block : List Chunk) (guard : Fragmentation) (closed n : ℕ) (hash : List ℕ)
    → IsKept settings leaves ss block guard closed → now ≡ ss → length now ≡ n → part ≡ map (filled hash) (take (length now - closed) (drop closed now))
    → take n (put_mid closed (length now - closed) now part ++ drop (length (put_mid closed (length now - closed) now part)) ss) ≡ map (filled hash) ss
closed_segments settings leaves ss now part block guard closed n hash kept same len is =
    (λ i. take (sym len i) (put (same i) (parts i) ++ drop (length (put (same i) (parts i))) ss))
    ∙ (λ i. take (ap length same i) (whole i ++ drop (length (whole i)) ss))
    ∙ ap (λ (us : List Segment). take (length ss) (map (filled hash) ss ++ us)) (drop_all (length (map (filled hash) ss)) ss (omega (arith, length-map ss (filled hash))))
    ∙ ap (take (length ss)) (append-nil (map (filled hash) ss))
    ∙ take_all (length ss) (map (filled hash) ss) (omega (arith, length-map ss (filled hash)))
  where
    put : List Segment → List Segment → List Segment
    put us ps = put_mid closed (length us - closed) us ps

    parts : part ≡ map (filled hash) (drop closed ss)
    parts = is ∙ ap (map (filled hash)) (ap (λ (us : List Segment). take (length us - closed) (drop closed us)) same ∙ take_rest ss closed)

    rest : post_of closed (length ss - closed) ss ≡ []
    rest = drop_all (length ss - closed) (drop closed ss) (omega (arith, length-drop closed ss))

    whole : put ss (map (filled hash) (drop closed ss)) ≡ map (filled hash) ss
    whole =
        (λ i. sym (filled_none hash (take closed ss) kept.none_open) i ++ (map (filled hash) (drop closed ss) ++ rest i))
        ∙ ap (λ (us : List Segment). map (filled hash) (take closed ss) ++ us) (append-nil (map (filled hash) (drop closed ss)))
        ∙ sym (map-append (filled hash) (take closed ss) (drop closed ss))
        ∙ ap (map (filled hash)) (take-append-drop closed ss)
