-- What a step leaves of a holder: it only grew, by few entries.
use Rattle.std.proofs.Common.{◌≡◌, ◌≢◌, ◌∙◌, ◌⊎◌, inl, inr, ℕ, ◌+◌, ◌≤◌, Bool, true, false, List, [], ◌∷◌, ◌++◌, length, refl, sym, ap, length-append, if◌then◌else◌, arith}
use Rattle.xet_hash.specs.Merkle.{xorb_hash}
use Rattle.xet_hash.specs.declared.error.Place.TheVariants.{Disk}
use Rattle.xet_hash.specs.declared.error.StoreError.{StoreError}
use Rattle.xet_hash.specs.declared.error.StoreError.TheVariants.{Io}
use Rattle.xet_history.specs.Core.{Core, has_pending, is_cut_due, is_new, pending_hash}
use Rattle.xet_history.specs.History.{complete_cut, complete_entries, cut_entries, register_cut, register_entries}
use Rattle.xet_history.specs.declared.entry.Entry.{Entry}
use Rattle.xet_history.specs.declared.entry.Entry.TheVariants.{Complete, Flush, Register}
use Rattle.xet_history.specs.declared.entry.StepKind.{StepKind}
use Rattle.xet_history.specs.theorems.Entries.{due_has_pending}
use Rattle.xet_shard_format.specs.RecordSizes.{file_record_size, xorb_record_size}
use Rattle.xet_shard_format.specs.Records.{file_record_hash}
use Rattle.xet_shard_format.specs.declared.record.MDBFileInfo.{MDBFileInfo}
use Rattle.xet_store.specs.Steps.{fault_entries}
use Rattle.xet_store.specs.Holders.{Holder, core_found, ended, grown, numbered, seen}
use Rattle.xet_store.specs.Stepping.{SawComplete, SawError, SawOther, SawRegister}
use Rattle.xet_store.specs.theorems.Following.{follows_nothing, follows_then, length-numbered}
use Rattle.xet_xorb.specs.Raw.{xorb_record}
use Rattle.xet_clean.specs.Closing.{IsAtMost}

-- ---- numbers of entries

pub cut_count : (pass : ℕ) (c : Core) (target bytes : ℕ) → length (cut_entries pass c target bytes) ≤ 1
cut_count pass c target bytes = go (is_cut_due c target bytes)
  where
    go : (b : Bool) → length (if b then Flush pass (pending_hash c) ∷ [] else []) ≤ 1
    go true = omega arith
    go false = omega arith

-- what is cut was pending
pub cut_pending : (pass : ℕ) (c : Core) (target bytes : ℕ) → cut_entries pass c target bytes ≢ [] → has_pending c ≡ true
cut_pending pass c target bytes = go (is_cut_due c target bytes) refl
  where
    go : (b : Bool) → is_cut_due c target bytes ≡ b → (if b then Flush pass (pending_hash c) ∷ [] else []) ≢ [] → has_pending c ≡ true
    go true due some = due_has_pending c target bytes due
    go false due some = absurd (some refl)

-- nor is more cut where none is due, since the hash is known
known_count : (b : Bool) (cut : List Entry) → length cut ≤ 1 → length (if b then cut else []) ≤ 1
known_count true cut few = few
known_count false cut few = omega arith

known_some : (b : Bool) (cut : List Entry) → (if b then cut else []) ≢ [] → cut ≢ []
known_some true cut some = some
known_some false cut some = absurd (some refl)

pub register_cut_count : (pass : ℕ) (c : Core) (target : ℕ) (leaves : List (List ℕ × ℕ)) → length (register_cut pass c target leaves) ≤ 1
register_cut_count pass c target leaves =
    let bytes : ℕ = xorb_record_size (xorb_record (xorb_hash leaves) leaves) in
    known_count (is_new c.xorbs (xorb_hash leaves)) (cut_entries pass c target bytes) (cut_count pass c target bytes)

pub register_cut_pending : (pass : ℕ) (c : Core) (target : ℕ) (leaves : List (List ℕ × ℕ)) → register_cut pass c target leaves ≢ [] → has_pending c ≡ true
register_cut_pending pass c target leaves some =
    let bytes : ℕ = xorb_record_size (xorb_record (xorb_hash leaves) leaves) in
    cut_pending pass c target bytes (known_some (is_new c.xorbs (xorb_hash leaves)) (cut_entries pass c target bytes) some)

pub complete_cut_count : (pass : ℕ) (c : Core) (target : ℕ) (file : MDBFileInfo) → length (complete_cut pass c target file) ≤ 1
complete_cut_count pass c target file =
    known_count (is_new c.records (file_record_hash file)) (cut_entries pass c target (file_record_size file)) (cut_count pass c target (file_record_size file))

pub complete_cut_pending : (pass : ℕ) (c : Core) (target : ℕ) (file : MDBFileInfo) → complete_cut pass c target file ≢ [] → has_pending c ≡ true
complete_cut_pending pass c target file some =
    cut_pending pass c target (file_record_size file) (known_some (is_new c.records (file_record_hash file)) (cut_entries pass c target (file_record_size file)) some)

pub register_count : (pass : ℕ) (c : Core) (target : ℕ) (leaves next : List (List ℕ × ℕ)) → length (register_entries pass c target leaves next) ≤ 2
register_count pass c target leaves next = go (is_new c.xorbs (xorb_hash leaves))
  where
    bytes : ℕ
    bytes = xorb_record_size (xorb_record (xorb_hash leaves) leaves)

    go : (b : Bool) → length (if b then cut_entries pass c target (xorb_record_size (xorb_record (xorb_hash leaves) leaves)) ++ Register pass leaves next true ∷ [] else Register pass leaves next false ∷ []) ≤ 2
    go true = omega (arith, length-append (cut_entries pass c target (xorb_record_size (xorb_record (xorb_hash leaves) leaves))) (Register pass leaves next true ∷ []), cut_count pass c target (xorb_record_size (xorb_record (xorb_hash leaves) leaves)))
    go false = omega arith

pub complete_count : (pass : ℕ) (c : Core) (target : ℕ) (file : MDBFileInfo) → length (complete_entries pass c target file) ≤ 2
complete_count pass c target file = go (is_new c.records (file_record_hash file))
  where
    go : (b : Bool) → length (if b then cut_entries pass c target (file_record_size file) ++ Complete pass file true ∷ [] else Complete pass file false ∷ []) ≤ 2
    go true = omega (arith, length-append (cut_entries pass c target (file_record_size file)) (Complete pass file true ∷ []), cut_count pass c target (file_record_size file))
    go false = omega arith

fault_count : (pass : ℕ) (kind : StepKind) (e : StoreError) → length (fault_entries pass kind e) ≤ 1
fault_count pass kind (Io Disk) = omega arith
fault_count pass kind e = omega arith

-- ---- steps

module _ (old new : Holder) (others added : List Entry) where
  abbrev first : ℕ
  first = length (seen old) + length others

  abbrev with_stopped : Holder → Holder
  with_stopped h = record old { since = old.since ++ (others ++ added); own = old.own ++ numbered (length (seen old) + length others) added; stopped = h.stopped }

  pub grown_at_most : (most : ℕ) → new ≡ grown old others added → length added ≤ most → IsAtMost most old new
  grown_at_most most is few = record {
    follows = record { since = others ++ added; own = numbered (length (seen old) + length others) added; is = is ∙ ap with_stopped (sym is) };
    few = omega (arith, few, length-numbered (length (seen old) + length others) added);
  }

  pub ended_at_most : (most : ℕ) → new ≡ ended old others added → length added ≤ most → IsAtMost most old new
  ended_at_most most is few = record {
    follows = record { since = others ++ added; own = numbered (length (seen old) + length others) added; is = is ∙ ap with_stopped (sym is) };
    few = omega (arith, few, length-numbered (length (seen old) + length others) added);
  }

pub registered_at_most : (leaves next : List (List ℕ × ℕ)) (old new : Holder) (added : Bool) → SawRegister leaves next old new added → IsAtMost 2 old new
registered_at_most leaves next old new added saw =
    let c : Core = core_found old saw.others in
    grown_at_most old new saw.others (register_entries old.number c old.limits.shard_target leaves next) 2 saw.is (register_count old.number c old.limits.shard_target leaves next)

pub completed_at_most : (file : MDBFileInfo) (old new : Holder) (added : Bool) → SawComplete file old new added → IsAtMost 2 old new
completed_at_most file old new added saw =
    let c : Core = core_found old saw.others in
    grown_at_most old new saw.others (complete_entries old.number c old.limits.shard_target file) 2 saw.is (complete_count old.number c old.limits.shard_target file)

pub other_at_most : (file : MDBFileInfo) (old new : Holder) (e : StoreError) → SawOther file old new e → IsAtMost 2 old new
other_at_most file old new e saw = ended_at_most old new saw.others [] 2 saw.is (omega arith)

pub error_at_most : (kind : StepKind) (cut : Core → List Entry) (old new : Holder) (e : StoreError) → ((c : Core) → length (cut c) ≤ 1) → SawError kind cut old new e → IsAtMost 2 old new
error_at_most kind cut old new e few saw =
    ended_at_most old new saw.others (saw.done ++ fault_entries old.number kind e) 2 saw.is
    (omega (arith, length-append saw.done (fault_entries old.number kind e), fault_count old.number kind e, done_count saw.completed))
  where
    done_count : (saw.done ≡ []) ⊎ (saw.done ≡ cut (core_found old saw.others)) → length saw.done ≤ 1
    done_count (inl none) = omega (arith, ap length none)
    done_count (inr is) = omega (arith, ap length is, few (core_found old saw.others))

-- ---- several

pub at_most_nothing : (h : Holder) → IsAtMost 0 h h
unfolding follows_nothing
at_most_nothing h = record { follows = follows_nothing h; few = omega arith }

pub at_most_then : (m n : ℕ) (a b c : Holder) → IsAtMost m a b → IsAtMost n b c → IsAtMost (m + n) a c
unfolding follows_then
at_most_then m n a b c x y = record {
  follows = follows_then a b c x.follows y.follows;
  few = omega (arith, length-append x.follows.own y.follows.own, x.few, y.few);
}

pub at_most_more : (m n : ℕ) (a b : Holder) → m ≤ n → IsAtMost m a b → IsAtMost n a b
at_most_more m n a b le x = record { follows = x.follows; few = omega (arith, x.few, le) }
