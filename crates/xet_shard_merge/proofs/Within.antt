-- The groups so far took only shards that went before.
use Rattle.std.proofs.Common.{◌≡◌, ◌∙◌, ◌⊎◌, inl, inr, ℕ, Bool, false, List, [], ◌∷◌, ◌++◌, None, Option, Some, refl, sym, subst, append_assoc}
use Rattle.std.proofs.lemmas.List.Elements.{All-append, All-cons, All-nil}
use Rattle.std.specs.List.{All, IsAmong}
use Rattle.std.specs.Prelude.{IsOk}
use Rattle.xet_shard.specs.Union.{ShardRecords}
use Rattle.xet_shard_directory.specs.declared.shard_file.MDBShardFile.{MDBShardFile}
use Rattle.xet_shard_merge.specs.Groups.{AreTakenFrom, Group, IsOffered, Offered, alone, if_open, joined}
use Rattle.xet_shard_merge.specs.internal.Progressing.{Passed}
use Rattle.xet_shard_merge.proofs.Among.{among_either, among_first, among_left, among_none, among_one, among_right}

pub none_taken : (os : List Offered) → AreTakenFrom os []
none_taken os g a s b = absurd (among_none g a)

pub taken_both : (os : List Offered) (gs hs : List Group) → AreTakenFrom os gs → AreTakenFrom os hs → AreTakenFrom os (gs ++ hs)
taken_both os gs hs first then g a s b = by (among_either gs hs g a)
  where
    by : IsAmong gs g ⊎ IsAmong hs g → IsOffered os s
    by (inl one) = first g one s b
    by (inr other) = then g other s b

module _ (before : List Offered) (o : Offered) where
  abbrev IsRead : Offered → Type 0
  IsRead x = IsOk x.records

  read_more : All IsRead before → IsOk o.records → All IsRead (before ++ o ∷ [])
  read_more all one = All-append IsRead before (o ∷ []) all (All-cons IsRead o [] one (All-nil IsRead))

  offered_more : (s : MDBShardFile) → IsOffered before s → IsOffered (before ++ o ∷ []) s
  offered_more s is = (is.0, among_left before (o ∷ []) is.0 is.1, is.2)

  this_offered : (s : MDBShardFile) → IsAmong (o.file ∷ []) s → IsOffered (before ++ o ∷ []) s
  this_offered s a = (o, among_right before (o ∷ []) o (among_first o []), among_one o.file s a)

  taken_more : (gs : List Group) → AreTakenFrom before gs → AreTakenFrom (before ++ o ∷ []) gs
  taken_more gs is g a s b = offered_more s (is g a s b)

  alone_taken : (n : ℕ) (records : ShardRecords) → AreTakenFrom (before ++ o ∷ []) (alone o.file n records ∷ [])
  alone_taken n records g a s b = this_offered s (subst (λ (x : Group). IsAmong x.taken s) (among_one (alone o.file n records) g a) b)

  joined_taken : (h : Group) (records : ShardRecords) → AreTakenFrom before (h ∷ []) → AreTakenFrom (before ++ o ∷ []) (joined h o.file records ∷ [])
  joined_taken h records is g a s b =
      by (among_either h.taken (o.file ∷ []) s (subst (λ (x : Group). IsAmong x.taken s) (among_one (joined h o.file records) g a) b))
    where
      by : IsAmong h.taken s ⊎ IsAmong (o.file ∷ []) s → IsOffered (before ++ o ∷ []) s
      by (inl old) = offered_more s (is h (among_first h []) s old)
      by (inr new) = this_offered s new

module _ (skip : Bool) (all : List Offered) (o : Offered) (rest : List Offered) (ok : skip ≡ false → IsOk o.records) (closed : List Group) (current : Option Group)
    (w : Passed skip all (o ∷ rest) closed current) where
  next_parts : all ≡ (w.before ++ o ∷ []) ++ rest
  next_parts = w.parts ∙ sym (append_assoc w.before (o ∷ []) rest)

  -- with this group open then
  passed_next : (next : Option Group) → AreTakenFrom (w.before ++ o ∷ []) (if_open next) → Passed skip all rest closed next
  passed_next next is = record {
    before = w.before ++ o ∷ [];
    parts = next_parts;
    strict = λ e. read_more w.before o (w.strict e) (ok e);
    inside = taken_more w.before o closed w.inside;
    opened = is;
  }

  pub passed_skip : (next : Option Group) → next ≡ current → Passed skip all rest closed next
  passed_skip next same = passed_next next (taken_more w.before o (if_open next) (subst (λ (c : Option Group). AreTakenFrom w.before (if_open c)) (sym same) w.opened))

  pub passed_enter : (h : Group) (records : ShardRecords) (next : Option Group) → current ≡ Some h → next ≡ Some (joined h o.file records) → Passed skip all rest closed next
  passed_enter h records next was is =
      passed_next next (subst (λ (c : Option Group). AreTakenFrom (w.before ++ o ∷ []) (if_open c)) (sym is)
      (joined_taken w.before o h records (subst (λ (c : Option Group). AreTakenFrom w.before (if_open c)) was w.opened)))

  pub passed_start : (n : ℕ) (records : ShardRecords) (next : Option Group) → next ≡ Some (alone o.file n records) → Passed skip all rest closed next
  passed_start n records next is = passed_next next (subst (λ (c : Option Group). AreTakenFrom (w.before ++ o ∷ []) (if_open c)) (sym is) (alone_taken w.before o n records))

-- The open group is closed.
module _ (skip : Bool) (all rest : List Offered) (closed : List Group) (current : Option Group) (w : Passed skip all rest closed current) (g : Group) (is : current ≡ Some g) where
  pub closed_taken_from : AreTakenFrom w.before (closed ++ g ∷ [])
  closed_taken_from = taken_both w.before closed (g ∷ []) w.inside (subst (λ (c : Option Group). AreTakenFrom w.before (if_open c)) is w.opened)

  pub passed_close : Passed skip all rest (closed ++ g ∷ []) None
  passed_close = record { before = w.before; parts = w.parts; strict = w.strict; inside = closed_taken_from; opened = none_taken w.before }

pub passed_none : (skip : Bool) (all : List Offered) (current : Option Group) → current ≡ None → Passed skip all all [] current
passed_none skip all current is = record {
  before = [];
  parts = refl;
  strict = λ e. All-nil (λ (o : Offered). IsOk o.records);
  inside = none_taken [];
  opened = subst (λ (c : Option Group). AreTakenFrom [] (if_open c)) (sym is) (none_taken []);
}
