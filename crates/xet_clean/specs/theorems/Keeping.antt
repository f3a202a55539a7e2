-- What is listed and what stands stays when a holder goes on, or another has seen as much; so do records that wait.
use Rattle.std.proofs.Common.{◌≡◌, ◌∙◌, inl, inr, ℕ, List, [], ◌∷◌, ◌++◌, map, Option, Some, None, option_map, refl, sym, ap, subst, append-nil, append_assoc, arith}
use Rattle.std.proofs.lemmas.List.{append_cancel_left}
use Rattle.std.specs.Prelude.{Any}
use Rattle.std.proofs.lemmas.List.Elements.{Contains-append_left, Contains-append_right}
use Rattle.xet_choices.specs.Choices.{hashes_of}
use Rattle.xet_file_plan.specs.Placed.{ArePlaced}
use Rattle.xet_file_plan.specs.theorems.Placed.{placed_stays}
use Rattle.xet_file_plan.specs.theorems.Runs.{hashes_known}
use Rattle.xet_folder.specs.Xorbs.{IsListed, found}
use Rattle.xet_history.specs.Core.{Core, RegisteredShard}
use Rattle.xet_history.specs.Found.{key_of}
use Rattle.xet_history.specs.History.{after_all}
use Rattle.xet_history.specs.Sound.{IsKey, IsStanding}
use Rattle.xet_history.specs.declared.entry.Entry.{Entry}
use Rattle.xet_history.specs.theorems.Joining.{after_all-append}
use Rattle.xet_history.specs.theorems.Staying.{listed_after_all, shards_after_all}
use Rattle.xet_shard_format.specs.declared.record.FileDataSequenceEntry.{FileDataSequenceEntry as Segment}
use Rattle.xet_shard_format.specs.declared.record.MDBFileInfo.{MDBFileInfo}
use Rattle.xet_xorb_chunk.specs.declared.chunk.Chunk.{Chunk}
use Rattle.xet_store.specs.Interface.{Stands}
use Rattle.xet_store.specs.Holders.{Follows, Holder, core_at, lengths_in}
use Rattle.xet_store.specs.theorems.Following.{follows_then}
use Rattle.xet_clean.specs.Merging.{HasSeen}
use Rattle.xet_clean.specs.Working.{IsRecordOf, Planned, Waits, WasPlanned}

abbrev Leaves : Type 0
Leaves = List (List ℕ × ℕ)

-- ---- one of several

pub any_more : {X : Type 0} (P Q : X → Type 0) (xs : List X) → ((x : X) → P x → Q x) → Any P xs → Any Q xs
any_more P Q xs f a = (a.0, a.1, a.2, a.3, f a.1 a.4)

pub any_left : {X : Type 0} (P : X → Type 0) (xs ys : List X) → Any P xs → Any P (xs ++ ys)
any_left P xs ys a = let at = Contains-append_left xs ys a.1 (a.0, a.2, a.3) in (at.0, a.1, at.1, at.2, a.4)

pub any_right : {X : Type 0} (P : X → Type 0) (xs ys : List X) → Any P ys → Any P (xs ++ ys)
any_right P xs ys a = let at = Contains-append_right xs ys a.1 (a.0, a.2, a.3) in (at.0, a.1, at.1, at.2, a.4)

pub any_last : {X : Type 0} (P : X → Type 0) (xs : List X) (x : X) → P x → Any P (xs ++ x ∷ [])
any_last P xs x p = any_right P xs (x ∷ []) (0, x, omega arith, refl, p)

-- ---- a holder that goes on

pub limits_follow : (a b : Holder) → Follows a b → b.limits ≡ a.limits
limits_follow a b f = ap (λ (h : Holder). h.limits) f.is

pub own_follows : (a b : Holder) (f : Follows a b) → b.own ≡ a.own ++ f.own
own_follows a b f = ap (λ (h : Holder). h.own) f.is

-- two ways to see what it added
pub own_same : (a b : Holder) (f g : Follows a b) → f.own ≡ g.own
own_same a b f g = append_cancel_left a.own f.own g.own (sym (own_follows a b f) ∙ own_follows a b g)

pub own_nothing : (a : Holder) (f : Follows a a) → f.own ≡ []
own_nothing a f = append_cancel_left a.own f.own [] (sym (own_follows a a f) ∙ sym (append-nil a.own))

pub own_then : (a b c : Holder) (f : Follows a b) (g : Follows b c) (h : Follows a c) → h.own ≡ f.own ++ g.own
own_then a b c f g h =
    append_cancel_left a.own h.own (f.own ++ g.own)
    (sym (own_follows a c h) ∙ own_follows b c g ∙ ap (λ (l : List (ℕ × Entry)). l ++ g.own) (own_follows a b f) ∙ append_assoc a.own f.own g.own)

-- it has seen what it had seen before
pub seen_follows : (a b : Holder) → Follows a b → HasSeen a b
seen_follows a b f = record {
  more = f.since;
  tells = ap (λ (h : Holder). h.tells) f.is;
  limits = limits_follow a b f;
  core = ap core_at f.is ∙ after_all-append a.base a.since f.since;
}

pub seen_then : (a b c : Holder) → HasSeen a b → HasSeen b c → HasSeen a c
seen_then a b c x y = record {
  more = x.more ++ y.more;
  tells = y.tells ∙ x.tells;
  limits = y.limits ∙ x.limits;
  core = y.core ∙ ap (λ (k : Core). after_all k y.more) x.core ∙ sym (after_all-append (core_at a) x.more y.more);
}

pub was_planned_follows : (a b : Holder) → Follows a b → (start : Holder) (p : Planned) → WasPlanned start a p → WasPlanned start b p
was_planned_follows a b f start p w = record { first = w.first; last = w.last; planned = w.planned; from = w.from; to = follows_then w.last a b w.to f }

-- ---- a holder that has seen what another has

module _ (a b : Holder) (seen : HasSeen a b) where
  pub listed_seen : (h : List ℕ) (leaves : Leaves) → IsListed (core_at a).xorbs h leaves → IsListed (core_at b).xorbs h leaves
  listed_seen h leaves is = subst (λ (c : Core). IsListed c.xorbs h leaves) (sym seen.core) (listed_after_all (core_at a) seen.more h leaves is)

  pub lengths_seen : (h lengths : List ℕ) → lengths_in (core_at a) h ≡ Some lengths → lengths_in (core_at b) h ≡ Some lengths
  lengths_seen h lengths is = go (found (core_at a).xorbs h) refl is
    where
      go : (o : Option Leaves) → found (core_at a).xorbs h ≡ o → option_map (λ (leaves : Leaves). map (λ m. m.1) leaves) o ≡ Some lengths → lengths_in (core_at b) h ≡ Some lengths
      go None at e = absurd (cc e)
      go (Some leaves) at e = ap (λ (o : Option Leaves). option_map (λ (ls : Leaves). map (λ m. m.1) ls) o) (listed_seen h leaves at) ∙ e

  key_seen : (key : List ℕ) → IsKey (core_at a) key → IsKey (core_at b) key
  key_seen key (inl zero) = inl zero
  key_seen key (inr any) =
      let more = shards_after_all (core_at a) seen.more in
      let at = Contains-append_left (core_at a).shards more.0 any.1 (any.0, any.2, any.3) in
      inr (subst (λ (ss : List RegisteredShard). Any (λ s. key_of s ≡ key) ss) (more.1 ∙ ap (λ (c : Core). c.shards) (sym seen.core)) (at.0, any.1, at.1, at.2, any.4))

  pub standing_seen : (hashes : List (List ℕ)) (run : Segment) → IsStanding (core_at a) hashes run → IsStanding (core_at b) hashes run
  standing_seen hashes run s = record { leaves = s.leaves; listed = listed_seen run.xorb_hash s.leaves s.listed; key = s.key; is_key = key_seen s.key s.is_key; same = s.same }

  stands_seen : (hashes : List (List ℕ)) (run : Segment) → Stands a hashes run → Stands b hashes run
  stands_seen hashes run stands told = standing_seen hashes run (stands (sym seen.tells ∙ told))

  -- what is placed stays placed
  placed_seen : (chunks : List Chunk) (ss : List Segment) (hashes : List (List ℕ)) → ArePlaced (lengths_in (core_at a)) (Stands a) chunks ss hashes → ArePlaced (lengths_in (core_at b)) (Stands b) chunks ss hashes
  placed_seen chunks =
      placed_stays (lengths_in (core_at a)) (lengths_in (core_at b)) (Stands a) (Stands b) chunks chunks
      (λ s hashes pos h. hashes_known (lengths_in (core_at a)) (lengths_in (core_at b)) (Stands a) (Stands b) lengths_seen stands_seen chunks s hashes h)

  pub waits_seen : (chunks : List Chunk) (files : List Planned) (file : MDBFileInfo) → Waits a chunks files file → Waits b chunks files file
  waits_seen chunks files file =
      any_more (λ (p : Planned). IsRecordOf p file × ArePlaced (lengths_in (core_at a)) (Stands a) chunks file.segments (hashes_of p.plan.leaves))
      (λ (p : Planned). IsRecordOf p file × ArePlaced (lengths_in (core_at b)) (Stands b) chunks file.segments (hashes_of p.plan.leaves)) files
      (λ p w. (w.0, placed_seen chunks file.segments (hashes_of p.plan.leaves) w.1))
