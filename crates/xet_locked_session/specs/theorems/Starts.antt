-- Passes of one session that make steps: of two states of which one follows the other, both began as the same pass.
use Rattle.std.proofs.Common.{◌≡◌, ◌∙◌, ℕ, Bool, false, List, [], refl, sym, ap, subst}
use Rattle.std.proofs.lemmas.List.{append_cancel_left}
use Rattle.xet_history.specs.declared.entry.Entry.{Entry}
use Rattle.xet_locked_session.specs.Passes.{IsPassOf}
use Rattle.xet_locked_session.specs.Passing.{passing_of}
use Rattle.xet_store.specs.Holders.{Follows, Holder}
use Rattle.xet_store.specs.Recorded.{RecordedState, core_of}

-- a pass of a session of this store
abbrev pass_by : RecordedState → ℕ → List Entry → List (ℕ × Entry) → Holder
pass_by store number since own = record {
  origin = store;
  tells = store.store.tells;
  limits = store.store.limits;
  number = number;
  before = store.history;
  base = core_of store;
  since = since;
  own = own;
  earlier = [];
  stopped = false;
}

by_parts : (store : RecordedState) (h : Holder) → IsPassOf store h → h ≡ pass_by store h.number h.since h.own
by_parts store h of = subst (λ (x : Holder). x ≡ pass_by store x.number x.since x.own) (sym of.is) refl

same_parts : (store : RecordedState) (n m : ℕ) (s t : List Entry) (o p : List (ℕ × Entry)) (x y : Holder) (i j : Bool)
    → Follows (passing_of (pass_by store n s o) x i) (passing_of (pass_by store m t p) y j) → pass_by store m t p ≡ pass_by store n s o
same_parts store n m s t o p x y i j f =
    let number : m ≡ n = ap (λ (h : Holder). h.number) f.is in
    let since : t ≡ s = append_cancel_left store.history t s (ap (λ (h : Holder). h.before) f.is) in
    let own : p ≡ o = ap (λ (h : Holder). h.earlier) f.is in
    ap (λ (k : ℕ). pass_by store k t p) number ∙ ap (λ (es : List Entry). pass_by store n es p) since ∙ ap (λ (ps : List (ℕ × Entry)). pass_by store n s ps) own

pub same_start : (store : RecordedState) (a b x y : Holder) (i j : Bool) → IsPassOf store a → IsPassOf store b → Follows (passing_of a x i) (passing_of b y j) → b ≡ a
same_start store a b x y i j of_a of_b f =
    let g = subst (λ (h : Holder). Follows (passing_of h x i) (passing_of (pass_by store b.number b.since b.own) y j)) (by_parts store a of_a)
    (subst (λ (h : Holder). Follows (passing_of a x i) (passing_of h y j)) (by_parts store b of_b) f) in
    by_parts store b of_b ∙ same_parts store a.number b.number a.since b.since a.own b.own x y i j g ∙ sym (by_parts store a of_a)
