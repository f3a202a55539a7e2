-- Histories that follow one another, and prefixes of them.
use Rattle.std.proofs.Common.{◌≡◌, ◌∙◌, Bool, List, [], ◌∷◌, ◌++◌, refl, sym, ap, subst, append_assoc}
use Rattle.std.proofs.lemmas.List.{append-nil}
use mathlib.Core.List.{IsPrefix}
use Rattle.xet_history.specs.Core.{Core}
use Rattle.xet_history.specs.History.{IsRight, Legal, Moves, Replays, after, after_all}
use Rattle.xet_history.specs.declared.entry.Entry.{Entry}

pub after_all-append : (c : Core) (xs ys : List Entry) → after_all c (xs ++ ys) ≡ after_all (after_all c xs) ys
after_all-append c [] ys = refl
after_all-append c (e ∷ es) ys = after_all-append (after c e) es ys

module _ (tells : Bool) where
  pub legal_both : (c : Core) (xs ys : List Entry) → Legal tells c xs → Legal tells (after_all c xs) ys → Legal tells c (xs ++ ys)
  legal_both c [] ys first second = second
  legal_both c (e ∷ es) ys first second = (first.0, legal_both (after c e) es ys first.1 second)

  pub legal_front : (c : Core) (xs ys : List Entry) → Legal tells c (xs ++ ys) → Legal tells c xs
  legal_front c [] ys legal = tt
  legal_front c (e ∷ es) ys legal = (legal.0, legal_front (after c e) es ys legal.1)

  pub legal_prefix : (c : Core) (xs ys : List Entry) → IsPrefix xs ys → Legal tells c ys → Legal tells c xs
  legal_prefix c xs ys prefix legal = legal_front c xs prefix.0 (subst (λ (es : List Entry). Legal tells c es) (sym prefix.1) legal)

  -- ---- moves

  pub moves_nothing : (c : Core) (history : List Entry) → Moves tells c c history history []
  moves_nothing c history = record { history = sym (append-nil history); legal = tt; leads = refl }

  pub moves_one : (c : Core) (history : List Entry) (e : Entry) → IsRight tells c e → Moves tells c (after c e) history (history ++ e ∷ []) (e ∷ [])
  moves_one c history e right = record { history = refl; legal = (right, tt); leads = refl }

  pub moves_both : (a b c : Core) (first second third xs ys : List Entry) → Moves tells a b first second xs → Moves tells b c second third ys → Moves tells a c first third (xs ++ ys)
  moves_both a b c first second third xs ys m n = record {
    history = n.history ∙ ap (λ (es : List Entry). es ++ ys) m.history ∙ append_assoc first xs ys;
    legal = legal_both a xs ys m.legal (subst (λ (d : Core). Legal tells d ys) m.leads n.legal);
    leads = n.leads ∙ ap (λ (d : Core). after_all d ys) m.leads ∙ sym (after_all-append a xs ys);
  }

  -- ---- replays

  pub replays_nothing : (c : Core) → Replays tells c []
  replays_nothing c = record { start = c; legal = tt; leads = refl }

  pub replays_more : (c d : Core) (old new added : List Entry) → Replays tells c old → Moves tells c d old new added → Replays tells d new
  replays_more c d old new added r m = record {
    start = r.start;
    legal = subst (λ (es : List Entry). Legal tells r.start es) (sym m.history) (legal_both r.start old added r.legal (subst (λ (x : Core). Legal tells x added) r.leads m.legal));
    leads = m.leads
        ∙ ap (λ (x : Core). after_all x added) r.leads
        ∙ sym (after_all-append r.start old added)
        ∙ ap (λ (es : List Entry). after_all r.start es) (sym m.history);
  }
