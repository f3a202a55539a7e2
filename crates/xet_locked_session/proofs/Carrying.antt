-- What a pass has seen since it began, and what it has seen before and after a call.
use Rattle.std.proofs.Common.{◌≡◌, ◌∙◌, ℕ, ◌+◌, Bool, List, ◌++◌, drop, length, refl, sym, ap, subst, append_assoc}
use Rattle.std.proofs.lemmas.List.{drop_at}
use Rattle.xet_history.specs.History.{after_all}
use Rattle.xet_history.specs.declared.entry.Entry.{Entry}
use Rattle.xet_history.specs.theorems.Joining.{after_all-append}
use Rattle.xet_store.specs.Holders.{Follows, Holder, core_at, core_found, grown, numbered, seen}
use Rattle.xet_store.specs.theorems.Following.{follows_then}
use Rattle.xet_locked_session.specs.Passing.{passing_of}
use Rattle.xet_locked_session.proofs.Fronts.{drop_longer}

-- a pass that has seen these entries and added those since it began
abbrev pub later : Holder → List Entry → List (ℕ × Entry) → Bool → Holder
later start since own stopped = record start { since = start.since ++ since; own = start.own ++ own; stopped = stopped }

module _ (start : Holder) (since : List Entry) (own : List (ℕ × Entry)) (was b : Bool) where
  abbrev now : Holder
  now = later start since own was

  abbrev here : Holder
  here = passing_of start now b

  since_is : here.since ≡ since
  since_is = drop_at start.since since (length start.since) refl

  pub seen_here : seen here ≡ seen now
  seen_here = ap (λ (es : List Entry). seen start ++ es) since_is ∙ append_assoc start.before start.since since

  found_here : (others : List Entry) → core_found here others ≡ core_found now others
  found_here others =
      ap (λ (es : List Entry). after_all (core_at start) (es ++ others)) since_is
      ∙ sym (after_all-append start.base start.since (since ++ others))
      ∙ ap (after_all start.base) (sym (append_assoc start.since since others))

  core_here : core_at here ≡ core_at now
  core_here = ap (after_all (core_at start)) since_is ∙ sym (after_all-append start.base start.since since)

  grown_here : (others added : List Entry) → passing_of start (grown now others added) b ≡ grown here others added
  grown_here others added =
      let entries : ℕ → List (ℕ × Entry) = λ n. numbered (n + length others) added in
      ap (λ (es : List Entry). record here { since = es; own = drop (length start.own) ((start.own ++ own) ++ entries (length (seen now))) }) (drop_longer start.since since (others ++ added))
      ∙ ap (λ (ps : List (ℕ × Entry)). record here { since = here.since ++ (others ++ added); own = ps }) (drop_longer start.own own (entries (length (seen now))))
      ∙ ap (λ (h : List Entry). record here { since = here.since ++ (others ++ added); own = here.own ++ entries (length h) }) (sym seen_here)

module _ (start old : Holder) (follows : Follows start old) (b : Bool) where
  pub seen_same : seen (passing_of start old b) ≡ seen old
  seen_same = subst (λ (h : Holder). seen (passing_of start h b) ≡ seen h) (sym follows.is) (seen_here start follows.since follows.own old.stopped b)

  pub core_same : core_at (passing_of start old b) ≡ core_at old
  core_same = subst (λ (h : Holder). core_at (passing_of start h b) ≡ core_at h) (sym follows.is) (core_here start follows.since follows.own old.stopped b)

  pub found_same : (others : List Entry) → core_found (passing_of start old b) others ≡ core_found old others
  found_same others = subst (λ (h : Holder). core_found (passing_of start h b) others ≡ core_found h others) (sym follows.is) (found_here start follows.since follows.own old.stopped b others)

  pub grown_same : (others added : List Entry) → passing_of start (grown old others added) b ≡ grown (passing_of start old b) others added
  grown_same others added =
      subst (λ (h : Holder). passing_of start (grown h others added) b ≡ grown (passing_of start h b) others added) (sym follows.is) (grown_here start follows.since follows.own old.stopped b others added)

module _ (start old : Holder) (follows : Follows start old) where
  pub number_same : old.number ≡ start.number
  number_same = ap (λ (h : Holder). h.number) follows.is

  pub tells_same : old.tells ≡ start.tells
  tells_same = ap (λ (h : Holder). h.tells) follows.is

  pub limits_same : old.limits ≡ start.limits
  limits_same = ap (λ (h : Holder). h.limits) follows.is

  -- after a call
  module _ (new : Holder) (others added : List Entry) (grew : new ≡ grown old others added) where
    follows_call : Follows old new
    follows_call = record {
      since = others ++ added;
      own = numbered (length (seen old) + length others) added;
      is = grew ∙ ap (λ (s : Bool). record (grown old others added) { stopped = s }) (sym (ap (λ (h : Holder). h.stopped) grew));
    }

    pub follows_new : Follows start new
    follows_new = follows_then start old new follows follows_call

    pub still_new : new.stopped ≡ old.stopped
    still_new = ap (λ (h : Holder). h.stopped) grew

    pub grown_is : (b : Bool) → passing_of start new b ≡ grown (passing_of start old b) others added
    grown_is b = ap (λ (h : Holder). passing_of start h b) grew ∙ grown_same start old follows b others added
