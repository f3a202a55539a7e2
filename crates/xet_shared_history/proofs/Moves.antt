-- Each step keeps the rule: there is one history, and each seat has seen a prefix of it.
use Rattle.std.proofs.Common.{◌≡◌, ◌≢◌, ⊎_elim, ℕ, zero, suc, ◌+◌, List, [], ◌∷◌, ◌++◌, length, set, get_or, true, false, true≢false, refl, sym, ap, ◌∙◌, subst, arith, length-append}
use Rattle.std.specs.Prelude.{◌==◌}
use Rattle.std.proofs.lemmas.Bool.Decides.{nat_tests}
use mathlib.Core.Option.{some, none, some-ne-none, some-injective}
use mathlib.Core.List.{IsPrefix}
use prog.Atomic.{either}
use lib.ListN.{get_elem?}
use Rattle.atomic_table.specs.Table.{State, Me, step, Allows, Splits, Joins}
use Rattle.atomic_table.specs.Table.Act.{keeps}
use Rattle.atomic_table.proofs.Lists.{at_set, at_snoc, set_again}
use Rattle.xet_history.specs.declared.entry.Entry.{Entry}
use Rattle.xet_history.specs.theorems.Staying.{prefix_same}
use Rattle.xet_shared_history.specs.declared.rule.View.{View}
use Rattle.xet_shared_history.specs.internal.Rule.{Added, Compared, IsCounted, IsViewOf, copy_of, nothing_seen, reader_view, shown, told_of, writer_view}
use Rattle.xet_shared_history.specs.theorems.Prefixes.{prefix_longer, prefix_nothing}

off : false ≡ true → ⊥
off e = true≢false (sym e)

abbrev pub Holds : State Entry View → Type 0
Holds s = IsCounted s.words s.views

-- where one view changes, each other still is one
views_set : (writer : ℕ) (now : List Entry) (views : List View) (id : ℕ) (w : View) → ((j : ℕ) (u : View) → j ≢ id → get_elem? views j ≡ some u → IsViewOf writer now j u) → IsViewOf writer now id w → (j : ℕ) (u : View)
    → get_elem? (set views id w) j ≡ some u → IsViewOf writer now j u
views_set writer now views id w others mine j u e =
    ⊎_elim
    (λ (x : (j ≡ id) × (w ≡ u)). subst (λ (y : ℕ × View). IsViewOf writer now y.0 y.1) (λ i. (sym x.0 i, x.1 i)) mine)
    (λ (x : (j ≢ id) × (get_elem? views j ≡ some u)). others j u x.0 x.1)
    (at_set views id j w u e)

is_reader : (writer : ℕ) (history seen : List Entry) (id : ℕ) → IsPrefix seen history → IsViewOf writer history id (reader_view seen)
is_reader writer history seen id p = record { seen = p; told = prefix_nothing history; keeps = λ k. absurd (off k) }

pub begins : IsCounted (0 ∷ []) (writer_view [] ∷ [])
begins = record { writer = 0; history = []; counted = refl; each = one }
  where
    one : (id : ℕ) (v : View) → get_elem? (writer_view [] ∷ []) id ≡ some v → IsViewOf 0 [] id v
    one zero v e = subst (IsViewOf 0 [] 0) (some-injective _ _ e) (record { seen = prefix_nothing []; told = prefix_nothing []; keeps = λ k. (refl, refl) })
    one (suc id) v e = absurd (some-ne-none v (sym e))

pub copies : (id : ℕ) (v : View) → Splits Holds id v v (copy_of v)
copies id v s h at = record {
  writer = h.writer;
  history = h.history;
  counted = h.counted;
  each = λ j u e. ⊎_elim
      (λ was. h.each j u (subst (λ l. get_elem? l j ≡ some u) (set_again s.views id v at) was))
      (λ (same : copy_of v ≡ u). subst (IsViewOf h.writer h.history j) same (is_reader h.writer h.history v.seen j (h.each id v at).seen))
      (at_snoc (set s.views id v) (copy_of v) u j e);
}

-- what is joined was there before
other_view : (s : State Entry View) (h : Holds s) (id : ℕ) (b : View) (other : ℕ) (w : View) → ¬ (other ≡ id) → get_elem? (set s.views id b) other ≡ some w → IsViewOf h.writer h.history other w
other_view s h id b other w apart there =
    ⊎_elim (λ (t : (other ≡ id) × (b ≡ w)). absurd (apart t.0)) (λ (t : (other ≢ id) × (get_elem? s.views other ≡ some w)). h.each other w t.1) (at_set s.views id other b w there)

joined : (s : State Entry View) (h : Holds s) (id : ℕ) (b : View) (other : ℕ) → IsViewOf h.writer h.history id b → Holds record { words = s.words; homes = s.homes; views = set (set s.views id b) other nothing_seen }
joined s h id b other mine = record {
  writer = h.writer;
  history = h.history;
  counted = h.counted;
  each = views_set h.writer h.history (set s.views id b) other nothing_seen (λ j u d e. views_set h.writer h.history s.views id b (λ i y _ e'. h.each i y e') mine j u e) (is_reader h.writer h.history [] other (prefix_nothing h.history));
}

pub tells : (id : ℕ) (v : View) (other : ℕ) (w : View) → Joins Holds id v other w (told_of v w) nothing_seen
tells id v other w s h at apart there =
    let mine = h.each id v at in
    joined s h id (told_of v w) other (record { seen = mine.seen; told = (other_view s h id (told_of v w) other w apart there).seen; keeps = mine.keeps })

pub shows : (id : ℕ) (v : View) (other : ℕ) (w : View) → v.keeps ≡ false → Joins Holds id v other w (shown v w) nothing_seen
shows id v other w reader s h at apart there =
    let mine = h.each id v at in
    joined s h id (shown v w) other (record { seen = (other_view s h id (shown v w) other w apart there).seen; told = mine.told; keeps = λ k. absurd (off (sym reader ∙ k)) })

-- the writer's seat compares what it was told of
pub compares : (slots id : ℕ) (v : View) (c : List (ℕ × Entry)) → v.keeps ≡ true → Allows Holds slots id (v, c) 0 (λ n. n) (Compared (step slots 0 0 0 none) (v, c))
compares slots id v c keeps_it s h len at small =
    let mine = h.each id v at in
    let known = mine.keeps keeps_it in
    let w = writer_view v.seen in (
      w,
      keeps,
      tt,
      record {
        writer = h.writer;
        history = h.history;
        counted = ap (λ (l : List ℕ). set l 0 (get_or l 0 0)) h.counted;
        each = views_set h.writer h.history s.views id w (λ j u d e. h.each j u e) (record { seen = mine.seen; told = prefix_nothing h.history; keeps = λ k. known });
      },
      (refl, refl, subst (λ l. IsPrefix v.told l) (sym known.1) mine.told),
    )

-- the writer's seat adds an entry
adds : (slots id : ℕ) (history : List Entry) (c : List (ℕ × Entry)) (e : Entry) (n : ℕ) → n ≡ length history
    → Allows Holds slots id (writer_view history, c) 0 (λ m. either (m == n) (n + 1) m) (Added (step slots 0 n (n + 1) (some e)) (writer_view history, c))
adds slots id history c e n count s h len at small =
    let mine = h.each id (writer_view history) at in
    let known = mine.keeps refl in
    let w = writer_view (history ++ e ∷ []) in
    let now = h.history ++ e ∷ [] in
    let same : length h.history ≡ n = ap length (sym known.1) ∙ sym count in
    let word : either (length h.history == n) (n + 1) (length h.history) ≡ length now = grind (arith, nat_tests, length-append h.history (e ∷ [])) in (
      w,
      keeps,
      tt,
      record {
        writer = h.writer;
        history = now;
        counted = ap (λ (l : List ℕ). set l 0 (either (get_or l 0 0 == n) (n + 1) (get_or l 0 0))) h.counted ∙ ap (λ (m : ℕ). m ∷ []) word;
        each = views_set h.writer now s.views id w
            (λ j u d at'. let f = h.each j u at' in record {
              seen = prefix_longer u.seen h.history (e ∷ []) f.seen;
              told = prefix_longer u.told h.history (e ∷ []) f.told;
              keeps = λ k. absurd (d ((f.keeps k).0 ∙ sym known.0));
            })
            (record {
              seen = subst (λ (l : List Entry). IsPrefix (history ++ e ∷ []) l) (ap (λ (l : List Entry). l ++ e ∷ []) known.1) (prefix_same (history ++ e ∷ []));
              told = prefix_nothing now;
              keeps = λ k. (known.0, ap (λ (l : List Entry). l ++ e ∷ []) known.1);
            });
      },
      (refl, refl),
    )

pub adds_as : (slots id : ℕ) (me : Me Entry View) (e : Entry) (n : ℕ) → me.0 ≡ writer_view me.0.seen → n ≡ length me.0.seen
    → Allows Holds slots id me 0 (λ m. either (m == n) (n + 1) m) (Added (step slots 0 n (n + 1) (some e)) me)
adds_as slots id me e n is count =
    let P : View → Type 0 = λ v. Allows Holds slots id (v, me.1) 0 (λ m. either (m == n) (n + 1) m) (Added (step slots 0 n (n + 1) (some e)) (v, me.1)) in
    subst P (sym is) (adds slots id me.0.seen me.1 e n count)
