-- Parts of a footer that are put into a buffer, one after the other.
use Rattle.std.proofs.Common.{◌≡◌, ◌∙◌, ℕ, Bool, true, List, [], ◌++◌, Result, Ok, Err, append_assoc, subst, sym}
use Rattle.std.proofs.lemmas.List.{append-nil}
use Rattle.std.proofs.lemmas.Result.{on_err_weaker, on_ok_weaker}
use Rattle.std.specs.Result.{IsErrAnd, OnErr, OnOk}
use Rattle.xet_hash.specs.declared.error.StoreError.{StoreError}
use Rattle.xet_codec.specs.Written.{Moves, WritesPrefix}
use Rattle.xet_xorb_footer.specs.internal.Putting.{Puts}
use Rattle.xet_codec.specs.theorems.Buffering.{pad_behind, then, then_prefix}

-- Before and after some calls: whether the sink is observable, what was written, and what is buffered. They put `part`.
pub record Put (b0 b1 : Bool) (w0 w1 h0 h1 part : List ℕ) : Type 0 where
  pub told : b0 ≡ true → b1 ≡ true
  pub moved : b0 ≡ true → Moves w0 w1 h1 (h0 ++ part)

pub none : {b : Bool} {w h : List ℕ} → Put b b w w h h []
none {b} {w} {h} = record { told = λ t. t; moved = λ t. record { count = 0; written = sym (append-nil w); held = sym (append-nil h) } }

-- One more call, which put `given`.
pub after : {b0 b1 b2 : Bool} {w0 w1 w2 h0 h1 h2 part given next : List ℕ} → Put b0 b1 w0 w1 h0 h1 part → given ≡ next → b2 ≡ b1 → (b1 ≡ true → Moves w1 w2 h2 (h1 ++ given)) → Put b0 b2 w0 w2 h0 h2 (part ++ next)
after {b0} {b1} {b2} {w0} {w1} {w2} {h0} {h1} {h2} {part} {given} {next} p is tells moved = record {
  told = λ t. tells ∙ p.told t;
  moved = λ t. then h0 part next (p.moved t) (subst (λ (x : List ℕ). Moves w1 w2 h2 (h1 ++ x)) is (moved (p.told t)));
}

-- The bytes `part` are the first of `all`.
abbrev pub Begins : List ℕ → List ℕ → Type 0
Begins part all = (rest : List ℕ) × (part ++ rest ≡ all)

pub sooner : (part next all : List ℕ) → Begins (part ++ next) all → Begins part all
sooner part next all b = (next ++ b.0, sym (append_assoc part next b.0) ∙ b.1)

-- The next call wrote a prefix and failed.
pub stops : {b0 b1 : Bool} {w0 w1 w2 h0 h1 part given next all : List ℕ} → Put b0 b1 w0 w1 h0 h1 part → given ≡ next → Begins (part ++ next) all
    → (b1 ≡ true → WritesPrefix w1 w2 (h1 ++ given)) → b0 ≡ true → WritesPrefix w0 w2 (h0 ++ all)
stops {b0} {b1} {w0} {w1} {w2} {h0} {h1} {part} {given} {next} {all} p is b stop t =
    let both = then_prefix h0 part next (p.moved t) (subst (λ (x : List ℕ). WritesPrefix w1 w2 (h1 ++ x)) is (stop (p.told t))) in
    subst (λ (x : List ℕ). WritesPrefix w0 w2 (h0 ++ x)) b.1 (pad_behind h0 (part ++ next) b.0 both)

-- The same where the call is the last one, and where its error is passed on.
pub last : {T : Type 0} {b0 b1 : Bool} {w0 w1 w2 h0 h1 h2 part given next all : List ℕ} (r : Result T StoreError) → Put b0 b1 w0 w1 h0 h1 part → given ≡ next → part ++ next ≡ all
    → (b1 ≡ true → OnOk r (Moves w1 w2 h2 (h1 ++ given))) → (b1 ≡ true → OnErr r (WritesPrefix w1 w2 (h1 ++ given))) → b0 ≡ true → Puts r w0 w2 h2 (h0 ++ all)
last {T} {b0} {b1} {w0} {w1} {w2} {h0} {h1} {h2} {part} {given} {next} {all} r p is e moved stop t =
    let put : Moves w1 w2 h2 (h1 ++ given) → Moves w0 w2 h2 (h0 ++ all) = λ m. subst (λ (x : List ℕ). Moves w0 w2 h2 (h0 ++ x)) e (then h0 part next (p.moved t) (subst (λ (x : List ℕ). Moves w1 w2 h2 (h1 ++ x)) is m)) in
    record { moved = on_ok_weaker r put (moved (p.told t)); prefix = on_err_weaker r (λ w. stops p is ([], append-nil (part ++ next) ∙ e) (λ _. w) t) (stop (p.told t)) }

pub exit_puts : {T : Type 0} {w0 w1 h1 bytes : List ℕ} (Q : StoreError → Type 0) (r : Result T StoreError) → IsErrAnd r Q → WritesPrefix w0 w1 bytes → Puts r w0 w1 h1 bytes
exit_puts Q (Ok x) exit w = absurd exit
exit_puts Q (Err e) exit w = record { moved = tt; prefix = w }
