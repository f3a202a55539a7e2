use Rattle.std.proofs.Common.{◌≡◌, ◌∙◌, ◌+◌, ◌-◌, List, ap, arith, drop, false, length, refl, take, true, ℕ}
use Rattle.xet_codec.specs.Blocks.{Sees}
use Rattle.xet_xorb.proofs.Validated.{ending_found, ending_stands, footer_length_of}
use Rattle.xet_xorb.proofs.validation.checked_object.Goals as goal

pub returns-in_default-clause-none : goal.returns-in_default-clause-none
returns-in_default-clause-none g c = λ bytes sees hashed size _ object e.
    c.in_ok-info.ensures.none (rw c.in_default.is refl) e.version (footer_length_of c.args.start c.args.told c.args.hash.now c.args.leaves.now bytes object sees.all hashed size e)

pub returns-then-not-branch-2-clause-none : goal.returns-then-not-branch-2-clause-none
returns-then-not-branch-2-clause-none g c = λ bytes sees hashed size _ object e.
    let hash = c.args.hash.now in
    let ms = c.args.leaves.now in
    let encoding = c.deref.result.now in
    let fill = c.in_ok-fill.ensures in
    let read = fill.read sees.told (omega (arith, sees.all, ap length sees.same)) ∙ ap (λ (b : List ℕ). take 16 (drop (c.args.start + c.args.told - 16) b)) sees.same in
    let made = rw c.in-Some.is at c.in_ok-info.ensures.found in
    let is_text = c.deref.ensures.value ∙ made.3 in
    let here : Sees _ _ bytes (c.args.start + c.args.told + 4) c.args.block.now = record { told = fill.frame.tells ∙ sees.told; same = fill.frame.same ∙ sees.same; all = sees.all; part = sees.part } in
    let stands = rw c.if-not-branch-2.true at (c.in_ok-stands_at.ensures.found bytes here) in
    let is = ending_stands c.args.start c.args.told made.0 hash ms bytes encoding c.fill.new.buf object sees.all hashed size read made.1 is_text e in
    let no : false ≡ true = stands.1 is in
    cc

pub returns-clause-footer : goal.returns-clause-footer
returns-clause-footer g c =
    let made = rw c.in-Some.is at c.in_ok-info.ensures.found in
    (made.0, c.fill.new.buf, c.in_ok-fill.ensures.len, λ i. record { info = made.2 i; info_length = made.1 i })

pub returns-clause-found : goal.returns-clause-found
returns-clause-found g c = λ bytes sees hashed size.
    let hash = c.args.hash.now in
    let ms = c.args.leaves.now in
    let encoding = c.deref.result.now in
    let fill = c.in_ok-fill.ensures in
    let made = rw c.in-Some.is at c.in_ok-info.ensures.found in
    let is_text = c.deref.ensures.value ∙ made.3 in
    let here : Sees _ _ bytes (c.args.start + c.args.told + 4) c.args.block.now = record { told = fill.frame.tells ∙ sees.told; same = fill.frame.same ∙ sees.same; all = sees.all; part = sees.part } in
    let stands = rw c.if-not-branch-2.false at (c.in_ok-stands_at.ensures.found bytes here) in
    ending_found c.args.start c.args.told made.0 hash ms bytes encoding c.fill.new.buf c.in-Some.info sees.all hashed size fill.len made.1 made.2 is_text (stands.0 refl)
