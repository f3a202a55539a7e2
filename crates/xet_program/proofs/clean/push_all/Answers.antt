use Rattle.std.proofs.Common.{◌≡◌, ◌∙◌, ◌+◌, ◌++◌, [], ◌∷◌, Ok, true, length, map, string_bytes, take, subst, sym, ap, arith}
use Rattle.std.proofs.lemmas.List.{length_push, map-append, take_more}
use Rattle.std.specs.FinMap.{get}
use Rattle.std.specs.Option.{option_map}
use Rattle.xet_io.specs.Faults.{one_more}
use Rattle.xet_io.specs.Opened.{opened_after}
use Rattle.xet_program.specs.internal.Cleaned.{AreOpened}
use Rattle.xet_program.proofs.Opened.{opened_more, some_here}
use Rattle.xet_program.proofs.clean.push_all.Goals as goal

pub loop-name-preserved : goal.loop-name-preserved
loop-name-preserved g c =
    let source = g.F.S.Source in
    let inputs_tell = g.F.Inputs.tells c.args.inputs.now in
    let files = g.F.Inputs.files c.args.inputs.now in
    let before = c.loop-name.invariant in
    let i = c.loop-name.name-index in
    let names = c.args.names.now in
    let name = c.name-item.result in
    let opens = c.in-Ok-Some.ensures in
    let more : map string_bytes (take (i + 1) names) ≡ map string_bytes (take i names) ++ string_bytes name ∷ [] =
    ap (map string_bytes) (take_more names i _ c.loop-name-test.true ∙ ap (λ n. take i names ++ n ∷ []) (sym c.name-item.is)) ∙ map-append string_bytes (take i names) (name ∷ []) in
    record {
      files = opens.same ∙ before.files;
      tells = opens.tells ∙ before.tells;
      later = omega (arith, before.later, opens.cause.later);
      room = c.push_reserved.ensures.capacity ∙ before.room;
      count = ap length c.push_reserved.ensures.items ∙ length_push c.loop-name.sources.items c.in-Ok-Some.source ∙ ap (λ n. n + 1) before.count;
      many = λ few.
          let was = before.many few in
          let one : g.F.Inputs.opened c.open.new.self ≡ one_more (g.F.Inputs.opened c.loop-name.inputs) =
          opens.opened ∙ ap (λ o. opened_after (Ok o) (g.F.Inputs.opened c.loop-name.inputs)) c.in-Ok-Some.field-0-is in
          let length_now = ap length c.push_reserved.ensures.items ∙ length_push c.loop-name.sources.items c.in-Ok-Some.source in
          omega (arith, few, was, one, length_now, before.count, c.loop-name-test.true);
      opened =
          subst (λ sources. AreOpened inputs_tell files source.tells source.left source.faults (map string_bytes (take (i + 1) names)) sources) (sym c.push_reserved.ensures.items)
          (subst (λ ns. AreOpened inputs_tell files source.tells source.left source.faults ns (c.loop-name.sources.items ++ c.in-Ok-Some.source ∷ [])) (sym more)
          (opened_more inputs_tell files source.tells source.left source.faults (map string_bytes (take i names)) c.loop-name.sources.items (string_bytes name) c.in-Ok-Some.source before.opened (some_here (λ s. source.faults s ≡ 0) c.in-Ok-Some.field-0 c.in-Ok-Some.source c.in-Ok-Some.field-0-is opens.whole)
          (λ told.
          let here = before.tells ∙ told in
          (some_here (λ s. source.tells s ≡ true) c.in-Ok-Some.field-0 c.in-Ok-Some.source c.in-Ok-Some.field-0-is (opens.source_tells here), ap (λ n. get files n) (sym c.as_str.ensures.value) ∙ ap (λ fs. get fs c.as_str.result.now) (sym before.files) ∙ sym (opens.told here) ∙ ap (option_map source.left) c.in-Ok-Some.field-0-is))));
    }
