use Rattle.std.proofs.Common.{◌≡◌, ◌∙◌, ◌&&◌, Bool, Some, length, map, is_some, leb, sym, ap, arith}
use Rattle.std.proofs.lemmas.Bool.{le-leb, lt-leb}
use Rattle.std.proofs.lemmas.List.{length-map}
use Rattle.xet_program.specs.Lines.{numbered, range_bytes}
use Rattle.xet_program.specs.internal.Parsing.{Said}
use Rattle.xet_program.proofs.Ranged.{numbered_at, numbered_past, numbered_zero, range_none, range_some}
use Rattle.xet_program.proofs.lines.PackLines.has.Goals as goal
use Rattle.xet_program.proofs.lines.PackLines.has.Goals.{then-range-eq0-via-then-range-eq0, then-range-eq0-via-else-range-eq0+then-range-len}

pub returns-then-range-eq0 : goal.returns-then-range-eq0
returns-then-range-eq0 c =
    let r = c.args.range.now in
    let files = c.self.inside.files.items in
    elim c.then-range-eq0.branch [
      | then-range-eq0-via-then-range-eq0 w ↦
          let first : r.file ≡ 0 = w.if-range-eq0.true in
          sym (range_none c.args.self.now.files r (ap (numbered c.args.self.now.files) first ∙ numbered_zero c.args.self.now.files))
      | then-range-eq0-via-else-range-eq0+then-range-len w ↦
          sym (range_none c.args.self.now.files r (ap (λ (s : Said). numbered s.files r.file) (sym c.self.view_is) ∙ numbered_past (map (λ f. f.items) files) r.file (omega (arith, length-map files (λ f. f.items), c.self.inside.files.ok.0))))
    ]

pub returns-then-range : goal.returns-then-range
returns-then-range c =
    let r = c.args.range.now in let file = c.index.result.now in
    let there : numbered c.args.self.now.files r.file ≡ Some file.items =
    ap (λ (s : Said). numbered s.files r.file) (sym c.self.view_is) ∙ numbered_at (λ f. f.items) c.self.inside.files.items r.file file (omega arith) (omega (arith, c.self.inside.files.ok.0)) c.index.ensures in
    let size : c.len-size.result ≡ length file.items = omega (arith, file.ok.0) in
    let e : is_some (range_bytes c.args.self.now.files r) ≡ (leb r.from r.to && leb r.to c.len-size.result) = range_some c.args.self.now.files r file.items there ∙ ap (λ n. leb r.from r.to && leb r.to n) (sym size) in
    sym (e ∙ ap (λ (t : Bool). t && leb r.to c.len-size.result) (le-leb r.from r.to c.if-range.true))

pub returns-else-range : goal.returns-else-range
returns-else-range c =
    let r = c.args.range.now in let file = c.index.result.now in
    let there : numbered c.args.self.now.files r.file ≡ Some file.items =
    ap (λ (s : Said). numbered s.files r.file) (sym c.self.view_is) ∙ numbered_at (λ f. f.items) c.self.inside.files.items r.file file (omega arith) (omega (arith, c.self.inside.files.ok.0)) c.index.ensures in
    let low = lt-leb r.from r.to c.if-range.false in
    low ∙ sym (range_some c.args.self.now.files r file.items there ∙ ap (λ (t : Bool). t && leb r.to (length file.items)) low)
