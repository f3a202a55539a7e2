use Rattle.std.proofs.Common.{◌+◌, ◌^◌, ◌<◌, arith}
use Rattle.xet_workers.proofs.Parts.{fits_large, fits_source}
use Rattle.xet_workers.proofs.work.shift_source.Goals as goal

pub overflow_add-result : goal.overflow_add-result
overflow_add-result c =
    let e = c.in-Io-Source in
    let h : c.args.first + e.number < 2 ^ 32 =
    fits_source c.args.first e.number (2 ^ 32) e.field-0 c.args.error e.is (rw e.is at e.field-0-is) c.requires.small in
    omega (arith, h)

pub overflow_add-result-in-TooLarge-Source : goal.overflow_add-result-in-TooLarge-Source
overflow_add-result-in-TooLarge-Source c =
    let e = c.in-TooLarge-Source in
    let h : c.args.first + e.number < 2 ^ 32 =
    fits_large c.args.first e.number (2 ^ 32) e.field-0 c.args.error e.is (rw e.is at e.field-0-is) c.requires.small in
    omega (arith, h)
