use Rattle.std.proofs.Common.{◌≡◌, ◌≤◌, ◌∙◌, ◌+◌, arith, drop, length, refl, sym, take}
use Rattle.xet_codec.specs.Blocks.{Sees}
use Rattle.xet_xorb.proofs.Checked.{digested, header_same, header_shown, stands}
use Rattle.xet_xorb.proofs.validation.leaf_at.Goals as goal

pub returns-in_default-chunk_size-clause-none : goal.returns-in_default-chunk_size-clause-none
returns-in_default-chunk_size-clause-none g c = λ bytes sees _ chunk s.
    let within = s.within in
    let both = rw c.in-Some.is at (c.in_ok-header.ensures.read bytes sees (omega arith)) in
    let read : c.in-Some.header ≡ take 8 (drop c.args.at bytes) = cc in
    c.in_default-chunk_size.ensures.none refl (length chunk) s.fits (header_shown c.args.max_chunk c.args.at c.args.end bytes c.in-Some.header chunk read s)

pub returns-then-room-size-clause-none : goal.returns-then-room-size-clause-none
returns-then-room-size-clause-none g c = λ bytes sees _ chunk s.
    let within = s.within in
    let both = rw c.in-Some.is at (c.in_ok-header.ensures.read bytes sees (omega arith)) in
    let read : c.in-Some.header ≡ take 8 (drop c.args.at bytes) = cc in
    let fits = s.fits in
    let size = c.in-Some-chunk_size in
    let is = header_shown c.args.max_chunk c.args.at c.args.end bytes c.in-Some.header chunk read s in
    let max_chunk = size.ensures.fits in
    let same = header_same size.size (length chunk) (omega (arith, c.requires.max_chunk)) (omega (arith, c.requires.max_chunk)) (sym size.ensures.found ∙ is) in
    omega arith

pub returns-clause-found : goal.returns-clause-found
returns-clause-found g c = λ bytes sees.
    let size = c.in-Some-chunk_size in
    let header = c.in_ok-header.ensures in
    let both = rw c.in-Some.is at (header.read bytes sees (omega arith)) in
    let read : c.in-Some.header ≡ take 8 (drop c.args.at bytes) = cc in
    let part = rw c.in-Some.is at (header.part bytes sees) in
    let here : Sees _ _ bytes c.args.len c.header_at.new.block = record { told = header.frame.tells ∙ sees.told; same = header.frame.same ∙ sees.same; all = sees.all; part = part } in
    let whole : c.args.at + 8 + size.size ≤ length bytes = omega (arith, sees.all) in
    let digest = c.in_ok-digest.ensures.read bytes here (omega arith) in (
      take size.size (drop (c.args.at + 8) bytes),
      stands c.args.max_chunk c.args.at c.args.end size.size bytes c.in-Some.header size.ensures.fits (omega arith) (omega (arith, sees.all)) read size.ensures.found,
      digested c.args.at size.size bytes c.in-Some-2.digest c.in_ok-digest.field-0 digest c.in-Some-2.is whole,
    )
