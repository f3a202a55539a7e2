use Rattle.std.proofs.Common.{◌≡◌, ◌+◌, ◌≤◌, ◌++◌, length, vec_capacity, vec_len, None, refl, arith, length-append}
use Rattle.xet_cut.specs.Streams.{boundary_in}
use Rattle.xet_cut.specs.theorems.FirstBoundary.{is_none}
use Rattle.xet_cut.proofs.Splitting.{appended}
use Rattle.xet_cut.proofs.chunker.Chunker.append.Goals as goal

items : (c : goal.After-extend_from_slice) → c.extend_from_slice.new.self.items ≡ c.self.inside.buffered.items ++ c.args.bytes.now
items c =
    let none : boundary_in c.self.inside.limits (c.self.inside.buffered.items ++ c.args.bytes.now) ≡ None = rw (← c.self.view_is) at c.requires in
    let short = (is_none _ _ none).short in
    let room : vec_len c.self.inside.buffered + length c.args.bytes.now ≤ vec_capacity c.self.inside.buffered =
    omega (arith, c.self.invariant.2, c.self.inside.buffered.ok.0, length-append c.self.inside.buffered.items c.args.bytes.now) in
    appended _ _ _ _ (c.extend_from_slice.ensures.succeeds room) c.extend_from_slice.ensures.items

pub invariant_of-self : goal.invariant_of-self
invariant_of-self c =
    let none : boundary_in c.self.inside.limits (c.self.inside.buffered.items ++ c.args.bytes.now) ≡ None = rw (← c.self.view_is) at c.requires in
    (c.self.invariant.0, rw (items c) none, omega (arith, c.self.invariant.2, c.extend_from_slice.ensures.capacity))

pub returns : goal.returns
returns c = rw (← c.self.view_is, items c) refl
