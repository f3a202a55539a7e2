use Rattle.std.proofs.Common.{◌≡◌, ◌++◌, rules}
use Rattle.std.specs.Int.{w32, to_le_bytes}
use Rattle.xet_shard_format.specs.Rows.{row_bytes}
use Rattle.xet_shard_format.specs.theorems.Bytes.{piece_before}
use Rattle.xet_shard_format.proofs.encoding.push_fields.Goals as goal

pub returns : goal.returns
unfolding row_bytes
returns c =
    let e1 : c.extend_from_slice.new.self.items ≡ c.args.encoding.now.items ++ c.args.row.now.hash = search rules in
    let e2 : c.extend_from_slice-2.new.self.items ≡ c.extend_from_slice.new.self.items ++ to_le_bytes w32 c.args.row.now.a = search rules in
    let e3 : c.extend_from_slice-3.new.self.items ≡ c.extend_from_slice-2.new.self.items ++ to_le_bytes w32 c.args.row.now.b = search rules in
    let e4 : c.extend_from_slice-4.new.self.items ≡ c.extend_from_slice-3.new.self.items ++ to_le_bytes w32 c.args.row.now.c = search rules in
    let e5 : c.extend_from_slice-5.new.self.items ≡ c.extend_from_slice-4.new.self.items ++ to_le_bytes w32 c.args.row.now.d = search rules in
    let w4 = piece_before c.extend_from_slice-3.new.self.items c.extend_from_slice-4.new.self.items _ (to_le_bytes w32 c.args.row.now.c) _ e4 e5 in
    let w3 = piece_before c.extend_from_slice-2.new.self.items c.extend_from_slice-3.new.self.items _ (to_le_bytes w32 c.args.row.now.b) _ e3 w4 in
    let w2 = piece_before c.extend_from_slice.new.self.items c.extend_from_slice-2.new.self.items _ (to_le_bytes w32 c.args.row.now.a) _ e2 w3 in
    piece_before c.args.encoding.now.items c.extend_from_slice.new.self.items _ (c.args.row.now.hash) _ e1 w2
