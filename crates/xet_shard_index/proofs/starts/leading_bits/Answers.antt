use Rattle.std.proofs.Common.{ℕ, ◌≡◌, ◌+◌, ◌-◌, ◌*◌, ◌^◌, ◌<◌, ◌≤◌, arith, subst}
use lib.Count.{count_leading_zeros}
use Rattle.xet_shard_index.proofs.Between.{leading}
use Rattle.xet_shard_index.proofs.starts.leading_bits.Goals as goal

pub overflow_sub-result : goal.overflow_sub-result
overflow_sub-result c = let l = leading c.args.count c.requires c.ranges.count.fits in omega (arith, l.1)

bits : (count m : ℕ) → count_leading_zeros 64 count + m ≡ 61 → m ≡ 61 - count_leading_zeros 64 count
bits count m sum = omega (arith, sum)

pub returns-clause-bits : goal.returns-clause-bits
returns-clause-bits c = let l = leading c.args.count c.requires c.ranges.count.fits in (omega (arith, l.1, l.2), omega (arith, l.1))

pub returns-clause-few : goal.returns-clause-few
returns-clause-few c = let l = leading c.args.count c.requires c.ranges.count.fits in subst (λ (m : ℕ). 4 * 2 ^ m ≤ c.args.count) (bits c.args.count l.0 l.1) l.3

pub returns-clause-many : goal.returns-clause-many
returns-clause-many c = let l = leading c.args.count c.requires c.ranges.count.fits in subst (λ (m : ℕ). c.args.count < 8 * 2 ^ m) (bits c.args.count l.0 l.1) l.4
