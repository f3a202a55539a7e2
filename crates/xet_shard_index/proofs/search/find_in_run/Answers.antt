use Rattle.std.proofs.Common.{◌⊎◌, inl, inr, ℕ, ◌+◌, ◌-◌, ◌*◌, ◌^◌, ◌<◌, ◌≤◌, length, arith}
use Rattle.std.proofs.lemmas.Bool.{cases_lt}
use Rattle.xet_shard_index.proofs.Searching.{digits_bound}
use Rattle.xet_shard_index.proofs.search.find_in_run.Goals as goal

pub returns-clause-steps : goal.returns-clause-steps
returns-clause-steps g c = λ b low. by b low (c.bisect.ensures.steps b low) (cases_lt (length c.args.run.now) 8)
  where
    by : (b : ℕ) → length c.args.run.now < 2 ^ b → c.bisect.new.steps ≤ c.range-low.new.steps + b → (length c.args.run.now < 8) ⊎ (8 ≤ length c.args.run.now)
        → c.bisect.new.steps ≤ c.args.steps.now + (2 * b - 1)
    by b low bisected (inl short) = let none = c.range-low.ensures.none (c.starts.ensures.none short) in omega (arith, bisected, none)
    by b low bisected (inr long) = let digits = digits_bound 3 b (length c.args.run.now) long low in let read = c.range-low.ensures.steps in omega (arith, bisected, digits, read)
