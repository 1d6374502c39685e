-- `past_table` meets its contract. Assumes nothing.
use Rattle.std.proofs.Common.{rules, not, ltb}
use Rattle.candidates.specs.Tries.{past_table}
use Rattle.lists.proofs.First.{some-any}
use Rattle.candidates.proofs.tries.past_table.Goals as goal

pub returns : goal.returns
unfolding past_table
returns c = rw (some-any (λ i. not (ltb i c.args.count)) _) (search rules)
