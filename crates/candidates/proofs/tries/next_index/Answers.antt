-- `next_index` meets its contract. Assumes nothing.
use Rattle.std.proofs.Common.{rules, ltb}
use Rattle.lists.proofs.First.{first-or}
use Rattle.candidates.specs.Tries.{skipped, next_index, to_try}
use Rattle.candidates.proofs.tries.next_index.Goals as goal

pub returns : goal.returns
unfolding next_index skipped
returns c = rw (← first-or (λ i. ltb i c.args.count) (to_try c.args.candidates) c.args.count) (search rules)
