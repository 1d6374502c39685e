-- `tried_index` meets its contract. Assumes nothing.
use Rattle.candidates.specs.Tries.{tried_index}
use Rattle.std.proofs.Common.{rules, eq-eqb, ne_eqb}
use Rattle.candidates.proofs.tries.tried_index.Goals as goal

pub returns-then-taken-eq0 : goal.returns-then-taken-eq0
unfolding tried_index
returns-then-taken-eq0 c = rw (eq-eqb c.args.candidates.taken 0 c.if-taken-eq0.true)

pub returns : goal.returns
unfolding tried_index
returns c = rw (ne_eqb c.args.candidates.taken 0 c.if-taken-eq0.false) (search rules)
