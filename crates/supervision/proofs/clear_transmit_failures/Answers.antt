-- `clear_transmit_failures` meets its contract. Assumes nothing.
use Rattle.std.proofs.Common.{sym, ap, ◌∙◌}
use Rattle.lists.specs.Private.{remove_at}
use Rattle.lists.proofs.Pairs.{remove-is, remove-past}
use Rattle.supervision.specs.Failures.{pairs_of, failures_of, of_address, pair_removed}
use Rattle.supervision.proofs.Failures.{found, missed}
use Rattle.supervision.proofs.clear_transmit_failures.Goals as goal

pub returns-in-Some : goal.returns-in-Some
unfolding pair_removed
returns-in-Some c =
    let l = pairs_of c.args.failures in
    let p = of_address c.args.neighbor in
    let f = found p l _ (sym c.find.ensures ∙ c.in-Some.is) in
    c.without.ensures ∙ ap failures_of (ap (λ k. remove_at k l) (sym f.0) ∙ sym (remove-is p l))

pub returns-in-None : goal.returns-in-None
unfolding pair_removed
returns-in-None c =
    let l = pairs_of c.args.failures in
    let p = of_address c.args.neighbor in
    c.blank_unused.ensures ∙ ap failures_of (sym (remove-is p l ∙ remove-past _ l (missed p l (sym c.find.ensures ∙ c.in-None.is))))
