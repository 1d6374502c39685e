-- `move_back` meets its contract. Assumes nothing.
use mathlib.Core.Path.{sym, ap, ◌∙◌}
use mathlib.Core.List.{[], ◌∷◌, ◌++◌}
use lib.ListN.{length}
use Rattle.std.specs.Prelude.{Ok}
use Rattle.lists.specs.Lists.{over}
use Rattle.neighbor_line.proofs.Buffers.{back_refused, back_moved}
use Rattle.neighbor_line.proofs.move_back.Goals as goal

pub returns-in-Some : goal.returns-in-Some
returns-in-Some c = back_refused c.args.line.now c.args.out.now c.in-Some.refusal (sym c.back_refusal.ensures ∙ c.in-Some.is)

pub returns-in-None : goal.returns-in-None
returns-in-None c =
    let m = back_moved c.args.line.now c.args.out.now (sym c.back_refusal.ensures ∙ c.in-None.is) in
    let f = c.back_front.ensures in
    (ap Ok c.write_both.ensures.0 ∙ (λ i. Ok (length (f i ++ (10 ∷ [])))) ∙ m.0, c.write_both.ensures.1 ∙ (λ i. over c.args.out.now (f i ++ (10 ∷ []))) ∙ m.1)
