-- `good_lines` meets its contract. Assumes nothing.
use mathlib.Core.Path.{◌∙◌}
use lib.ListN.{take}
use Rattle.std.proofs.Common.{eqb, rules}
use borrow.Author.Tests.{tests}
use Rattle.std.proofs.lemmas.Iterator.{YieldsList-from_take}
use Rattle.std.proofs.lemmas.Iterator.Consumers.{YieldsList-at, YieldsList-from_enumerate, count_from_yields_List}
use Rattle.std.proofs.lemmas.Iterator.Search.{YieldsList-from_take_while}
use Rattle.std.proofs.lemmas.Iterator.Splits.{YieldsList-from_slice_split}
use Rattle.text.specs.Text.{parts}
use Rattle.yard_list.specs.YardList.{is_good}
use Rattle.yard_list.proofs.Lines.{good-prefix}
use Rattle.yard_list.proofs.good_lines.Goals as goal

pub returns : goal.returns
returns c =
    count_from_yields_List c.take_while.result _ c.count.ensures.ran (
    YieldsList-from_take_while _ (λ p. is_good p.0 p.1)
    (YieldsList-at c.take_while.ensures.source (YieldsList-from_enumerate
    (YieldsList-at c.enumerate.ensures.source (YieldsList-from_take c.args.ended
    (YieldsList-at c.take.ensures.source (YieldsList-from_slice_split _ (λ b. eqb b 10) c.args.input.now c.split.ensures.rest c.split.ensures.done c.split.ensures.closure (λ x b q k. search (rules, tests))))
    c.take.ensures.count))
    c.enumerate.ensures.count))
    c.take_while.ensures.closure c.take_while.ensures.done (λ x b q k. search (rules, tests))
    ) ∙ good-prefix 0 (take c.args.ended (parts 10 c.args.input.now))
