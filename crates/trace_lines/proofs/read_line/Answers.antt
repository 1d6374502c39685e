-- `read_line` meets its contract. Assumes nothing.
use mathlib.Core.Path.{ap, subst, ◌∙◌}
use borrow.Author.Tests.{tests}
use Rattle.std.proofs.Common.{rules}
use Rattle.std.specs.Iterator.Runs.{ItemsMapTo}
use Rattle.std.specs.Slice.Iter.{iter_rest}
use Rattle.text.specs.Text.{fields}
use Rattle.trace_lines.specs.TraceLines.{kinds, line_of}
use Rattle.trace_lines.specs.declared.InputKind.TheVariants.{Entry}
use Rattle.trace_lines.proofs.Found.{found}
use Rattle.trace_lines.proofs.read_line.Goals as goal

pub returns : goal.returns
unfolding line_of
returns c =
    let r = c.find_map.ensures.runs in
    found _ _ (fields c.args.line.now) (λ a b q k. search (rules, tests)) (λ x a k. search (rules, tests)) Entry kinds r.0
    (subst (ItemsMapTo r.0 (λ y. y.now)) (ap iter_rest r.1 ∙ c.iter.ensures.rest) (c.iter.ensures.runs r.0 r.0.seen)) c.find_map.result r.2
