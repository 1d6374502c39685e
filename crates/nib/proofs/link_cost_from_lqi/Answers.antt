-- `link_cost_from_lqi` meets its contract: in each arm the tests of `link_cost` are decided by the arm's bounds. Assumes nothing.
use native.Mathlib.Omega.{arith}
use borrow.Author.Tests.{le-leb, lt-leb}
use Rattle.nib.specs.LinkCost.{link_cost}
use Rattle.nib.proofs.link_cost_from_lqi.Goals as goal

pub returns-in-0 : goal.returns-in-0
unfolding link_cost
returns-in-0 c = rw c.in-0.is

pub returns-in-1-to-10 : goal.returns-in-1-to-10
unfolding link_cost
returns-in-1-to-10 c =
    let l = c.args.lqi in
    simp
    (lt-leb 128 l (omega arith), lt-leb 77 l (omega arith), lt-leb 26 l (omega arith), lt-leb 11 l (omega arith), le-leb 1 l (omega arith))

pub returns-in-11-to-25 : goal.returns-in-11-to-25
unfolding link_cost
returns-in-11-to-25 c =
    let l = c.args.lqi in
    simp
    (lt-leb 128 l (omega arith), lt-leb 77 l (omega arith), lt-leb 26 l (omega arith), le-leb 11 l (omega arith))

pub returns-in-26-to-76 : goal.returns-in-26-to-76
unfolding link_cost
returns-in-26-to-76 c =
    let l = c.args.lqi in
    simp (lt-leb 128 l (omega arith), lt-leb 77 l (omega arith), le-leb 26 l (omega arith))

pub returns-in-77-to-127 : goal.returns-in-77-to-127
unfolding link_cost
returns-in-77-to-127 c =
    let l = c.args.lqi in
    simp (lt-leb 128 l (omega arith), le-leb 77 l (omega arith))

pub returns-in-128-to-255 : goal.returns-in-128-to-255
unfolding link_cost
returns-in-128-to-255 c =
    let l = c.args.lqi in
    simp (le-leb 128 l (omega arith))
