-- A number has at most ten digits.
use Rattle.std.proofs.Common.{arith, sym}
use Rattle.std.proofs.Math.Seq.{length-take-le}
use Rattle.text.proofs.Numbers.{decimal-long}
use Rattle.tables.proofs.print_number.Goals as goal

pub slice_bounds-digits-end : goal.slice_bounds-digits-end
slice_bounds-digits-end c = omega (arith, decimal-long c.args.n)

pub slice_bounds-write-end : goal.slice_bounds-write-end
slice_bounds-write-end c = sym (length-take-le _ _ (omega (arith, decimal-long c.args.n)))
