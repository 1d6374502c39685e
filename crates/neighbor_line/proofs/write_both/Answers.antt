-- `write_both` meets its contract. Assumes nothing.
use mathlib.Core.Path.{◌∙◌}
use native.Mathlib.Omega.{arith}
use lib.ListN.{length-append}
use lib.Seq.{sets}
use Rattle.neighbor_line.proofs.Buffers.{both_written}
use Rattle.neighbor_line.proofs.write_both.Goals as goal

pub returns : goal.returns
returns c =
    let front = c.args.front.now in
    let end = c.args.end.now in (
      omega (arith, c.write-length.ensures.0, c.write.ensures.0, length-append front end),
      c.write.ensures.1 ∙ (λ i. sets (c.write-length.ensures.1 i) (c.write-length.ensures.0 i) end) ∙ both_written c.args.out.now front end c.requires,
    )
