-- What a line prints is a prefix of the buffer after it.
use Rattle.trace.proofs.Lists.{printed-prefix}
use Rattle.nodetrace.proofs.PrintingLineFilter.answer.Goals as goal

pub slice_bounds-out-end : goal.slice_bounds-out-end
slice_bounds-out-end c = (printed-prefix _ _ _ _ _ c.answer_line-next.ensures.0 c.answer_line-next.ensures.1).0

pub slice_bounds-write-end : goal.slice_bounds-write-end
slice_bounds-write-end c = (printed-prefix _ _ _ _ _ c.answer_line-next.ensures.0 c.answer_line-next.ensures.1).1
