-- What a line prints is a prefix of the buffer after it.
use Rattle.old_lines.proofs.Lines.{printed-prefix}
use Rattle.old_lines.proofs.MovingLineFilter.answer.Goals as goal

pub slice_bounds-out-end : goal.slice_bounds-out-end
slice_bounds-out-end g c = (printed-prefix _ _ _ _ _ _ c.move_line-moved.ensures.0 c.move_line-moved.ensures.1).0

pub slice_bounds-write-end : goal.slice_bounds-write-end
slice_bounds-write-end g c = (printed-prefix _ _ _ _ _ _ c.move_line-moved.ensures.0 c.move_line-moved.ensures.1).1
