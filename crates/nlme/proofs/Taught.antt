-- A frame that teaches keeps the number of entries, and so does one that is heard. Assumes nothing.
use Rattle.std.specs.Prelude.{Option, Some, None}
use Prim.Native.Nat.{ℕ}
use mathlib.Core.Path.{◌≡◌, refl, ◌∙◌}
use mathlib.Core.List.{List}
use lib.ListN.{length}
use Rattle.nib.specs.declared.IeeeAddress.{IeeeAddress}
use Rattle.nib.specs.declared.ShortAddress.{ShortAddress}
use Rattle.nib.specs.declared.NwkNeighbor.{NwkNeighbor}
use Rattle.nib.proofs.Entries.{learnt-long, renewed-long}
use Rattle.management.specs.declared.frame.Source.{Source}
use Rattle.nlme.specs.Received.{taught_by, heard_from}

pub taught-long : (x : Option IeeeAddress) (a : ShortAddress) (es : List NwkNeighbor) → length (taught_by x a es) ≡ length es
unfolding taught_by
taught-long None a es = refl
taught-long (Some x) a es = learnt-long a.0 x es

pub heard-long : (s : Option Source) (t : ℕ) (es : List NwkNeighbor) → length (heard_from s t es) ≡ length es
unfolding heard_from
heard-long None t es = refl
heard-long (Some s) t es = renewed-long s.address.0 t (taught_by s.ieee s.address es) ∙ taught-long s.ieee s.address es
