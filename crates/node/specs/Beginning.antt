-- A node before its first call.
use Rattle.std.specs.Prelude.{ℕ, []}
use Rattle.nib.specs.Neighbors.{table_of}
use Rattle.nib.specs.declared.Nib.{Nib}
use Rattle.candidates.specs.Candidates.{list_of}
use Rattle.nlme.specs.Nlme.{new_nlme}
use Rattle.operation.specs.Operation.{idle_control}
use Rattle.node.specs.declared.State.{State}

-- with these attributes and this last sequence number: no neighbours, no candidates, no operation under way
unfoldable pub new_state : Nib → ℕ → State
new_state nib seq = record { control = idle_control (new_nlme nib seq); table = table_of []; candidates = record { list = list_of []; taken = 0 } }
