-- `network_descriptors` meets its contract. Assumes nothing.
use Rattle.std.proofs.Common.{replicate, arith}
use Rattle.lists.proofs.Collect.{map_next}
use Rattle.discovery.specs.Mlme.{blank_beacon}
use Rattle.discovery.specs.Discovery.{network_descriptor_of, blank_descriptor}
use Rattle.discovery.proofs.network_descriptors.Goals as goal

-- one descriptor more: the store at i puts its image behind those of the first i (`map_next`)
pub loop-i-preserved : goal.loop-i-preserved
loop-i-preserved c =
    rw (c.loop-i.invariant, c.from.ensures)
    (map_next network_descriptor_of (replicate 27 blank_descriptor) c.descriptors_in_use-used.result.now c.loop-i.i blank_beacon c.loop-i-test.true (omega (arith, c.descriptors_in_use-used.ensures.few)))
