-- What `network_descriptors` knows at each turn of its loop.
use Rattle.std.proofs.Common.{◌≡◌, take, map, replicate}
use Rattle.lists.specs.Lists.{over}
use Rattle.discovery.specs.Discovery.{network_descriptor_of, blank_descriptor}
use Rattle.discovery.proofs.network_descriptors.Given as goal

-- after i descriptors what is told of them stands in the first i slots, and the other slots are blank
abbrev pub invariant-loop-i : goal.invariant-loop-i
invariant-loop-i l = l.confirm.network_descriptor ≡ over (replicate 27 blank_descriptor) (map network_descriptor_of (take l.i l.used))
