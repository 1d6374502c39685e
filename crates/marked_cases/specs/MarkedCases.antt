-- The marked cases P1 to P12 as one table of questions and answers (01, "Marked cases").
use Rattle.std.specs.Prelude.{Option, Some, None, ℕ, ◌≡◌, Bool, true, false, cond, List, [], ◌∷◌, map}
use Rattle.lists.specs.Lists.{All}
use Rattle.nib.specs.LinkCost.{link_cost}
use Rattle.nib.specs.Neighbors.{NONE, blank}
use Rattle.nib.specs.declared.Nib.{Nib}
use Rattle.nib.specs.declared.NwkNeighbor.{NwkNeighbor}
use Rattle.nib.specs.declared.DeviceType.TheVariants.{Router}
use Rattle.candidates.specs.UpdateIds.{newest}
use Rattle.candidates.specs.Candidates.{candidates}
use Rattle.supervision.specs.Timer.{ticked}
use Rattle.supervision.specs.declared.parent_timer.Ticked.{Ticked}
use Rattle.supervision.specs.Timeouts.{refreshed_timer}
use Rattle.nlme.specs.Received.{accepts_leave}

-- an entry by the fields that the choice reads: extended PAN id, depth, permit, router and end device capacity, LQI, update id; potential parent is 1
abbrev pub entry : ℕ → ℕ → Bool → Bool → Bool → ℕ → ℕ → NwkNeighbor
entry n depth permit router device lqi id =
    record blank {
      device_type = Router;
      rx_on_when_idle = true;
      relationship = NONE;
      lqi = lqi;
      extended_pan_id = record { 0 = n };
      logical_channel = 11;
      depth = depth;
      permit_joining = permit;
      potential_parent = 1;
      router_capacity = router;
      end_device_capacity = device;
      update_id = id;
      pan_id = record { 0 = 1 };
    }

-- an entry of network 1 with an update id: a potential parent that permits joining, has capacity and costs 1
abbrev pub entry_with_id : ℕ → NwkNeighbor
entry_with_id id = entry 1 0 true true true 255 id

-- what a case asks for
pub data Question : Type 0 where
  -- the newest of some update ids
  newest_of : List ℕ → Question
  -- the cost of an LQI
  cost_of : ℕ → Question
  -- the candidates of an empty table, by stack profile, role, whether joining must be permitted, and network
  candidates_of_none : (profile : ℕ) (router permit : Bool) (n : ℕ) → Question
  -- the milliseconds of a timeout index
  timer_of : ℕ → Question
  -- what a tick leaves of a timer, and whether it expired: milliseconds left, milliseconds elapsed
  tick_of : ℕ → ℕ → Question
  -- whether a leave request is accepted: own address, destination, router, nwkLeaveRequestAllowed, and whether the parent asks
  leave_of : (address destination : ℕ) (router allowed by_parent : Bool) → Question

abbrev pub ids_of : Option ℕ → List ℕ
ids_of None = []
ids_of (Some id) = id ∷ []

abbrev pub tick_numbers : Ticked → List ℕ
tick_numbers t = t.timer.remaining_ms ∷ cond t.expired 1 0 ∷ []

-- a node's attributes, by those that a leave request reads
abbrev pub node_at : ℕ → Bool → Bool → Nib
node_at address router allowed =
    record {
      network_address = record { 0 = address };
      ieee_address = record { 0 = 1 };
      extended_panid = record { 0 = 1 };
      panid = record { 0 = 1 };
      update_id = 0;
      capability_information = record { 0 = cond router 2 0 };
      stack_profile = 2;
      parent_information = 0;
      end_device_timeout = 0xff;
      end_device_timeout_default = 8;
      leave_request_allowed = allowed;
    }

-- what the definitions answer
abbrev pub answer_to : Question → List ℕ
answer_to (newest_of ids) = ids_of (newest true 1 (map entry_with_id ids))
answer_to (cost_of lqi) = link_cost lqi ∷ []
answer_to (candidates_of_none profile router permit n) = candidates profile router permit n []
answer_to (timer_of index) = (refreshed_timer index).remaining_ms ∷ []
answer_to (tick_of ms elapsed) = tick_numbers (ticked (record { remaining_ms = ms }) elapsed)
answer_to (leave_of address destination router allowed by_parent) =
    cond (accepts_leave (node_at address router allowed) (record { 0 = destination }) by_parent) 1 0 ∷ []

pub record Case : Type 0 where
  pub asked : Question
  pub expected : List ℕ

abbrev pub case : Question → List ℕ → Case
case q a = record { asked = q; expected = a }

abbrev pub cases : List Case
cases =
    -- P1 to P5
    case (newest_of (255 ∷ 0 ∷ [])) (0 ∷ [])
    ∷ case (newest_of (0 ∷ 128 ∷ [])) (0 ∷ [])
    ∷ case (newest_of (128 ∷ 0 ∷ [])) (128 ∷ [])
    ∷ case (newest_of (0 ∷ 100 ∷ 200 ∷ [])) (200 ∷ [])
    ∷ case (newest_of (200 ∷ 0 ∷ 100 ∷ [])) (100 ∷ [])
    -- P6
    ∷ case (cost_of 25) (5 ∷ [])
    ∷ case (cost_of 26) (3 ∷ [])
    -- P7
    ∷ case (candidates_of_none 0 false true 0) []
    ∷ case (candidates_of_none 1 true false 0xaa) []
    -- P8: an inactive timer is at 0
    ∷ case (timer_of 0) (10000 ∷ [])
    ∷ case (timer_of 14) (983040000 ∷ [])
    ∷ case (timer_of 15) (0 ∷ [])
    -- P9 to P11
    ∷ case (tick_of 1 0) (0 ∷ 1 ∷ [])
    ∷ case (tick_of 0 0) (0 ∷ 0 ∷ [])
    ∷ case (tick_of 0 4294967295) (0 ∷ 0 ∷ [])
    ∷ case (tick_of 10000 9999) (1 ∷ 0 ∷ [])
    -- P12: at 0x1234 a request to 0xfff8 is dropped, whatever the role
    ∷ case (leave_of 0x1234 0xfff8 true true true) (0 ∷ [])
    ∷ case (leave_of 0x1234 0xfff8 false true true) (0 ∷ [])
    -- and one to 0xfff7 goes on to the role tests
    ∷ case (leave_of 0x1234 0xfff7 true true false) (1 ∷ [])
    ∷ case (leave_of 0x1234 0xfff7 true false true) (0 ∷ [])
    ∷ case (leave_of 0x1234 0xfff7 false false true) (1 ∷ [])
    ∷ case (leave_of 0x1234 0xfff7 false true false) (0 ∷ [])
    -- at 0x0000 both are dropped
    ∷ case (leave_of 0x0000 0xfff8 true true true) (0 ∷ [])
    ∷ case (leave_of 0x0000 0xfff8 false true true) (0 ∷ [])
    ∷ case (leave_of 0x0000 0xfff7 true true true) (0 ∷ [])
    ∷ case (leave_of 0x0000 0xfff7 false true true) (0 ∷ [])
    ∷ []

-- the common statement: each case's answer is the expected one
abbrev pub Hold : List Case → Type 0
Hold cs = All (λ c. answer_to c.asked ≡ c.expected) cs

-- the printed example of the yard list, by the fields that the choice reads
abbrev pub yard : List NwkNeighbor
yard =
    entry 0xaa 0 true true true 25 3
    ∷ entry 0xaa 2 true false true 26 3
    ∷ entry 0xbb 0 true true true 200 9
    ∷ entry 0xaa 1 true true true 128 3
    ∷ entry 0xaa 1 true true true 255 2
    ∷ []
