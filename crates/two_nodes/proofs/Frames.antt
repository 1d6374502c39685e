-- A received frame that is no leave command leaves the table, and what the poll was for goes on. Assumes nothing.
use Rattle.std.specs.Prelude.{Option, Some, None, Result, Ok, Err}
use mathlib.Core.Path.{◌≡◌, refl}
use mathlib.Core.Bool.{false}
use Rattle.management.specs.declared.PollAnswer.{PollAnswer}
use Rattle.management.specs.declared.frame.ReceivedFrame.{ReceivedFrame}
use Rattle.nlme.specs.declared.Nlme.{Nlme}
use Rattle.nlme.specs.Received.{rejoin_responded, timeout_responded, handled}
use Rattle.operation.specs.declared.ReceptionFor.{ReceptionFor}
use Rattle.operation.specs.declared.Phase.{Phase}
use Rattle.node.specs.Calls.{go_on, with_node, table_changed, after_frame, processed}
use Rattle.node.specs.declared.State.{State}
use Rattle.two_nodes.specs.Statement.{NoLeave}
use Rattle.discovery.specs.declared.mlme.MacError.{MacError}

abbrev pub PlainFrame : ReceivedFrame → Type 0
PlainFrame ReceivedFrame.Undecodable = Unit {0}
PlainFrame (ReceivedFrame.Data f) = Unit {0}
PlainFrame (ReceivedFrame.RejoinResponseCommand f r) = Unit {0}
PlainFrame (ReceivedFrame.TimeoutResponseCommand f r) = Unit {0}
PlainFrame (ReceivedFrame.LeaveCommand f d o) = ⊥
PlainFrame (ReceivedFrame.OtherCommand f) = Unit {0}
PlainFrame ReceivedFrame.OtherFrame = Unit {0}

abbrev pub Plain : Result (Option ReceivedFrame) MacError → Type 0
Plain (Ok None) = Unit {0}
Plain (Err e) = Unit {0}
Plain (Ok (Some f)) = PlainFrame f

pub plain_of : (s : State) (o : Result (Option ReceivedFrame) MacError) → NoLeave s o → (u : ReceptionFor) → s.control.operation.phase ≡ Phase.Reception u → Plain o
plain_of s (Ok None) w u q = tt
plain_of s (Err e) w u q = tt
plain_of s (Ok (Some ReceivedFrame.Undecodable)) w u q = tt
plain_of s (Ok (Some (ReceivedFrame.Data f))) w u q = tt
plain_of s (Ok (Some (ReceivedFrame.RejoinResponseCommand f r))) w u q = tt
plain_of s (Ok (Some (ReceivedFrame.TimeoutResponseCommand f r))) w u q = tt
plain_of s (Ok (Some (ReceivedFrame.LeaveCommand f d o))) w u q = w f d o u refl q
plain_of s (Ok (Some (ReceivedFrame.OtherCommand f))) w u q = tt
plain_of s (Ok (Some ReceivedFrame.OtherFrame)) w u q = tt

abbrev pub nlme_after : ReceivedFrame → Nlme → Nlme
nlme_after ReceivedFrame.Undecodable n = n
nlme_after (ReceivedFrame.Data f) n = n
nlme_after (ReceivedFrame.RejoinResponseCommand f r) n = rejoin_responded r n
nlme_after (ReceivedFrame.TimeoutResponseCommand f r) n = timeout_responded r n
nlme_after (ReceivedFrame.LeaveCommand f d o) n = n
nlme_after (ReceivedFrame.OtherCommand f) n = n
nlme_after ReceivedFrame.OtherFrame n = n

abbrev pub says : ReceivedFrame → PollAnswer
says ReceivedFrame.Undecodable = PollAnswer.PollUndecodable
says (ReceivedFrame.Data f) = PollAnswer.PollData
says (ReceivedFrame.RejoinResponseCommand f r) = PollAnswer.PollNothing
says (ReceivedFrame.TimeoutResponseCommand f r) = PollAnswer.PollNothing
says (ReceivedFrame.LeaveCommand f d o) = PollAnswer.PollNothing
says (ReceivedFrame.OtherCommand f) = PollAnswer.PollNothing
says ReceivedFrame.OtherFrame = PollAnswer.PollNothing

pub processed-is : (u : ReceptionFor) (f : ReceivedFrame) (s : State) → PlainFrame f → processed u f s ≡ go_on false u (says f) (with_node (nlme_after f s.control.nlme) s)
unfolding handled after_frame table_changed
processed-is u ReceivedFrame.Undecodable s w = refl
processed-is u (ReceivedFrame.Data f) s w = refl
processed-is u (ReceivedFrame.RejoinResponseCommand f r) s w = refl
processed-is u (ReceivedFrame.TimeoutResponseCommand f r) s w = refl
processed-is u (ReceivedFrame.LeaveCommand f d o) s w = absurd w
processed-is u (ReceivedFrame.OtherCommand f) s w = refl
processed-is u ReceivedFrame.OtherFrame s w = refl
