-- Who sent a frame that was received, and the sequence numbers of those that are sent.
use Rattle.std.specs.Prelude.{Option, Some, None, ℕ, ◌+◌, ◌%◌}
use Rattle.management.specs.declared.frame.Source.{Source}
use Rattle.management.specs.declared.frame.ReceivedFrame.{ReceivedFrame}

-- the sender of a "data or command frame" (02, L4). One that can't be decoded, a reserved and an inter-PAN frame name none
unfoldable pub sender_of : ReceivedFrame → Option Source
sender_of ReceivedFrame.Undecodable = None
sender_of (ReceivedFrame.Data s) = Some s
sender_of (ReceivedFrame.RejoinResponseCommand s r) = Some s
sender_of (ReceivedFrame.TimeoutResponseCommand s r) = Some s
sender_of (ReceivedFrame.LeaveCommand s d o) = Some s
sender_of (ReceivedFrame.OtherCommand s) = Some s
sender_of ReceivedFrame.OtherFrame = None

-- the sequence number after one (01, "Supervision record": "Sequence numbers go up by one and wrap after 255"; `next_nwk_seq` of the source)
abbrev pub next_seq : ℕ → ℕ
next_seq s = (s + 1) % 256
