-- Computed tests: the text of each word, and the letters of each line's fields (compare/FORMAT.md, "Output"). Assumes nothing.
use Rattle.std.specs.Prelude.{ℕ, Bool, true, Option, Some, None, option_map, List, [], ◌∷◌, length, map, replicate, refl, ◌≡◌}
use Rattle.std.proofs.Common.{ap, ◌∙◌}
use Prim.Native.Char.{code}
use Prim.Native.String.{String}
use Rattle.lists.specs.Lists.{every}
use Rattle.text.specs.Text.{bytes, same_text, decimal_text, digit_byte}
use Rattle.nib.specs.declared.Nib.{Nib}
use Rattle.nib.specs.declared.NwkNeighbor.{NwkNeighbor}
use Rattle.nib.specs.declared.IeeeAddress.{IeeeAddress}
use Rattle.nib.specs.declared.PanId.{PanId}
use Rattle.nib.specs.declared.ShortAddress.{ShortAddress}
use Rattle.discovery.specs.declared.NetworkDescriptor.{NetworkDescriptor}
use Rattle.management.specs.declared.EndDeviceTimeoutResponse.{EndDeviceTimeoutResponse}
use Rattle.management.specs.declared.KeepaliveAnswer.{KeepaliveAnswer}
use Rattle.management.specs.declared.LeavingDevice.{LeavingDevice}
use Rattle.management.specs.declared.NegotiationAnswer.{NegotiationAnswer}
use Rattle.management.specs.declared.PollAnswer.{PollAnswer}
use Rattle.management.specs.declared.SendAnswer.{SendAnswer}
use Rattle.management.specs.declared.NlmeJoinConfirm.{NlmeJoinConfirm}
use Rattle.management.specs.declared.NlmeNwkStatusIndication.{NlmeNwkStatusIndication}
use Rattle.management.specs.declared.RejoinResponse.{RejoinResponse}
use Rattle.management.specs.declared.ScanRange.{ScanRange}
use Rattle.management.specs.declared.frame.CommandHeader.{CommandHeader}
use Rattle.management.specs.declared.frame.DataHeader.{DataHeader}
use Rattle.management.specs.declared.frame.SentCommand.{SentCommand}
use Rattle.nib.specs.declared.CapabilityInformation.{CapabilityInformation}
use Rattle.management.specs.declared.frame.LeaveOptions.{LeaveOptions}
use Rattle.operation.specs.declared.AssociateRequest.{AssociateRequest}
use Rattle.operation.specs.declared.Note.{Note}
use Rattle.operation.specs.declared.RadioRequest.{RadioRequest}
use Rattle.operation.specs.declared.Refusal.{Refusal}
use Rattle.operation.specs.declared.Step.{Step}
use Rattle.supervision.specs.declared.TransmitFailure.{TransmitFailure}
use Rattle.trace_lines.specs.TraceLines.{field_text}
use Rattle.trace_lines.specs.declared.Field.{Field}
use Rattle.trace_lines.specs.declared.Field.TheVariants.{Named, U8, U32}
use Rattle.trace_lines.specs.declared.Word.{Word}
use Rattle.trace_lines.specs.declared.Word.TheVariants as word
use Rattle.trace.specs.Lines.{Line, word_line, refusal_line, nib_line, entry_line, failure_line, rejoin_response_line, timeout_response_line, leave_line, status_line, note_line, scan_line, associate_line, data_line, command_frame_line, poll_line, request_line, reset_line, negotiation_field, confirm_line, descriptor_line, candidates_line, last_heard_line, step_line, bad_line}

-- each of some fields has a text
abbrev placed : List (Field × String) → Bool
placed named = every (λ p. same_text (field_text p.0) (bytes p.1)) named

words_placed : placed (
    (Named word.E, "e") ∷ (Named word.Node, "node") ∷ (Named word.F, "f") ∷ (Named word.Refused, "refused") ∷ (Named word.Scan, "scan")
    ∷ (Named word.Associate, "associate") ∷ (Named word.Transmit, "transmit") ∷ (Named word.Poll, "poll") ∷ (Named word.Receive, "receive")
    ∷ (Named word.SetChannel, "setchannel") ∷ (Named word.SetAddress, "setaddress") ∷ (Named word.Reset, "reset") ∷ (Named word.Discovered, "discovered")
    ∷ (Named word.D, "d") ∷ (Named word.DiscoveryFailed, "discoveryfailed") ∷ (Named word.Confirm, "confirm") ∷ (Named word.SendAnswer, "sendanswer")
    ∷ (Named word.PollAnswer, "pollanswer") ∷ (Named word.Negotiated, "negotiated") ∷ (Named word.KeepaliveAnswer, "keepaliveanswer")
    ∷ (Named word.Expired, "expired") ∷ (Named word.LeaveIndication, "leaveindication") ∷ (Named word.StatusIndication, "statusindication")
    ∷ (Named word.Nothing, "nothing") ∷ (Named word.Candidates, "candidates") ∷ (Named word.RejoinResponse, "rejoinresponse")
    ∷ (Named word.TimeoutResponse, "timeoutresponse") ∷ (Named word.End, "end") ∷ (Named word.DataFrame, "data")
    ∷ (Named word.RejoinRequest, "rejoinrequest") ∷ (Named word.TimeoutRequest, "timeoutrequest") ∷ (Named word.Leave, "leave")
    ∷ (Named word.Success, "Success") ∷ (Named word.InvalidRequest, "InvalidRequest") ∷ (Named word.NotPermitted, "NotPermitted")
    ∷ (Named word.NoNetworks, "NoNetworks") ∷ (Named word.PanAtCapacity, "PanAtCapacity") ∷ (Named word.PanAccessDenied, "PanAccessDenied")
    ∷ (Named word.MacError, "MacError") ∷ (Named word.Ok, "Ok") ∷ (Named word.NotJoined, "NotJoined") ∷ (Named word.ParentLinkFailure, "ParentLinkFailure")
    ∷ (Named word.PolledData, "Data") ∷ (Named word.PolledNothing, "Nothing") ∷ (Named word.Undecodable, "Undecodable")
    ∷ (negotiation_field NegotiationAnswer.Negotiated, "1") ∷ (negotiation_field NegotiationAnswer.NotNegotiated, "0") ∷ (Named word.Bad, "bad")
    ∷ (Named word.Done, "done") ∷ (Named word.LastHeard, "lastheard")
    ∷ []) ≡ true
unfolding decimal_text digit_byte
words_placed = refl

-- the letter of a field, as the format has it: a word, 4 hexadecimal digits, 16, 16 or a dash, a flag, a decimal number of 8, 16 or 32 bits
abbrev letter_of : Field → ℕ
letter_of (Field.Named w) = code "w"
letter_of (Field.Short n) = code "4"
letter_of (Field.Long n) = code "G"
letter_of (Field.OrDash n) = code "o"
letter_of (Field.Flag b) = code "f"
letter_of (Field.U8 n) = code "b"
letter_of (Field.U16 n) = code "s"
letter_of (Field.U32 n) = code "m"

abbrev Has : Line → String → Type 0
Has line letters = map letter_of line ≡ bytes letters

abbrev Says : Option Line → String → Type 0
Says line letters = option_map (map letter_of) line ≡ Some (bytes letters)

-- as many fields as a list has elements, all of one letter
repeated : {A : Type 0} (f : A → Field) (letter : ℕ) → ((x : A) → letter_of (f x) ≡ letter) → (l : List A) → map letter_of (map f l) ≡ replicate (length l) letter
repeated f letter same [] = refl
repeated f letter same (x ∷ xs) = ap (λ (z : List ℕ). letter_of (f x) ∷ z) (repeated f letter same xs) ∙ ap (λ z. z ∷ replicate (length xs) letter) (same x)

-- the fields of each line, whatever it says
record KindsPlaced : Type 0 where
  entry : (e : NwkNeighbor) → Has (entry_line e) "wG4bfsbbbbfGbbfbffb4"
  node : (n : Nib) (seq pending timer : ℕ) → Has (nib_line n seq pending timer) "w4GG4bbbbbbfbbm"
  pair : (p : TransmitFailure) → Has (failure_line p) "w4b"
  rejoin_response : (r : RejoinResponse) → Has (rejoin_response_line r) "w4b"
  refused : (r : Refusal) → Has (refusal_line r) "wb"
  set_channel : (c : ℕ) → Has (note_line (Note.SetChannel c)) "wb"
  discovered : (n : ℕ) → Says (step_line Step.Discovered n) "wb"
  bad : (n : ℕ) → Has (bad_line n) "wm"
  scan : (r : ScanRange) → Has (scan_line r) "wbbb"
  associate : (r : AssociateRequest) → Has (associate_line r) "wb44fffff"
  sent_data : (pan : PanId) (a : ShortAddress) (h : DataHeader) → Has (data_line pan a h) "w44w44bf"
  sent_rejoin_request : (pan : PanId) (a : ShortAddress) (h : CommandHeader) (c : CapabilityInformation) → Has (command_frame_line pan a h (SentCommand.RejoinRequest c)) "w44w4o4Gbfb"
  sent_timeout_request : (pan : PanId) (a : ShortAddress) (h : CommandHeader) (i : ℕ) → Has (command_frame_line pan a h (SentCommand.TimeoutRequest i)) "w44w4o4Gbfb"
  sent_leave : (pan : PanId) (a : ShortAddress) (h : CommandHeader) (o : LeaveOptions) → Has (command_frame_line pan a h (SentCommand.Leave o)) "w44w4o4Gbfff"
  poll : (pan : PanId) (a : ShortAddress) → Has (poll_line pan a) "w44"
  alone : (w : Word) → Has (word_line w) "w"
  receive : Has (request_line RadioRequest.Receive) "w"
  reset : Says (reset_line true) "w"
  discovery_failed : (n : ℕ) → Says (step_line Step.DiscoveryFailed n) "w"
  no_leave : (n : ℕ) → Says (step_line (Step.LeaveTaken None) n) "w"
  no_status : (n : ℕ) → Says (step_line (Step.StatusTaken None) n) "w"
  done : (n : ℕ) → Says (step_line Step.Done n) "w"
  set_address : (a : ShortAddress) → Has (note_line (Note.SetAddress a)) "w4"
  status_indication : (i : NlmeNwkStatusIndication) → Has (status_line i) "w4"
  network : (d : NetworkDescriptor) → Has (descriptor_line d) "wG4bbbbbbfff"
  confirm : (c : NlmeJoinConfirm) → Has (confirm_line c) "ww4Gb"
  this_device : (rejoin : Bool) → Has (leave_line (record { device = LeavingDevice.ThisDevice; rejoin = rejoin })) "wof"
  by_ieee : (a : IeeeAddress) (rejoin : Bool) → Has (leave_line (record { device = LeavingDevice.NeighborByIeee a; rejoin = rejoin })) "wof"
  by_short : (a : ShortAddress) (rejoin : Bool) → Has (leave_line (record { device = LeavingDevice.NeighborByShort a; rejoin = rejoin })) "w4f"
  sent : (a : SendAnswer) (n : ℕ) → Says (step_line (Step.Sent a) n) "ww"
  polled : (a : PollAnswer) (n : ℕ) → Says (step_line (Step.Polled a) n) "ww"
  negotiated : (n : ℕ) → Says (step_line (Step.NegotiationOver NegotiationAnswer.Negotiated) n) "wb"
  not_negotiated : (n : ℕ) → Says (step_line (Step.NegotiationOver NegotiationAnswer.NotNegotiated) n) "wb"
  negotiation_not_joined : (n : ℕ) → Says (step_line (Step.NegotiationOver NegotiationAnswer.NegotiationNotJoined) n) "ww"
  negotiation_mac_error : (n : ℕ) → Says (step_line (Step.NegotiationOver NegotiationAnswer.NegotiationMacError) n) "ww"
  keepalive : (a : KeepaliveAnswer) (n : ℕ) → Says (step_line (Step.KeepaliveOver a) n) "ww"
  expired : (b : Bool) (n : ℕ) → Says (step_line (Step.Expired b) n) "wf"
  timeout_response : (r : EndDeviceTimeoutResponse) → Has (timeout_response_line r) "wbb"
  candidates : (l : List ℕ) → map letter_of (candidates_line l) ≡ code "w" ∷ replicate (length l) (code "b")
  all_candidates : (l : List ℕ) → length l ≡ 16 → Has (candidates_line l) "wbbbbbbbbbbbbbbbb"
  last_heard : (es : List NwkNeighbor) → map letter_of (last_heard_line es) ≡ code "w" ∷ replicate (length es) (code "m")
  all_last_heard : (es : List NwkNeighbor) → length es ≡ 16 → Has (last_heard_line es) "wmmmmmmmmmmmmmmmm"

candidates-letters : (l : List ℕ) → map letter_of (candidates_line l) ≡ code "w" ∷ replicate (length l) (code "b")
candidates-letters l = ap (λ (z : List ℕ). code "w" ∷ z) (repeated (λ i. U8 i) (code "b") (λ i. refl) l)

last_heard-letters : (es : List NwkNeighbor) → map letter_of (last_heard_line es) ≡ code "w" ∷ replicate (length es) (code "m")
last_heard-letters es = ap (λ (z : List ℕ). code "w" ∷ z) (repeated (λ (e : NwkNeighbor). U32 e.last_heard) (code "m") (λ e. refl) es)

kinds-placed : KindsPlaced
unfolding step_line request_line
kinds-placed =
    record {
      entry = λ e. refl;
      node = λ n seq pending timer. refl;
      pair = λ p. refl;
      rejoin_response = λ r. refl;
      refused = λ r. refl;
      set_channel = λ c. refl;
      discovered = λ n. refl;
      bad = λ n. refl;
      scan = λ r. refl;
      associate = λ r. refl;
      sent_data = λ pan a h. refl;
      sent_rejoin_request = λ pan a h c. refl;
      sent_timeout_request = λ pan a h i. refl;
      sent_leave = λ pan a h o. refl;
      poll = λ pan a. refl;
      alone = λ w. refl;
      receive = refl;
      reset = refl;
      discovery_failed = λ n. refl;
      no_leave = λ n. refl;
      no_status = λ n. refl;
      done = λ n. refl;
      set_address = λ a. refl;
      status_indication = λ i. refl;
      network = λ d. refl;
      confirm = λ c. refl;
      this_device = λ rejoin. refl;
      by_ieee = λ a rejoin. refl;
      by_short = λ a rejoin. refl;
      sent = λ a n. refl;
      polled = λ a n. refl;
      negotiated = λ n. refl;
      not_negotiated = λ n. refl;
      negotiation_not_joined = λ n. refl;
      negotiation_mac_error = λ n. refl;
      keepalive = λ a n. refl;
      expired = λ b n. refl;
      timeout_response = λ r. refl;
      candidates = candidates-letters;
      all_candidates = λ l many. candidates-letters l ∙ ap (λ n. code "w" ∷ replicate n (code "b")) many;
      last_heard = last_heard-letters;
      all_last_heard = λ es many. last_heard-letters es ∙ ap (λ n. code "w" ∷ replicate n (code "m")) many;
    }
