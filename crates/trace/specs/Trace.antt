-- What a line of a trace leaves and prints (compare/FORMAT.md, "Output").
use Rattle.std.specs.Prelude.{Option, Some, None, option_map, ℕ, ◌+◌, min, Bool, true, false, not, take, length}
use mathlib.Core.List.{List, [], ◌∷◌, ◌++◌, map, flat_map}
use Rattle.nib.specs.Neighbors.{entries_of}
use Rattle.nib.specs.declared.NwkNeighbor.{NwkNeighbor}
use Rattle.neighbor_page.specs.Page.{page}
use Rattle.discovery.specs.declared.NetworkDescriptor.{NetworkDescriptor}
use Rattle.discovery.specs.declared.NlmeNetworkDiscoveryConfirm.{NlmeNetworkDiscoveryConfirm}
use Rattle.supervision.specs.Failures.{pairs_of}
use Rattle.operation.specs.declared.Step.{Step}
use Rattle.operation.specs.declared.Step.TheVariants as step
use Rattle.nlme.specs.declared.Nlme.{Nlme}
use Rattle.node.specs.Calls.{page_answer}
use Rattle.node.specs.declared.State.{State}
use Rattle.trace_lines.specs.TraceLines.{line_of, line_text}
use Rattle.trace_input.specs.TraceInput.{call_of}
use Rattle.trace_calls.specs.TraceCalls.{before, turn_taken}
use Rattle.trace_calls.specs.declared.Session.{Session}
use Rattle.trace_calls.specs.declared.Answered.{Answered}
use Rattle.trace_calls.specs.declared.Said.{Said}
use Rattle.trace_calls.specs.declared.Said.TheVariants.{Bad, Nothing, Told, Chosen, Shown, Paged, LastHeard}
use Rattle.trace_calls.specs.declared.Turn.{Turn}
use Rattle.trace.specs.Lines.{Line, reset_line, note_line, step_line, descriptor_line, node_line, entry_line, failure_line, slot_lines, choice_line, last_heard_line, bad_line}
use Rattle.trace.specs.declared.Run.{Run}

-- a line that is not printed has no text
abbrev pub some_text : Option Line → List ℕ
some_text None = []
some_text (Some l) = line_text l

abbrev pub lines_text : List (Option Line) → List ℕ
lines_text ls = flat_map some_text ls

-- the networks that a discovery found, and how many it tells of
abbrev pub networks_of : Option NlmeNetworkDiscoveryConfirm → List NetworkDescriptor
networks_of None = []
networks_of (Some c) = take c.count c.network_descriptor

abbrev pub network_count : Option NlmeNetworkDiscoveryConfirm → ℕ
network_count None = 0
network_count (Some c) = c.count

-- each element of a list has a line
abbrev pub each_line : {A : Type 0} → (A → Line) → List A → List (Option Line)
each_line f l = map (λ x. Some (f x)) l

-- an answer: the reset note, the set-channel or set-address note, the request, confirm, answer or refusal; after `discovered` a `d` line for each network
abbrev pub told_lines : Answered → List (Option Line)
told_lines a =
    reset_line a.reset ∷ option_map note_line a.note ∷ step_line a.step (network_count a.networks) ∷ each_line descriptor_line (networks_of a.networks)

-- the state: the `node` line, the `e` lines; then the `f` lines, the slots that are full, and `end`
abbrev pub nlme_lines : Nlme → List (Option Line)
nlme_lines n = each_line failure_line (pairs_of n.transmit_failures) ++ slot_lines n.signals

abbrev pub state_lines : State → List (Option Line)
state_lines s = Some (node_line s.control.nlme) ∷ (each_line entry_line (entries_of s.table) ++ nlme_lines s.control.nlme)

-- the page behind the line of a step, as it stands (compare/FORMAT.md, "Output")
abbrev pub page_bytes : Step → List NwkNeighbor → List ℕ
page_bytes step.PageWritten es = page es
page_bytes (step.Refused k) es = []
page_bytes (step.Ask r) es = []
page_bytes step.Discovered es = []
page_bytes step.DiscoveryFailed es = []
page_bytes (step.Joined c) es = []
page_bytes (step.Sent a) es = []
page_bytes (step.Polled a) es = []
page_bytes (step.NegotiationOver a) es = []
page_bytes (step.KeepaliveOver a) es = []
page_bytes (step.Expired b) es = []
page_bytes (step.LeaveTaken slot) es = []
page_bytes (step.StatusTaken slot) es = []
page_bytes step.Done es = []

-- what the call of the neighbour page prints that is lent a buffer of k bytes
unfoldable pub page_text : ℕ → State → List ℕ
page_text k s = some_text (step_line (page_answer k s).step 0) ++ page_bytes (page_answer k s).step (entries_of s.table)

-- what a turn prints: its lines, or its page; n is the number of its line
abbrev pub text_by : Said → ℕ → State → List ℕ
text_by Bad n s = line_text (bad_line n)
text_by Nothing n s = []
text_by (Told a) n s = lines_text (told_lines a)
text_by (Chosen choice) n s = line_text (choice_line choice)
text_by Shown n s = lines_text (state_lines s)
text_by (Paged k) n s = page_text k s
text_by LastHeard n s = line_text (last_heard_line (entries_of s.table))

abbrev pub text_of : ℕ → Turn → List ℕ
text_of n t = text_by t.said n t.session.state

-- the line is not of the format
abbrev pub says_bad : Said → Bool
says_bad Bad = true
says_bad Nothing = false
says_bad (Told a) = false
says_bad (Chosen choice) = false
says_bad Shown = false
says_bad (Paged k) = false
says_bad LastHeard = false

-- the call that a line says, made on the session
unfoldable pub turn_of : List ℕ → Session → Turn
turn_of line s = turn_taken (option_map call_of (line_of line)) s

-- lines are counted from 1, up to the greatest number of 32 bits
abbrev pub number_after : ℕ → ℕ
number_after n = min (n + 1) 4294967295

-- before the first line
abbrev pub run_before : Run
run_before = record { session = before; number = 0; good = true; length = 0 }

-- one line more: what it prints, and the run after it
unfoldable pub printed : List ℕ → Run → List ℕ
printed line r = text_of (number_after r.number) (turn_of line r.session)

unfoldable pub run_after : List ℕ → Run → Run
run_after line r =
    record {
      session = (turn_of line r.session).session;
      number = number_after r.number;
      good = not (says_bad (turn_of line r.session).said);
      length = length (printed line r);
    }
