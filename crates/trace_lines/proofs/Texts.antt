-- Laws of the lines that are written: a line has at most 420 bytes. Assumes nothing.
use Prim.Native.Nat.{ℕ, suc, ◌+◌, ◌-◌, ◌*◌, ◌<◌, ◌≤◌, zero-le}
use mathlib.Core.Path.{◌≡◌, sym, ap, ◌∙◌}
use mathlib.Core.Bool.{true, false}
use mathlib.Core.List.{List, [], ◌∷◌, ◌++◌, map, map-append, append-nil, append_assoc, flat_map}
use native.Mathlib.Omega.{arith}
use borrow.Author.Tests.{ne_eqb}
use lib.Dec.{eqb}
use lib.ListN.{length, take, get_or, length-append, length-map, length-take}
use lib.Seq.{length-take-le}
use Rattle.lists.specs.Lists.{All}
use Rattle.std.proofs.lemmas.List.{take_more}
use Rattle.lists.proofs.Lists.{over-take}
use Rattle.text.proofs.Numbers.{decimal-long, hex-long}
use Rattle.text.proofs.Written.{in_turn, from_start, same_buffer}
use Rattle.trace_lines.specs.declared.Field.{Field}
use Rattle.trace_lines.specs.declared.Word.{Word}
use Rattle.trace_lines.specs.declared.Word.TheVariants.{E, Node, F, Refused, Scan, Associate, Transmit, Poll, Receive, SetChannel, SetAddress, Reset, Discovered, D, DiscoveryFailed, Confirm, SendAnswer, PollAnswer, Negotiated, KeepaliveAnswer, Expired, LeaveIndication, StatusIndication, Nothing, Candidates, RejoinResponse, TimeoutResponse, End, DataFrame, RejoinRequest, TimeoutRequest, Leave, Success, InvalidRequest, NotPermitted, NoNetworks, PanAtCapacity, PanAccessDenied, MacError, Ok, NotJoined, ParentLinkFailure, PolledData, PolledNothing, Undecodable, Bad, Done, LastHeard}
use Rattle.trace_lines.specs.TraceLines.{word_text, field_text, joined, line_text}
use Rattle.trace_lines.specs.Private.{tab_before}
use Rattle.std.specs.Prelude.{Some, None}

-- texts with tabs between them: one more at the end
tabs-snoc : (us : List (List ℕ)) (u : List ℕ) → flat_map (λ v. 9 ∷ v) (us ++ (u ∷ [])) ≡ flat_map (λ v. 9 ∷ v) us ++ (9 ∷ u)
unfolding flat_map
tabs-snoc [] u = append-nil (9 ∷ u)
tabs-snoc (v ∷ vs) u =
    ap (λ (z : List ℕ). (9 ∷ v) ++ z) (tabs-snoc vs u) ∙ sym (append_assoc (9 ∷ v) (flat_map (λ w. 9 ∷ w) vs) (9 ∷ u))

joined_snoc : (ts : List (List ℕ)) (u : List ℕ) → joined (ts ++ (u ∷ [])) ≡ joined ts ++ (tab_before (length ts) ++ u)
unfolding joined flat_map
joined_snoc [] u = append-nil u
joined_snoc (t ∷ ts) u =
    let n : eqb (suc (length ts)) 0 ≡ false = ne_eqb (suc (length ts)) 0 (λ e. let f : ⊥ = omega arith in f) in
    rw n (ap (λ (z : List ℕ). t ++ z) (tabs-snoc ts u) ∙ sym (append_assoc t (flat_map (λ v. 9 ∷ v) ts) (9 ∷ u)))

-- texts of at most 20 bytes
abbrev Short : List ℕ → Type 0
Short t = length t ≤ 20

word-short : (w : Word) → Short (word_text w)
word-short w = elim w as (λ v. Short (word_text v)) [
  | E ↦ omega arith
  | Node ↦ omega arith
  | F ↦ omega arith
  | Refused ↦ omega arith
  | Scan ↦ omega arith
  | Associate ↦ omega arith
  | Transmit ↦ omega arith
  | Poll ↦ omega arith
  | Receive ↦ omega arith
  | SetChannel ↦ omega arith
  | SetAddress ↦ omega arith
  | Reset ↦ omega arith
  | Discovered ↦ omega arith
  | D ↦ omega arith
  | DiscoveryFailed ↦ omega arith
  | Confirm ↦ omega arith
  | SendAnswer ↦ omega arith
  | PollAnswer ↦ omega arith
  | Negotiated ↦ omega arith
  | KeepaliveAnswer ↦ omega arith
  | Expired ↦ omega arith
  | LeaveIndication ↦ omega arith
  | StatusIndication ↦ omega arith
  | Nothing ↦ omega arith
  | Candidates ↦ omega arith
  | RejoinResponse ↦ omega arith
  | TimeoutResponse ↦ omega arith
  | End ↦ omega arith
  | DataFrame ↦ omega arith
  | RejoinRequest ↦ omega arith
  | TimeoutRequest ↦ omega arith
  | Leave ↦ omega arith
  | Success ↦ omega arith
  | InvalidRequest ↦ omega arith
  | NotPermitted ↦ omega arith
  | NoNetworks ↦ omega arith
  | PanAtCapacity ↦ omega arith
  | PanAccessDenied ↦ omega arith
  | MacError ↦ omega arith
  | Ok ↦ omega arith
  | NotJoined ↦ omega arith
  | ParentLinkFailure ↦ omega arith
  | PolledData ↦ omega arith
  | PolledNothing ↦ omega arith
  | Undecodable ↦ omega arith
  | Bad ↦ omega arith
  | Done ↦ omega arith
  | LastHeard ↦ omega arith
]

pub field-short : (f : Field) → Short (field_text f)
field-short (Field.Named w) = word-short w
field-short (Field.Short n) = omega (arith, hex-long 4 n)
field-short (Field.Long n) = omega (arith, hex-long 16 n)
field-short (Field.OrDash None) = omega arith
field-short (Field.OrDash (Some n)) = omega (arith, hex-long 16 n)
field-short (Field.Flag true) = omega arith
field-short (Field.Flag false) = omega arith
field-short (Field.U8 n) = omega (arith, decimal-long n)
field-short (Field.U16 n) = omega (arith, decimal-long n)
field-short (Field.U32 n) = omega (arith, decimal-long n)

texts-short : (line : List Field) → All Short (map field_text line)
texts-short [] = tt
texts-short (f ∷ fs) = (field-short f, texts-short fs)

-- how long the texts of a line are, with a byte after each
tabs-long : (ts : List (List ℕ)) → All Short ts → length (flat_map (λ u. 9 ∷ u) ts) ≤ 21 * length ts
unfolding flat_map
tabs-long [] a = zero-le
tabs-long (t ∷ ts) a = omega (arith, length-append (9 ∷ t) (flat_map (λ u. 9 ∷ u) ts), a.0, tabs-long ts a.1)

joined-long : (ts : List (List ℕ)) → All Short ts → length (joined ts) ≤ 21 * length ts - 1
unfolding joined
joined-long [] a = zero-le
joined-long (t ∷ ts) a = omega (arith, length-append t (flat_map (λ u. 9 ∷ u) ts), a.0, tabs-long ts a.1)

-- the first i fields of a line, and one more
pub fields-next : (line : List Field) (i : ℕ) (d : Field) → i < length line → joined (map field_text (take i line)) ++ (tab_before i ++ field_text (get_or line i d)) ≡ joined (map field_text (take (i + 1) line))
fields-next line i d h =
    let ts = map field_text (take i line) in
    let n : length ts ≡ i = length-map (take i line) field_text ∙ length-take-le i line (omega arith) in
    ap (λ (j : ℕ). joined ts ++ (tab_before j ++ field_text (get_or line i d))) (sym n)
    ∙ sym (joined_snoc ts (field_text (get_or line i d)))
    ∙ ap joined (sym (ap (map field_text) (take_more line i d h) ∙ map-append field_text (take i line) (get_or line i d ∷ [])))

-- for the fields of a line in turn
pub ruleset field_by_field = (in_turn, fields-next)

-- a line that is written has at most 420 bytes
pub line-short : (line : List Field) → length (line_text line) ≤ 420
unfolding line_text
line-short line =
    let fs = take 20 line in
    omega (arith, length-append (joined (map field_text fs)) (10 ∷ []), joined-long (map field_text fs) (texts-short fs), length-map fs field_text, length-take 20 line)

-- for a line that is written by itself
pub ruleset by_itself = (from_start, same_buffer, line-short, over-take)
