-- A line of a trace: read as a kind and numbers (compare/FORMAT.md, "Input: the state" and "Input: calls"), and written from typed fields ("Output").
-- A text is the list of its bytes; 9 is the tab, 10 the line feed.
use Rattle.std.specs.Prelude.{ℕ, Bool, cond, ◌&&◌, Option, Some, None, is_some, unwrap_or, eqb, length, take, drop, get_or, replicate}
use Rattle.std.specs.Bool.{then_some}
use Prim.Native.Char.{code}
use mathlib.Core.List.{List, [], ◌∷◌, ◌++◌, map, zip_with, flat_map}
use Rattle.lists.specs.Lists.{every, some, over}
use Rattle.text.specs.Text.{bytes, fields, same_text, decimal_of, hex_of, decimal_text, hex_text}
use Rattle.trace_lines.specs.declared.InputKind.{InputKind}
use Rattle.trace_lines.specs.declared.InputKind.TheVariants as kind
use Rattle.trace_lines.specs.declared.InputLine.{InputLine}
use Rattle.trace_lines.specs.declared.Word.{Word}
use Rattle.trace_lines.specs.declared.Word.TheVariants as word
use Rattle.trace_lines.specs.declared.Field.{Field}
use Rattle.trace_lines.specs.declared.Field.TheVariants as field

-- a letter says what stands in a field that is read: 4 hexadecimal digits, 16, 16 or a dash, the digit 2 alone, or the digit 3 alone.
-- Any other letter stands for a decimal number
abbrev pub four_digits : ℕ
four_digits = code "4"

abbrev pub sixteen_digits : ℕ
sixteen_digits = code "G"

abbrev pub or_dash : ℕ
or_dash = code "o"

abbrev pub digit_two : ℕ
digit_two = code "2"

abbrev pub digit_three : ℕ
digit_three = code "3"

-- the greatest decimal number of a letter; that of `m`, and of any other, has 32 bits
abbrev pub greatest : ℕ → ℕ
greatest letter =
    cond (eqb letter (code "f")) 1
    (cond (eqb letter (code "k")) 3
    (cond (eqb letter (code "n")) 15
    (cond (eqb letter (code "b")) 255
    (cond (eqb letter (code "p")) 1024
    (cond (eqb letter (code "s")) 65535 4294967295)))))

-- the word of a kind of line that is read
abbrev pub word_of : InputKind → List ℕ
word_of kind.Entry = bytes "e"
word_of kind.ShortBeacon = bytes "b"
word_of kind.ExtendedBeacon = bytes "b"
word_of kind.NoData = bytes "nodata"
word_of kind.Sent = bytes "sent"
word_of kind.Tick = bytes "tick"
word_of kind.Node = bytes "node"
word_of kind.Scan = bytes "scan"
word_of kind.SendFailed = bytes "sendfail"
word_of kind.ScanFailed = bytes "scanfail"
word_of kind.PollFailed = bytes "pollfail"
word_of kind.Associated = bytes "associate"
word_of kind.AssociateFailed = bytes "associatefail"
word_of kind.Undecodable = bytes "undecodable"
word_of kind.Data = bytes "data"
word_of kind.RejoinResponse = bytes "rejoinresponse"
word_of kind.TimeoutResponse = bytes "timeoutresponse"
word_of kind.Leave = bytes "leave"
word_of kind.Command = bytes "command"
word_of kind.OtherFrame = bytes "otherframe"
word_of kind.Discovery = bytes "discovery"
word_of kind.Join = bytes "join"
word_of kind.Send = bytes "send"
word_of kind.Poll = bytes "poll"
word_of kind.Receive = bytes "receive"
word_of kind.Negotiate = bytes "negotiate"
word_of kind.Keepalive = bytes "keepalive"
word_of kind.TakeLeave = bytes "takeleave"
word_of kind.TakeStatus = bytes "takestatus"
word_of kind.Candidates = bytes "candidates"
word_of kind.State = bytes "state"
word_of kind.Pair = bytes "f"
word_of kind.Page = bytes "page"
word_of kind.Refresh = bytes "refresh"
word_of kind.Heard = bytes "h"
word_of kind.Clock = bytes "clock"
word_of kind.LastHeard = bytes "lastheard"

-- and the letters of its further fields
abbrev pub letters_of : InputKind → List ℕ
letters_of kind.Entry = bytes "G4bfsbbbbfGbbfbffb4"
letters_of kind.ShortBeacon = bytes "b424Gfffnbbnnnn"
letters_of kind.ExtendedBeacon = bytes "b43GGfffnbbnnnn"
letters_of kind.NoData = bytes ""
letters_of kind.Sent = bytes ""
letters_of kind.Tick = bytes "m"
letters_of kind.Node = bytes "4GG4bbbbbbfbbm"
letters_of kind.Scan = bytes "m"
letters_of kind.SendFailed = bytes ""
letters_of kind.ScanFailed = bytes ""
letters_of kind.PollFailed = bytes ""
letters_of kind.Associated = bytes "b4G"
letters_of kind.AssociateFailed = bytes ""
letters_of kind.Undecodable = bytes ""
letters_of kind.Data = bytes "4o"
letters_of kind.RejoinResponse = bytes "4o4b"
letters_of kind.TimeoutResponse = bytes "4obb"
letters_of kind.Leave = bytes "4o4fff"
letters_of kind.Command = bytes "4o"
letters_of kind.OtherFrame = bytes ""
letters_of kind.Discovery = bytes "bbb"
letters_of kind.Join = bytes "kGbfbbb"
letters_of kind.Send = bytes "4f"
letters_of kind.Poll = bytes ""
letters_of kind.Receive = bytes ""
letters_of kind.Negotiate = bytes ""
letters_of kind.Keepalive = bytes ""
letters_of kind.TakeLeave = bytes ""
letters_of kind.TakeStatus = bytes ""
letters_of kind.Candidates = bytes "Gff"
letters_of kind.State = bytes ""
letters_of kind.Pair = bytes "4b"
letters_of kind.Page = bytes "p"
letters_of kind.Refresh = bytes ""
letters_of kind.Heard = bytes "m"
letters_of kind.Clock = bytes "m"
letters_of kind.LastHeard = bytes ""

-- all kinds, in the order in which a line is tried
abbrev pub kinds : List InputKind
kinds =
    kind.Entry ∷ kind.ShortBeacon ∷ kind.ExtendedBeacon ∷ kind.NoData ∷ kind.Sent ∷ kind.Tick ∷ kind.Node ∷ kind.Scan ∷ kind.SendFailed
    ∷ kind.ScanFailed ∷ kind.PollFailed ∷ kind.Associated ∷ kind.AssociateFailed ∷ kind.Undecodable ∷ kind.Data ∷ kind.RejoinResponse
    ∷ kind.TimeoutResponse ∷ kind.Leave ∷ kind.Command ∷ kind.OtherFrame ∷ kind.Discovery ∷ kind.Join ∷ kind.Send ∷ kind.Poll
    ∷ kind.Receive ∷ kind.Negotiate ∷ kind.Keepalive ∷ kind.TakeLeave ∷ kind.TakeStatus ∷ kind.Candidates ∷ kind.State ∷ kind.Pair
    ∷ kind.Page ∷ kind.Refresh ∷ kind.Heard ∷ kind.Clock ∷ kind.LastHeard ∷ []

-- the number in a field, by its letter; that of a dash is 0
unfoldable pub number_of : ℕ → List ℕ → Option ℕ
number_of letter f =
    cond (eqb letter four_digits) (hex_of 4 f)
    (cond (eqb letter sixteen_digits) (hex_of 16 f)
    (cond (eqb letter or_dash) (cond (same_text f (bytes "-")) (Some 0) (hex_of 16 f))
    (cond (eqb letter digit_two) (then_some (same_text f (bytes "2")) 2)
    (cond (eqb letter digit_three) (then_some (same_text f (bytes "3")) 3) (decimal_of (greatest letter) f)))))

abbrev pub is_dash : ℕ → List ℕ → Bool
is_dash letter f = eqb letter or_dash && same_text f (bytes "-")

-- as many fields as letters, each with a number
unfoldable pub all_fit : List ℕ → List (List ℕ) → Bool
all_fit letters fs = eqb (length fs) (length letters) && every is_some (zip_with number_of letters fs)

-- the fields of a line fit a kind
unfoldable pub fits_kind : List (List ℕ) → InputKind → Bool
fits_kind fs k = same_text (get_or fs 0 []) (word_of k) && all_fit (letters_of k) (drop 1 fs)

abbrev pub zeros : List ℕ
zeros = replicate 20 0

-- a number that is read, and 0 where there is none
abbrev pub or_zero : Option ℕ → ℕ
or_zero o = unwrap_or o 0

-- the line of a kind whose further fields are read by its letters: number i is that of field i, from 1
unfoldable pub line_as : InputKind → List (List ℕ) → InputLine
line_as k fs =
    record {
      kind = k;
      dash = some (λ d. d) (zip_with is_dash (letters_of k) (drop 1 fs));
      numbers = over zeros (0 ∷ map or_zero (zip_with number_of (letters_of k) (drop 1 fs)));
    }

-- the line by the first kind that fits; none where no kind does: the line is none of a trace
unfoldable pub read_by : List InputKind → List (List ℕ) → Option InputLine
read_by [] fs = None
read_by (k ∷ ks) fs = cond (fits_kind fs k) (Some (line_as k fs)) (read_by ks fs)

unfoldable pub line_of : List ℕ → Option InputLine
line_of line = read_by kinds (fields line)

-- the words that are written
abbrev pub word_text : Word → List ℕ
word_text word.E = bytes "e"
word_text word.Node = bytes "node"
word_text word.F = bytes "f"
word_text word.Refused = bytes "refused"
word_text word.Scan = bytes "scan"
word_text word.Associate = bytes "associate"
word_text word.Transmit = bytes "transmit"
word_text word.Poll = bytes "poll"
word_text word.Receive = bytes "receive"
word_text word.SetChannel = bytes "setchannel"
word_text word.SetAddress = bytes "setaddress"
word_text word.Reset = bytes "reset"
word_text word.Discovered = bytes "discovered"
word_text word.D = bytes "d"
word_text word.DiscoveryFailed = bytes "discoveryfailed"
word_text word.Confirm = bytes "confirm"
word_text word.SendAnswer = bytes "sendanswer"
word_text word.PollAnswer = bytes "pollanswer"
word_text word.Negotiated = bytes "negotiated"
word_text word.KeepaliveAnswer = bytes "keepaliveanswer"
word_text word.Expired = bytes "expired"
word_text word.LeaveIndication = bytes "leaveindication"
word_text word.StatusIndication = bytes "statusindication"
word_text word.Nothing = bytes "nothing"
word_text word.Candidates = bytes "candidates"
word_text word.RejoinResponse = bytes "rejoinresponse"
word_text word.TimeoutResponse = bytes "timeoutresponse"
word_text word.End = bytes "end"
word_text word.DataFrame = bytes "data"
word_text word.RejoinRequest = bytes "rejoinrequest"
word_text word.TimeoutRequest = bytes "timeoutrequest"
word_text word.Leave = bytes "leave"
word_text word.Success = bytes "Success"
word_text word.InvalidRequest = bytes "InvalidRequest"
word_text word.NotPermitted = bytes "NotPermitted"
word_text word.NoNetworks = bytes "NoNetworks"
word_text word.PanAtCapacity = bytes "PanAtCapacity"
word_text word.PanAccessDenied = bytes "PanAccessDenied"
word_text word.MacError = bytes "MacError"
word_text word.Ok = bytes "Ok"
word_text word.NotJoined = bytes "NotJoined"
word_text word.ParentLinkFailure = bytes "ParentLinkFailure"
word_text word.PolledData = bytes "Data"
word_text word.PolledNothing = bytes "Nothing"
word_text word.Undecodable = bytes "Undecodable"
word_text word.Bad = bytes "bad"
word_text word.Done = bytes "done"
word_text word.LastHeard = bytes "lastheard"

-- an IEEE address, or the dash that stands for none
abbrev pub or_dash_text : Option ℕ → List ℕ
or_dash_text None = bytes "-"
or_dash_text (Some n) = hex_text 16 n

-- a flag is 1 or 0
abbrev pub flag_text : Bool → List ℕ
flag_text b = cond b (bytes "1") (bytes "0")

-- a field's text
abbrev pub field_text : Field → List ℕ
field_text (field.Named w) = word_text w
field_text (field.Short n) = hex_text 4 n
field_text (field.Long n) = hex_text 16 n
field_text (field.OrDash n) = or_dash_text n
field_text (field.Flag b) = flag_text b
field_text (field.U8 n) = decimal_text n
field_text (field.U16 n) = decimal_text n
field_text (field.U32 n) = decimal_text n

-- texts with a tab between each two
unfoldable pub joined : List (List ℕ) → List ℕ
joined [] = []
joined (t ∷ ts) = t ++ flat_map (λ u. 9 ∷ u) ts

-- a line's text: that of its fields, of which it has at most 20
unfoldable pub line_text : List Field → List ℕ
line_text line = joined (map field_text (take 20 line)) ++ (10 ∷ [])
