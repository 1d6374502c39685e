-- The pairs of short address and failure count (01, "Supervision record"; Zigbee 3.6.3.7).
use Rattle.std.specs.Prelude.{ℕ, ◌+◌, min, Bool, cond, List, [], ◌∷◌, ◌++◌, eqb, ltb, leb, length, take, drop, get_or, replicate}
use Rattle.lists.specs.Lists.{over, first_index, some, change_first, remove_first}
use Rattle.nib.specs.declared.ShortAddress.{ShortAddress}
use Rattle.supervision.specs.declared.TransmitFailure.{TransmitFailure}
use Rattle.supervision.specs.declared.TransmitFailures.{TransmitFailures}
use Rattle.supervision.specs.declared.Recorded.{Recorded}
use Rattle.supervision.specs.declared.FailedSend.{FailedSend}

-- the pairs in use, the oldest first: as many as the count says, all 16 where it says more
abbrev pub pairs_of : TransmitFailures → List TransmitFailure
pairs_of f = take f.count f.pairs

-- what an unused slot holds, which is also what a read past the end gives
abbrev pub blank_pair : TransmitFailure
blank_pair = record { address = record { 0 = 0 }; count = 0 }

-- a list of pairs as a record: unused slots hold `blank_pair`
abbrev pub failures_of : List TransmitFailure → TransmitFailures
failures_of l = record { pairs = over (replicate 16 blank_pair) l; count = length l }

-- whether a pair is of an address; of two such pairs the first counts
abbrev pub of_address : ShortAddress → TransmitFailure → Bool
of_address a p = eqb p.address.0 a.0

-- one failure more; a count of 255 stays
abbrev pub one_more : ℕ → ℕ
one_more n = min (n + 1) 255

abbrev pub counted_once : TransmitFailure → TransmitFailure
counted_once p = record { address = p.address; count = one_more p.count }

-- the count of an address: 0 where it has no pair
abbrev pub count_of : ShortAddress → List TransmitFailure → ℕ
count_of a l = (get_or l (first_index (of_address a) l) blank_pair).count

-- the pairs with room for one more: of 16 the oldest, which is the first, goes
abbrev pub with_room : List TransmitFailure → List TransmitFailure
with_room l = cond (ltb (length l) 16) l (drop 1 l)

-- a new pair comes last
abbrev pub added : ShortAddress → List TransmitFailure → List TransmitFailure
added a l = with_room l ++ (record { address = a; count = 1 } ∷ [])

-- one more failed send to an address, and how many there are then
unfoldable pub recorded : TransmitFailures → ShortAddress → Recorded
recorded f a =
    record {
      failures = failures_of (cond (some (of_address a) (pairs_of f)) (change_first (of_address a) counted_once (pairs_of f)) (added a (pairs_of f)));
      total = one_more (count_of a (pairs_of f));
    }

-- the pairs without the first of an address, as after a send that succeeded
unfoldable pub pair_removed : TransmitFailures → ShortAddress → TransmitFailures
pair_removed f a = failures_of (remove_first (of_address a) (pairs_of f))

-- a send by way of the parent has failed: the third failure, or one at a higher count, is a failure of the link and removes the pair
-- (01, "Supervision record"; Zigbee 3.6.3.7.1)
unfoldable pub transmit_failed : TransmitFailures → ShortAddress → FailedSend
transmit_failed f a =
    let r = recorded f a in
    record {
      failures = cond (leb 3 r.total) (pair_removed r.failures a) r.failures;
      link_failed = leb 3 r.total;
    }
