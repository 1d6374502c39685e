-- `record_transmit_failure` meets its contract. Assumes nothing.
use Rattle.std.proofs.Common.{◌≡◌, ◌<◌, length, sym, ap, ◌∙◌, arith}
use borrow.Author.Tests.{lt-ltb, le-ltb}
use lib.ListN.{get_or-eq_default}
use Rattle.lists.specs.Lists.{first_index}
use Rattle.lists.proofs.First.{change-first}
use Rattle.lists.proofs.Pairs.{some_first}
use Rattle.supervision.specs.Failures.{pairs_of, failures_of, of_address, blank_pair, counted_once, with_room, added, recorded}
use Rattle.supervision.specs.declared.TransmitFailures.{TransmitFailures}
use Rattle.supervision.proofs.Failures.{pair_pushed, push-of, found, missed}
use Rattle.supervision.proofs.record_transmit_failure.Goals as goal

pub returns-in-Some : goal.returns-in-Some
unfolding recorded
returns-in-Some c =
    let l = pairs_of c.args.failures in
    let p = of_address c.args.neighbor in
    let f = found p l _ (sym c.find.ensures ∙ c.in-Some.is) in
    let h : first_index p l < length l = omega (arith, f.0, f.1) in
    c.count_at.ensures ∙ rw (sym f.0, some_first p l, lt-ltb (first_index p l) (length l) h, change-first p counted_once l)

pub returns : goal.returns
unfolding recorded
returns c =
    let l = pairs_of c.args.failures in
    let a = c.args.neighbor in
    let p = of_address a in
    let h = missed p l (sym c.find.ensures ∙ c.in_default.is) in
    let e : c.push.new.self ≡ failures_of (added a l) =
    c.push.ensures
    ∙ ap (λ (r : TransmitFailures). pair_pushed r (record { address = a; count = 1 })) c.with_room-failures.ensures.pairs
    ∙ push-of (with_room l) (record { address = a; count = 1 }) (omega (arith, ap (λ (r : TransmitFailures). r.count) c.with_room-failures.ensures.pairs, c.with_room-failures.ensures.room)) in
    rw (e, some_first p l, le-ltb (first_index p l) (length l) h, get_or-eq_default l blank_pair h)
