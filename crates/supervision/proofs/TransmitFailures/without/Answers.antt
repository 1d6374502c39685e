-- `TransmitFailures::without` meets its contract. Assumes nothing.
use Rattle.std.proofs.Common.{◌≤◌, length, get_or, sym, ap, ◌∙◌, arith, rules}
use Rattle.lists.proofs.Lists.{length-mapped}
use Rattle.supervision.specs.Failures.{failures_of, blank_pair}
use Rattle.supervision.specs.declared.TransmitFailures.{TransmitFailures}
use Rattle.supervision.proofs.Failures.{pairs-few, pair_pushed, leaving-room, leaving-other, leaving-this}
use Rattle.supervision.proofs.TransmitFailures.without.Goals as goal
use Rattle.supervision.proofs.TransmitFailures.without.Goals.{then-i-place, else-i-place}

pub push-requires : goal.push-requires
push-requires c =
    let l = c.used-p-items.result.now in
    let few : length l ≤ 16 = omega (arith, ap length c.used-p-items.ensures, pairs-few c.args.self.now (search (rules, length-mapped))) in
    omega (arith, ap (λ (r : TransmitFailures). r.count) c.loop-i.invariant, leaving-room l c.args.place c.loop-i.i c.loop-i-test.true few)

pub loop-i-preserved : goal.loop-i-preserved
loop-i-preserved c =
    let l = c.used-p-items.result.now in
    let k = c.args.place in
    let i = c.loop-i.i in
    let h = c.loop-i-test.true in
    let few : length l ≤ 16 = omega (arith, ap length c.used-p-items.ensures, pairs-few c.args.self.now (search (rules, length-mapped))) in
    elim c.if-i-place.branch [
      | then-i-place w ↦ w.out-is ∙ w.push.ensures ∙ ap (λ (r : TransmitFailures). pair_pushed r (get_or l i blank_pair)) c.loop-i.invariant ∙ leaving-other l k i h few w.if-i-place.true
      | else-i-place w ↦ w.out-is ∙ c.loop-i.invariant ∙ ap failures_of (sym (leaving-this l k i h few w.if-i-place.false))
    ]
