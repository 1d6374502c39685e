-- `State::decide_scan` meets its contract. Assumes nothing.
use mathlib.Core.Path.{◌≡◌, sym, ap, ◌∙◌}
use mathlib.Core.Bool.{false}
use lib.Dec.{ltb}
use borrow.Author.Tests.{lt-ltb, le-ltb, ltb-false}
use Rattle.std.specs.Prelude.{Result}
use Rattle.std.proofs.lemmas.Bool.{cond-true, cond-false}
use Rattle.nib.specs.Neighbors.{table_of}
use Rattle.nib.specs.declared.NeighborTable.{NeighborTable}
use Rattle.discovery.specs.Mlme.{descriptors_of}
use Rattle.discovery.specs.Discovery.{short_addressed}
use Rattle.discovery.specs.declared.mlme.MacError.{MacError}
use Rattle.discovery.specs.declared.mlme.PanDescriptorList.{PanDescriptorList}
use Rattle.discovery.proofs.Scans.{heard-all}
use Rattle.node.specs.Looks.{with_table}
use Rattle.node.specs.Calls.{with_scan, scan_heard, scan_decided}
use Rattle.node.proofs.State.decide_scan.Goals as goal

-- the outcome is this list
pub returns-then-list-gt-MAX_PAN_DESCRIPTOR_SIZE : goal.returns-then-list-gt-MAX_PAN_DESCRIPTOR_SIZE
unfolding scan_decided
returns-then-list-gt-MAX_PAN_DESCRIPTOR_SIZE c =
    let l = c.in-Ok.list in
    c.refuse.ensures
    ∙ sym (ap (λ (o : Result PanDescriptorList MacError). scan_decided o c.args.clock c.args.purpose c.args.self.now) c.in-Ok.is
    ∙ cond-true (ltb 27 l.count) _ _ (lt-ltb 27 l.count c.if-list-gt-MAX_PAN_DESCRIPTOR_SIZE.true))

pub returns-then-short_addressed-gt-MAX_SHORT_ADDRESSED : goal.returns-then-short_addressed-gt-MAX_SHORT_ADDRESSED
unfolding scan_decided
returns-then-short_addressed-gt-MAX_SHORT_ADDRESSED c =
    let l = c.in-Ok.list in
    let n = short_addressed (descriptors_of l) in
    c.refuse-then-short_addressed-gt-MAX_SHORT_ADDRESSED.ensures
    ∙ sym (ap (λ (o : Result PanDescriptorList MacError). scan_decided o c.args.clock c.args.purpose c.args.self.now) c.in-Ok.is
    ∙ cond-false (ltb 27 l.count) _ _ (le-ltb 27 l.count c.if-list-gt-MAX_PAN_DESCRIPTOR_SIZE.false)
    ∙ cond-true (ltb 16 n) _ _ (ap (ltb 16) (sym c.short_addressed.ensures) ∙ lt-ltb 16 _ c.if-short_addressed-gt-MAX_SHORT_ADDRESSED.true))

pub returns : goal.returns
unfolding scan_decided with_scan
returns c =
    let l = c.in-Ok.list in
    let n = short_addressed (descriptors_of l) in
    let few : ltb 16 n ≡ false = ap (ltb 16) (sym c.short_addressed.ensures) ∙ le-ltb 16 _ c.if-short_addressed-gt-MAX_SHORT_ADDRESSED.false in
    let made = c.neighbor_table_from-state.ensures ∙ ap table_of (heard-all c.args.clock (descriptors_of l) (ltb-false 16 n few)) in
    c.scan_heard.ensures ∙ ap (λ (t : NeighborTable). scan_heard c.args.purpose (with_table t c.args.self.now)) made
    ∙ sym (ap (λ (o : Result PanDescriptorList MacError). scan_decided o c.args.clock c.args.purpose c.args.self.now) c.in-Ok.is
    ∙ cond-false (ltb 27 l.count) _ _ (le-ltb 27 l.count c.if-list-gt-MAX_PAN_DESCRIPTOR_SIZE.false)
    ∙ cond-false (ltb 16 n) _ _ few)
