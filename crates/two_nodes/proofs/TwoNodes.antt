-- The theorem on two nodes (specs/Statement.antt), by induction over the list of calls. Assumes nothing.
-- Its parts in order: Sight.antt (what of a table counts for network n, and what each write does to that), States.antt (the same of a state),
-- Decisions.antt (what a decision keeps), Frames.antt (what a frame does), Agreement.antt (the relation between two nodes, which every call keeps),
-- and the induction here.
use Prim.Native.Nat.{ℕ}
use mathlib.Core.Path.{◌≡◌, refl, sym, ap, ap₂, ◌∙◌, subst⁻¹}
use mathlib.Core.Bool.{true, false}
use mathlib.Core.List.{List, ◌∷◌}
use borrow.Author.Tests.{ltb-false}
use lib.Dec.{ltb}
use Rattle.std.proofs.lemmas.Bool.{or_parts, cond-true}
use Rattle.lists.proofs.Conditions.{split}
use Rattle.operation.specs.declared.Phase.{Phase}
use Rattle.node.specs.Refusals.{refuse, bad}
use Rattle.node.specs.Calls.{Call, answer}
use Rattle.node.specs.declared.State.{State}
use Rattle.node.specs.declared.Answer.{Answer}
use Rattle.lent_tick.proofs.LentTick.{own-record}
use Rattle.two_nodes.specs.Statement.{Shown, shown, run, NoneUnderWay, AlikeCalls, none, more, Listed, TwoNodes, Demand3}
use Rattle.two_nodes.proofs.States.{live, live_in, Tidy}
use Rattle.two_nodes.proofs.Decisions.{never, OnPhase}
use Rattle.two_nodes.proofs.Agreement.{Near, step-good}
use Rattle.operation.specs.declared.Refusal.TheVariants.{BadState}

-- A STATE THAT 5 TURNS DOWN stays as it is, whatever is called

module _ (s : State) (b : bad s ≡ true) where
  refused : (c : Call) → answer s c ≡ refuse BadState s
  unfolding answer
  refused c = cond-true (bad s) _ _ b

  stays : (c : Call) → (answer s c).state ≡ s
  unfolding refuse
  stays c = ap (λ (a : Answer). a.state) (refused c)

  stuck : {n : ℕ} {cs ds : List Call} → AlikeCalls n cs ds → run s cs ≡ run s ds
  stuck none = refl
  stuck (more {c = c} {d = d} {cs = cs} {ds = ds} l ls) =
      ap₂ (λ (x : Shown) (xs : List Shown). x ∷ xs) (ap shown (refused c ∙ sym (refused d)))
      (ap (λ (x : State). run x cs) (stays c) ∙ stuck ls ∙ sym (ap (λ (x : State). run x ds) (stays d)))

-- ANY OTHER with nothing under way is near itself

tidy_of : (s : State) → bad s ≡ false → Tidy s
unfolding bad
tidy_of s h =
    let table = or_parts (ltb 16 s.table.count) _ h in
    let failures = or_parts (ltb 16 s.control.nlme.transmit_failures.count) _ table.1 in
    let candidates = or_parts (ltb 16 s.candidates.list.count) _ failures.1 in
    record { small = ltb-false 16 s.table.count table.0; few = ltb-false 16 s.candidates.list.count candidates.0 }

near-self : (n : ℕ) (s : State) → NoneUnderWay s → bad s ≡ false → Near n s s
near-self n s i h =
    let d = tidy_of s h in
    record {
      alike = record { control-same = refl; list_same = refl; taken-same = refl; tidy-1 = d; tidy-2 = d };
      tries = never (live s.control) (ap (λ (p : Phase). live_in p s.control.operation.scan_requested) i);
      on = subst⁻¹ (λ (p : Phase). OnPhase n p s.control.operation.extended_pan_id.0) i tt;
    }

-- THE INDUCTION

runs : (n : ℕ) → (n ≡ 0 → ⊥) → {s t : State} → Near n s t → {cs ds : List Call} → AlikeCalls n cs ds → Listed n s cs → run s cs ≡ run t ds
runs n some r none w = refl
runs n some {s = s} {t = t} r (more {c = c} {d = d} {cs = cs} {ds = ds} l ls) w =
    let k = step-good n some r l w.0 in
    ap₂ (λ (x : Shown) (xs : List Shown). x ∷ xs) k.shown-same (runs n some {s = (answer s c).state} {t = (answer t d).state} k.states ls w.1)

-- two nodes in one idle state, given the same calls but for the beacons of other networks than n, show the same after each call
pub two-nodes : TwoNodes
two-nodes n some s i cs ds l w = split (bad s) (λ b. stuck s b l) (λ b. runs n some (near-self n s i b) l w)

pub demand-3 : Demand3
demand-3 = record { two-nodes = two-nodes; own-record = own-record }
