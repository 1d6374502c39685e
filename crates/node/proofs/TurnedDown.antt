-- Laws that hold the refusals to their sentences: a start is turned down by 5, else by 1, or is made; an outcome of a kind that is not awaited is turned down
-- by 2. Assumes nothing.
use mathlib.Core.Path.{◌≡◌, refl, sym, ap}
use mathlib.Core.Bool.{Bool, true, false, cond}
use Rattle.std.specs.Prelude.{Option, Some, None}
use Rattle.std.proofs.lemmas.Option.{none-some, same_Some}
use Rattle.operation.specs.Operation.{is_idle, scan_for, association_for, transmission_for, reception_for}
use Rattle.operation.specs.declared.ReceptionFor.{ReceptionFor}
use Rattle.operation.specs.declared.ScanFor.{ScanFor}
use Rattle.operation.specs.declared.TransmissionFor.{TransmissionFor}
use Rattle.operation.specs.declared.Phase.{Phase}
use Rattle.operation.specs.declared.Phase.TheVariants.{Idle, Scan, Association, Transmission, Reception}
use Rattle.operation.specs.declared.Refusal.{Refusal}
use Rattle.operation.specs.declared.Refusal.TheVariants.{OperationUnderWay, NotAwaited, BadState}
use Rattle.node.specs.declared.State.{State}
use Rattle.node.specs.declared.Answer.{Answer}
use Rattle.node.specs.Refusals.{refuse, bad, start, outcome}
use Rattle.node.specs.Private.{start_refusal}

-- a start
module _ (s : State) (a : Answer) where
  pub start-refused : (k : Refusal) → start_refusal s ≡ Some k → refuse k s ≡ cond (bad s) (refuse BadState s) (start a s)
  start-refused k = go (bad s) (is_idle s.control.operation.phase)
    where
      go : (b i : Bool) → cond b (Some BadState) (cond i None (Some OperationUnderWay)) ≡ Some k → refuse k s ≡ cond b (refuse BadState s) (cond i a (refuse OperationUnderWay s))
      go true i q = ap (λ (x : Refusal). refuse x s) (sym (same_Some _ _ q))
      go false true q = absurd (none-some _ q)
      go false false q = ap (λ (x : Refusal). refuse x s) (sym (same_Some _ _ q))

  pub start-made : start_refusal s ≡ None → a ≡ cond (bad s) (refuse BadState s) (start a s)
  start-made = go (bad s) (is_idle s.control.operation.phase)
    where
      go : (b i : Bool) → cond b (Some BadState) (cond i None (Some OperationUnderWay)) ≡ None → a ≡ cond b (refuse BadState s) (cond i a (refuse OperationUnderWay s))
      go true i q = absurd (none-some _ (sym q))
      go false true q = refl
      go false false q = absurd (none-some _ (sym q))

pub no-scan : (p : Phase) (f : ScanFor → State → Answer) (s : State) → ((u : ScanFor) → p ≡ Scan u → ⊥) → refuse NotAwaited s ≡ outcome (scan_for p) f s
unfolding outcome
no-scan Idle f s h = refl
no-scan (Scan u) f s h = absurd (h u refl)
no-scan Association f s h = refl
no-scan (Transmission u) f s h = refl
no-scan (Reception u) f s h = refl

pub no-association : (p : Phase) (f : Unit {0} → State → Answer) (s : State) → (p ≡ Association → ⊥) → refuse NotAwaited s ≡ outcome (association_for p) f s
unfolding outcome
no-association Idle f s h = refl
no-association (Scan u) f s h = refl
no-association Association f s h = absurd (h refl)
no-association (Transmission u) f s h = refl
no-association (Reception u) f s h = refl

pub no-transmission : (p : Phase) (f : TransmissionFor → State → Answer) (s : State) → ((u : TransmissionFor) → p ≡ Transmission u → ⊥) → refuse NotAwaited s ≡ outcome (transmission_for p) f s
unfolding outcome
no-transmission Idle f s h = refl
no-transmission (Scan u) f s h = refl
no-transmission Association f s h = refl
no-transmission (Transmission u) f s h = absurd (h u refl)
no-transmission (Reception u) f s h = refl

pub no-reception : (p : Phase) (f : ReceptionFor → State → Answer) (s : State) → ((u : ReceptionFor) → p ≡ Reception u → ⊥) → refuse NotAwaited s ≡ outcome (reception_for p) f s
unfolding outcome
no-reception Idle f s h = refl
no-reception (Scan u) f s h = refl
no-reception Association f s h = refl
no-reception (Transmission u) f s h = refl
no-reception (Reception u) f s h = absurd (h u refl)
