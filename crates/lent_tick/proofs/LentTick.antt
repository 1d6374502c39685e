-- Laws of the tick over a lent record: when it is turned down, and what it is for the state's own record. Assumes nothing.
use Prim.Native.Nat.{ℕ}
use mathlib.Core.Path.{◌≡◌, refl, sym, ap, ◌∙◌}
use mathlib.Core.Bool.{Bool, true, false, cond}
use native.Mathlib.Omega.{arith}
use denote.Enum.Declared.{tag_of}
use Rattle.std.proofs.lemmas.Bool.{cond-true, cond-false}
use Rattle.supervision.specs.declared.parent_timer.ParentTimer.{ParentTimer}
use Rattle.operation.specs.declared.Step.TheVariants.{Refused}
use Rattle.operation.specs.contracts.Step.{the_type}
use Rattle.node.specs.Looks.{deciding_with}
use Rattle.node.specs.Refusals.{bad, refuse}
use Rattle.node.specs.Calls.{elapsed, answer}
use Rattle.node.specs.declared.State.{State}
use Rattle.node.specs.declared.Answer.{Answer}
use Rattle.lent_tick.specs.declared.LentTicked.{LentTicked}
use Rattle.lent_tick.specs.OwnRecord.{OwnRecord}
use Rattle.lent_tick.specs.Private.{with_state}
use Rattle.lent_tick.specs.LentTick.{timer_of, with_parent_timer, lent_turned_down, with_record, lent_tick}
use Rattle.operation.specs.declared.Refusal.{Refusal}
use Rattle.operation.specs.declared.Refusal.TheVariants.{BadState}

-- the tag of a tick's answer: 0 for a refusal, 9 for one that says whether the timer expired
tag-of : (ms : ℕ) (s : State) → tag_of the_type (answer s (elapsed ms)).step ≡ cond (bad s) 0 9
unfolding answer deciding_with refuse
tag-of ms s = go (bad s) _ refl
  where
    go : (b : Bool) (a : Answer) → tag_of the_type a.step ≡ 9 → tag_of the_type (cond b (refuse BadState s) a).step ≡ cond b 0 9
    go true a h = refl
    go false a h = h

-- a is the tick of the state with the lent record: if it says that it was refused, 5 turned it down; if it says anything else, 5 did not
module _ (t : ParentTimer) (ms : ℕ) (s : State) (a : Answer) (e : a ≡ answer (with_parent_timer t s) (elapsed ms)) where
  tag : tag_of the_type a.step ≡ cond (bad s) 0 9
  unfolding bad
  tag = ap (λ (x : Answer). tag_of the_type x.step) e ∙ tag-of ms (with_parent_timer t s)

  -- the refusal of the state with the lent record is, with the state as handed in, the one of that state
  refused-alike : bad s ≡ true → with_state s a ≡ refuse BadState s
  unfolding answer bad refuse
  refused-alike q = ap (with_state s) (e ∙ cond-true (bad s) (refuse BadState (with_parent_timer t s)) _ q)

  pub if-refused : (n : Refusal) → a.step ≡ Refused n → record { timer = t; answer = with_state s a } ≡ lent_tick t ms s
  unfolding lent_tick
  if-refused n h =
      let q = go (bad s) (sym tag ∙ ap (tag_of the_type) h) in
      ap (λ (x : Answer). record { timer = t; answer = x }) (refused-alike q) ∙ sym (cond-true (bad s) _ _ q)
    where
      go : (b : Bool) → cond {A = ℕ} b 0 9 ≡ 0 → b ≡ true
      go true q = refl
      go false q = absurd (omega arith)

  pub if-not-refused : ((n : Refusal) → a.step ≡ Refused n → ⊥) → with_record a ≡ lent_tick t ms s
  unfolding lent_tick refuse
  if-not-refused h = ap with_record e ∙ sym (cond-false (bad s) _ _ (go (bad s) refl))
    where
      go : (b : Bool) → bad s ≡ b → b ≡ false
      go true q = absurd (h BadState (ap (λ (x : Answer). x.step) (refused-alike q)))
      go false q = refl

-- lent the state's own record, the answer is the state's tick, and the record left is that of the state left
own : (ms : ℕ) (s : State) → lent_tick (timer_of s) ms s ≡ with_record (answer s (elapsed ms))
unfolding lent_tick answer refuse
own ms s = go (bad s) _
  where
    go : (b : Bool) (a : Answer) → cond b (lent_turned_down (timer_of s) s) (with_record (cond b (refuse BadState s) a)) ≡ with_record (cond b (refuse BadState s) a)
    go true a = refl
    go false a = refl

pub own-record : OwnRecord
own-record = record { answer-same = λ ms s. ap (λ (l : LentTicked). l.answer) (own ms s); record_same = λ ms s. ap (λ (l : LentTicked). l.timer) (own ms s) }
