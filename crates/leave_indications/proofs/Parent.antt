-- The tests of the definitions tell whether a leave command is the parent's, and whether its request is accepted (specs/Statement.antt). Assumes nothing.
use Rattle.std.specs.Prelude.{Option, Some, None}
use Prim.Native.Nat.{ℕ}
use mathlib.Core.Path.{◌≡◌, refl, sym, ap, subst⁻¹, ◌∙◌}
use mathlib.Core.Bool.{Bool, true, false, cond, not, ◌&&◌, false≢true}
use mathlib.Core.List.{List, [], ◌∷◌}
use mathlib.Core.Logic.{⊎_elim, inl, inr}
use borrow.Author.Tests.{eqb-true, eqb-false}
use lib.Dec.{eqb}
use Rattle.lists.proofs.Conditions.{by_cases}
use Rattle.nib.specs.Bits.{bit}
use Rattle.nib.specs.Neighbors.{entries_of}
use Rattle.nib.specs.declared.IeeeAddress.{IeeeAddress}
use Rattle.nib.specs.declared.NeighborTable.{NeighborTable}
use Rattle.nib.specs.declared.NwkNeighbor.{NwkNeighbor}
use Rattle.nib.specs.declared.ShortAddress.{ShortAddress}
use Rattle.nib.specs.NeighborTable.{has_address, is_parent, parent_of, seen_in, with_ieee, on_entries, learnt, renewed}
use Rattle.nib.proofs.Addressed.{parent-seen, seen-renewed}
use Rattle.nib.proofs.Entries.{entries-on}
use Rattle.nib.proofs.Looks.{parent-cons}
use Rattle.candidates.specs.Tries.{parent_in}
use Rattle.management.specs.Frame.{sender_of}
use Rattle.management.specs.declared.frame.LeaveOptions.{LeaveOptions}
use Rattle.management.specs.declared.frame.ReceivedFrame.{ReceivedFrame}
use Rattle.management.specs.declared.frame.Source.{Source}
use Rattle.nlme.specs.Received.{taught_by, heard_from, is_from_parent, accepts_leave}
use Rattle.nlme.proofs.Taught.{heard-long}
use Rattle.node.specs.Looks.{parent}
use Rattle.node.specs.Calls.{heard_on}
use Rattle.node.specs.declared.State.{State}
use Rattle.refusals.proofs.Conditions.{Tells, holds, fails, same-told, above-told}
use Rattle.leave_indications.specs.Statement.{ParentHas, FromParent, Accepts}

-- tests that tell whether a condition holds
equal-told : (a b : ℕ) → Tells (a ≡ b) (eqb a b)
equal-told a b = go (eqb a b) refl
  where
    go : (t : Bool) → eqb a b ≡ t → Tells (a ≡ b) t
    go true e = holds (eqb-true a b e)
    go false e = fails (eqb-false a b e)

not-told : {C : Type 0} {b : Bool} → Tells C b → Tells (C → ⊥) (not b)
not-told (holds h) = fails (λ n. n h)
not-told (fails h) = holds h

both_told : {A B : Type 0} {a b : Bool} → Tells A a → Tells B b → Tells (A × B) (a && b)
both_told (holds h) (holds k) = holds (h, k)
both_told (holds h) (fails k) = fails (λ x. k x.1)
both_told (fails h) k = fails (λ x. h x.0)

bool-told : (b : Bool) → Tells (b ≡ true) b
bool-told true = holds refl
bool-told false = fails false≢true

-- THE PARENT

parent-told : (a : ShortAddress) (es : List NwkNeighbor) → Tells (ParentHas a es) (is_from_parent (parent_of es) a)
unfolding parent_of
parent-told a [] = fails (λ h. h)
parent-told a (e ∷ es) = subst⁻¹ (λ (n : Option NwkNeighbor). Tells (ParentHas a (e ∷ es)) (is_from_parent n a)) (parent-cons e es) (go (equal-told e.relationship 0) (parent-told a es))
  where
    go : {b : Bool} → Tells (e.relationship ≡ 0) b → Tells (ParentHas a es) (is_from_parent (parent_of es) a)
        → Tells (ParentHas a (e ∷ es)) (is_from_parent (cond b (Some e) (parent_of es)) a)
    go (holds h) t = same-told (λ k. inl (h, k)) (⊎_elim (λ x. x.1) (λ x. absurd (x.0 h))) (equal-told e.network_address.0 a.0)
    go (fails h) t = same-told (λ k. inr (h, k)) (⊎_elim (λ x. absurd (h x.0)) (λ x. x.1)) t

-- an entry's IEEE address, as it is seen and as it is learnt, has no part in it, and neither has the time at which it was last heard
seen-parent : (a : ShortAddress) (es : List NwkNeighbor) → is_from_parent (parent_in es) a ≡ is_from_parent (parent_of es) a
unfolding parent_in
seen-parent a es = go (parent_of es)
  where
    go : (n : Option NwkNeighbor) → is_from_parent (seen_in es n) a ≡ is_from_parent n a
    go None = refl
    go (Some e) = refl

learnt-parent : (a : ShortAddress) (b : ℕ) (x : IeeeAddress) (es : List NwkNeighbor) → is_from_parent (parent_of (learnt b x es)) a ≡ is_from_parent (parent_of es) a
unfolding learnt
learnt-parent a b x [] = refl
learnt-parent a b x (e ∷ es) =
    by_cases (λ (l : List NwkNeighbor). is_from_parent (parent_of l) a ≡ is_from_parent (parent_of (e ∷ es)) a) (has_address b e)
    (λ _. rw (parent-cons (with_ieee x e) es, parent-cons e es) (first (is_parent e)))
    (rw (parent-cons e (learnt b x es), parent-cons e es) (later (is_parent e) (learnt-parent a b x es)))
  where
    first : (t : Bool) → is_from_parent (cond t (Some (with_ieee x e)) (parent_of es)) a ≡ is_from_parent (cond t (Some e) (parent_of es)) a
    first true = refl
    first false = refl

    later : (t : Bool) → is_from_parent (parent_of (learnt b x es)) a ≡ is_from_parent (parent_of es) a → is_from_parent (cond t (Some e) (parent_of (learnt b x es))) a ≡ is_from_parent (cond t (Some e) (parent_of es)) a
    later true h = refl
    later false h = h

taught-parent : (x : Option IeeeAddress) (b a : ShortAddress) (es : List NwkNeighbor)
    → is_from_parent (parent_in (taught_by x b es)) a ≡ is_from_parent (parent_of es) a
unfolding taught_by
taught-parent None b a es = seen-parent a es
taught-parent (Some x) b a es = seen-parent a (learnt b.0 x es) ∙ learnt-parent a b.0 x es

renewed-parent : (b t : ℕ) (es : List NwkNeighbor) → parent_in (renewed b t es) ≡ parent_in es
unfolding parent_in
renewed-parent b t es = parent-seen (renewed b t es) ∙ ap parent_of (seen-renewed t b es) ∙ sym (parent-seen es)

heard-parent : (f : Source) (t : ℕ) (n : NeighborTable)
    → is_from_parent (parent_in (entries_of (on_entries (heard_from (Some f) t) n))) f.address ≡ is_from_parent (parent_of (entries_of n)) f.address
unfolding heard_from
heard-parent f t n =
    ap (λ (es : List NwkNeighbor). is_from_parent (parent_in es) f.address) (entries-on (heard_from (Some f) t) n (heard-long (Some f) t (entries_of n)))
    ∙ ap (λ (p : Option NwkNeighbor). is_from_parent p f.address) (renewed-parent f.address.0 t (taught_by f.ieee f.address (entries_of n)))
    ∙ taught-parent f.ieee f.address f.address (entries_of n)

module _ (s : State) (f : Source) (d : ShortAddress) (o : LeaveOptions) (t : ℕ) where
  -- the state that a leave command is handled in: it has taught its sender's address, and its sender was heard
  abbrev pub learned : State
  learned = heard_on (ReceivedFrame.LeaveCommand f d o) t s

  abbrev pub by_parent : Bool
  by_parent = is_from_parent (parent learned) f.address

  pub from_told : Tells (FromParent f s) by_parent
  unfolding sender_of
  from_told = subst⁻¹ (Tells (FromParent f s)) (heard-parent f t s.table) (parent-told f.address (entries_of s.table))

  -- REQUESTS

  abbrev router : Bool
  router = bit 1 s.control.nlme.nib.capability_information.0

  abbrev allowed : Bool
  allowed = s.control.nlme.nib.leave_request_allowed

  abbrev Role : Type 0
  Role = (router ≡ true → allowed ≡ true) × (router ≡ false → FromParent f s)

  role-told : Tells Role (cond router allowed by_parent)
  role-told = go router
    where
      go : (r : Bool) → Tells ((r ≡ true → allowed ≡ true) × (r ≡ false → FromParent f s)) (cond r allowed by_parent)
      go true = same-told (λ h. (λ _. h, λ e. absurd (false≢true (sym e)))) (λ h. h.0 refl) (bool-told allowed)
      go false = same-told (λ h. (λ e. absurd (false≢true e), λ _. h)) (λ h. h.1 refl) from_told

  pub accepts-told : Tells (Accepts s f d) (accepts_leave s.control.nlme.nib d by_parent)
  unfolding accepts_leave
  accepts-told =
      same-told (λ h. record { not-coordinator = h.0.0; not-broadcast = h.0.1; router = h.1.0; end-device = h.1.1 })
      (λ h. ((h.not-coordinator, h.not-broadcast), (h.router, h.end-device)))
      (both_told (both_told (not-told (equal-told s.control.nlme.nib.network_address.0 0)) (above-told d.0 0xfff8)) role-told)
