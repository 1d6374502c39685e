-- The tests of the definitions tell whether the statement's conditions hold (specs/Statement.antt). Assumes nothing.
use Rattle.std.specs.Prelude.{Option, Some, None}
use Prim.Native.Nat.{ℕ, suc, ◌-◌, ◌<◌, ◌≤◌}
use mathlib.Core.Path.{◌≡◌, refl, sym, ap, ◌∙◌}
use mathlib.Core.Bool.{Bool, true, false, cond, not, ◌||◌, false≢true}
use mathlib.Core.List.{List, [], ◌∷◌, ◌++◌, map, flat_map}
use mathlib.Core.Logic.{◌⊎◌, inl, inr, ⊎_elim}
use native.Mathlib.Omega.{arith}
use borrow.Author.Tests.{ltb-true, ltb-false}
use lib.Dec.{ltb}
use lib.ListN.{length, drop}
use Rattle.lists.specs.Lists.{some}
use Rattle.discovery.specs.declared.mlme.Address.{Address}
use Rattle.discovery.specs.declared.mlme.PanDescriptor.{PanDescriptor}
use Rattle.discovery.specs.Discovery.{neighbor_by, present, neighbors_of, short_addressed}
use Rattle.candidates.specs.Candidates.{items_of}
use Rattle.candidates.specs.Tries.{past_table}
use Rattle.candidates.specs.declared.tries.Candidates.{Candidates}
use Rattle.operation.specs.Operation.{is_idle, scan_for, association_for, transmission_for, reception_for}
use Rattle.operation.specs.declared.ReceptionFor.{ReceptionFor}
use Rattle.operation.specs.declared.ScanFor.{ScanFor}
use Rattle.operation.specs.declared.TransmissionFor.{TransmissionFor}
use Rattle.operation.specs.declared.Phase.{Phase}
use Rattle.node.specs.Refusals.{past_in, bad}
use Rattle.node.specs.declared.State.{State}
use Rattle.refusals.specs.Statement.{phase, Past, Bad, neighbours, failures, candidates, taken, polls, index, shorts}

-- a test tells whether a condition holds
pub data Tells (C : Type 0) : Bool → Type 0 where
  holds : C → Tells C true
  fails : (C → ⊥) → Tells C false

pub same-told : {b : Bool} {C D : Type 0} → (C → D) → (D → C) → Tells C b → Tells D b
same-told f g (holds h) = holds (f h)
same-told f g (fails h) = fails (λ d. h (g d))

either-told : {a b : Bool} {A B : Type 0} → Tells A a → Tells B b → Tells (A ⊎ B) (a || b)
either-told (holds h) k = holds (inl h)
either-told (fails h) (holds k) = holds (inr k)
either-told (fails h) (fails k) = fails (⊎_elim h k)

pub above-told : (k n : ℕ) → Tells (k < n) (ltb k n)
above-told k n = go (ltb k n) refl
  where
    go : (b : Bool) → ltb k n ≡ b → Tells (k < n) b
    go true e = holds (ltb-true k n e)
    go false e = fails (λ l. omega (arith, ltb-false k n e))

-- a phase that awaits an outcome of some kind is not one that does not
abbrev is_awaited : {A : Type 0} → Option A → Bool
is_awaited (Some u) = true
is_awaited None = false

differ : {A : Type 0} (kind : Phase → Option A) {p q : Phase} → is_awaited (kind p) ≡ false → is_awaited (kind q) ≡ true → p ≡ q → ⊥
differ kind h k e = false≢true (sym h ∙ ap (λ (x : Phase). is_awaited (kind x)) e ∙ k)

-- 5: ITS SIX CONDITIONS

below-told : (i n : ℕ) → Tells (n ≤ i) (not (ltb i n))
below-told i n = go (ltb i n) refl
  where
    go : (b : Bool) → ltb i n ≡ b → Tells (n ≤ i) (not b)
    go true e = fails (λ l. omega (arith, ltb-true i n e))
    go false e = holds (ltb-false i n e)

past-told : (n : ℕ) (l : List ℕ) → Tells (Past n l) (some (λ i. not (ltb i n)) l)
past-told n [] = fails (λ h. h)
past-told n (i ∷ l) = go (below-told i n) (past-told n l)
  where
    go : {b c : Bool} → Tells (n ≤ i) b → Tells (Past n l) c → Tells ((n ≤ i) ⊎ Past n l) (cond b true c)
    go (holds h) k = holds (inl h)
    go (fails h) k = same-told inr (⊎_elim (λ x. absurd (h x)) (λ x. x)) k

index-told : (p : Phase) (n : ℕ) (c : Candidates)
    → Tells ((p ≡ Phase.Association) × Past n (drop (c.taken - 1) (items_of c.list))) (past_in (association_for p) n c)
unfolding past_table
index-told Phase.Association n c = same-told (λ h. (refl, h)) (λ h. h.1) (past-told n (drop (c.taken - 1) (items_of c.list)))
index-told Phase.Idle n c = fails (λ h. differ association_for refl refl h.0)
index-told (Phase.Scan u) n c = fails (λ h. differ association_for refl refl h.0)
index-told (Phase.Transmission u) n c = fails (λ h. differ association_for refl refl h.0)
index-told (Phase.Reception u) n c = fails (λ h. differ association_for refl refl h.0)

-- 5: each of its six tests tells of its condition; Any is Bad as a sum
pub bad-told : (s : State) → Tells (Bad s) (bad s)
unfolding bad
bad-told s =
    same-told to from
    (either-told (above-told 16 s.table.count)
    (either-told (above-told 16 s.control.nlme.transmit_failures.count)
    (either-told (above-told 16 s.candidates.list.count)
    (either-told (above-told 16 s.candidates.taken)
    (either-told (above-told 20 s.control.operation.polls_left) (index-told (phase s) s.table.count s.candidates))))))
  where
    Index : Type 0
    Index = (phase s ≡ Phase.Association) × Past s.table.count (drop (s.candidates.taken - 1) (items_of s.candidates.list))

    Any : Type 0
    Any =
        (16 < s.table.count)
        ⊎ ((16 < s.control.nlme.transmit_failures.count)
        ⊎ ((16 < s.candidates.list.count) ⊎ ((16 < s.candidates.taken) ⊎ ((20 < s.control.operation.polls_left) ⊎ Index))))

    to : Any → Bad s
    to (inl h) = neighbours h
    to (inr (inl h)) = failures h
    to (inr (inr (inl h))) = candidates h
    to (inr (inr (inr (inl h)))) = taken h
    to (inr (inr (inr (inr (inl h))))) = polls h
    to (inr (inr (inr (inr (inr h))))) = index h.0 h.1

    from : Bad s → Any
    from (neighbours h) = inl h
    from (failures h) = inr (inl h)
    from (candidates h) = inr (inr (inl h))
    from (taken h) = inr (inr (inr (inl h)))
    from (polls h) = inr (inr (inr (inr (inl h))))
    from (index e h) = inr (inr (inr (inr (inr (e, h)))))

-- 1: NO OPERATION IS UNDER WAY, by its test

pub idle-told : (p : Phase) → Tells (p ≡ Phase.Idle) (is_idle p)
idle-told Phase.Idle = holds refl
idle-told (Phase.Scan u) = fails (λ e. false≢true (ap is_idle e))
idle-told Phase.Association = fails (λ e. false≢true (ap is_idle e))
idle-told (Phase.Transmission u) = fails (λ e. false≢true (ap is_idle e))
idle-told (Phase.Reception u) = fails (λ e. false≢true (ap is_idle e))

-- 2: A REQUEST AWAITS THAT KIND

-- what is awaited tells whether a condition holds: it does where nothing is
pub data Told (C : Type 0) {A : Type 0} : Option A → Type 0 where
  awaits : {u : A} → (C → ⊥) → Told C (Some u)
  awaits-none : C → Told C None

pub scan-told : (p : Phase) → Told ((u : ScanFor) → p ≡ Phase.Scan u → ⊥) (scan_for p)
scan-told Phase.Idle = awaits-none (λ u. differ scan_for refl refl)
scan-told (Phase.Scan v) = awaits (λ h. h v refl)
scan-told Phase.Association = awaits-none (λ u. differ scan_for refl refl)
scan-told (Phase.Transmission v) = awaits-none (λ u. differ scan_for refl refl)
scan-told (Phase.Reception v) = awaits-none (λ u. differ scan_for refl refl)

pub association-told : (p : Phase) → Told (p ≡ Phase.Association → ⊥) (association_for p)
association-told Phase.Association = awaits (λ h. h refl)
association-told Phase.Idle = awaits-none (differ association_for refl refl)
association-told (Phase.Scan v) = awaits-none (differ association_for refl refl)
association-told (Phase.Transmission v) = awaits-none (differ association_for refl refl)
association-told (Phase.Reception v) = awaits-none (differ association_for refl refl)

pub transmission-told : (p : Phase) → Told ((u : TransmissionFor) → p ≡ Phase.Transmission u → ⊥) (transmission_for p)
transmission-told Phase.Idle = awaits-none (λ u. differ transmission_for refl refl)
transmission-told (Phase.Scan v) = awaits-none (λ u. differ transmission_for refl refl)
transmission-told Phase.Association = awaits-none (λ u. differ transmission_for refl refl)
transmission-told (Phase.Transmission v) = awaits (λ h. h v refl)
transmission-told (Phase.Reception v) = awaits-none (λ u. differ transmission_for refl refl)

pub reception-told : (p : Phase) → Told ((u : ReceptionFor) → p ≡ Phase.Reception u → ⊥) (reception_for p)
reception-told Phase.Idle = awaits-none (λ u. differ reception_for refl refl)
reception-told (Phase.Scan v) = awaits-none (λ u. differ reception_for refl refl)
reception-told Phase.Association = awaits-none (λ u. differ reception_for refl refl)
reception-told (Phase.Transmission v) = awaits-none (λ u. differ reception_for refl refl)
reception-told (Phase.Reception v) = awaits (λ h. h v refl)

-- 4: THE SHORT-ADDRESSED DESCRIPTORS

pub shorts-are : (ds : List PanDescriptor) → shorts (map (λ d. d.coord_address) ds) ≡ short_addressed ds
unfolding neighbors_of flat_map present neighbor_by
shorts-are [] = refl
shorts-are (d ∷ ds) = go d.coord_address (shorts-are ds)
  where
    go : (a : Address) → shorts (map (λ e. e.coord_address) ds) ≡ short_addressed ds
        → shorts (a ∷ map (λ e. e.coord_address) ds) ≡ length (present (neighbor_by d a) ++ neighbors_of ds)
    go (Address.Short pan address) h = ap suc h
    go (Address.Extended pan address) h = h
