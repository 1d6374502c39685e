-- The marked cases hold: one test that antt computes over the table, and a law that turns it into the common statement. Assumes nothing.
use Prim.Native.Nat.{ℕ, ◌-◌, max}
use mathlib.Core.Path.{◌≡◌, refl, ap}
use mathlib.Core.Bool.{Bool, true, false, cond, not, ◌&&◌}
use mathlib.Core.List.{List, [], ◌∷◌}
use lib.Dec.{T, eqb, eqb→eq}
use native.Mathlib.Omega.{arith}
use Rattle.nib.specs.Bits.{bit}
use Rattle.nib.specs.LinkCost.{link_cost}
use Rattle.candidates.specs.UpdateIds.{newest, newer}
use Rattle.candidates.specs.Candidates.{candidates, eligible, depth_at}
use Rattle.supervision.specs.Timer.{ticked}
use Rattle.supervision.specs.Timeouts.{timeout_seconds, negotiated_timeout_ms, refreshed_timer}
use Rattle.nlme.specs.Received.{accepts_leave}
use Rattle.marked_cases.specs.MarkedCases.{candidates_of_none, tick_of, leave_of, answer_to, Case, cases, Hold, yard}

abbrev same : List ℕ → List ℕ → Bool
same [] [] = true
same [] (y ∷ ys) = false
same (x ∷ xs) [] = false
same (x ∷ xs) (y ∷ ys) = eqb x y && same xs ys

split : (a b : Bool) → T (a && b) → T a × T b
split true b h = (tt, h)
split false b h = absurd h

same-eq : (l m : List ℕ) → T (same l m) → l ≡ m
same-eq [] [] h = refl
same-eq [] (y ∷ ys) h = absurd h
same-eq (x ∷ xs) [] h = absurd h
same-eq (x ∷ xs) (y ∷ ys) h = let s = split (eqb x y) (same xs ys) h in λ i. eqb→eq x y s.0 i ∷ same-eq xs ys s.1 i

abbrev right : List Case → Bool
right [] = true
right (c ∷ cs) = same (answer_to c.asked) c.expected && right cs

hold : (cs : List Case) → T (right cs) → Hold cs
hold [] h = tt
hold (c ∷ cs) h =
    let s = split (same (answer_to c.asked) c.expected) (right cs) h in
    (same-eq (answer_to c.asked) c.expected s.0, hold cs s.1)

-- P1 to P12
pub marked-hold : Hold cases
unfolding link_cost newer newest candidates eligible depth_at ticked timeout_seconds negotiated_timeout_ms refreshed_timer accepts_leave
marked-hold = hold cases tt

-- the printed example: index 3, then index 1
pub yard-list : candidates 1 false true 0xaa yard ≡ 3 ∷ 1 ∷ []
unfolding link_cost newer newest candidates eligible depth_at
yard-list = refl

-- P7, P10 and P12 for everything that they leave open

pub empty-table : (profile : ℕ) (router permit : Bool) (n : ℕ) → answer_to (candidates_of_none profile router permit n) ≡ []
unfolding candidates
empty-table profile router permit n = go (eqb profile 1)
  where
    none : List ℕ
    none = []

    go : (b : Bool) → cond b none none ≡ none
    go true = refl
    go false = refl

none_left : (m : ℕ) → 0 - m ≡ 0
none_left m = omega arith

pub never-expires : (elapsed : ℕ) → answer_to (tick_of 0 elapsed) ≡ 0 ∷ 0 ∷ []
unfolding ticked
never-expires elapsed = ap (λ (ms : ℕ). ms ∷ 0 ∷ []) (none_left (max elapsed 1))

-- a request to 0xfff8 is dropped at every address
pub broadcast-dropped : (address : ℕ) (router allowed by_parent : Bool) → answer_to (leave_of address 0xfff8 router allowed by_parent) ≡ 0 ∷ []
unfolding accepts_leave
broadcast-dropped address router allowed by_parent = go (eqb address 0) (cond (bit 1 (cond router 2 0)) allowed by_parent)
  where
    said : Bool → List ℕ
    said b = cond b 1 0 ∷ []

    go : (b c : Bool) → said ((not b && false) && c) ≡ said false
    go true c = refl
    go false c = refl

-- at 0x0000 every request is
pub coordinator-drops : (destination : ℕ) (router allowed by_parent : Bool) → answer_to (leave_of 0x0000 destination router allowed by_parent) ≡ 0 ∷ []
unfolding accepts_leave
coordinator-drops destination router allowed by_parent = refl

-- and at 0x1234 one to 0xfff7 goes on to the role tests
pub role-tested : (router allowed by_parent : Bool) → answer_to (leave_of 0x1234 0xfff7 router allowed by_parent) ≡ cond (cond router allowed by_parent) 1 0 ∷ []
unfolding accepts_leave
role-tested true allowed by_parent = refl
role-tested false allowed by_parent = refl
