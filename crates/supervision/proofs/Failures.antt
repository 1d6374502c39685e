-- Laws of the pairs as a list. Assumes nothing.
use Rattle.std.specs.Prelude.{Some, None, position}
use Rattle.std.proofs.lemmas.Option.{cond_some, none-some}
use Rattle.std.proofs.lemmas.List.Recursion.{is_position_or_len}
use Prim.Native.Nat.{ℕ, suc, ◌+◌, ◌<◌, ◌≤◌}
use mathlib.Core.Path.{◌≡◌, refl, sym, ap, ◌∙◌}
use mathlib.Core.Bool.{Bool, true, false, cond}
use mathlib.Core.List.{List, [], ◌∷◌, ◌++◌}
use native.Mathlib.Omega.{arith}
use borrow.Author.Tests.{ltb-true, ltb-false}
use lib.Dec.{ltb}
use lib.ListN.{length, take, drop, get_or, get_or-append, set, replicate, length-append, length-set, length-take}
use lib.Seq.{length-take-le}
use Rattle.lists.specs.Lists.{first_index, change_at}
use Rattle.lists.specs.Private.{remove_at}
use Rattle.std.proofs.lemmas.List.{take_more}
use Rattle.lists.proofs.Lists.{over-snoc}
use Rattle.lists.proofs.Pairs.{over-set, change-is, remove-snoc, remove-last, remove-le}
use Rattle.supervision.specs.Failures.{blank_pair, pairs_of, failures_of, counted_once, one_more}
use Rattle.supervision.specs.declared.TransmitFailure.{TransmitFailure}
use Rattle.supervision.specs.declared.TransmitFailures.{TransmitFailures}
use Rattle.supervision.specs.declared.Recorded.{Recorded}

-- the array has 16 slots, so at most 16 pairs are in use
pub pairs-few : (f : TransmitFailures) → length f.pairs ≡ 16 → length (pairs_of f) ≤ 16
pairs-few f n = omega (arith, length-take f.count f.pairs)

-- one pair more
abbrev pub pair_pushed : TransmitFailures → TransmitFailure → TransmitFailures
pair_pushed f p = record { pairs = set f.pairs f.count p; count = f.count + 1 }

pub push-of : (l : List TransmitFailure) (x : TransmitFailure) → length l < 16 → pair_pushed (failures_of l) x ≡ failures_of (l ++ (x ∷ []))
push-of l x h = λ i. record { pairs = over-snoc (replicate 16 blank_pair) l x h i; count = sym (length-append l (x ∷ [])) i }

-- a loop that leaves out the pair at a place: the pair at i
module _ (l : List TransmitFailure) (place i : ℕ) (h : i < length l) (few : length l ≤ 16) where
  pub leaving-room : length (remove_at place (take i l)) < 16
  leaving-room = omega (arith, remove-le place (take i l), length-take-le i l (omega arith))

  pub leaving-other : (i ≡ place → ⊥) → pair_pushed (failures_of (remove_at place (take i l))) (get_or l i blank_pair) ≡ failures_of (remove_at place (take (i + 1) l))
  leaving-other n =
      push-of (remove_at place (take i l)) (get_or l i blank_pair) leaving-room
      ∙ sym (ap failures_of (ap (remove_at place) (take_more l i blank_pair h)
      ∙ remove-snoc place (take i l) (get_or l i blank_pair) (λ s. n (omega (arith, length-take-le i l (omega arith))))))

  pub leaving-this : i ≡ place → remove_at place (take (i + 1) l) ≡ remove_at place (take i l)
  leaving-this e = ap (remove_at place) (take_more l i blank_pair h) ∙ remove-last place (take i l) (get_or l i blank_pair) (omega (arith, length-take-le i l (omega arith)))

-- one failure more, written at its place
abbrev pub counted_at : TransmitFailures → ℕ → Recorded
counted_at f k =
    let p = get_or f.pairs k blank_pair in
    record { failures = record { pairs = set f.pairs k (counted_once p); count = f.count }; total = one_more p.count }

pub counted-of : (l : List TransmitFailure) (k : ℕ) → k < length l
    → counted_at (failures_of l) k ≡ record { failures = failures_of (change_at k counted_once l); total = one_more (get_or l k blank_pair).count }
counted-of l k h =
    rw (get_or-append l (drop (length l) (replicate 16 blank_pair)) blank_pair k h, change-is k counted_once l blank_pair)
    (λ i. record {
      failures = record { pairs = over-set (replicate 16 blank_pair) l k (counted_once (get_or l k blank_pair)) h i; count = sym (length-set l k (counted_once (get_or l k blank_pair))) i };
      total = one_more (get_or l k blank_pair).count;
    })

suc-eq-one-add : (n : ℕ) → suc n ≡ 1 + n
suc-eq-one-add n = omega arith

-- std's place of the first element that passes a test
module _ {A : Type 0} (p : A → Bool) (l : List A) where
  place-is : position p l ≡ cond (ltb (first_index p l) (length l)) (Some (first_index p l)) None
  place-is = ap (λ n. cond (ltb n (length l)) (Some n) None) (sym (is_position_or_len (first_index p) p refl (λ x xs. ap (cond (p x) 0) (suc-eq-one-add (first_index p xs))) l))

  pub found : (i : ℕ) → position p l ≡ Some i → (first_index p l ≡ i) × (i < length l)
  found i e =
      let s = cond_some (ltb (first_index p l) (length l)) (first_index p l) i (sym place-is ∙ e) in
      (s.1, omega (arith, s.1, ltb-true (first_index p l) (length l) s.0))

  pub missed : position p l ≡ None → length l ≤ first_index p l
  missed e = go (ltb (first_index p l) (length l)) refl (sym place-is ∙ e)
    where
      go : (b : Bool) → ltb (first_index p l) (length l) ≡ b → cond b (Some (first_index p l)) None ≡ None → length l ≤ first_index p l
      go true t n = absurd (none-some (first_index p l) (sym n))
      go false t n = ltb-false (first_index p l) (length l) t
