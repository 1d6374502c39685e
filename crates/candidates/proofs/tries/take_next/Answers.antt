-- `take_next` meets its contract. Assumes nothing.
use Rattle.std.specs.Prelude.{Option, position, unwrap_or}
use Rattle.std.proofs.Common.{◌≡◌, ℕ, ◌+◌, min, length, ltb, sym, ap, ◌∙◌, arith, length-drop}
use Rattle.std.proofs.lemmas.List.Quantifiers.{position-Some}
use Rattle.lists.proofs.First.{first-found}
use Rattle.candidates.specs.Candidates.{items_of}
use Rattle.candidates.specs.Tries.{to_try, skipped, taking}
use Rattle.candidates.specs.declared.tries.Candidates.{Candidates}
use Rattle.candidates.proofs.tries.take_next.Goals as goal
use Rattle.candidates.proofs.tries.take_next.Goals.{in-Some, in-None}

abbrev taken_to : ℕ → Candidates → Candidates
taken_to k c = record { list = c.list; taken = k }

-- the place that is found, or that of the end
place : (n : ℕ) (c : Candidates) (o : Option ℕ) → o ≡ position (λ i. ltb i n) (to_try c) → unwrap_or o (length (to_try c)) ≡ skipped n c
unfolding skipped
place n c o e = ap (λ (o : Option ℕ). unwrap_or o (length (to_try c))) e ∙ first-found (λ i. ltb i n) (to_try c)

pub returns : goal.returns
unfolding taking
returns c =
    let n = c.args.count in
    let k = c.args.candidates in
    let items = items_of k.list in
    let left : position (λ i. ltb i n) c.tail-to_try.result.now ≡ position (λ i. ltb i n) (to_try k) = ap (position (λ i. ltb i n)) c.tail-to_try.ensures in
    let e : c.match-place_below.taken ≡ min (k.taken + skipped n k + 1) (length items) =
    elim c.match-place_below.branch [
      | in-Some w ↦ let f = w.in-Some.ensures ∙ left in
          omega (arith, w.taken-is, place n k _ f, (position-Some (λ i. ltb i n) (to_try k) w.in-Some.skipped 0 (sym f)).0, length-drop k.taken items)
      | in-None w ↦ omega (arith, w.taken-is, ap length w.used.ensures, place n k _ (w.in-None.ensures ∙ left), length-drop k.taken items)
    ] in
    ap (λ (t : ℕ). taken_to t k) e
