-- `write` meets its contract. Assumes nothing.
use native.Mathlib.Omega.{arith}
use Prim.Native.Nat.{ℕ, ◌+◌, ◌-◌, ◌≤◌, min}
use mathlib.Core.Path.{◌≡◌, refl, sym, ap, ◌∙◌}
use mathlib.Core.Bool.{Bool, true, false}
use mathlib.Core.List.{List, ◌++◌, append_assoc}
use borrow.Author.Tests.{leb-true, leb-false}
use lib.Dec.{leb}
use lib.ListN.{length, take, drop}
use lib.Seq.{sets, sets-eq, drop-drop, length-take-le}
use Rattle.lists.proofs.Bytes.{sets-fit, sets-past}
use Rattle.text.proofs.write.Goals as goal

-- a part put back at a place is the part stored there
put-part : (l p : List ℕ) (a k : ℕ) → k ≡ length p → a + k ≤ length l → take a l ++ (p ++ drop k (drop a l)) ≡ sets l a p
put-part l p a k e h =
    ap (λ (i : ℕ). take a l ++ (p ++ drop i (drop a l))) e
    ∙ sym (sets-eq p l a (omega arith) ∙ append_assoc (take a l) p (drop (a + length p) l) ∙ ap (λ (d : List ℕ). take a l ++ (p ++ d)) (sym (drop-drop (length p) a l)))

-- past the end nothing fits, and nothing is stored
stored : (l s : List ℕ) (at n f : ℕ) → n ≡ min (length s) (length l - at) → f ≡ min at (length l) → sets l f (take n s) ≡ sets l at s
stored l s at n f p e = go (leb at (length l)) refl
  where
    go : (b : Bool) → leb at (length l) ≡ b → sets l f (take n s) ≡ sets l at s
    go true t = let h = leb-true at (length l) t in let g : f ≡ at = omega arith in ap (λ (i : ℕ). sets l i (take n s)) g ∙ sets-fit l s at n p
    go false t = let h = leb-false at (length l) t in let z : n ≡ 0 = omega arith in ap (λ (i : ℕ). sets l f (take i s)) z ∙ sym (sets-past l at s (omega arith))

pub returns : goal.returns
returns c =
    let l = c.args.out.now in
    let f = c.min-from.result in
    let n = c.room-n.result in
    let p = take n c.args.s.now in
    let m : length p ≡ n = length-take-le n c.args.s.now (omega (arith, c.room-n.ensures)) in
    let h : f + (f + n - f) ≤ length l = omega (arith, c.room-n.ensures, c.min-from.ensures) in (
      refl,
      ap (λ (x : List ℕ). take f l ++ (x ++ drop (f + n - f) (drop f l))) c.copy_from_slice.ensures.after ∙ put-part l p f (f + n - f) (omega arith) h
          ∙ stored l c.args.s.now c.args.at n f c.room-n.ensures c.min-from.ensures,
    )
