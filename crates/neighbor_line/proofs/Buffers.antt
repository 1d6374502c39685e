-- Laws of what a move answers and leaves in a buffer. Assumes nothing.
use Prim.Native.Nat.{ℕ, ◌+◌, ◌-◌, ◌<◌, ◌≤◌}
use mathlib.Core.Path.{◌≡◌, refl, sym, ap, ◌∙◌}
use mathlib.Core.Bool.{Bool, true, false, cond, not}
use mathlib.Core.List.{List, [], ◌∷◌, ◌++◌}
use native.Mathlib.Nat.{zero-add}
use native.Mathlib.Omega.{arith}
use borrow.Author.Tests.{ltb-false, lt-ltb, le-ltb, eqb-true, ne_eqb, eq-eqb}
use lib.Dec.{ltb, eqb}
use lib.ListN.{length, take, length-append}
use lib.Seq.{sets}
use Rattle.std.specs.Prelude.{Ok, Err, Option, Some, None}
use Rattle.std.proofs.lemmas.Option.{none-some}
use Rattle.lists.specs.Lists.{over}
use Rattle.lists.proofs.Bytes.{sets-append, sets_over}
use Rattle.text.specs.declared.form.Form.{Form}
use Rattle.text.specs.Text.{bytes}
use Rattle.neighbor_line.specs.declared.MoveRefusal.{MoveRefusal}
use Rattle.neighbor_line.specs.NeighborLine.{old_forms, entry_forms, last_heard_in}
use Rattle.neighbor_line.specs.Moves.{fields_of_line, is_line_of, forth_text, back_text, refusal_by, forth_refusal, known_refusal, back_refusal, forth_answer, forth_left, back_answer, back_left, answer_of, left_of}
use Rattle.neighbor_line.specs.Private.{back_front}
use Rattle.neighbor_line.proofs.Moved.{forth_long, forth_made, back_long, back_made}

-- two texts written one behind the other
pub both_written : (l a b : List ℕ) → length a + length b ≤ length l → sets (sets l 0 a) (length a) b ≡ over l (a ++ b)
both_written l a b h =
    ap (λ (n : ℕ). sets (sets l 0 a) n b) (sym (zero-add (length a))) ∙ sym (sets-append l 0 a b) ∙ sets_over l (a ++ b) (omega (arith, h, length-append a b))

-- when a line is turned down by 5 or 6, and when it is not
module _ (ms : List (Form 1)) (t result : List ℕ) (room : ℕ) where
  by-short : is_line_of ms t ≡ true → room < length result → refusal_by ms t result room ≡ Some MoveRefusal.ShortBuffer
  by-short h l = rw (h, lt-ltb room (length result) l) refl

  by-given : is_line_of ms t ≡ true → length result ≤ room → refusal_by ms t result room ≡ None
  by-given h l = rw (h, le-ltb room (length result) l) refl

  pub by-none : refusal_by ms t result room ≡ None → (is_line_of ms t ≡ true) × (length result ≤ room)
  by-none n = go (is_line_of ms t) (ltb room (length result)) refl n
    where
      go : (b c : Bool) → ltb room (length result) ≡ c → cond (not b) (Some MoveRefusal.NotOfForm) (cond c (Some MoveRefusal.ShortBuffer) None) ≡ None → (b ≡ true) × (length result ≤ room)
      go true true e p = absurd (none-some _ (sym p))
      go true false e p = (refl, ltb-false room (length result) e)
      go false c e p = absurd (none-some _ (sym p))

module _ (t : List ℕ) (room : ℕ) where
  pub forth_short : is_line_of old_forms t ≡ true → room < length t + 2 → forth_refusal t room ≡ Some MoveRefusal.ShortBuffer
  forth_short h l = by-short old_forms t (forth_text t) room h (omega (arith, l, forth_long t h))

  pub forth_given : is_line_of old_forms t ≡ true → length t + 2 ≤ room → forth_refusal t room ≡ None
  forth_given h l = by-given old_forms t (forth_text t) room h (omega (arith, l, forth_long t h))

  pub back_short : is_line_of entry_forms t ≡ true → room < length (back_front t) + 1 → back_refusal t room ≡ Some MoveRefusal.ShortBuffer
  back_short h l = ap (known_refusal t) (by-short entry_forms t (back_text t) room h (omega (arith, l, back_long t h)))

  back-by : is_line_of entry_forms t ≡ true → length (back_front t) + 1 ≤ room → back_refusal t room ≡ known_refusal t None
  back-by h l = ap (known_refusal t) (by-given entry_forms t (back_text t) room h (omega (arith, l, back_long t h)))

  pub back_known : is_line_of entry_forms t ≡ true → length (back_front t) + 1 ≤ room → (last_heard_in (fields_of_line t) ≡ 0 → ⊥) → back_refusal t room ≡ Some MoveRefusal.LastHeardKnown
  back_known h l k = back-by h l ∙ ap (λ (b : Bool). cond b None (Some MoveRefusal.LastHeardKnown)) (ne_eqb (last_heard_in (fields_of_line t)) 0 k)

  pub back_given : is_line_of entry_forms t ≡ true → length (back_front t) + 1 ≤ room → last_heard_in (fields_of_line t) ≡ 0 → back_refusal t room ≡ None
  back_given h l k = back-by h l ∙ ap (λ (b : Bool). cond b None (Some MoveRefusal.LastHeardKnown)) (eq-eqb (last_heard_in (fields_of_line t)) 0 k)

  pub forth-none : forth_refusal t room ≡ None → (is_line_of old_forms t ≡ true) × (length (forth_text t) ≤ room)
  forth-none n = by-none old_forms t (forth_text t) room n

  pub back-none : back_refusal t room ≡ None → (is_line_of entry_forms t ≡ true) × (length (back_text t) ≤ room) × (last_heard_in (fields_of_line t) ≡ 0)
  back-none n = go (refusal_by entry_forms t (back_text t) room) refl n
    where
      zero-by : (b : Bool) → eqb (last_heard_in (fields_of_line t)) 0 ≡ b → cond b None (Some MoveRefusal.LastHeardKnown) ≡ None → last_heard_in (fields_of_line t) ≡ 0
      zero-by true e p = eqb-true (last_heard_in (fields_of_line t)) 0 e
      zero-by false e p = absurd (none-some _ (sym p))

      go : (r : Option MoveRefusal) → refusal_by entry_forms t (back_text t) room ≡ r → known_refusal t r ≡ None → (is_line_of entry_forms t ≡ true) × (length (back_text t) ≤ room) × (last_heard_in (fields_of_line t) ≡ 0)
      go None e p = let b = by-none entry_forms t (back_text t) room e in (b.0, b.1, zero-by (eqb (last_heard_in (fields_of_line t)) 0) refl p)
      go (Some r) e p = absurd (none-some _ (sym p))

-- what is answered and left then
module _ (t out : List ℕ) where
  pub forth_refused : (r : MoveRefusal) → forth_refusal t (length out) ≡ Some r → (Err r ≡ forth_answer t (length out)) × (out ≡ forth_left t out)
  unfolding forth_answer forth_left
  forth_refused r e = (ap (λ (x : Option MoveRefusal). answer_of x (forth_text t)) (sym e), ap (λ (x : Option MoveRefusal). left_of x (forth_text t) out) (sym e))

  pub back_refused : (r : MoveRefusal) → back_refusal t (length out) ≡ Some r → (Err r ≡ back_answer t (length out)) × (out ≡ back_left t out)
  unfolding back_answer back_left
  back_refused r e = (ap (λ (x : Option MoveRefusal). answer_of x (back_text t)) (sym e), ap (λ (x : Option MoveRefusal). left_of x (back_text t) out) (sym e))

  pub forth-done : forth_refusal t (length out) ≡ None → (forth_answer t (length out) ≡ Ok (length (forth_text t))) × (forth_left t out ≡ over out (forth_text t))
  unfolding forth_answer forth_left
  forth-done e = (ap (λ (x : Option MoveRefusal). answer_of x (forth_text t)) e, ap (λ (x : Option MoveRefusal). left_of x (forth_text t) out) e)

  pub back-done : back_refusal t (length out) ≡ None → (back_answer t (length out) ≡ Ok (length (back_text t))) × (back_left t out ≡ over out (back_text t))
  unfolding back_answer back_left
  back-done e = (ap (λ (x : Option MoveRefusal). answer_of x (back_text t)) e, ap (λ (x : Option MoveRefusal). left_of x (back_text t) out) e)

  pub forth_fits : forth_refusal t (length out) ≡ None → length (take (length t - 1) t) + 3 ≤ length out
  forth_fits e =
      let b = forth-none t (length out) e in
      omega (arith, b.1, ap length (forth_made t b.0), length-append (take (length t - 1) t) (bytes "\t0\n"))

  pub back_fits : back_refusal t (length out) ≡ None → length (back_front t) + 1 ≤ length out
  back_fits e = let b = back-none t (length out) e in omega (arith, b.1, back_long t b.0)

  pub forth_moved : forth_refusal t (length out) ≡ None
      → (Ok (length (take (length t - 1) t ++ bytes "\t0\n")) ≡ forth_answer t (length out)) × (over out (take (length t - 1) t ++ bytes "\t0\n") ≡ forth_left t out)
  forth_moved e =
      let m = forth_made t (forth-none t (length out) e).0 in
      let d = forth-done e in
      (ap (λ (l : List ℕ). Ok (length l)) m ∙ sym d.0, ap (over out) m ∙ sym d.1)

  pub back_moved : back_refusal t (length out) ≡ None → (Ok (length (back_front t ++ (10 ∷ []))) ≡ back_answer t (length out)) × (over out (back_front t ++ (10 ∷ [])) ≡ back_left t out)
  back_moved e =
      let m = back_made t (back-none t (length out) e).0 in
      let d = back-done e in
      (ap (λ (l : List ℕ). Ok (length l)) m ∙ sym d.0, ap (over out) m ∙ sym d.1)
