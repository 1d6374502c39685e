-- What is claimed of the moves is proved. Assumes nothing.
use Prim.Native.Nat.{ℕ, ◌+◌, ◌-◌, ◌≤◌}
use mathlib.Core.Path.{◌≡◌, refl, sym, ap, ◌∙◌}
use mathlib.Core.Bool.{Bool, true, false, false≢true}
use mathlib.Core.List.{List}
use native.Mathlib.Omega.{arith}
use borrow.Author.Tests.{ltb-true, ltb-false}
use lib.Dec.{ltb}
use lib.ListN.{length, take, drop}
use Rattle.std.specs.Prelude.{Result, Ok, Err, Option, Some, None}
use Rattle.std.proofs.Math.Seq.{take-append_seam}
use Rattle.lists.specs.Lists.{over}
use Rattle.text.specs.Text.{digit_of, number_from, decimal_of, hex_of}
use Rattle.neighbor_line.specs.declared.MoveRefusal.{MoveRefusal}
use Rattle.neighbor_line.specs.NeighborLine.{old_forms, entry_forms, last_heard_in}
use Rattle.neighbor_line.specs.Moves.{move_refusal_number, fields_of_line, is_line_of, forth_text, back_text, forth_refusal, back_refusal, forth_answer, forth_left, back_answer, back_left, answer_of}
use Rattle.neighbor_line.specs.Private.{back_front}
use Rattle.neighbor_line.specs.Statement.{Moves, line_left}
use Rattle.neighbor_line.proofs.Moved.{forth_long, forth-form, forth-unknown, forth-back, old-size, back_long, back-less, back-form, last-zero, back-forth}
use Rattle.neighbor_line.proofs.Buffers.{forth_given, back_short, back_given, forth-none, back-none, forth-done, back-done}

abbrev is-ok : Result ℕ MoveRefusal → Bool
is-ok (Ok n) = true
is-ok (Err r) = false

-- the refusal that is answered, or 6
abbrev refusal-in : Result ℕ MoveRefusal → MoveRefusal
refusal-in (Ok n) = MoveRefusal.ShortBuffer
refusal-in (Err r) = r

-- a length that is answered is the result's
done : (r : Option MoveRefusal) (l : List ℕ) (n : ℕ) → answer_of r l ≡ Ok n → (r ≡ None) × (n ≡ length l)
done None l n e = (refl, sym (ap count e))
  where
    count : Result ℕ MoveRefusal → ℕ
    count (Ok m) = m
    count (Err r) = 0
done (Some r) l n e = absurd (false≢true (ap is-ok e))

forth-ok : (t : List ℕ) (room n : ℕ) → forth_answer t room ≡ Ok n → (forth_refusal t room ≡ None) × (n ≡ length (forth_text t))
unfolding forth_answer
forth-ok t room n e = done (forth_refusal t room) (forth_text t) n e

back-ok : (t : List ℕ) (room n : ℕ) → back_answer t room ≡ Ok n → (back_refusal t room ≡ None) × (n ≡ length (back_text t))
unfolding back_answer
back-ok t room n e = done (back_refusal t room) (back_text t) n e

-- the result stands at the front
at-front : (n : ℕ) (out left l : List ℕ) → n ≡ length l → left ≡ over out l → line_left n left ≡ l
at-front n out left l c e = (λ i. take (c i) (e i)) ∙ take-append_seam l (drop (length l) out)

-- a line that was moved forth, in the buffer
forth-left : (t a : List ℕ) (n : ℕ) → forth_answer t (length a) ≡ Ok n → line_left n (forth_left t a) ≡ forth_text t
forth-left t a n e = let o = forth-ok t (length a) n e in at-front n a (forth_left t a) (forth_text t) o.1 (forth-done t a o.0).1

back-left : (t a : List ℕ) (n : ℕ) → back_answer t (length a) ≡ Ok n → line_left n (back_left t a) ≡ back_text t
back-left t a n e = let o = back-ok t (length a) n e in at-front n a (back_left t a) (back_text t) o.1 (back-done t a o.0).1

-- is moved back
module _ (t : List ℕ) (h : is_line_of old_forms t ≡ true) where
  forth-fits : (b : List ℕ) → length t ≤ length b → back_refusal (forth_text t) (length b) ≡ None
  forth-fits b l = back_given (forth_text t) (length b) (forth-form t h) (omega (arith, l, back_long (forth_text t) (forth-form t h), ap length (forth-back t h))) (forth-unknown t h)

  forth-again : (b : List ℕ) → length t ≤ length b → (back_answer (forth_text t) (length b) ≡ Ok (length t)) × (line_left (length t) (back_left (forth_text t) b) ≡ t)
  forth-again b l =
      let d = back-done (forth_text t) b (forth-fits b l) in
      (d.0 ∙ ap (λ (x : List ℕ). Ok (length x)) (forth-back t h), at-front (length t) b (back_left (forth_text t) b) t refl (d.1 ∙ ap (over b) (forth-back t h)))

  -- or turned down by 6
  forth-short : (room : ℕ) (b : Bool) → ltb room (length (back_front (forth_text t)) + 1) ≡ b → refusal-in (back_answer (forth_text t) room) ≡ MoveRefusal.ShortBuffer
  unfolding back_answer
  forth-short room true e =
      ap (λ (r : Option MoveRefusal). refusal-in (answer_of r (back_text (forth_text t)))) (back_short (forth_text t) room (forth-form t h) (ltb-true room (length (back_front (forth_text t)) + 1) e))
  forth-short room false e =
      ap (λ (r : Option MoveRefusal). refusal-in (answer_of r (back_text (forth_text t)))) (back_given (forth_text t) room (forth-form t h) (ltb-false room (length (back_front (forth_text t)) + 1) e) (forth-unknown t h))

  forth-other : (room : ℕ) (r : MoveRefusal) → back_answer (forth_text t) room ≡ Err r → move_refusal_number r ≡ 6
  forth-other room r e =
      ap (λ (x : Result ℕ MoveRefusal). move_refusal_number (refusal-in x)) (sym e)
      ∙ ap move_refusal_number (forth-short room (ltb room (length (back_front (forth_text t)) + 1)) refl)

module _ (t : List ℕ) (h : is_line_of entry_forms t ≡ true) (z : last_heard_in (fields_of_line t) ≡ 0) where
  two-less : length (back_text t) + 2 ≡ length t
  two-less = omega (arith, back-less t h, ap length (last-zero t h z))

  back-again : (b : List ℕ) → length t ≤ length b → (forth_answer (back_text t) (length b) ≡ Ok (length t)) × (line_left (length t) (forth_left (back_text t) b) ≡ t)
  back-again b l =
      let d = forth-done (back_text t) b (forth_given (back_text t) (length b) (back-form t h) (omega (arith, l, two-less))) in
      (d.0 ∙ ap (λ (x : List ℕ). Ok (length x)) (back-forth t h z), at-front (length t) b (forth_left (back_text t) b) t refl (d.1 ∙ ap (over b) (back-forth t h z)))

  goes : (room : ℕ) → length t ≤ room + 2 → back_answer t room ≡ Ok (length t - 2)
  unfolding back_answer
  goes room l =
      let n : length (back_text t) ≡ length t - 2 = omega (arith, two-less) in
      ap (λ (r : Option MoveRefusal). answer_of r (back_text t)) (back_given t room h (omega (arith, l, two-less, back_long t h)) z) ∙ ap Ok n

given : (t : List ℕ) (room : ℕ) → is_line_of old_forms t ≡ true → length t + 2 ≤ room → forth_answer t room ≡ Ok (length t + 2)
unfolding forth_answer
given t room h l = ap (λ (r : Option MoveRefusal). answer_of r (forth_text t)) (forth_given t room h l) ∙ ap Ok (forth_long t h)

pub moves : Moves
unfolding forth_answer forth_left back_answer back_left decimal_of hex_of number_from digit_of
moves =
    record {
      goes-forth = given;
      goes-back = λ t room h z. goes t h z room;
      forth-back = λ t a b n e l.
          let h = (forth-none t (length a) (forth-ok t (length a) n e).0).0 in
          let c = forth-left t a n e in
          let d = forth-again t h b l in
          (ap (λ (x : List ℕ). back_answer x (length b)) c ∙ d.0, ap (λ (x : List ℕ). line_left (length t) (back_left x b)) c ∙ d.1);
      back-forth = λ t a b n e l.
          let p = back-none t (length a) (back-ok t (length a) n e).0 in
          let c = back-left t a n e in
          let d = back-again t p.0 p.2 b l in
          (ap (λ (x : List ℕ). forth_answer x (length b)) c ∙ d.0, ap (λ (x : List ℕ). line_left (length t) (forth_left x b)) c ∙ d.1);
      no-other = λ t a n room r e f.
          let h = (forth-none t (length a) (forth-ok t (length a) n e).0).0 in
          forth-other t h room r (ap (λ (x : List ℕ). back_answer x room) (sym (forth-left t a n e)) ∙ f);
      forth-long = λ t room n e.
          let o = forth-ok t room n e in
          let h = (forth-none t room o.0).0 in
          (o.1 ∙ forth_long t h, omega (arith, o.1, forth_long t h, old-size t h));
      back-long = λ t room n e.
          let o = back-ok t room n e in
          let p = back-none t room o.0 in
          (omega (arith, o.1, two-less t p.0 p.2), omega (arith, o.1, old-size (back_text t) (back-form t p.0)));
      first = refl;
      known = refl;
      short = refl;
      most = refl;
      above = refl;
      zeros = refl;
    }
