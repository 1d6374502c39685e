-- A line's move is made, or turned down by the refusal that 02 gives it. Assumes nothing.
use Rattle.std.specs.Prelude.{Option, Some, None, Result, Ok, Err}
use Prim.Native.Nat.{ℕ, ◌<◌}
use mathlib.Core.Path.{◌≡◌, refl, sym, ap, subst, ◌∙◌}
use mathlib.Core.Bool.{Bool, true, false, cond, not, false≢true}
use mathlib.Core.List.{List, [], ◌∷◌}
use mathlib.Core.Logic.{inl, inr}
use borrow.Author.Tests.{eqb-true, eqb-false}
use lib.Dec.{eqb}
use lib.ListN.{length}
use Rattle.neighbor_line.specs.NeighborLine.{old_forms, entry_forms, last_heard_in}
use Rattle.neighbor_line.specs.Moves.{move_refusal_number, is_line_of, fields_of_line, forth_text, back_text, answer_of, left_of, known_refusal, forth_refusal, back_refusal, forth_answer, forth_left, back_answer, back_left}
use Rattle.neighbor_line.specs.declared.MoveRefusal.{MoveRefusal}
use Rattle.neighbor_line.specs.declared.MoveRefusal.TheVariants.{NotOfForm, ShortBuffer, LastHeardKnown}
use Rattle.refusals.specs.Statement.{First, forth_numbers, back_numbers, Unmoved, MoveRefusedBy}
use Rattle.refusals.proofs.Conditions.{Tells, holds, fails, above-told}

-- a refusal with numbered conditions: that of the first that holds; none where none does
data Turns : Option MoveRefusal → List (ℕ × Type 0) → Type 1 where
  made : Turns None []
  turned : {k : ℕ} {C : Type 0} {cs : List (ℕ × Type 0)} (r : MoveRefusal) → move_refusal_number r ≡ k → C → Turns (Some r) ((k, C) ∷ cs)
  passed : {o : Option MoveRefusal} {k : ℕ} {C : Type 0} {cs : List (ℕ × Type 0)} → (C → ⊥) → Turns o cs → Turns o ((k, C) ∷ cs)

false-told : (b : Bool) → Tells (b ≡ false) (not b)
false-told true = fails (λ e. false≢true (sym e))
false-told false = holds refl

zero-told : (n : ℕ) → Tells (n ≡ 0) (eqb n 0)
zero-told n = go (eqb n 0) refl
  where
    go : (b : Bool) → eqb n 0 ≡ b → Tells (n ≡ 0) b
    go true e = holds (eqb-true n 0 e)
    go false e = fails (eqb-false n 0 e)

forth-turns : (t : List ℕ) (room : ℕ) → Turns (forth_refusal t room) (forth_numbers t room)
forth-turns t room = go (false-told (is_line_of old_forms t)) (above-told room (length (forth_text t)))
  where
    go : {b c : Bool} → Tells (is_line_of old_forms t ≡ false) b → Tells (room < length (forth_text t)) c
        → Turns (cond b (Some NotOfForm) (cond c (Some ShortBuffer) None)) (forth_numbers t room)
    go (holds h) k = turned NotOfForm refl h
    go (fails h) (holds k) = passed h (turned ShortBuffer refl k)
    go (fails h) (fails k) = passed h (passed k made)

back-turns : (t : List ℕ) (room : ℕ) → Turns (back_refusal t room) (back_numbers t room)
back-turns t room = go (false-told (is_line_of entry_forms t)) (above-told room (length (back_text t))) (zero-told (last_heard_in (fields_of_line t)))
  where
    known : {d : Bool} → Tells (last_heard_in (fields_of_line t) ≡ 0) d
        → Turns (cond d None (Some LastHeardKnown)) ((7, last_heard_in (fields_of_line t) ≡ 0 → ⊥) ∷ [])
    known (holds z) = passed (λ f. f z) made
    known (fails z) = turned LastHeardKnown refl z

    go : {b c : Bool} → Tells (is_line_of entry_forms t ≡ false) b → Tells (room < length (back_text t)) c → Tells (last_heard_in (fields_of_line t) ≡ 0) (eqb (last_heard_in (fields_of_line t)) 0)
        → Turns (known_refusal t (cond b (Some NotOfForm) (cond c (Some ShortBuffer) None))) (back_numbers t room)
    go (holds h) k z = turned NotOfForm refl h
    go (fails h) (holds k) z = passed h (turned ShortBuffer refl k)
    go (fails h) (fails k) z = passed h (passed k (known z))

given : {o : Option MoveRefusal} {cs : List (ℕ × Type 0)} → Turns o cs → (result : List ℕ) (k : ℕ) → First k cs → Unmoved k (answer_of o result)
given made result k f = absurd f
given (turned r q h) result k (inl f) = q ∙ f.0
given (turned r q h) result k (inr f) = absurd (f.0 h)
given (passed n g) result k (inl f) = absurd (n f.1)
given (passed n g) result k (inr f) = given g result k f.1

-- the number that an answer says
abbrev number_of : Result ℕ MoveRefusal → ℕ
number_of (Ok n) = 0
number_of (Err r) = move_refusal_number r

abbrev Refused : Result ℕ MoveRefusal → Type 0
Refused (Ok n) = ⊥
Refused (Err r) = Unit {0}

unmade : (r : Result ℕ MoveRefusal) (e : MoveRefusal) → r ≡ Err e → Refused r
unmade (Err r) e q = tt
unmade (Ok n) e q = subst Refused (sym q) tt

only : {o : Option MoveRefusal} {cs : List (ℕ × Type 0)} → Turns o cs → (result : List ℕ) (e : MoveRefusal) → answer_of o result ≡ Err e → First (move_refusal_number e) cs
only made result e q = absurd (unmade (Ok (length result)) e q)
only (turned r n h) result e q = inl (sym n ∙ ap number_of q, h)
only (passed n g) result e q = inr (n, only g result e q)

stays : (o : Option MoveRefusal) (result out : List ℕ) (e : MoveRefusal) → answer_of o result ≡ Err e → left_of o result out ≡ out
stays (Some r) result out e q = refl
stays None result out e q = absurd (unmade (Ok (length result)) e q)

pub forth-refused : (t b : List ℕ) → MoveRefusedBy (forth_numbers t (length b)) (forth_answer t (length b)) b (forth_left t b)
unfolding forth_answer forth_left
forth-refused t b =
    let g = forth-turns t (length b) in
    record { given = given g (forth_text t); only = only g (forth_text t); stays = stays (forth_refusal t (length b)) (forth_text t) b }

pub back-refused : (t b : List ℕ) → MoveRefusedBy (back_numbers t (length b)) (back_answer t (length b)) b (back_left t b)
unfolding back_answer back_left
back-refused t b =
    let g = back-turns t (length b) in
    record { given = given g (back_text t); only = only g (back_text t); stays = stays (back_refusal t (length b)) (back_text t) b }
