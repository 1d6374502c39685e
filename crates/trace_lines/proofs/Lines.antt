-- Laws of the lines that are read. Assumes nothing.
use Prim.Native.Nat.{ℕ, zero, suc, ◌+◌, ◌<◌, ◌≤◌}
use mathlib.Core.Path.{◌≡◌, refl, sym, ap, ◌∙◌}
use mathlib.Core.Bool.{Bool, true, false, cond, false≢true, ◌&&◌, ◌||◌}
use mathlib.Core.List.{List, [], ◌∷◌, ◌++◌, map, map-append, zip_with}
use native.Mathlib.Nat.{le_of_suc-le-suc, not-suc-le-zero}
use native.Mathlib.Numerals.{add-one}
use native.Mathlib.Omega.{arith}
use borrow.Author.Tests.{eq-eqb, ne_eqb}
use lib.Dec.{eqb}
use lib.ListN.{length, take, drop, get_or, set, length-drop, length-map, length-set, drop_of_length-le}
use lib.Seq.{drop-cons, take_all, length-take-le}
use Rattle.lists.specs.Lists.{every, some, over}
use Rattle.std.proofs.lemmas.Bool.{cond-true}
use Rattle.std.proofs.lemmas.List.{take_more}
use Rattle.lists.proofs.Lists.{over-snoc}
use Rattle.std.specs.Prelude.{Option, Some, None, is_some}
use Rattle.std.specs.Iterator.{Yields}
use Rattle.std.specs.List.{zip, enumerate_from}
use Rattle.std.proofs.lemmas.Iterator.{YieldsList}
use Rattle.std.proofs.lemmas.Iterator.Consumers.{YieldsList-turn}
use Rattle.trace_lines.specs.declared.InputKind.{InputKind}
use Rattle.trace_lines.specs.declared.InputLine.{InputLine}
use Rattle.trace_lines.specs.TraceLines.{letters_of, number_of, is_dash, all_fit, fits_kind, zeros, or_zero, line_as, read_by}
use Rattle.trace_lines.specs.Private.{read_as, read_kind}
use Rattle.trace_lines.proofs.Zips.{zip-long, zip-few, zip-turn}

-- the fields of a line by the letters of a kind
module _ (k : InputKind) (fs : List (List ℕ)) where
  abbrev ls : List ℕ
  ls = letters_of k

  abbrev pub readings : List (Option ℕ)
  readings = zip_with number_of ls (drop 1 fs)

  abbrev pub dashes : List Bool
  dashes = zip_with is_dash ls (drop 1 fs)

  -- a turn of a loop over the further fields beside their letters: its place, what the field says by its letter, and whether it is a dash
  pub turn : {S A : Type 0} {steps : S → Option A → S → Type 0} {v : A → ℕ × (List ℕ × ℕ)} {s : S} → YieldsList steps v s (enumerate_from 0 (zip (drop 1 fs) ls))
      → (xs : List A) (t : S) → Yields steps s xs t → (r : Option A) (u : S) (x : A) → r ≡ Some x → steps t r u
      → (length xs < length ls) × ((v x).0 ≡ length xs)
      × (get_or readings (length xs) None ≡ number_of (v x).1.1 (v x).1.0)
      × (get_or dashes (length xs) false ≡ is_dash (v x).1.1 (v x).1.0)
  turn {v = v} e xs t y r u x is g =
      let h = YieldsList-turn e xs t y r u x is g in
      let n = zip-turn number_of ls (drop 1 fs) (length xs) (v x) None h.0 h.1 in
      (zip-few ls (drop 1 fs) (length xs) h.0, n.0, n.1, (zip-turn is_dash ls (drop 1 fs) (length xs) (v x) false h.0 h.1).1)

  pub other-count : 1 ≤ length fs → (length fs ≡ length ls + 1 → ⊥) → None ≡ read_as k fs
  unfolding all_fit
  other-count s n =
      let e : eqb (length (drop 1 fs)) (length ls) ≡ false = ne_eqb (length (drop 1 fs)) (length ls) (λ p. n (omega (arith, length-drop 1 fs))) in
      rw e

  -- n fields are read: all are numbers exactly if those that are left are; a dash was seen, or those that are left say if there is one; and the array has
  -- the numbers so far, from place 1 on
  abbrev pub ReadSoFar : ℕ → Bool → List ℕ → Type 0
  ReadSoFar n d ns = (length ns ≡ 20)
      × (every is_some readings ≡ every is_some (drop n readings))
      × (some (λ b. b) dashes ≡ cond d true (some (λ b. b) (drop n dashes)))
      × (ns ≡ over zeros (0 ∷ map or_zero (take n readings)))

  module _ (m : length fs ≡ length ls + 1) where
    further : length (drop 1 fs) ≡ length ls
    further = omega (arith, length-drop 1 fs)

    reading-count : length readings ≡ length ls
    reading-count = omega (arith, zip-long number_of ls (drop 1 fs), further)

    dash-count : length dashes ≡ length ls
    dash-count = omega (arith, zip-long is_dash ls (drop 1 fs), further)

    module _ (n : ℕ) (d : Bool) (ns : List ℕ) (r : ReadSoFar n d ns) where
      pub no_number : n < length ls → get_or readings n None ≡ None → None ≡ read_as k fs
      unfolding all_fit
      no_number h e =
          let s : every is_some readings ≡ false = r.1 ∙ rw (drop-cons readings n None (omega (arith, reading-count)), e) in
          rw (s, eq-eqb (length (drop 1 fs)) (length ls) further)

      pub one_more : (i j x : ℕ) (e : Bool) → n < length ls → length ls ≤ 19 → i ≡ n → j ≡ n + 1 → get_or readings n None ≡ Some x → e ≡ (d || get_or dashes n false) → ReadSoFar j e (set ns (i + 1) x)
      one_more i j x e h few p q f g =
          let u : n < length readings = omega (arith, reading-count) in
          let v : List ℕ = 0 ∷ map or_zero (take n readings) in
          let w : length v ≡ n + 1 = ap suc (length-map (take n readings) or_zero ∙ length-take-le n readings (omega arith)) ∙ sym (add-one n) in
          let s : v ++ (x ∷ []) ≡ 0 ∷ map or_zero (take (n + 1) readings) =
          ap (λ (z : List ℕ). 0 ∷ z) (sym (ap (map or_zero) (take_more readings n None u) ∙ map-append or_zero (take n readings) (get_or readings n None ∷ []) ∙ ap (λ (o : Option ℕ). map or_zero (take n readings) ++ (or_zero o ∷ [])) f)) in
          let y : set ns (n + 1) x ≡ over zeros (0 ∷ map or_zero (take (n + 1) readings)) =
          ap (λ (z : List ℕ). set z (n + 1) x) r.3 ∙ ap (λ (a : ℕ). set (over zeros v) a x) (sym w) ∙ over-snoc zeros v x (omega arith) ∙ ap (over zeros) s in
          rw (p, q) (
            length-set ns (n + 1) x ∙ r.0,
            r.1 ∙ rw (add-one, drop-cons readings n None u, f),
            r.2 ∙ rw (add-one, drop-cons dashes n false (omega (arith, dash-count)), g) (seen d (get_or dashes n false)),
            y,
          )
        where
          seen : (a b : Bool) → cond a true (cond b true (some (λ z. z) (drop (suc n) dashes))) ≡ cond (a || b) true (some (λ z. z) (drop (suc n) dashes))
          seen true b = refl
          seen false b = refl

      pub all_read : n ≡ length ls → Some (record { kind = k; dash = d; numbers = ns }) ≡ read_as k fs
      unfolding all_fit line_as
      all_read p =
          let a : drop n readings ≡ [] = drop_of_length-le readings {i = n} (omega (arith, reading-count)) in
          let b : drop n dashes ≡ [] = drop_of_length-le dashes {i = n} (omega (arith, dash-count)) in
          let t : every is_some readings ≡ true = r.1 ∙ ap (every is_some) a in
          let u : some (λ x. x) dashes ≡ d = r.2 ∙ ap (λ (z : List Bool). cond d true (some (λ x. x) z)) b ∙ self d in
          let v : take n readings ≡ readings = take_all n readings (omega (arith, reading-count)) in
          let w : ns ≡ over zeros (0 ∷ map or_zero readings) = r.3 ∙ ap (λ (z : List (Option ℕ)). over zeros (0 ∷ map or_zero z)) v in
          (λ j. Some (record { kind = k; dash = sym u j; numbers = w j }))
          ∙ sym (cond-true (eqb (length (drop 1 fs)) (length ls) && every is_some readings) _ None (rw (t, eq-eqb (length (drop 1 fs)) (length ls) further)))
        where
          self : (x : Bool) → cond x true false ≡ x
          self true = refl
          self false = refl

-- the kinds in turn
module _ (fs : List (List ℕ)) (d : InputKind) where
  hit : (k : InputKind) (ks : List InputKind) (r : InputLine) → Some r ≡ read_kind k fs → Some r ≡ read_by (k ∷ ks) fs
  unfolding read_by
  hit k ks r = go (fits_kind fs k)
    where
      go : (b : Bool) → Some r ≡ cond b (Some (line_as k fs)) None → Some r ≡ cond b (Some (line_as k fs)) (read_by ks fs)
      go true e = e
      go false e = absurd (false≢true (sym (ap is_some e)))

  miss : (k : InputKind) (ks : List InputKind) → None ≡ read_kind k fs → read_by ks fs ≡ read_by (k ∷ ks) fs
  unfolding read_by
  miss k ks = go (fits_kind fs k)
    where
      go : (b : Bool) → None ≡ cond b (Some (line_as k fs)) None → read_by ks fs ≡ cond b (Some (line_as k fs)) (read_by ks fs)
      go true e = absurd (false≢true (ap is_some e))
      go false e = refl

  pub none_fits : (ks : List InputKind) → ((i : ℕ) → i < length ks → None ≡ read_kind (get_or ks i d) fs) → None ≡ read_by ks fs
  unfolding read_by
  none_fits [] h = refl
  none_fits (k ∷ ks) h = none_fits ks (λ i l. h (suc i) (omega arith)) ∙ miss k ks (h 0 (omega arith))

  pub first_fits : (ks : List InputKind) (i : ℕ) (r : InputLine) → i < length ks → Some r ≡ read_kind (get_or ks i d) fs → ((j : ℕ) → j < i → None ≡ read_kind (get_or ks j d) fs) → Some r ≡ read_by ks fs
  first_fits [] i r l e h = absurd (not-suc-le-zero l)
  first_fits (k ∷ ks) zero r l e h = hit k ks r e
  first_fits (k ∷ ks) (suc i) r l e h = first_fits ks i r (le_of_suc-le-suc l) e (λ j m. h (suc j) (omega arith)) ∙ miss k ks (h 0 (omega arith))
