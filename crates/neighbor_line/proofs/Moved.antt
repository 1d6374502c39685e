-- Laws of lines that are moved. Assumes nothing.
use Prim.Native.Nat.{ℕ, ◌+◌, ◌-◌, ◌≤◌}
use mathlib.Core.Path.{◌≡◌, refl, sym, ap, subst, ◌∙◌}
use mathlib.Core.Bool.{true, ◌&&◌}
use mathlib.Core.List.{List, [], ◌∷◌, ◌++◌, append_assoc}
use native.Mathlib.Omega.{arith}
use borrow.Author.Tests.{eqb-true}
use lib.Dec.{eqb}
use lib.ListN.{length, take, get_or, length-append}
use lib.Seq.{take_all}
use Rattle.std.specs.List.{join_with_byte}
use Rattle.std.specs.Prelude.{unwrap_or}
use Rattle.std.proofs.Math.Seq.{take-append_seam, get_or-append_seam}
use Rattle.std.proofs.lemmas.Bool.{and_parts}
use Rattle.std.proofs.lemmas.List.{take_more}
use Rattle.std.proofs.lemmas.List.Splits.{join_with_byte-slice_split}
use Rattle.lists.specs.Lists.{All}
use Rattle.text.specs.declared.form.Form.{Form}
use Rattle.text.specs.declared.form.Form.TheVariants.{Decimal}
use Rattle.text.specs.Text.{bytes, parts, fields, digit_of, number_from, decimal_of, decimal_text}
use Rattle.text.specs.Form.{has_form, have_forms}
use Rattle.text.proofs.Parts.{parts-some}
use Rattle.text.proofs.Joined.{Whole, join-more, parts-behind, parts-long, one-whole, parts-whole, parts-joined}
use Rattle.text.proofs.Sizes.{zero-text, total, total-parts}
use Rattle.text.proofs.Forms.{forms-long, forms-more, line-size}
use Rattle.neighbor_line.specs.NeighborLine.{old_forms, entry_forms, last_heard_in}
use Rattle.neighbor_line.specs.Moves.{is_one_line, fields_of_line, is_line_of, line_of, forth_text, back_text}
use Rattle.neighbor_line.specs.Private.{back_front}

module _ {A : Type 0} (P : A → Type 0) where
  all-front : (l m : List A) → All P (l ++ m) → All P l
  all-front [] m h = tt
  all-front (x ∷ l) m h = (h.0, all-front l m h.1)

  all-more : (l : List A) (x : A) → All P l → P x → All P (l ++ (x ∷ []))
  all-more [] x h p = (p, tt)
  all-more (y ∷ l) x h p = (h.0, all-more l x h.1 p)

-- fields that make a line: without tabs, and without line feeds
record Fit (fs : List (List ℕ)) : Type 0 where
  some : 1 ≤ length fs
  tabs : All (Whole 9) fs
  feed : length (parts 10 (join_with_byte 9 fs)) ≡ 1

abbrev joined : List (List ℕ) → List ℕ
joined fs = join_with_byte 9 fs

fit-more : (fs : List (List ℕ)) → Fit fs → Fit (fs ++ (bytes "0" ∷ []))
fit-more fs f =
    record {
      some = omega (arith, length-append fs (bytes "0" ∷ []), f.some);
      tabs = all-more (Whole 9) fs (bytes "0") f.tabs refl;
      feed = omega (arith, ap (λ (l : List ℕ). length (parts 10 l)) (join-more 9 fs (bytes "0") f.some), parts-long 10 (joined fs) (9 ∷ bytes "0"), f.feed);
    }

fit-less : (fs : List (List ℕ)) (f : List ℕ) → 1 ≤ length fs → Fit (fs ++ (f ∷ [])) → Fit fs
fit-less fs f s h =
    record {
      some = s;
      tabs = all-front (Whole 9) fs (f ∷ []) h.tabs;
      feed = omega (arith, ap (λ (l : List ℕ). length (parts 10 l)) (join-more 9 fs f s), parts-long 10 (joined fs) (9 ∷ f), h.feed, parts-some 10 (joined fs), parts-some 10 (9 ∷ f));
    }

-- a line is that of its fields
of-fields : (t : List ℕ) → is_one_line t ≡ true → Fit (fields_of_line t) × (t ≡ line_of (fields_of_line t))
of-fields t h = (record { some = parts-some 9 l; tabs = parts-whole 9 l; feed = ap (λ (x : List ℕ). length (parts 10 x)) j ∙ ap length e.1 }, e.0 ∙ ap (λ (x : List ℕ). x ++ (10 ∷ [])) (sym j))
  where
    l : List ℕ
    l = get_or (parts 10 t) 0 []

    j : joined (fields l) ≡ l
    j = join_with_byte-slice_split 9 l

    go : (ps : List (List ℕ)) → join_with_byte 10 ps ≡ t → All (Whole 10) ps → length ps ≡ 2 → length (get_or ps 1 []) ≡ 0 → (t ≡ get_or ps 0 [] ++ (10 ∷ [])) × Whole 10 (get_or ps 0 [])
    go [] c w n z = let x : ⊥ = omega (arith, n) in absurd x
    go (p ∷ []) c w n z = let x : ⊥ = omega (arith, n) in absurd x
    go (p ∷ [] ∷ []) c w n z = (sym c, w.0)
    go (p ∷ (x ∷ q) ∷ []) c w n z = let y : ⊥ = omega (arith, z) in absurd y
    go (p ∷ q ∷ r ∷ ps) c w n z = let x : ⊥ = omega (arith, n) in absurd x

    e : (t ≡ l ++ (10 ∷ [])) × Whole 10 l
    e =
        let a = and_parts (eqb (length (parts 10 t)) 2) (eqb (length (get_or (parts 10 t) 1 [])) 0) h in
        go (parts 10 t) (join_with_byte-slice_split 10 t) (parts-whole 10 t) (eqb-true (length (parts 10 t)) 2 a.0) (eqb-true (length (get_or (parts 10 t) 1 [])) 0 a.1)

-- and fields that make a line are those of it
made : (fs : List (List ℕ)) → Fit fs → (is_one_line (line_of fs) ≡ true) × (fields_of_line (line_of fs) ≡ fs)
made fs f =
    let p : parts 10 (line_of fs) ≡ joined fs ∷ [] ∷ [] = parts-behind 10 (joined fs) [] ∙ ap (λ (l : List (List ℕ)). l ++ parts 10 []) (one-whole 10 (joined fs) f.feed) in
    (ap (λ (ps : List (List ℕ)). eqb (length ps) 2 && eqb (length (get_or ps 1 [])) 0) p, ap (λ (ps : List (List ℕ)). fields (get_or ps 0 [])) p ∙ parts-joined 9 fs f.some f.tabs)

made-of : (ms : List (Form 1)) (fs : List (List ℕ)) → Fit fs → have_forms ms fs ≡ true → is_line_of ms (line_of fs) ≡ true
made-of ms fs f h = let m = made fs f in (λ i. m.0 i && have_forms ms (m.1 i)) ∙ h

-- a line has as many bytes as its fields joined, and the line feed
line-long : (fs : List (List ℕ)) → length (line_of fs) ≡ length (joined fs) + 1
line-long fs = length-append (joined fs) (10 ∷ [])

-- a line of twelve fields
module _ (t : List ℕ) (h : is_line_of old_forms t ≡ true) where
  abbrev olds : List (List ℕ)
  olds = fields_of_line t

  old-parts : (is_one_line t ≡ true) × (have_forms old_forms olds ≡ true)
  old-parts = and_parts (is_one_line t) (have_forms old_forms olds) h

  old-fit : Fit olds
  old-fit = (of-fields t old-parts.0).0

  old-text : t ≡ line_of olds
  old-text = (of-fields t old-parts.0).1

  twelve : length olds ≡ 12
  twelve = forms-long old_forms olds old-parts.1

  of-twelve : 12 ≡ length olds
  of-twelve = sym twelve

  -- moved forth it is two bytes longer
  forth-is : forth_text t ≡ joined olds ++ bytes "\t0\n"
  forth-is = ap (λ (l : List ℕ). l ++ (10 ∷ [])) (join-more 9 olds (bytes "0") old-fit.some) ∙ append_assoc (joined olds) (9 ∷ bytes "0") (10 ∷ [])

  old-long : length t ≡ length (joined olds) + 1
  old-long = ap length old-text ∙ line-long olds

  pub forth_long : length (forth_text t) ≡ length t + 2
  forth_long = omega (arith, ap length forth-is, length-append (joined olds) (bytes "\t0\n"), old-long)

  pub forth_made : take (length t - 1) t ++ bytes "\t0\n" ≡ forth_text t
  forth_made =
      let n : length t - 1 ≡ length (joined olds) = omega (arith, old-long) in
      let f : take (length t - 1) t ≡ joined olds = (λ i. take (n i) (old-text i)) ∙ take-append_seam (joined olds) (10 ∷ []) in
      ap (λ (l : List ℕ). l ++ bytes "\t0\n") f ∙ sym forth-is

  -- it is a line of thirteen fields then, and the last of them is 0
  zero-fits : has_form {n = 1} (Decimal 4294967295) (bytes "0") ≡ true
  unfolding decimal_of number_from digit_of
  zero-fits = refl

  zero-reads : unwrap_or (decimal_of 4294967295 (bytes "0")) 0 ≡ 0
  unfolding decimal_of number_from digit_of
  zero-reads = refl

  pub forth-form : is_line_of entry_forms (forth_text t) ≡ true
  forth-form =
      made-of entry_forms (olds ++ (bytes "0" ∷ [])) (fit-more olds old-fit)
      (forms-more old_forms olds (Decimal 4294967295) (bytes "0") twelve ∙ (λ i. old-parts.1 i && zero-fits i))

  forth-fields : fields_of_line (forth_text t) ≡ olds ++ (bytes "0" ∷ [])
  forth-fields = (made (olds ++ (bytes "0" ∷ [])) (fit-more olds old-fit)).1

  pub forth-unknown : last_heard_in (fields_of_line (forth_text t)) ≡ 0
  forth-unknown =
      ap last_heard_in forth-fields
      ∙ (λ i. unwrap_or (decimal_of 4294967295 (get_or (olds ++ (bytes "0" ∷ [])) (of-twelve i) [])) 0)
      ∙ ap (λ (f : List ℕ). unwrap_or (decimal_of 4294967295 f) 0) (get_or-append_seam olds (bytes "0") [] [])
      ∙ zero-reads

  pub forth-back : back_text (forth_text t) ≡ t
  forth-back =
      ap (λ (fs : List (List ℕ)). line_of (take 12 fs)) forth-fields
      ∙ (λ i. line_of (take (of-twelve i) (olds ++ (bytes "0" ∷ []))))
      ∙ ap line_of (take-append_seam olds (bytes "0" ∷ []))
      ∙ sym old-text

  pub old-size : length t ≤ 55
  unfolding decimal_text
  old-size =
      let s : total olds ≤ 55 = line-size old_forms olds refl old-parts.1 in
      omega (arith, s, old-long, total-parts 9 (get_or (parts 10 t) 0 []), ap length (join_with_byte-slice_split 9 (get_or (parts 10 t) 0 [])))

-- a line of thirteen fields
module _ (t : List ℕ) (h : is_line_of entry_forms t ≡ true) where
  abbrev all : List (List ℕ)
  all = fields_of_line t

  abbrev front : List (List ℕ)
  front = take 12 all

  abbrev last : List ℕ
  last = get_or all 12 []

  all-parts : (is_one_line t ≡ true) × (have_forms entry_forms all ≡ true)
  all-parts = and_parts (is_one_line t) (have_forms entry_forms all) h

  thirteen : length all ≡ 13
  thirteen = forms-long entry_forms all all-parts.1

  all-is : all ≡ front ++ (last ∷ [])
  all-is = sym (take_all 13 all (omega (arith, thirteen))) ∙ take_more all 12 [] (omega (arith, thirteen))

  front-long : length front ≡ 12
  front-long = omega (arith, ap length all-is, length-append front (last ∷ []), thirteen)

  all-fit : Fit (front ++ (last ∷ []))
  all-fit = subst Fit all-is (of-fields t all-parts.0).0

  front-fit : Fit front
  front-fit = fit-less front last (omega (arith, front-long)) all-fit

  all-text : t ≡ joined front ++ ((9 ∷ last) ++ (10 ∷ []))
  all-text =
      (of-fields t all-parts.0).1 ∙ ap line_of all-is ∙ ap (λ (l : List ℕ). l ++ (10 ∷ [])) (join-more 9 front last front-fit.some)
      ∙ append_assoc (joined front) (9 ∷ last) (10 ∷ [])

  all-long : length t ≡ length (joined front) + (length last + 2)
  all-long = omega (arith, ap length all-text, length-append (joined front) ((9 ∷ last) ++ (10 ∷ [])), length-append (9 ∷ last) (10 ∷ []))

  -- moved back it lacks its last field and a tab
  pub front_is : back_front t ≡ joined front
  front_is =
      let n : length t - (length last + 2) ≡ length (joined front) = omega (arith, all-long) in
      (λ i. take (n i) (all-text i)) ∙ take-append_seam (joined front) ((9 ∷ last) ++ (10 ∷ []))

  pub back_made : back_front t ++ (10 ∷ []) ≡ back_text t
  back_made = ap (λ (l : List ℕ). l ++ (10 ∷ [])) front_is

  pub back_long : length (back_text t) ≡ length (back_front t) + 1
  back_long = omega (arith, ap length front_is, line-long front)

  pub back-less : length (back_text t) + (length last + 1) ≡ length t
  back-less = omega (arith, line-long front, all-long)

  -- it is a line of twelve fields then
  forms-both : (have_forms old_forms front ≡ true) × (has_form {n = 1} (Decimal 4294967295) last ≡ true)
  forms-both =
      and_parts (have_forms old_forms front) (has_form {n = 1} (Decimal 4294967295) last)
      (sym (forms-more old_forms front (Decimal 4294967295) last front-long) ∙ ap (have_forms entry_forms) (sym all-is) ∙ all-parts.1)

  pub back-form : is_line_of old_forms (back_text t) ≡ true
  back-form = made-of old_forms front front-fit forms-both.0

  -- where the last field is 0, it has one byte, and the line can be moved forth again
  module _ (z : last_heard_in all ≡ 0) where
    pub last-zero : last ≡ bytes "0"
    last-zero = zero-text 4294967295 last forms-both.1 z

    pub back-forth : forth_text (back_text t) ≡ t
    back-forth =
        ap (λ (fs : List (List ℕ)). line_of (fs ++ (bytes "0" ∷ []))) (made front front-fit).1
        ∙ ap (λ (f : List ℕ). line_of (front ++ (f ∷ []))) (sym last-zero)
        ∙ ap line_of (sym all-is)
        ∙ sym (of-fields t all-parts.0).1
