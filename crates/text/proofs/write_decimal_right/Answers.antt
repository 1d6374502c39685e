-- `write_decimal_right` meets its contract. Assumes nothing.
use native.Mathlib.Omega.{arith}
use Prim.Native.Nat.{ℕ, ◌+◌, ◌-◌, ◌≤◌, min}
use mathlib.Core.Path.{◌≡◌, sym, ap, ◌∙◌}
use mathlib.Core.List.{◌++◌}
use lib.ListN.{length, take, drop, length-drop, take-append-drop}
use lib.Seq.{sets, take_all}
use Rattle.text.specs.Text.{decimal_text, spaces, right_text}
use Rattle.text.proofs.Numbers.{right-filled, spaces-taken}
use borrow.Author.Rules.{rules}
use Rattle.text.proofs.write_decimal_right.Goals as goal

-- ten bytes of spaces with the digits at their end (q): the last of them are the text right-aligned (r), and they are what is written (e)
pub returns : goal.returns
returns c =
    let x = c.fill_decimal.new.bytes in
    let t = decimal_text c.args.n in
    let k = min c.args.width 10 in
    let n : length x ≡ 10 = search rules in
    let d : length (drop c.fill_decimal.result x) ≡ length t = ap length c.fill_decimal.ensures.1 in
    let p : length t + c.fill_decimal.result ≡ 10 = omega (arith, length-drop c.fill_decimal.result x, c.fill_decimal.ensures.0) in
    let m : 10 - k ≡ c.saturating_sub-start.result = omega (arith, c.saturating_sub-start.ensures) in
    let q : x ≡ spaces c.fill_decimal.result ++ t =
    sym (take-append-drop c.fill_decimal.result x) ∙ (λ i. (c.fill_decimal.ensures.2 ∙ spaces-taken c.fill_decimal.result 10 (omega (arith, c.fill_decimal.ensures.0))) i ++ c.fill_decimal.ensures.1 i) in
    let r : drop c.saturating_sub-start.result x ≡ right_text k t =
    ap (λ (j : ℕ). drop j x) (sym m) ∙ ap (drop (10 - k)) q ∙ right-filled 10 c.fill_decimal.result k t p (omega arith) in
    let h : length (drop c.saturating_sub-start.result x) ≤ 10 - c.saturating_sub-start.result = omega (arith, length-drop c.saturating_sub-start.result x) in
    let e : take (10 - c.saturating_sub-start.result) (drop c.saturating_sub-start.result x) ≡ right_text k t = take_all (10 - c.saturating_sub-start.result) (drop c.saturating_sub-start.result x) h ∙ r in
    (c.write.ensures.0 ∙ ap length e, c.write.ensures.1 ∙ ap (sets c.args.out.now c.args.at) e)
