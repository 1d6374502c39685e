-- `read_as` meets its contract. Assumes nothing.
use Prim.Native.Nat.{ℕ, ◌+◌, ◌≤◌}
use mathlib.Core.Path.{◌≡◌, sym, ap, ◌∙◌}
use mathlib.Core.Bool.{◌||◌}
use native.Mathlib.Omega.{arith}
use borrow.Author.Tests.{tests}
use denote.Ref.{Bor}
use lib.Dec.{eqb}
use lib.ListN.{length, drop, length-append, length-drop}
use Rattle.std.proofs.Common.{rules}
use Rattle.std.proofs.lemmas.Iterator.{YieldsList, YieldsList-from_slice, YieldsList-from_zip}
use Rattle.std.proofs.lemmas.Iterator.Adapters.{YieldsList-from_skip}
use Rattle.std.proofs.lemmas.Iterator.Consumers.{YieldsList-from_enumerate, YieldsList-end}
use Rattle.std.proofs.lemmas.Iterator.Splits.{YieldsList-from_slice_split}
use Rattle.std.specs.List.{zip, enumerate_from}
use Rattle.std.specs.Prelude.{List}
use Rattle.text.specs.Text.{fields}
use Rattle.text.proofs.Parts.{parts-some}
use Rattle.trace_lines.specs.TraceLines.{letters_of}
use Rattle.trace_lines.proofs.Zips.{zip-all}
use Rattle.trace_lines.proofs.Lines.{turn, other-count, no_number, one_more, all_read}
use Rattle.trace_lines.proofs.read_as.Given.{iterator-loop-i}
use Rattle.trace_lines.proofs.read_as.Goals as goal
use Rattle.trace_lines.proofs.read_as.Goals.{After-into_iter-i-iterator}

pub returns-then-part_count-letters : goal.returns-then-part_count-letters
returns-then-part_count-letters c =
    let v = c.letters-letters.ensures.value in
    other-count c.args.kind (fields c.args.line.now) (parts-some 9 c.args.line.now) (λ e. c.if-part_count-letters.true (omega (arith, c.part_count.ensures, ap length v, e)))

-- as many further fields as letters, and those are few
many : (c : After-into_iter-i-iterator) → length (fields c.args.line.now) ≡ length (letters_of c.args.kind) + 1
many c = omega (arith, c.part_count.ensures, ap length c.letters-letters.ensures.value)

few : (c : After-into_iter-i-iterator) → length (letters_of c.args.kind) ≤ 19
few c = omega (arith, c.letters-letters.ensures.few, ap length c.letters-letters.ensures.value)

-- the further fields beside their letters
road : (c : After-into_iter-i-iterator)
    → YieldsList {A = ℕ × (Bor (List ℕ) × Bor ℕ)} iterator-loop-i.next_gives (λ p. (p.0, (p.1.0.now, p.1.1.now))) c.into_iter-i-iterator.result (enumerate_from 0 (zip (drop 1 (fields c.args.line.now)) (letters_of c.args.kind)))
road c =
    YieldsList-from_enumerate (YieldsList-from_zip
    (YieldsList-from_skip 1 (YieldsList-from_slice_split _ (λ b. eqb b 9) c.args.line.now (search rules) (search rules) (search rules) (λ x b q k. search (rules, tests))) (search rules))
    (YieldsList-from_slice (letters_of c.args.kind) (search rules))) (search rules)

-- the next field is no number
pub returns-in_err-numbers : goal.returns-in_err-numbers
returns-in_err-numbers c =
    let a = (goal.at.returns-in_err-numbers c).After-into_iter-i-iterator in
    let t = turn c.args.kind (fields c.args.line.now) (road a) c.loop-i.yielded c.loop-i.i-iterator c.loop-i.yielded_by _ c.next.new.self _ c.in-Some.is c.next.ensures.steps in
    c.from_residual.ensures ∙ no_number c.args.kind (fields c.args.line.now) (many a) _ _ _ c.loop-i.invariant t.0 (t.2 ∙ sym c.read_number.ensures ∙ c.in_err-numbers.was)

-- one field more
pub loop-i-preserved : goal.loop-i-preserved
loop-i-preserved c =
    let a = (goal.at.loop-i-preserved c).After-into_iter-i-iterator in
    let t = turn c.args.kind (fields c.args.line.now) (road a) c.loop-i.yielded c.loop-i.i-iterator c.loop-i.yielded_by _ c.next.new.self _ c.in-Some.is c.next.ensures.steps in
    one_more c.args.kind (fields c.args.line.now) (many a) _ _ _ c.loop-i.invariant _ _ _ _ t.0 (few a) t.1 (length-append c.loop-i.yielded _) (t.2 ∙ sym c.read_number.ensures ∙ c.in_ok-numbers.was) (ap (λ b. c.loop-i.dash || b) (c.is_dash.ensures ∙ sym t.3))

pub returns : goal.returns
returns c =
    let a = (goal.at.returns c).After-into_iter-i-iterator in
    let fs = fields c.args.line.now in
    let e = YieldsList-end (road a) c.loop-i.yielded c.loop-i.i-iterator c.loop-i.yielded_by _ c.next.new.self c.in-None.is c.next.ensures.steps in
    all_read c.args.kind fs (many a) _ _ _ c.loop-i.invariant (e.1 ∙ zip-all (letters_of c.args.kind) (drop 1 fs) (omega (arith, many a, length-drop 1 fs)))
