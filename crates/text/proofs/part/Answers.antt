-- `part` meets its contract. Assumes nothing.
use Rattle.std.proofs.Common.{◌≡◌, ℕ, List, [], ap, ◌∙◌, eqb, rules, refl}
use borrow.Author.Tests.{tests}
use denote.Ref.{Bor}
use Rattle.std.specs.Prelude.{Option, Some, None, option_map, unwrap_or}
use Rattle.std.proofs.lemmas.Option.{unwrap_or-slice_get}
use Rattle.std.proofs.lemmas.Iterator.Consumers.{nth_from_yields_List}
use Rattle.std.proofs.lemmas.Iterator.Splits.{YieldsList-from_slice_split}
use Rattle.text.specs.Text.{parts}
use Rattle.text.proofs.part.Goals as goal

now-or : (r : Option (Bor (List ℕ))) (d : Bor (List ℕ)) → (unwrap_or r d).now ≡ unwrap_or (option_map (λ x. x.now) r) d.now
now-or None d = refl
now-or (Some x) d = refl

pub returns : goal.returns
returns c =
    let e = nth_from_yields_List c.nth.result c.nth.new.self c.args.k c.nth.ensures.ran (YieldsList-from_slice_split _ (λ b. eqb b c.args.sep) c.args.s.now c.split.ensures.rest c.split.ensures.done c.split.ensures.closure (λ x b q k. search (rules, tests))) in
    ap (λ (x : Bor (List ℕ)). x.now) c.unwrap_or.ensures ∙ now-or c.nth.result _ ∙ ap (λ (o : Option (List ℕ)). unwrap_or o []) e ∙ unwrap_or-slice_get (parts c.args.sep c.args.s.now) c.args.k []
