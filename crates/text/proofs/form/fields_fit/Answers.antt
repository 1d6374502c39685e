-- `fields_fit` meets its contract. Assumes nothing.
use Rattle.std.proofs.Common.{eqb, rules}
use borrow.Author.Tests.{tests}
use Rattle.std.proofs.lemmas.Iterator.{YieldsList-from_slice, YieldsList-from_zip}
use Rattle.std.proofs.lemmas.Iterator.Search.{all_from_yields_List}
use Rattle.std.proofs.lemmas.Iterator.Splits.{YieldsList-from_slice_split}
use Rattle.text.specs.Form.{has_form}
use Rattle.text.proofs.form.fields_fit.Goals as goal

pub returns : goal.returns
returns g c =
    all_from_yields_List (λ p. has_form p.1 p.0) c.all.new.self _ c.all.result c.all.ensures.ran (
    YieldsList-from_zip
    (YieldsList-from_slice_split _ (λ b. eqb b 9) c.args.line.now (search rules) (search rules) (search rules) (λ x b q k. search (rules, tests)))
    (YieldsList-from_slice c.args.forms.now (search rules))
    ) (λ x b q k. search (rules, tests))
