-- Where a line has as many fields as there are forms, it fits if each field has the form beside it.
use mathlib.Core.Path.{sym, ◌∙◌}
use Rattle.text.specs.Text.{fields}
use Rattle.text.proofs.Forms.{fit_each}
use Rattle.text.proofs.form.is_line.Goals as goal

pub returns-then-part_count-forms : goal.returns-then-part_count-forms
returns-then-part_count-forms g c = c.fields_fit.ensures ∙ fit_each c.args.forms.now (fields c.args.line.now) (sym c.part_count.ensures ∙ c.if-part_count-forms.true)
