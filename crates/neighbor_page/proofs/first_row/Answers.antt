-- `first_row` meets its contract. Assumes nothing.
use mathlib.Core.Path.{refl}
use mathlib.Core.List.{zip_with, flat_map}
use Rattle.neighbor_page.specs.Page.{first_row, row}
use Rattle.neighbor_page.proofs.first_row.Goals as goal

pub returns : goal.returns
unfolding first_row row zip_with flat_map
returns c = refl
