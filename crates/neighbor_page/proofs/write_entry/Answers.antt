-- `write_entry` meets its contract: the columns in turn are the definition's row. Assumes nothing.
use Rattle.std.proofs.Common.{rules}
use Rattle.text.proofs.Written.{in_turn}
use Rattle.neighbor_page.specs.Page.{entry_row}
use Rattle.neighbor_page.proofs.Rows.{columns}
use Rattle.neighbor_page.proofs.write_entry.Goals as goal

pub returns : goal.returns
unfolding entry_row
returns c = search (rules, in_turn, columns)
