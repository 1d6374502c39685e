-- `lend_page` meets its contract. Assumes nothing.
use Rattle.trace.proofs.Pages.{step-is, page-is}
use Rattle.trace.proofs.lend_page.Goals as goal

pub returns : goal.returns
returns c =
    let b = c.args.page.now in
    let w = c.write_neighbor_page in
    record {
      step = step-is c.args.bytes c.args.state b w.new.page w.result c.lent_bytes-lent.result c.lent_bytes-lent.ensures c.told-page w.ensures.0 w.ensures.1;
      page = page-is c.args.bytes c.args.state b w.new.page w.result c.lent_bytes-lent.result c.lent_bytes-lent.ensures c.told-page w.ensures.0 w.ensures.1;
    }
