use Rattle.tabled_settings.proofs.Common.{map_grid, on_err_weaker, on_ok_weaker}
use Rattle.tabled_settings.proofs.Mapped.{replace-all, replace-until}
use Rattle.tabled_settings.proofs.replace.replace_in_cells.Goals as goal

pub returns : goal.returns
returns g c =
    let texts = map_grid g.R.Cell.CellText.text_of (g.R.GridStore.grid c.args.records.now) in
    record {
      well = c.rewrite.ensures.well;
      ok = on_ok_weaker c.rewrite.result (replace-all c.args.replace c.args.entity texts _) c.rewrite.ensures.ok;
      err = on_err_weaker c.rewrite.result (replace-until c.args.replace c.args.entity texts _) c.rewrite.ensures.err;
      promised = c.rewrite.ensures.promised;
    }
