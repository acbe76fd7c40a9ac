use Rattle.tabled_settings.proofs.Common.{◌≡◌, is_set, map_grid, on_err_weaker, on_ok_weaker, rules, true}
use Rattle.tabled_settings.proofs.Mapped.{charset-all, charset-until, not_unset}
use Rattle.tabled_settings.proofs.formatting.charset.recode.Goals as goal

pub returns : goal.returns
returns g c =
    let texts = map_grid g.R.Cell.CellText.text_of (g.R.GridStore.grid c.args.records.now) in
    let set : is_set c.args.charset ≡ true = search rules in
    record {
      well = c.rewrite.ensures.well;
      ok = on_ok_weaker c.rewrite.result (charset-all c.args.charset c.args.entity texts _ set) c.rewrite.ensures.ok;
      err = on_err_weaker c.rewrite.result (charset-until c.args.charset c.args.entity texts _ set) c.rewrite.ensures.err;
      promised = λ e. c.rewrite.ensures.promised (not_unset c.args.charset set e);
    }
