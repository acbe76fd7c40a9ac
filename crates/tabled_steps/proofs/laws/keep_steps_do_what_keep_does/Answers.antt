use Rattle.tabled_steps.proofs.Common.{Columns, Rows, all_columns_named, all_rows_named, map_grid}
use Rattle.tabled_steps.proofs.Acts.{finds_kept, kept_found}
use Rattle.tabled_steps.proofs.laws.keep_steps_do_what_keep_does.Goals as goal

pub returns : goal.returns
returns g c =
    let locates = g.L.Location.locates c.args._how.now in
    let text_of = g.R.Cell.CellText.text_of in
    record {
      rows = λ names lines alike. rw lines (record {
        done = λ old cfg new new_cfg. (
          finds_kept Rows locates (λ k. all_rows_named names (map_grid text_of k)) alike old cfg new new_cfg,
          kept_found Rows locates (λ k. all_rows_named names (map_grid text_of k)) alike old cfg new new_cfg,
        );
        refused = λ old cfg new new_cfg. ((λ left. left), λ left. left);
      });
      columns = λ names lines alike. rw lines (record {
        done = λ old cfg new new_cfg. (
          finds_kept Columns locates (λ k. all_columns_named names (map_grid text_of k)) alike old cfg new new_cfg,
          kept_found Columns locates (λ k. all_columns_named names (map_grid text_of k)) alike old cfg new new_cfg,
        );
        refused = λ old cfg new new_cfg. ((λ left. left), λ left. left);
      });
    }
