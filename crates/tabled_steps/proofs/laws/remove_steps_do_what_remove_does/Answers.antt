use Rattle.tabled_steps.proofs.Common.{Columns, Rows, columns_with, count_along, half_open, indexes, map_grid, string_bytes}
use Rattle.tabled_steps.proofs.Acts.{finds_removed, removed_found}
use Rattle.tabled_steps.proofs.laws.remove_steps_do_what_remove_does.Goals as goal

pub returns : goal.returns
returns g c =
    let locates = g.L.Location.locates c.args._how.now in
    let text_of = g.R.Cell.CellText.text_of in
    record {
      rows = λ a b lines alike. rw lines (record {
        done = λ old cfg new new_cfg. (
          finds_removed Rows locates (λ k. indexes (half_open a b) (count_along Rows k)) alike old cfg new new_cfg,
          removed_found Rows locates (λ k. indexes (half_open a b) (count_along Rows k)) alike old cfg new new_cfg,
        );
        refused = λ old cfg new new_cfg. ((λ left. left), λ left. left);
      });
      columns = λ a b lines alike. rw lines (record {
        done = λ old cfg new new_cfg. (
          finds_removed Columns locates (λ k. indexes (half_open a b) (count_along Columns k)) alike old cfg new new_cfg,
          removed_found Columns locates (λ k. indexes (half_open a b) (count_along Columns k)) alike old cfg new new_cfg,
        );
        refused = λ old cfg new new_cfg. ((λ left. left), λ left. left);
      });
      named = λ name lines alike. rw lines (record {
        done = λ old cfg new new_cfg. (
          finds_removed Columns locates (λ k. columns_with (string_bytes name) (map_grid text_of k)) alike old cfg new new_cfg,
          removed_found Columns locates (λ k. columns_with (string_bytes name) (map_grid text_of k)) alike old cfg new new_cfg,
        );
        refused = λ old cfg new new_cfg. ((λ left. left), λ left. left);
      });
    }
