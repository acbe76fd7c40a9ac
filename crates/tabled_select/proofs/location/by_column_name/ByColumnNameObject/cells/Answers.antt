use Rattle.tabled_select.proofs.Common.{◌∙◌, refl}
use Rattle.tabled_select.proofs.Located.{columns_of-places, vec-gives}
use Rattle.tabled_select.proofs.location.by_column_name.ByColumnNameObject.cells.Goals as goal

pub returns : goal.returns
returns g c = record {
  lists = (
    _,
    (rw (c.as_str.ensures.value, c.self.view_is) at c.in_ok-search_text.ensures) ∙ columns_of-places _,
    vec-gives c.in_ok-search_text.field-0 _ _ c.into_iter.ensures.rest c.into_iter.ensures.len refl,
  );
}
