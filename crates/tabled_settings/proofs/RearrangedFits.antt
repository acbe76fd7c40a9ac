-- Rearrangements keep merged cells inside the table and apart.
use Rattle.tabled_settings.proofs.Common.{◌≡◌, Axis, Bool, Fits, Grid, JoinsTables, List, OptionKeeps, Places, Rearranges, Removes, ReversesTable, Same, SpanMap, Split, SplitsTable, ap, carried, carried-fits, carried_if, corner_of, false, has_pieces, joined_places, map_grid, refl, removed, reversed, reverses, split_places, true, ℕ}
use Rattle.tabled_settings.specs.Kept.{Keeps, kept}
use Rattle.tabled_settings.specs.declared.reverse.Reverse.{Reverse}
use Rattle.tabled_spans.proofs.PanelGeometry.{same_fits}

-- what is carried along fits the new shape
pub carried_fit : (places : Places) (rows columns tall wide : ℕ) (c d : SpanMap) → tall ≡ places.size.height → wide ≡ places.size.width → d ≡ carried places rows columns c → Fits d tall wide
carried_fit places rows columns tall wide c d rows_are columns_are is = rw (rows_are, columns_are, is) (carried-fits places rows columns c)

-- also where it moves nothing
pub carried_if_fit : (moves : Bool) (places : Places) (rows columns tall wide : ℕ) (c d : SpanMap) → Fits c rows columns → tall ≡ places.size.height → wide ≡ places.size.width → (moves ≡ false → (tall ≡ rows) × (wide ≡ columns)) → d ≡ carried_if moves places rows columns c → Fits d tall wide
carried_if_fit true places rows columns tall wide c d fits rows_are columns_are stays is = carried_fit places rows columns tall wide c d rows_are columns_are is
carried_if_fit false places rows columns tall wide c d fits rows_are columns_are stays is = let same = stays refl in rw (same.0, same.1, is) fits

module _ {A : Type 0} where
  abbrev pub FitsIn : Grid A → SpanMap → Type 0
  FitsIn g c = Fits c g.rows g.columns

  -- cells that are read through a map of places
  pub rearranged_keeps : (places : Grid A → Places) → OptionKeeps FitsIn (λ g. Rearranges (places g) g) Same
  rearranged_keeps places = record {
    done = λ old cfg new new_cfg fits does. carried_fit (places old) old.rows old.columns new.rows new.columns cfg new_cfg does.0.rows does.0.columns does.1;
    refused = same_fits;
  }

  -- lines in the opposite order
  pub reversal_keeps : (r : Reverse) → OptionKeeps FitsIn (ReversesTable r) Same
  reversal_keeps r = record {
    done = λ old cfg new new_cfg fits does. carried_if_fit (reverses r.axis r.start r.limit old.rows old.columns) (reversed r.axis r.start r.limit old.rows old.columns) old.rows old.columns new.rows new.columns cfg new_cfg fits does.0.rows does.0.columns (λ _. (does.0.rows, does.0.columns)) does.1;
    refused = same_fits;
  }

  module _ (is_blank : A → Type 0) (text_of : A → List ℕ) where
    -- lines that are cut
    pub split_keeps : (s : Split) → OptionKeeps FitsIn (SplitsTable is_blank text_of s) Same
    split_keeps s = record {
      done = λ old cfg new new_cfg fits does. carried_if_fit (has_pieces s old.rows old.columns) (split_places s (map_grid text_of old)) old.rows old.columns new.rows new.columns cfg new_cfg fits does.0.cells.reads.rows does.0.cells.reads.columns (λ none. let same = does.0.unsplit none in (ap (λ (x : Grid A). x.rows) same, ap (λ (x : Grid A). x.columns) same)) does.1;
      refused = same_fits;
    }

  -- lines that a location finds, taken away
  pub removal_keeps : (axis : Axis) (locates : Grid A → List ℕ → Type 0) → OptionKeeps FitsIn (Removes axis locates) Same
  removal_keeps axis locates = record {
    done = λ old cfg new new_cfg fits does. carried_fit (removed axis does.found old.rows old.columns) old.rows old.columns new.rows new.columns cfg new_cfg does.rearranged.0.rows does.rearranged.0.columns does.rearranged.1;
    refused = same_fits;
  }

  -- lines that a location finds, kept
  pub keep_keeps : (axis : Axis) (locates : Grid A → List ℕ → Type 0) → OptionKeeps FitsIn (Keeps axis locates) Same
  keep_keeps axis locates = record {
    done = λ old cfg new new_cfg fits does. carried_fit (kept axis does.found old.rows old.columns) old.rows old.columns new.rows new.columns cfg new_cfg does.rearranged.0.rows does.rearranged.0.columns does.rearranged.1;
    refused = same_fits;
  }

  -- two tables that are joined
  pub join_keeps : (is_blank : A → Type 0) (text_of : A → List ℕ) (axis : Axis) (second : Grid (List ℕ)) (default : List ℕ) → OptionKeeps FitsIn (JoinsTables is_blank text_of axis second default) Same
  join_keeps is_blank text_of axis second default = record {
    done = λ old cfg new new_cfg fits does. carried_fit (joined_places (corner_of axis old.rows old.columns) second old.rows old.columns) old.rows old.columns new.rows new.columns cfg new_cfg does.0.first.rows does.0.first.columns does.1;
    refused = same_fits;
  }
