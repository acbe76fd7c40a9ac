-- Lines taken away, and merged cells with them.
use Rattle.std.proofs.lemmas.Grind.{common_steps}
use Rattle.tabled_settings.proofs.Common.{◌∙◌, ◌≡◌, Axis, Bool, Grid, KeepsLines, List, Places, ReadsThrough, SpanMap, TellsLocated, ap, ap₂, arith, carried, count_along, is_marked, kept_lines, left_over, length, removed, subst, ℕ}
use Rattle.tabled_settings.proofs.Dropped.{left_same}
use Rattle.tabled_settings.proofs.KeptLines.{kept_read}
use Rattle.tabled_settings.proofs.LineReads.{counted}

module _ {A : Type 0} (axis : Axis) (found : List ℕ) (marks : List Bool) (g : Grid A) (t : TellsLocated found (count_along axis g) marks) where
  -- the lines without a mark are those that are left
  marked_removed : kept_lines axis (left_over (is_marked marks) (length marks)) g.rows g.columns ≡ removed axis found g.rows g.columns
  marked_removed = grind (arith, common_steps, counted, left_same)

  pub removed_done : (new : Grid A) → KeepsLines axis (left_over (is_marked marks) (length marks)) g new → ReadsThrough (removed axis found g.rows g.columns) g new
  removed_done new kept = subst (λ (places : Places). ReadsThrough places g new) marked_removed (kept_read axis (left_over (is_marked marks) (length marks)) g new kept)

  -- merged cells go along with them
  pub removed_carried : (rows columns : ℕ) (m k : SpanMap) → rows ≡ g.rows → columns ≡ g.columns → k ≡ carried (kept_lines axis (left_over (is_marked marks) (length marks)) rows columns) rows columns m → k ≡ carried (removed axis found g.rows g.columns) g.rows g.columns m
  removed_carried rows columns m k tall wide is =
      is
      ∙ ap₂ (λ (r c : ℕ). carried (kept_lines axis (left_over (is_marked marks) (length marks)) r c) r c m) tall wide
      ∙ ap (λ (places : Places). carried places g.rows g.columns m) marked_removed
