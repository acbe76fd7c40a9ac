-- Maps of places with one that leads back.
use Rattle.std.proofs.lemmas.Grind.{common_steps}
use Rattle.tabled_settings.proofs.Common.{◌<◌, ◌∙◌, ◌≡◌, Axis, Grid, IfSome, IsEven, IsTakenOnce, LeadsBack, Option, Places, Position, ReadsThrough, Takes, arith, cell_at, count_of, in_line, line_of, lines_from, place, refl, subst, takes_one, ℕ}
use Rattle.tabled_settings.proofs.AlongLines.{taken, takes}
use Rattle.tabled_settings.proofs.SameCells.{same_cells}

-- the cell at a place that takes one
read_at : {A : Type 0} (places : Places) (g h : Grid A) (p q : Position) → ReadsThrough places g h → Takes places p q → cell_at h p ≡ cell_at g q
read_at places g h p q reads t = subst (λ (o : Option Position). IfSome o (λ (r : Position). cell_at h p ≡ cell_at g r)) t.from (reads.moved p (record { row = omega (arith, t.row, reads.rows); col = omega (arith, t.col, reads.columns) }))

module _ (there back : Places) (leads : LeadsBack there back) where
  pub leads_there : LeadsBack back there
  leads_there = record { to = λ p q. leads.from q p; from = λ p q. leads.to q p }

  -- a place that takes one on the way back is taken once on the way there
  pub taken_once : (p q : Position) → Takes back q p → IsTakenOnce there q
  taken_once p q t =
      let goes = leads.from p q t in
      record { to = p; row = goes.row; col = goes.col; takes = goes.from; alone = λ r row col is. takes_one back q r p (leads.to r q (record { row = row; col = col; from = is })) t }

  -- a grid that is read there and back
  pub as_it_was : {A : Type 0} (g h l : Grid A) → IsEven g → back.size.height ≡ g.rows → back.size.width ≡ g.columns → ((q : Position) → q.row < back.size.height → q.col < back.size.width → (p : Position) × Takes back q p) → ReadsThrough there g h → ReadsThrough back h l → l ≡ g
  as_it_was g h l even rows columns all first second =
      same_cells l g second.even even (second.rows ∙ rows) (second.columns ∙ columns)
      (λ a b i k.
      let t = all (place a b) (omega (arith, i, rows)) (omega (arith, k, columns)) in
      read_at back h l (place a b) t.0 second t.1 ∙ read_at there g h t.0 (place a b) first (leads.from t.0 (place a b) t.1))

-- lines that come from each other
module _ (axis : Axis) (old : ℕ → ℕ) (rows columns : ℕ) (each : (i : ℕ) → i < count_of axis rows columns → (old i < count_of axis rows columns) × (old (old i) ≡ i)) where
  abbrev places : Places
  places = lines_from axis old rows columns

  goes_back : (p q : Position) → Takes places p q → Takes places q p
  goes_back p q t = grind (arith, common_steps, taken, takes)

  pub lines_lead_back : LeadsBack places places
  lines_lead_back = record { to = goes_back; from = λ p q. goes_back q p }

  take_one : (q : Position) → q.row < rows → q.col < columns → (p : Position) × Takes places q p
  take_one q h k = (in_line axis q (old (line_of axis q)), record { row = h; col = k; from = refl })

  pub lines_once : (q : Position) → q.row < rows → q.col < columns → IsTakenOnce places q
  lines_once q h k = let t = take_one q h k in taken_once places places lines_lead_back t.0 q t.1

  pub lines_twice : {A : Type 0} (g h l : Grid A) → IsEven g → rows ≡ g.rows → columns ≡ g.columns → ReadsThrough places g h → ReadsThrough places h l → l ≡ g
  lines_twice g h l even tall wide first second = as_it_was places places lines_lead_back g h l even tall wide take_one first second
