-- Runs lie in lines of their own: those of a line that an entity names whole are those of the table.
use Rattle.tabled_spans.proofs.Common.{◌&&◌, ◌-◌, ◌==◌, ◌∙◌, ◌≡◌, Axis, Bool, Columns, Entity, Grid, In, IsNamed, IsRun, Joins, List, MergesRuns, Position, Rows, Size, SpanMap, ap, ap₂, arith, cases_Bool, false, false_from_ne_true, false≢true, further, get, hidden-from, hidden_by, inl, inr, is_free, is_hidden, names, not, Option, rectangle, refl, same_Some, size_of_run, sized, subst, sym, true, unwrap_or, ℕ}
use Rattle.tabled_grid.specs.declared.config.entity.Entity.TheVariants.{Cell, Column, Global, Row}
use Rattle.tabled_spans.proofs.MergeTwice.{hidden_still, no_more}
use Rattle.tabled_spans.proofs.NoNeighbours.{none_in_cell, none_in_column, none_in_row}
use Rattle.tabled_spans.proofs.Runs.{further_none}
use Rattle.tabled_spans.specs.Lines.{line_at, names_line}

-- the next cells are in the same line
pub same_line : (axis : Axis) (k : ℕ) (p : Position) → line_at axis (further axis k p) ≡ line_at axis p
same_line Rows k p = refl
same_line Columns k p = refl

line_before : (axis : Axis) (q p : Position) → further axis 1 q ≡ p → line_at axis q ≡ line_at axis p
line_before axis q p next = sym (same_line axis 1 q) ∙ ap (line_at axis) next

-- where the same cells of a line join, the same runs begin
module _ (axis : Axis) (g : Grid (List ℕ)) (e f : Entity) (m n : SpanMap) (p : Position) (there : (q : Position) → line_at axis q ≡ line_at axis p → Joins axis e g m q → Joins axis f g n q) (back : (q : Position) → line_at axis q ≡ line_at axis p → Joins axis f g n q → Joins axis e g m q) where
  pub run_alike : (many : ℕ) → IsRun axis e g m p many → IsRun axis f g n p many
  run_alike many run = record {
    some = run.some;
    joins = λ k h. there (further axis k p) (same_line axis k p) (run.joins k h);
    ends = λ j. run.ends (back (further axis (many - 1) p) (same_line axis (many - 1) p) j);
    begins = λ q next j. run.begins q next (back q (line_before axis q p next) j);
  }

named_whole : (axis : Axis) (e : Entity) (p : Position) → names_line axis e (line_at axis p) ≡ true → names e p ≡ true
named_whole Rows Global p is = refl
named_whole Columns Global p is = refl
named_whole Rows (Column j) p is = is
named_whole Columns (Row i) p is = is
named_whole Rows (Row i) p is = absurd (false≢true is)
named_whole Rows (Cell i j) p is = absurd (false≢true is)
named_whole Columns (Column j) p is = absurd (false≢true is)
named_whole Columns (Cell i j) p is = absurd (false≢true is)

module _ (axis : Axis) (g : Grid (List ℕ)) (m : SpanMap) (e : Entity) where
  joins_all : (p : Position) → Joins axis e g m p → Joins axis Global g m p
  joins_all p j = record { here = record { inside = j.here.inside; named = refl }; next = record { inside = j.next.inside; named = refl }; free = j.free; next_free = j.next_free; same = j.same }

  joins_on : (p : Position) → names_line axis e (line_at axis p) ≡ true → Joins axis Global g m p → Joins axis e g m p
  joins_on p is j = record {
    here = record { inside = j.here.inside; named = named_whole axis e p is };
    next = record { inside = j.next.inside; named = named_whole axis e (further axis 1 p) (ap (names_line axis e) (same_line axis 1 p) ∙ is) };
    free = j.free;
    next_free = j.next_free;
    same = j.same;
  }

  -- the runs of a line that is named whole
  pub run_all : (p : Position) (many : ℕ) → names_line axis e (line_at axis p) ≡ true → IsRun axis e g m p many → IsRun axis Global g m p many
  run_all p many is run = run_alike axis g e Global m m p (λ q at. joins_all q) (λ q at. joins_on q (ap (names_line axis e) at ∙ is)) many run

  pub run_on : (p : Position) (many : ℕ) → names_line axis e (line_at axis p) ≡ true → IsRun axis Global g m p many → IsRun axis e g m p many
  run_on p many is run = run_alike axis g Global e m m p (λ q at. joins_on q (ap (names_line axis e) at ∙ is)) (λ q at. joins_all q) many run

-- cells that join are in a line that is named whole
joined_named : (axis : Axis) (e : Entity) (g : Grid (List ℕ)) (p : Position) → IsNamed e g p → IsNamed e g (further axis 1 p) → names_line axis e (line_at axis p) ≡ true
joined_named Rows Global g p here next = refl
joined_named Columns Global g p here next = refl
joined_named Rows (Column j) g p here next = here.named
joined_named Columns (Row i) g p here next = here.named
joined_named Rows (Row i) g p here next = absurd (none_in_row i g p here next)
joined_named Rows (Cell i j) g p here next = absurd (none_in_cell Rows i j g p here next)
joined_named Columns (Column j) g p here next = absurd (none_in_column j g p here next)
joined_named Columns (Cell i j) g p here next = absurd (none_in_cell Columns i j g p here next)

pub run_named : (axis : Axis) (e : Entity) (g : Grid (List ℕ)) (m : SpanMap) (p : Position) (many : ℕ) → IsRun axis e g m p many → names_line axis e (line_at axis p) ≡ true
run_named axis e g m p many run =
    let j = subst (Joins axis e g m) (further_none axis p) (run.joins 0 (omega (arith, run.some))) in
    joined_named axis e g p j.here j.next

-- a run's rectangle is in one line
in_its_line : (axis : Axis) (a p : Position) (many : ℕ) → In (rectangle a (size_of_run axis many)) p → line_at axis a ≡ line_at axis p
in_its_line Rows a p many h = omega (arith, h.left, h.right)
in_its_line Columns a p many h = omega (arith, h.top, h.bottom)

-- a merge leaves the lines that its entity doesn't name
module _ (axis : Axis) (e : Entity) (g : Grid (List ℕ)) (m n : SpanMap) (merged : MergesRuns axis e g m n) where
  kept : (p : Position) → names_line axis e (line_at axis p) ≡ false → get n p ≡ get m p
  kept p not_in = elim (merged.each p) [ inl run ↦ absurd (false≢true (sym not_in ∙ run_named axis e g m p run.0 run.1)) | inr old ↦ old.1 ]

  was_hidden : (p : Position) → names_line axis e (line_at axis p) ≡ false → is_hidden n p ≡ true → is_hidden m p ≡ true
  was_hidden p not_in hidden =
      let by = hidden_by n p hidden in
      elim (merged.each by.anchor) [
        | inl run ↦
            let is = same_Some by.size (size_of_run axis run.0) (sym by.has ∙ run.2) in
            let at = in_its_line axis by.anchor p run.0 (subst (λ (o : Size). In (rectangle by.anchor o) p) is by.holds) in
            absurd (false≢true (sym not_in ∙ ap (names_line axis e) (sym at) ∙ run_named axis e g m by.anchor run.0 run.1))
        | inr old ↦ hidden-from m by.anchor p by.size (sym old.1 ∙ by.has) by.holds by.other
      ]

  still_hidden : (p : Position) → names_line axis e (line_at axis p) ≡ false → is_hidden n p ≡ is_hidden m p
  still_hidden p not_in = elim (cases_Bool (is_hidden n p)) [
    | inl t ↦ t ∙ sym (was_hidden p not_in t)
    | inr f ↦ f ∙ sym (false_from_ne_true (is_hidden m p) (λ t. false≢true (sym f ∙ hidden_still axis e g m n merged p t)))
  ]

  still_free : (p : Position) → names_line axis e (line_at axis p) ≡ false → is_free n p ≡ is_free m p
  still_free p not_in = ap₂ (λ (b : Bool) (o : Option Size). not b && (((unwrap_or o (sized 1 1)).height == 1) && ((unwrap_or o (sized 1 1)).width == 1))) (still_hidden p not_in) (kept p not_in)

  -- so it leaves their runs, too
  joins_still : (p : Position) → names_line axis e (line_at axis p) ≡ false → Joins axis Global g m p → Joins axis Global g n p
  joins_still p not_in j = record { here = j.here; next = j.next; free = still_free p not_in ∙ j.free; next_free = still_free (further axis 1 p) (ap (names_line axis e) (same_line axis 1 p) ∙ not_in) ∙ j.next_free; same = j.same }

  joined_before : (p : Position) → names_line axis e (line_at axis p) ≡ false → Joins axis Global g n p → Joins axis Global g m p
  joined_before p not_in j = record { here = j.here; next = j.next; free = sym (still_free p not_in) ∙ j.free; next_free = sym (still_free (further axis 1 p) (ap (names_line axis e) (same_line axis 1 p) ∙ not_in)) ∙ j.next_free; same = j.same }

  pub run_still : (p : Position) (many : ℕ) → names_line axis e (line_at axis p) ≡ false → IsRun axis Global g m p many → IsRun axis Global g n p many
  run_still p many not_in run = run_alike axis g Global Global m n p (λ q at. joins_still q (ap (names_line axis e) at ∙ not_in)) (λ q at. joined_before q (ap (names_line axis e) at ∙ not_in)) many run

  pub run_before : (p : Position) (many : ℕ) → names_line axis e (line_at axis p) ≡ false → IsRun axis Global g n p many → IsRun axis Global g m p many
  run_before p many not_in run = run_alike axis g Global Global n m p (λ q at. joined_before q (ap (names_line axis e) at ∙ not_in)) (λ q at. joins_still q (ap (names_line axis e) at ∙ not_in)) many run

  -- and no runs in the lines that it names
  pub none_left : (p : Position) (many : ℕ) → names_line axis e (line_at axis p) ≡ true → IsRun axis Global g n p many → ⊥
  none_left p many is run = no_more axis e g m n merged p many (run_on axis g n e p many is run)
