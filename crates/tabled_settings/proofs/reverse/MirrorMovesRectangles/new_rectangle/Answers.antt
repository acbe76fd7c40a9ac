use Rattle.tabled_settings.proofs.Common.{◌+◌, ◌-◌, ◌∙◌, ◌≡◌, ◌≤◌, ◌⊎◌, Carries, Position, Some, ap, ap₂, arith, carries_one, count_of, in_line, inl, inr, line_of, lines_from, rectangle, reversed_index, subst, sym, ℕ}
use Rattle.tabled_settings.proofs.MirroredParts.{part_mirrored, part_stays}
use Rattle.tabled_settings.proofs.Reversed.{index_inside, index_outside}
use Rattle.tabled_settings.proofs.reverse.MirrorMovesRectangles.new_rectangle.Goals as goal

pub returns-then-past-self-clause-carries : goal.returns-then-past-self-clause-carries
returns-then-past-self-clause-carries c =
    let t = c.args.self.now in
    let n = count_of t.axis t.table.height t.table.width in
    let beside : (line_of t.axis c.args.of.first + count_of t.axis c.args.of.size.height c.args.of.size.width ≤ t.start) ⊎ (t.end ≤ line_of t.axis c.args.of.first) = elim c.then-past-self.branch [
      | goal.then-past-self-via-then-past-self w ↦ inl (omega (arith, w.if-past-self.true, c.line_of-line.ensures, c.count_of.ensures))
      | goal.then-past-self-via-else-past-self+then-self-line w ↦ inr (omega (arith, w.if-self-line.true, c.line_of-line.ensures))
    ] in
    part_stays t.axis (reversed_index t.start t.end n) t.table.height t.table.width t.start t.end (λ i low below. index_inside t.start t.end n i t.within low below) (λ i within. index_outside t.start t.end n i) c.args.of.first c.args.of.size (omega (arith, c.if-first-height.false)) (omega (arith, c.if-first-width.false)) beside

pub returns-then-past-self-clause-finds : goal.returns-then-past-self-clause-finds
returns-then-past-self-clause-finds c = λ f carries whole. ap Some (carries_one _ c.args.of c.args.of f c.requires.full whole (returns-then-past-self-clause-carries c) carries)

pub returns-then-past-self-2-clause-carries : goal.returns-then-past-self-2-clause-carries
returns-then-past-self-2-clause-carries c =
    let t = c.args.self.now in
    let n = count_of t.axis t.table.height t.table.width in
    let e = c.args.of in
    let fits : t.end ≤ n = t.within in
    let past = ap₂ (λ (i m : ℕ). i + m) c.line_of-line.ensures c.count_of.ensures in
    let is : c.in_line-place.result ≡ in_line t.axis e.first (t.start + (t.end - (line_of t.axis e.first + count_of t.axis e.size.height e.size.width))) = c.in_line-place.ensures ∙ ap (λ (m : ℕ). in_line t.axis e.first (t.start + (t.end - m))) past in
    subst (λ (p : Position). Carries (lines_from t.axis (reversed_index t.start t.end n) t.table.height t.table.width) e (rectangle p e.size)) (sym is)
    (part_mirrored t.axis (reversed_index t.start t.end n) t.table.height t.table.width t.start t.end (λ i low below. index_inside t.start t.end n i fits low below) (λ i within. index_outside t.start t.end n i) e.first e.size (omega (arith, c.if-first-height.false)) (omega (arith, c.if-first-width.false)) fits (omega (arith, c.if-self-line-2.true, c.line_of-line.ensures)) (omega (arith, c.if-past-self-2.true, past)))

pub returns-then-past-self-2-clause-finds : goal.returns-then-past-self-2-clause-finds
returns-then-past-self-2-clause-finds c = λ f carries whole. ap Some (carries_one _ c.args.of (rectangle c.in_line-place.result c.args.of.size) f (record { height = c.requires.full.height; width = c.requires.full.width }) whole (returns-then-past-self-2-clause-carries c) carries)
