use Rattle.tabled_settings.proofs.Common.{Left, Right, Some, ap, arith, carries_one, rectangle, sized}
use Rattle.tabled_settings.proofs.TurnedRectangles.{turned_inside, turned_left, turned_over, turned_right, turned_to}
use Rattle.tabled_settings.proofs.rotate.RotationMovesRectangles.new_rectangle.Goals as goal

pub returns-then-bottom-self-clause-finds : goal.returns-then-bottom-self-clause-finds
returns-then-bottom-self-clause-finds c = λ f carries whole.
    let inside = turned_inside c.args.self.now.rotate c.args.self.now.table.height c.args.self.now.table.width c.args.of f c.requires.full carries in
    let never : ⊥ = elim c.then-bottom-self.branch [
      | goal.then-bottom-self-via-then-bottom-self w ↦ omega (arith, inside.bottom, w.if-bottom-self.true)
      | goal.then-bottom-self-via-else-bottom-self+then-right-self w ↦ omega (arith, inside.right, w.if-right-self.true)
    ] in
    absurd never

pub returns-in-Left-clause-carries : goal.returns-in-Left-clause-carries
returns-in-Left-clause-carries c =
    let t = c.args.self.now in
    rw c.in-Left.is (turned_to Left t.table.height t.table.width c.args.of _ (omega (arith, c.if-bottom-self.false)) (omega (arith, c.if-right-self.false)) (turned_left t.table.height t.table.width c.args.of c.new.result c.new.ensures.row c.new.ensures.col))

pub returns-in-Left-clause-finds : goal.returns-in-Left-clause-finds
returns-in-Left-clause-finds c = λ f carries whole. ap Some (carries_one _ c.args.of (rectangle c.new.result (sized c.args.of.size.width c.args.of.size.height)) f (record { height = c.requires.full.width; width = c.requires.full.height }) whole (returns-in-Left-clause-carries c) carries)

pub returns-in-Right-clause-carries : goal.returns-in-Right-clause-carries
returns-in-Right-clause-carries c =
    let t = c.args.self.now in
    rw c.in-Right.is (turned_to Right t.table.height t.table.width c.args.of _ (omega (arith, c.if-bottom-self.false)) (omega (arith, c.if-right-self.false)) (turned_right t.table.height t.table.width c.args.of c.new-in-Right.result c.new-in-Right.ensures.row c.new-in-Right.ensures.col))

pub returns-in-Right-clause-finds : goal.returns-in-Right-clause-finds
returns-in-Right-clause-finds c = λ f carries whole. ap Some (carries_one _ c.args.of (rectangle c.new-in-Right.result (sized c.args.of.size.width c.args.of.size.height)) f (record { height = c.requires.full.width; width = c.requires.full.height }) whole (returns-in-Right-clause-carries c) carries)

pub returns-in-Top-clause-carries : goal.returns-in-Top-clause-carries
returns-in-Top-clause-carries c =
    let t = c.args.self.now in
    turned_to t.rotate t.table.height t.table.width c.args.of _ (omega (arith, c.if-bottom-self.false)) (omega (arith, c.if-right-self.false)) (turned_over t.rotate t.table.height t.table.width c.args.of c.new-in-Top.result c.in-Top.is c.new-in-Top.ensures.row c.new-in-Top.ensures.col)

pub returns-in-Top-clause-finds : goal.returns-in-Top-clause-finds
returns-in-Top-clause-finds c = λ f carries whole. ap Some (carries_one _ c.args.of (rectangle c.new-in-Top.result c.args.of.size) f (record { height = c.requires.full.height; width = c.requires.full.width }) whole (returns-in-Top-clause-carries c) carries)
