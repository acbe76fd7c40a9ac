use Rattle.tabled_steps.proofs.Common.{◌∙◌, ◌≡◌, Entity, IfOk, IfOk-weaker, List, Result, ap, cells_of, difference_of, flat, intersection_of, inversion_of, union_of}
use Rattle.tabled_steps.proofs.Outside.{each_once}
use Rattle.tabled_steps.proofs.RepresentedPlaces.{cells_alike}
use Rattle.tabled_steps.proofs.select.Select.+listing.Goals as goal

-- what holds of a result, where it is there, and what follows from it
with_ok : {A E : Type 0} {P : A → Type 0} (r : Result A E) (Q : A → Type 0) → IfOk r P → ((x : A) → P x → Q x) → IfOk r Q
with_ok {A} {E} {P} r Q holds so = IfOk-weaker r P Q so holds

pub groups-returns-in_ok-list-in_default : goal.groups-returns-in_ok-list-in_default
groups-returns-in_ok-list-in_default g t c =
    let grid = g.R.GridStore.grid c.args.records.now in
    rw c.in_ok-list-in_default.ensures (each_once grid.rows grid.columns _)

pub list-returns-in_ok-representatives-in-And-2 : goal.list-returns-in_ok-representatives-in-And-2
list-returns-in_ok-representatives-in-And-2 g t c =
    let grid = g.R.GridStore.grid c.args.records.now in
    let left = rw c.deref.ensures at c.in_ok-representatives-in-And.ensures in
    let right = rw c.deref-in-And.ensures at c.in_ok-representatives-in-And-2.ensures in
    let alike = cells_alike g.R.Cell.CellText.text_of c.in-And.x.value c.in-And.y.value grid union_of _ _ in
    with_ok c.entities-in-And-2.result _ c.entities-in-And-2.ensures (λ all named. rw c.in-And.is (alike _ _ all.items left right (named.2 ∙ ap (λ (s : _). s.0.0.items) c.and.ensures) (named.3 ∙ ap (λ (s : _). s.1.0.items) c.and.ensures) named.4))

pub list-returns-in_ok-representatives-in-Not-2 : goal.list-returns-in_ok-representatives-in-Not-2
list-returns-in_ok-representatives-in-Not-2 g t c =
    let grid = g.R.GridStore.grid c.args.records.now in
    let left = rw c.deref-in-Not.ensures at c.in_ok-representatives-in-Not.ensures in
    let right = rw c.deref-in-Not-2.ensures at c.in_ok-representatives-in-Not-2.ensures in
    let alike = cells_alike g.R.Cell.CellText.text_of c.in-Not.x.value c.in-Not.y.value grid difference_of _ _ in
    IfOk-weaker c.entities-in-Not-2.result _ _ (λ all (named : (a b : List Entity) × (a ≡ c.not.result.0.0.items) × (b ≡ c.not.result.1.0.items) × (all.items ≡ cells_of (difference_of (flat a grid.rows grid.columns) (flat b grid.rows grid.columns)))). rw c.in-Not.is (alike _ _ all.items left right (named.2 ∙ ap (λ (s : _). s.0.0.items) c.not.ensures) (named.3 ∙ ap (λ (s : _). s.1.0.items) c.not.ensures) named.4)) c.entities-in-Not-2.ensures

pub list-returns-in_ok-representatives-in-Intersect-2 : goal.list-returns-in_ok-representatives-in-Intersect-2
list-returns-in_ok-representatives-in-Intersect-2 g t c =
    let grid = g.R.GridStore.grid c.args.records.now in
    let left = rw c.deref-in-Intersect.ensures at c.in_ok-representatives-in-Intersect.ensures in
    let right = rw c.deref-in-Intersect-2.ensures at c.in_ok-representatives-in-Intersect-2.ensures in
    let alike = cells_alike g.R.Cell.CellText.text_of c.in-Intersect.x.value c.in-Intersect.y.value grid intersection_of _ _ in
    IfOk-weaker c.entities-in-Intersect-2.result (λ all. (a b : List Entity) × (a ≡ c.intersect.result.0.0.items) × (b ≡ c.intersect.result.1.0.items) × (all.items ≡ cells_of (intersection_of (flat a grid.rows grid.columns) (flat b grid.rows grid.columns)))) _ (λ all named. rw c.in-Intersect.is (alike _ _ all.items left right (named.2 ∙ ap (λ (s : _). s.0.0.items) c.intersect.ensures) (named.3 ∙ ap (λ (s : _). s.1.0.items) c.intersect.ensures) named.4)) c.entities-in-Intersect-2.ensures

pub list-returns-in_ok-representatives-in-Inverse : goal.list-returns-in_ok-representatives-in-Inverse
list-returns-in_ok-representatives-in-Inverse g t c =
    let grid = g.R.GridStore.grid c.args.records.now in
    let named_by = rw c.deref-in-Inverse.ensures at c.in_ok-representatives-in-Inverse.ensures in
    let alike = cells_alike g.R.Cell.CellText.text_of c.in-Inverse.x.value c.in-Inverse.x.value grid (λ ps _. inversion_of ps grid.rows grid.columns) _ _ in
    IfOk-weaker c.entities-in-Inverse-2.result (λ all. (a : List Entity) × (a ≡ c.inverse.result.0.items) × (all.items ≡ cells_of (inversion_of (flat a grid.rows grid.columns) grid.rows grid.columns))) _ (λ all named. rw c.in-Inverse.is (let is = named.1 ∙ ap (λ (s : _). s.0.items) c.inverse.ensures in alike _ _ all.items named_by named_by is is named.2)) c.entities-in-Inverse-2.ensures
