use Rattle.tabled_draw.proofs.Common.{Columns, List, Member, Rectangle, Rows, ap, by_number, line_of, lines_in, place, rectangle, refl, sized, subst, ℕ, ◌<◌, ◌∙◌, ◌≡◌}
use Rattle.std.proofs.Common.{rules}
use Rattle.std.proofs.lemmas.Fn.{always_returns_same}
use Rattle.std.proofs.lemmas.List.Sorted.{IsNonDecreasingBy-from_sort_by_key}
use Rattle.tabled_draw.proofs.Order.{each-of, ordered-member, stably-ordered}
use Rattle.tabled_grid.specs.declared.records.axis.Axis.{Axis}
use Rattle.tabled_draw.proofs.growth.put_in_order.Goals as goal

-- a rectangle that begins in a line, and takes as many
one : ℕ → Rectangle
one n = rectangle (place n n) (sized n n)

one-line : (axis : Axis) (n : ℕ) → line_of axis (one n).first ≡ n
unfolding one
one-line Rows n = refl
one-line Columns n = refl

one-size : (axis : Axis) (n : ℕ) → lines_in axis (one n).size ≡ n
unfolding one
one-size Rows n = refl
one-size Columns n = refl

pub returns : goal.returns
returns c = λ m n below.
    let axis = c.args.axis in
    let copied = c.in_ok-order.ensures.items in
    let first = stably-ordered (λ (e : Rectangle). line_of axis e.first) one (one-line axis) c.in_ok-order.order.items c.sort_by_key.new.self.items
    (IsNonDecreasingBy-from_sort_by_key (λ (e : Rectangle). line_of axis e.first) _ c.in_ok-sort_by_key.ensures.sorted (λ a r q k. search rules))
    (c.sort_by_key.ensures.stable (λ (e : Rectangle). line_of axis e.first) (always_returns_same _ (λ a r. r ≡ line_of axis a.0.now.first) _ (λ a r q k. search rules))) n
    (λ e among. (each-of (λ (e : Rectangle). (lines_in axis e.size < m) × (line_of axis e.first < n)) c.args.rectangles.now below e (subst (λ (xs : List Rectangle). Member e xs) copied among)).1) in
    let second = stably-ordered (λ (e : Rectangle). lines_in axis e.size) one (one-size axis) c.sort_by_key.new.self.items c.sort_by_key-2.new.self.items
    (IsNonDecreasingBy-from_sort_by_key (λ (e : Rectangle). lines_in axis e.size) _ c.in_ok-sort_by_key-2.ensures.sorted (λ a r q k. search rules))
    (c.sort_by_key-2.ensures.stable (λ (e : Rectangle). lines_in axis e.size) (always_returns_same _ (λ a r. r ≡ lines_in axis a.0.now.size) _ (λ a r q k. search rules))) m
    (λ e among. (each-of (λ (e : Rectangle). (lines_in axis e.size < m) × (line_of axis e.first < n)) c.args.rectangles.now below e (subst (λ (xs : List Rectangle). Member e xs) copied (ordered-member (λ (x : Rectangle). line_of axis x.first) n c.in_ok-order.order.items e (subst (λ (xs : List Rectangle). Member e xs) first among)))).0) in
    second ∙ ap (by_number (λ (e : Rectangle). lines_in axis e.size) m) (first ∙ ap (by_number (λ (e : Rectangle). line_of axis e.first) n) copied)
