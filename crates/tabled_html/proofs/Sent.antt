-- The bytes of rows and of row groups, as they are written one after another.
use Rattle.std.proofs.Common.{[], ◌++◌, ◌+◌, ◌∷◌}
use Rattle.std.specs.List.{flat_map}
use Rattle.tabled_grid.proofs.Common.{◌-◌, ◌∙◌, ◌≡◌, ◌≤◌, Bool, List, ap, append-nil, arith, cond-false, cond-true, false, sym, true, ℕ}
use Rattle.tabled_html.specs.Elements.{group, groups_of, has_head, row_of, rows_of}
use Rattle.tabled_html.specs.Written.{Written}
use Rattle.tabled_html_reading.proofs.Bytes.{series-more}
use Rattle.tabled_html_reading.specs.Bytes.{group_bytes, row_bytes}

-- the rows from one up to row i, and row i
pub rows-more : (w : Written) (first i : ℕ) → first ≤ i → flat_map row_bytes (rows_of w first (i - first)) ++ row_bytes (row_of w i) ≡ flat_map row_bytes (rows_of w first (i + 1 - first))
rows-more w first i order =
    let here : first + (i - first) ≡ i = omega arith in
    let next : i + 1 - first ≡ i - first + 1 = omega arith in
    let row : row_bytes (row_of w i) ≡ flat_map row_bytes (row_of w (first + (i - first)) ∷ []) = rw here (sym (append-nil (row_bytes (row_of w i)))) in
    rw (next, row) (series-more row_bytes [] (λ k. row_of w (first + k) ∷ []) (i - first))

-- a sheet has r rows and a header of h, and b says whether that is a head
module _ {v w : Written} (viewed : v ≡ w) {r h : ℕ} {b : Bool} (rows : r ≡ v.texts.rows) (header : h ≡ v.look.header) (has : b ≡ has_head r v.merged h) where
  all-of : (n : ℕ) → n - 0 ≡ n
  all-of n = omega arith

  has-is : {a : Bool} → b ≡ a → has_head w.texts.rows w.merged w.look.header ≡ a
  has-is is = rw (rows, header, viewed) at (sym has ∙ is)

  abbrev rest : List ℕ
  rest = group_bytes (group false (rows_of w h (r - h)))

  pub head-sent : b ≡ true → group_bytes (group true (rows_of w 0 (h - 0))) ++ rest ≡ flat_map group_bytes (groups_of w)
  head-sent is =
      let groups : groups_of w ≡ group true (rows_of w 0 (h - 0)) ∷ group false (rows_of w h (r - h)) ∷ [] = rw (all-of h, rows, header, viewed) (cond-true _ _ _ (has-is is)) in
      rw groups (ap (λ bs. group_bytes (group true (rows_of w 0 (h - 0))) ++ bs) (sym (append-nil rest)))

  pub body-sent : b ≡ false → group_bytes (group false (rows_of w 0 (r - 0))) ≡ flat_map group_bytes (groups_of w)
  body-sent is =
      let groups : groups_of w ≡ group false (rows_of w 0 (r - 0)) ∷ [] = rw (all-of r, rows, viewed) (cond-false _ _ _ (has-is is)) in
      rw groups (sym (append-nil (group_bytes (group false (rows_of w 0 (r - 0))))))
