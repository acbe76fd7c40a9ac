-- Walks over blocks and over the edge of a table.
use Rattle.tabled_select.proofs.Common.{[], ◌+◌, ◌-◌, ◌<◌, ◌∙◌, ◌∷◌, ◌≡◌, ◌≤◌, Cell, FrameWalk, Sector, ap, arith, block, block-no_columns, block-no_rows, cells_of, common_steps, drop, drop-place, drop-row, filter, frame, frame_left, inside-Global, last_in_row, ne_eqb, on_edge, place, refl, sector_left, suc, sym, true, zero, ℕ}

-- one place of a block after another
pub sector-next : (s : Sector) → s.row < s.end_row → s.first_col ≤ s.col → s.col < s.end_col → cells_of (sector_left s) ≡ Cell s.row s.col ∷ cells_of (sector_left (record s { col = s.col + 1 }))
sector-next s h k l = ap cells_of (drop-place s.row s.end_row s.first_col s.end_col s.col h k l)

-- after the last place of a row comes the next row
pub sector-next_row : (s : Sector) → s.row < s.end_row → s.first_col ≤ s.col → s.col + 1 ≡ s.end_col → cells_of (sector_left s) ≡ Cell s.row s.col ∷ cells_of (sector_left (record s { row = s.row + 1; col = s.first_col }))
sector-next_row s h k l = ap cells_of (last_in_row s.row s.end_row s.first_col s.end_col s.col (sector_left s) (place s.row s.col) refl refl refl h k l)

drop-nil : {X : Type 0} (n : ℕ) → drop {A = X} n [] ≡ []
drop-nil zero = refl
drop-nil (suc n) = refl

-- the place in column j, and those past it
drop-first : (i r c j : ℕ) → i < r → j < c → drop j (block i r 0 c) ≡ place i j ∷ drop (j + 1) (block i r 0 c)
drop-first i r c j h k =
    let here : j ≡ j - 0 = omega arith in
    let next : j + 1 - 0 ≡ j + 1 = omega arith in
    ap (λ n. drop n (block i r 0 c)) here
    ∙ drop-place i r 0 c j h (omega arith) k
    ∙ ap (λ n. place i j ∷ drop n (block i r 0 c)) next

-- a place on the edge comes, and then those past it
edge-kept : (i r c j : ℕ) → i < r → j < c → on_edge r c (place i j) ≡ true → filter (on_edge r c) (drop j (block i r 0 c)) ≡ place i j ∷ filter (on_edge r c) (drop (j + 1) (block i r 0 c))
edge-kept i r c j h k e = ap (filter (on_edge r c)) (drop-first i r c j h k) ∙ rw e refl

-- the inner places of a row are passed over
jump : (i r c j n : ℕ) → 0 < i → i + 1 < r → 0 < j → j + n + 1 ≡ c → filter (on_edge r c) (drop j (block i r 0 c)) ≡ filter (on_edge r c) (drop (c - 1) (block i r 0 c))
jump i r c j zero h k l e = grind (arith, common_steps)
jump i r c j (suc n) h k l e =
    ap (filter (on_edge r c)) (drop-first i r c j (omega arith) (omega arith))
    ∙ rw (ne_eqb i 0 (λ x. omega arith), ne_eqb i (r - 1) (λ x. omega arith), ne_eqb j 0 (λ x. omega arith), ne_eqb j (c - 1) (λ x. omega arith)) (jump i r c (j + 1) n h k (omega arith) (omega arith))

-- a walk over the edge begins with all of it
pub frame-begins : (r c : ℕ) → frame_left (record { rows = r; columns = c; row = 0; col = 0 }) ≡ frame r c
frame-begins r c = ap (filter (on_edge r c)) (sym (inside-Global r c))

-- it ends past the last row
pub frame-past : {s t : FrameWalk} → s ≡ t → s.rows ≤ s.row → cells_of (frame_left t) ≡ []
frame-past {s} {t} e h = rw (← e, block-no_rows s.row s.rows 0 s.columns h, drop-nil) refl

-- without columns it has no places
pub frame-no_columns : {s t : FrameWalk} → s ≡ t → s.columns ≡ 0 → cells_of (frame_left t) ≡ []
frame-no_columns {s} {t} e h = rw (← e, block-no_columns s.row s.rows 0 s.columns (omega arith), drop-nil) refl

-- one place of the edge after another
pub frame-next : (s : FrameWalk) → s.row < s.rows → s.col < s.columns → on_edge s.rows s.columns (place s.row s.col) ≡ true → cells_of (frame_left s) ≡ Cell s.row s.col ∷ cells_of (frame_left (record s { col = s.col + 1 }))
frame-next s h k e = ap cells_of (edge-kept s.row s.rows s.columns s.col h k e)

-- after the last place of a row comes the next row
pub frame-next_row : (s : FrameWalk) → s.row < s.rows → s.col + 1 ≡ s.columns → on_edge s.rows s.columns (place s.row s.col) ≡ true → cells_of (frame_left s) ≡ Cell s.row s.col ∷ cells_of (frame_left (record s { row = s.row + 1; col = 0 }))
frame-next_row s h l e =
    let whole : s.columns - 0 ≡ s.col + 1 = omega arith in
    frame-next s h (omega arith) e
    ∙ ap (λ n. Cell s.row s.col ∷ cells_of (filter (on_edge s.rows s.columns) (drop n (block s.row s.rows 0 s.columns)))) (sym whole)
    ∙ ap (λ ps. Cell s.row s.col ∷ cells_of (filter (on_edge s.rows s.columns) ps)) (drop-row s.row s.rows 0 s.columns h)

-- in an inner row the last place comes after the first
pub frame-jump : (s : FrameWalk) → 0 < s.row → s.row + 1 < s.rows → s.col + 1 < s.columns → on_edge s.rows s.columns (place s.row s.col) ≡ true → cells_of (frame_left s) ≡ Cell s.row s.col ∷ cells_of (frame_left (record s { col = s.columns - 1 }))
frame-jump s h k l e =
    frame-next s (omega arith) (omega arith) e
    ∙ ap (λ ps. Cell s.row s.col ∷ cells_of ps) (jump s.row s.rows s.columns (s.col + 1) (s.columns - (s.col + 2)) h k (omega arith) (omega arith))
