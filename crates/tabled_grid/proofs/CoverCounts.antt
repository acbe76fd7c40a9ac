-- What the numbers of a cover map say of cells.
use Rattle.tabled_grid.proofs.Common.{◌*◌, ◌+◌, ◌-◌, ◌<◌, ◌∙◌, ◌≡◌, ◌≤◌, Cover, In, IsCoverOf, Position, Rectangle, SpanMap, ap, ap₂, area, arith, beyond, get_or, hiders_of, is_hidden, map, map-id, mul-add-lt, nat_lt, place, refl, replicate, sym, take, take-replicate, ℕ}
use Rattle.tabled_grid.proofs.Hiders.{hidden-counts}
use Rattle.tabled_grid.proofs.Tables.{get-table}

-- the number of a cell in a block, row by row
abbrev pub number_in : Rectangle → Position → ℕ
number_in cells p = (p.row - cells.first.row) * cells.size.width + (p.col - cells.first.col)

pub number_within : (cells : Rectangle) (p : Position) → In cells p → number_in cells p < area cells.size
number_within cells p here =
    let at : number_in cells p < cells.size.width * cells.size.height = mul-add-lt (p.row - cells.first.row) cells.size.width (p.col - cells.first.col) cells.size.height (omega (arith, here.top, here.bottom)) (omega (arith, here.left, here.right)) in
    omega (arith, at)

-- a cell is hidden where its number isn't 0
pub hidden-in : (m : SpanMap) (cover : Cover) (p : Position) (d : ℕ) → IsCoverOf m cover → In cover.block p → nat_lt 0 (get_or cover.hiders (number_in cover.block p) d) ≡ is_hidden m p
hidden-in m cover p d is at =
    let first = cover.block.first in
    let size = cover.block.size in
    let i = p.row - first.row in
    let j = p.col - first.col in
    let here : beyond first (place i j) ≡ p = ap₂ place (omega (arith, at.top)) (omega (arith, at.left)) in
    let value : get_or cover.hiders (number_in cover.block p) d ≡ hiders_of m p = ap (λ xs. get_or xs (i * size.width + j) d) is.counts ∙ get-table (λ q. hiders_of m (beyond first q)) size i j (i * size.width + j) d (omega (arith, at.top, at.bottom)) (omega (arith, at.left, at.right)) refl ∙ ap (hiders_of m) here in
    ap (nat_lt 0) value ∙ sym (hidden-counts m p)

-- eight zeros, cut
pub no-counts : (n : ℕ) → n ≤ 8 → map (λ (k : ℕ). k) (take n (replicate 8 0)) ≡ replicate n 0
no-counts n h = map-id (take n (replicate 8 0)) ∙ take-replicate n 8 0 h
