-- The widths that columns are cut to.
use Rattle.std.specs.Prelude.{ℕ, zero, suc, Bool, List, if◌then◌else◌, map, max, min, nat_le}
use Rattle.std.specs.List.{zip}
use Rattle.tabled_draw.specs.Width.{width_of_columns}
use Rattle.tabled_draw.specs.declared.style.Lines.{Lines}

-- widths of columns, each as large as in both of two lists
abbrev pub larger_of : List ℕ → List ℕ → List ℕ
larger_of xs ys = map (λ (both : ℕ × ℕ). max both.0 both.1) (zip xs ys)

-- widths of columns raised to a level: each is at least its least, and above that at most its most
abbrev pub raised_to : ℕ → List ℕ → List ℕ → List ℕ
raised_to level least most = map (λ (both : ℕ × ℕ). max both.0 (min both.1 level)) (zip least most)

-- columns of these widths come to at most n
abbrev pub come_to : ℕ → Lines → List ℕ → Bool
come_to n lines widths = nat_le (width_of_columns lines widths) n

-- the highest number up to n that is fine: 0 where there is none
abbrev pub highest : ℕ → (ℕ → Bool) → ℕ
highest zero is_fine = 0
highest (suc n) is_fine = if is_fine (suc n) then suc n else highest n is_fine

-- the highest level at which columns come to at most n
unfoldable pub level : ℕ → Lines → List ℕ → List ℕ → ℕ
level n lines least most = highest n (λ k. come_to n lines (raised_to k least most))

-- columns raised to that level: the widest ones are cut first
abbrev pub levelled : ℕ → Lines → List ℕ → List ℕ → List ℕ
levelled n lines least most = raised_to (level n lines least most) least most

-- the widths that columns are cut to, by those that whole lines, whole words and whole pieces ask: each word has room where that comes to
-- at most n, else each piece
unfoldable pub limits : ℕ → Lines → List ℕ → List ℕ → List ℕ → List ℕ
limits n lines of_lines of_words of_pieces =
    let words = larger_of of_words of_pieces in
    if come_to n lines words then levelled n lines words of_lines else levelled n lines of_pieces words
