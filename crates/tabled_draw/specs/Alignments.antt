-- How the lines of texts are aligned.
use Rattle.std.specs.Prelude.{◌+◌, ◌-◌, ◌/◌, ◌++◌, ℕ, List, length, replicate, slice_index_or}
use Rattle.tabled_draw.specs.Texts.{line_shown, text_width}
use Rattle.tabled_draw.specs.declared.alignment.Alignment.{Alignment}
use Rattle.tabled_draw.specs.declared.alignment.Alignment.TheVariants.{Left, Center, Right}

-- how many of some columns that are left stand before a line
abbrev pub indent : Alignment → ℕ → ℕ
indent Left free = 0
indent Center free = free / 2
indent Right free = free

-- the alignment in a column: that of its place in the list, or the last one, or to the left if there is none
abbrev pub alignment_in : List Alignment → ℕ → Alignment
alignment_in aligns j = slice_index_or aligns j (slice_index_or aligns (length aligns - 1) Left)

-- a line in some columns, and one blank more at both sides
abbrev pub aligned : Alignment → ℕ → List ℕ → List ℕ
aligned alignment space line =
    let free = space - text_width line in
    let before = indent alignment free in
    replicate (before + 1) 32 ++ (line ++ replicate (free - before + 1) 32)

-- what a cell shows in a line, in some columns and one blank more at both sides: the k-th line of its text
abbrev pub cell : Alignment → ℕ → List ℕ → ℕ → List ℕ
cell alignment space text k = aligned alignment space (line_shown text k)
