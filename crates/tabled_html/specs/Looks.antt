-- How a table is written: its class, its header, its caption, its alignments, and whether it stands in a page of its own.
use Rattle.std.specs.Prelude.{◌-◌, if◌then◌else◌, ℕ, Bool, false, List, [], None, Option, length, nat_lt, slice_get}
use Rattle.tabled_html.specs.declared.alignment.Alignment.{Alignment}

-- its class, how many rows are its header, its caption's text, the alignments of its columns, and whether it is a whole page
pub record Look : Type 0 where
  pub class : Option (List ℕ)
  pub header : ℕ
  pub caption : Option (List ℕ)
  pub alignments : List Alignment
  pub is_whole : Bool

-- the table alone
abbrev pub plain_look : Look
plain_look = record { class = None; header = 0; caption = None; alignments = []; is_whole = false }

-- the alignment in a column: that of its place in the list, or the last one, or none if there is none
abbrev pub alignment_in : List Alignment → ℕ → Option Alignment
alignment_in aligns j = if nat_lt j (length aligns) then slice_get aligns j else slice_get aligns (length aligns - 1)
