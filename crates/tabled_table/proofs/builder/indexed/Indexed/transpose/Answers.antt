use Rattle.tabled_table.proofs.Common.{◌∙◌, ◌≡◌, ap, length, map, refl, row_texts, string_bytes, transposed_rows, vec_len-texts, wide-cells}
use Rattle.tabled_table.proofs.Indexed.{IsIndexed-transposed}
use Rattle.tabled_table.proofs.Transposed.{texts_turned}
use Rattle.tabled_table.proofs.builder.indexed.Indexed.transpose.Goals as goal
use Rattle.tabled_table.proofs.builder.indexed.Indexed.transpose.Goals.{In_ok-turn_rows}

-- the texts of the rows that were turned
turned : (c : In_ok-turn_rows) → row_texts c.turn_rows.new.rows.items ≡ transposed_rows (length (map string_bytes c.self.inside.header.items)) (row_texts c.self.inside.body.items)
turned c = texts_turned c.len.result c.self.inside.body.items c.turn_rows.new.rows.items c.in_ok-turn_rows.ensures.ok ∙ ap (λ n. transposed_rows n (row_texts c.self.inside.body.items)) (c.len.ensures ∙ vec_len-texts c.self.inside.header)

pub turn_rows-requires : goal.turn_rows-requires
turn_rows-requires c = rw (c.len.ensures ∙ vec_len-texts c.self.inside.header) (wide-cells _ c.self.inside.body.items c.self.invariant.wide)

pub invariant_of-self : goal.invariant_of-self
invariant_of-self c = rw (c.swap.ensures.x_after, c.swap.ensures.y_after, turned (goal.at.invariant_of-self c).In_ok-turn_rows) (IsIndexed-transposed _ c.self.invariant)

pub returns-clause-ok : goal.returns-clause-ok
returns-clause-ok c = rw (← c.self.view_is, c.swap.ensures.x_after, c.swap.ensures.y_after, turned (goal.at.returns-clause-ok c).In_ok-turn_rows) refl
