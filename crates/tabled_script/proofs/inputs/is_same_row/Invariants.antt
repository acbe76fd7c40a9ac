use Rattle.std.specs.Cmp.Lexicographic.{pointwise}
use Rattle.std.specs.Prelude.{◌≡◌, map, bytes_eq, drop}
use Rattle.tabled_texts.specs.Texts.{text_of}
use Rattle.tabled_script.proofs.inputs.is_same_row.Given as goal

abbrev pub invariant-loop-i : goal.invariant-loop-i
invariant-loop-i l = record {
  rest : pointwise bytes_eq (map text_of (drop l.i l.row)) (map text_of (drop l.i l.other)) ≡ pointwise bytes_eq (map text_of l.row) (map text_of l.other);
}
