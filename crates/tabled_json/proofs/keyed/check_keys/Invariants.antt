use Rattle.tabled_json.proofs.Common.{◌≡◌, take}
use Rattle.tabled_json.specs.Tables.{AreListed}
use Rattle.tabled_texts.specs.Texts.{row_at, texts_of}
use Rattle.tabled_json.proofs.keyed.check_keys.Given as goal

abbrev pub invariant-loop-j : goal.invariant-loop-j
invariant-loop-j g l = record {
  keys : texts_of l.keys.texts ≡ take l.j (row_at (g.R.Rows.texts l.rows) 0);
  listed : AreListed l.keys;
}
