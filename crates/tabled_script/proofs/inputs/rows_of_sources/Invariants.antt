use Rattle.std.specs.Prelude.{◌≡◌, take}
use Rattle.tabled_texts.specs.Texts.{rows_of}
use Rattle.tabled_script.specs.Inputs.{HasTable}
use Rattle.tabled_script.proofs.inputs.rows_of_sources.Given as goal

abbrev pub invariant-loop-source : goal.invariant-loop-source
invariant-loop-source l = record {
  counted : l.index ≡ l.source-index;
  rows : HasTable (take l.source-index l.sources) (rows_of l.rows.items);
}
