use Rattle.tabled_settings.proofs.MirroredSpans.{reversed_twice_spans, top_twice_spans}
use Rattle.tabled_settings.proofs.laws.merged_cells_reversed_twice_are_as_they_were.Goals as goal

pub returns : goal.returns
returns c = record { top = λ m rows columns fits. top_twice_spans rows columns m fits; lines = λ axis m rows columns fits. reversed_twice_spans axis rows columns m fits }
