use Rattle.tabled_settings.proofs.KeptBack.{kept_cells_back, kept_merged_back}
use Rattle.tabled_settings.proofs.laws.kept_in_an_order_and_back_is_as_it_was.Goals as goal

pub returns : goal.returns
returns g c = record { cells = λ axis there back old between new even t some _ first second. kept_cells_back axis there back old between new even t some first second; merged = λ axis there back m r n some t fits all. kept_merged_back axis there back m r n some t fits all }
