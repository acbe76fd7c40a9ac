use Rattle.tabled_steps.proofs.Acts.{duplicates, duplicates_first}
use Rattle.tabled_steps.proofs.laws.dup_steps_do_what_dup_does.Goals as goal

pub returns : goal.returns
returns g c = record {
  acts =
      let text_of = g.R.Cell.CellText.text_of in
      λ destination source to from. record {
        done = λ old cfg new new_cfg. (
          duplicates text_of _ _ _ _ (λ k items. (to k items).1) (λ k items. (from k items).1) old cfg new new_cfg,
          duplicates text_of _ _ _ _ (λ k items. (to k items).0) (λ k items. (from k items).0) old cfg new new_cfg,
        );
        refused = λ old cfg new new_cfg. (
          duplicates_first text_of _ _ _ _ (λ k items. (to k items).1) (λ k items. (from k items).1) old cfg new new_cfg,
          duplicates_first text_of _ _ _ _ (λ k items. (to k items).0) (λ k items. (from k items).0) old cfg new new_cfg,
        );
      };
}
