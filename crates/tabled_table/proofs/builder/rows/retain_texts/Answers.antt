use Rattle.tabled_table.proofs.Common.{◌∙◌, ◌≡◌, Global, String, Vec, ap, filter, filter_from_retain, is_empty_text, list_all, not, row_texts, rules, texts_of}
use Rattle.tabled_table.proofs.Cleaned.{map-filter}
use Rattle.tabled_table.proofs.builder.rows.retain_texts.Goals as goal

pub returns : goal.returns
returns c =
    let kept : c.retain.new.self.items ≡ filter (λ (row : Vec (String Global)). not (list_all is_empty_text (texts_of row))) c.args.rows.now.items =
    filter_from_retain _ (λ (row : Vec (String Global)). not (list_all is_empty_text (texts_of row))) (λ p x b q k. search rules) _ _ _ c.retain.ensures.filtered in
    ap row_texts kept ∙ map-filter texts_of (λ row. not (list_all is_empty_text row)) c.args.rows.now.items
