use Rattle.tabled_language.proofs.Common.{after, duplicate, gives, named_by, reads_cells, reads_dup, then_reads}
use Rattle.tabled_language.proofs.Asking.{ends_first, ends_later, handed_on}
use Rattle.tabled_language.proofs.words.Words.dup.Goals as goal

pub returns-in_err-source : goal.returns-in_err-source
returns-in_err-source c =
    let destination = named_by c.in_ok-destination.destination in
    let error = c.in_err-source.field-0.0 in
    let source = ends_first reads_cells (λ source. gives (duplicate destination source)) c.cells.new.self error c.in_err-source.ensures in
    handed_on after reads_dup c.args.self.now c.from_residual-in_err-source.result c.cells-2.new.self error c.from_residual-in_err-source.ensures.1
    (ends_later reads_cells (λ destination. then_reads reads_cells (λ source. gives (duplicate destination source))) c.args.self.now c.cells.new.self destination error c.in_ok-destination.ensures source)
