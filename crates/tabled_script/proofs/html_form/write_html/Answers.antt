use Rattle.std.proofs.Common.{◌∙◌, ◌≡◌, ap, map, rules}
use Rattle.tabled_script.specs.Html.{html_alignment, look_of, look_with}
use Rattle.tabled_script.specs.InMemory.{texts_by}
use Rattle.tabled_script.proofs.html_form.write_html.Goals as goal

pub returns-in-Ok-clause-written : goal.returns-in-Ok-clause-written
returns-in-Ok-clause-written g c =
    let texts = texts_by g.T.CellText.text_of c.args.records.now.items in
    let alignments = c.deref-2.ensures.value ∙ c.in_ok-alignments-2.ensures ∙ ap (map html_alignment) (c.deref.ensures.value ∙ c.in_ok-alignments.ensures) in
    let look : c.look_with-look.result ≡ look_of c.args.page.now texts = c.look_with-look.ensures ∙ ap (look_with c.args.page.now) alignments in
    let written = rw look at c.in-Ok.ensures.written in
    search rules

pub returns-in-Ok-clause-shows : goal.returns-in-Ok-clause-shows
returns-in-Ok-clause-shows g c =
    let texts = texts_by g.T.CellText.text_of c.args.records.now.items in
    let alignments = c.deref-2.ensures.value ∙ c.in_ok-alignments-2.ensures ∙ ap (map html_alignment) (c.deref.ensures.value ∙ c.in_ok-alignments.ensures) in
    let look : c.look_with-look.result ≡ look_of c.args.page.now texts = c.look_with-look.ensures ∙ ap (look_with c.args.page.now) alignments in
    let shows = rw look at c.in-Ok.ensures.shows in
    search rules
