-- What is asked for, as the fields have it.
use Rattle.std.specs.Option.{option_map}
use Rattle.std.specs.Prelude.{Bool}
use Rattle.std.specs.String.{string_bytes}
use Rattle.tabled_script.proofs.Common.{◌∙◌, List, Option, ap, ap₂, ℕ}
use Rattle.tabled_script.proofs.Taken.{written_so}
use Rattle.tabled_csv.specs.Grammar.{Dialect}
use Rattle.tabled_script.specs.Aligners.{aligner}
use Rattle.tabled_script.specs.Arguments.{Asked}
use Rattle.tabled_script.specs.Requests.{aligner_asked, script_of, unread_files}
use Rattle.tabled_script.specs.declared.setting.Kind.{Kind}
use Rattle.tabled_script.proofs.arguments.Arguments.into_invocation.Goals as goal

pub returns-clause-form : goal.returns-clause-form
returns-clause-form c =
    written_so c.args.self c.written-written.result c.look-look.result c.picture_width-width.result (aligner c.in_ok-alignments.alignments) c.written_separator-separator.result c.values-values.result
    c.header_rows-header.result (option_map string_bytes c.self.inside.caption) c.into_form-form.result c.into_form-form.ensures
    c.written-written.ensures c.look-look.ensures c.picture_width-width.ensures
    (c.in_ok-alignments.ensures ∙ ap aligner_asked c.self.view_is)
    c.written_separator-separator.ensures c.values-values.ensures c.header_rows-header.ensures (ap (λ (a : Asked). a.caption) c.self.view_is)

pub returns-clause-sources : goal.returns-clause-sources
returns-clause-sources c =
    c.in_ok-sources.ensures
    ∙ ap₂ (λ (dialect : Dialect) (files : List (Kind × List ℕ)). unread_files dialect files) c.dialect-dialect.ensures (ap (λ (a : Asked). a.sources) c.self.view_is)

pub returns-clause-script : goal.returns-clause-script
returns-clause-script c =
    c.in_ok-script.ensures
    ∙ ap₂ (λ (name : Option (List ℕ)) (is_alone : Bool). script_of name is_alone) (ap (λ (a : Asked). a.script) c.self.view_is) c.is_without_files-is_alone.ensures
