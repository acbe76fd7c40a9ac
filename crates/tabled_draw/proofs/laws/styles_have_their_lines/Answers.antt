use Rattle.tabled_draw.proofs.StyleLaws.{all-drawn, header-drawn, inner-drawn, none-drawn, outer-and-header-drawn, outer-drawn}
use Rattle.tabled_draw.proofs.laws.styles_have_their_lines.Goals as goal

pub returns-clause-ascii : goal.returns-clause-ascii
returns-clause-ascii c = record { rows = all-drawn; columns = all-drawn }

pub returns-clause-modern : goal.returns-clause-modern
returns-clause-modern c = record { rows = all-drawn; columns = all-drawn }

pub returns-clause-rounded : goal.returns-clause-rounded
returns-clause-rounded c = record { rows = outer-and-header-drawn; columns = all-drawn }

pub returns-clause-sharp : goal.returns-clause-sharp
returns-clause-sharp c = record { rows = outer-and-header-drawn; columns = all-drawn }

pub returns-clause-extended : goal.returns-clause-extended
returns-clause-extended c = record { rows = all-drawn; columns = all-drawn }

pub returns-clause-psql : goal.returns-clause-psql
returns-clause-psql c = record { rows = header-drawn; columns = inner-drawn }

pub returns-clause-markdown : goal.returns-clause-markdown
returns-clause-markdown c = record { rows = header-drawn; columns = all-drawn }

pub returns-clause-re_structured_text : goal.returns-clause-re_structured_text
returns-clause-re_structured_text c = record { rows = outer-and-header-drawn; columns = inner-drawn }

pub returns-clause-dots : goal.returns-clause-dots
returns-clause-dots c = record { rows = all-drawn; columns = all-drawn }

pub returns-clause-ascii_rounded : goal.returns-clause-ascii_rounded
returns-clause-ascii_rounded c = record { rows = outer-drawn; columns = all-drawn }

pub returns-clause-blank : goal.returns-clause-blank
returns-clause-blank c = record { rows = none-drawn; columns = inner-drawn }

pub returns-clause-empty : goal.returns-clause-empty
returns-clause-empty c = record { rows = none-drawn; columns = none-drawn }
