use Rattle.tabled_draw.proofs.Common.{refl}
use Rattle.tabled_draw.proofs.StyleLaws.{has-ends, is-box, is-made}
use Rattle.tabled_draw.specs.BoxCharacters.{round_lines, sharp_lines}
use Rattle.tabled_draw.specs.declared.style.TheConstants.Style.{MODERN, ROUNDED, SHARP}
use Rattle.tabled_draw.proofs.laws.styles_have_their_characters.Goals as goal

pub returns-clause-ascii : goal.returns-clause-ascii
returns-clause-ascii c = is-made _ _ _ _ refl refl refl

pub returns-clause-modern : goal.returns-clause-modern
returns-clause-modern c = is-box _ _ refl refl refl

pub returns-clause-modern_ends : goal.returns-clause-modern_ends
returns-clause-modern_ends c = has-ends sharp_lines MODERN refl

pub returns-clause-rounded : goal.returns-clause-rounded
returns-clause-rounded c = is-box _ _ refl refl refl

pub returns-clause-rounded_ends : goal.returns-clause-rounded_ends
returns-clause-rounded_ends c = has-ends round_lines ROUNDED refl

pub returns-clause-sharp : goal.returns-clause-sharp
returns-clause-sharp c = is-box _ _ refl refl refl

pub returns-clause-sharp_ends : goal.returns-clause-sharp_ends
returns-clause-sharp_ends c = has-ends sharp_lines SHARP refl

pub returns-clause-extended : goal.returns-clause-extended
returns-clause-extended c = is-box _ _ refl refl refl

pub returns-clause-psql : goal.returns-clause-psql
returns-clause-psql c = is-made _ _ _ _ refl refl refl

pub returns-clause-markdown : goal.returns-clause-markdown
returns-clause-markdown c = is-made _ _ _ _ refl refl refl

pub returns-clause-re_structured_text : goal.returns-clause-re_structured_text
returns-clause-re_structured_text c = is-made _ _ _ _ refl refl refl

pub returns-clause-dots : goal.returns-clause-dots
returns-clause-dots c = is-made _ _ _ _ refl refl refl

pub returns-clause-ascii_rounded : goal.returns-clause-ascii_rounded
returns-clause-ascii_rounded c = is-made _ _ _ _ refl refl refl

pub returns-clause-blank : goal.returns-clause-blank
returns-clause-blank c = is-made _ _ _ _ refl refl refl

pub returns-clause-empty : goal.returns-clause-empty
returns-clause-empty c = is-made _ _ _ _ refl refl refl
