use Rattle.std.proofs.Common.{refl}
use Rattle.tabled_html_reading.specs.Forming.{forming_a_table}
use Rattle.tabled_html_reading.proofs.laws.definitions_have_these_examples.Goals as goal

pub returns-clause-formed : goal.returns-clause-formed
unfolding forming_a_table
returns-clause-formed c = record {
  overlaps = record { error = refl; both = refl };
  past = record { rows = refl; none = refl; error = refl };
  grows = record { rows = refl; columns = refl; apart = refl; grown = refl; last = refl };
  alone = record { rows = refl; columns = refl; apart = refl; error = refl };
}

pub returns-clause-read : goal.returns-clause-read
unfolding lib.Utf8.encode
returns-clause-read c = record { newlines = refl; controls = refl; names = refl; bare = refl; nul = refl; tag = refl; table = refl; whole = refl; unclosed = refl }
