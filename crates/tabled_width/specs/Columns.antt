-- The columns that texts take.
use Rattle.std.specs.Prelude.{ℕ, List, false}
use Rattle.unicode_width.specs.Width.{str_width}

-- the columns that characters take together: some join, as those of an emoji do
abbrev pub text_width : List ℕ → ℕ
text_width cs = str_width false cs
