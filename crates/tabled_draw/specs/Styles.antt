-- The styles that have a name.
use Rattle.std.specs.Prelude.{if◌then◌else◌, ℕ, List, [], ◌∷◌, Option, None, Some, codes}
use Rattle.std.specs.Str.{bytes_eq}
use Rattle.tabled_draw.specs.declared.style.Style.{Style}
use Rattle.tabled_draw.specs.declared.style.TheConstants.Style.{ASCII, ASCII_ROUNDED, BLANK, DOTS, EMPTY, EXTENDED, MARKDOWN, MODERN, PSQL, RE_STRUCTURED_TEXT, ROUNDED, SHARP}

-- the styles, as the contracts of other crates call them
abbrev pub ascii : Style
ascii = ASCII

-- boxes of thin lines
abbrev pub modern : Style
modern = MODERN

-- boxes of thin lines with round corners, and one line between rows, below the first
abbrev pub rounded : Style
rounded = ROUNDED

-- boxes of thin lines with sharp corners, and one line between rows, below the first
abbrev pub sharp : Style
sharp = SHARP

-- boxes of double lines
abbrev pub extended : Style
extended = EXTENDED

-- as psql writes tables
abbrev pub psql : Style
psql = PSQL

-- as Markdown has tables
abbrev pub markdown : Style
markdown = MARKDOWN

-- as reStructuredText has tables
abbrev pub re_structured_text : Style
re_structured_text = RE_STRUCTURED_TEXT

-- lines of dots and colons
abbrev pub dots : Style
dots = DOTS

-- ASCII, with round corners
abbrev pub ascii_rounded : Style
ascii_rounded = ASCII_ROUNDED

-- a blank between columns, and no other lines
abbrev pub blank : Style
blank = BLANK

-- no lines
abbrev pub empty : Style
empty = EMPTY

-- names, and the style of each
abbrev pub styles : List (List ℕ × Style)
styles =
    (codes "ascii", ASCII)
    ∷ (codes "modern", MODERN)
    ∷ (codes "rounded", ROUNDED)
    ∷ (codes "sharp", SHARP)
    ∷ (codes "extended", EXTENDED)
    ∷ (codes "psql", PSQL)
    ∷ (codes "markdown", MARKDOWN)
    ∷ (codes "re_structured_text", RE_STRUCTURED_TEXT)
    ∷ (codes "dots", DOTS)
    ∷ (codes "ascii_rounded", ASCII_ROUNDED)
    ∷ (codes "blank", BLANK)
    ∷ (codes "empty", EMPTY)
    ∷ []

-- the style that a list has for a name
abbrev pub style_in : List (List ℕ × Style) → List ℕ → Option Style
style_in [] name = None
style_in (style ∷ others) name = if bytes_eq name style.0 then Some style.1 else style_in others name

-- the style of a name
abbrev pub style_named : List ℕ → Option Style
style_named name = style_in styles name
