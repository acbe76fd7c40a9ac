-- The arms of box characters, by their names in Unicode.
-- BOX DRAWINGS LIGHT VERTICAL AND RIGHT, say, has arms up, down and right. Beside each character stands what follows
-- LIGHT, ARC or DOUBLE in its name.
use Rattle.std.specs.Prelude.{◌==◌, ◌||◌, ◌++◌, if◌then◌else◌, ℕ, List, [], ◌∷◌, false, true}
use Rattle.tabled_draw.specs.Borders.{Arms}

-- ---- the words of names

-- no arm
abbrev pub no_arms : Arms
no_arms = record { up = false; right = false; down = false; left = false }

-- one arm, up
abbrev pub up : Arms
up = record no_arms { up = true }

-- one arm, to the right
abbrev pub right : Arms
right = record no_arms { right = true }

-- one arm, down
abbrev pub down : Arms
down = record no_arms { down = true }

-- one arm, to the left
abbrev pub left : Arms
left = record no_arms { left = true }

-- the arms of both
abbrev pub and : Arms → Arms → Arms
and a b = record { up = a.up || b.up; right = a.right || b.right; down = a.down || b.down; left = a.left || b.left }

-- those to both sides
abbrev pub horizontal : Arms
horizontal = and left right

-- those up and down
abbrev pub vertical : Arms
vertical = and up down

-- ---- the characters

-- lines of BOX DRAWINGS LIGHT that do not turn
abbrev pub light_lines : List (ℕ × Arms)
light_lines =
    (0x2500, horizontal)
    ∷ (0x2502, vertical)
    ∷ (0x251C, and vertical right)
    ∷ (0x2524, and vertical left)
    ∷ (0x252C, and down horizontal)
    ∷ (0x2534, and up horizontal)
    ∷ (0x253C, and vertical horizontal)
    ∷ (0x2574, left)
    ∷ (0x2575, up)
    ∷ (0x2576, right)
    ∷ (0x2577, down)
    ∷ []

-- turns of BOX DRAWINGS LIGHT
abbrev pub light_turns : List (ℕ × Arms)
light_turns = (0x250C, and down right) ∷ (0x2510, and down left) ∷ (0x2514, and up right) ∷ (0x2518, and up left) ∷ []

-- those of BOX DRAWINGS LIGHT ARC
abbrev pub arcs : List (ℕ × Arms)
arcs = (0x256D, and down right) ∷ (0x256E, and down left) ∷ (0x256F, and up left) ∷ (0x2570, and up right) ∷ []

-- those of BOX DRAWINGS DOUBLE, of which none has one arm alone
abbrev pub double_lines : List (ℕ × Arms)
double_lines =
    (0x2550, horizontal)
    ∷ (0x2551, vertical)
    ∷ (0x2554, and down right)
    ∷ (0x2557, and down left)
    ∷ (0x255A, and up right)
    ∷ (0x255D, and up left)
    ∷ (0x2560, and vertical right)
    ∷ (0x2563, and vertical left)
    ∷ (0x2566, and down horizontal)
    ∷ (0x2569, and up horizontal)
    ∷ (0x256C, and vertical horizontal)
    ∷ []

-- light lines with sharp turns
abbrev pub sharp_lines : List (ℕ × Arms)
sharp_lines = light_lines ++ light_turns

-- light lines with round turns
abbrev pub round_lines : List (ℕ × Arms)
round_lines = light_lines ++ arcs

-- the arms of a character, none if it is none of a list
abbrev pub arms_of : List (ℕ × Arms) → ℕ → Arms
arms_of [] c = no_arms
arms_of (named ∷ others) c = if c == named.0 then named.1 else arms_of others c
