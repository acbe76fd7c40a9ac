-- The keys of rows, as they are held while indexes are put in order.
use Rattle.std.specs.Borrow.{Bor}
use Rattle.std.specs.Prelude.{ℕ, List, [], None, Option, get_or, map, option_map}
use Rattle.tabled_decimal.specs.Decimals.{number}
use Rattle.tabled_decimal.specs.Numbers.{Number}
use Rattle.tabled_decimal.specs.declared.decimal.Decimal.{Decimal}

-- the text at an index, an empty one past the texts
abbrev pub lent_text : List (Bor (List ℕ)) → ℕ → List ℕ
lent_text texts i = get_or (map (λ (t : Bor (List ℕ)). t.now) texts) i []

-- the number at an index, none past the numbers
abbrev pub number_of_key : List (Option Decimal) → ℕ → Option Number
number_of_key numbers i = get_or (map (option_map number) numbers) i None
