use Rattle.std.proofs.Common.{◌≡◌, map, option_map, take}
use Rattle.tabled_decimal.specs.Decimals.{number}
use Rattle.tabled_decimal.specs.Numbers.{decimal}
use Rattle.tabled_settings.proofs.sort.by_key.numbers_of.Given as goal

abbrev pub invariant-loop-text : goal.invariant-loop-text
invariant-loop-text l = map (option_map number) l.numbers.items ≡ map (λ t. decimal t.now) (take l.text-index l.texts)
