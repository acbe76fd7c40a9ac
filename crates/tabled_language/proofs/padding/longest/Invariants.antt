use Rattle.tabled_language.proofs.Common.{◌≡◌, longest, map_items, take}
use Rattle.tabled_language.proofs.padding.longest.Given as goal

abbrev pub invariant-loop-record : goal.invariant-loop-record
invariant-loop-record l = l.longest ≡ longest (map_items (take l.record-index l.records.items))
