use Rattle.tabled_settings.proofs.Common.{◌++◌, ◌-◌, ◌≡◌, ◌≤◌, range_with_len}
use Rattle.tabled_settings.specs.Named.{cut_index}
use Rattle.tabled_settings.proofs.line_names.add_sliced.Given as goal

abbrev pub invariant-loop-index : goal.invariant-loop-index
invariant-loop-index l =
    let a = cut_index l.fn.from l.fn.count in
    record {
      items : l.found.items ≡ l.fn.found.items ++ range_with_len a (l.index - a);
      low : a ≤ l.index;
      few : l.index - a ≤ cut_index l.fn.to l.fn.count - a;
    }
