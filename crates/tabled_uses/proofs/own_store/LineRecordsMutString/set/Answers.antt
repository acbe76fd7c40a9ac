use Rattle.std.proofs.Common.{◌≡◌, List, [], ◌∷◌, ap, arith, set}
use Rattle.std.specs.String.{string_bytes}
use Rattle.std.proofs.lemmas.List.{length-set}
use Rattle.tabled_grid.proofs.OwnStore.{texts_written}
use Rattle.tabled_uses.proofs.own_store.LineRecordsMutString.set.Goals as goal

-- a place of the line is in its first row
pub returns-clause-ok : goal.returns-clause-ok
returns-clause-ok c =
    let first : c.args.pos.row ≡ 0 = omega (arith, c.requires.inside.row) in
    let written = set c.args.self.now.cells.items c.args.pos.col c.new.result in
    record {
      cell = c.new.result;
      has = ap string_bytes c.new.ensures;
      is = rw first (ap (λ n. record { rows = 1; columns = n; cells = written ∷ [] }) (length-set c.args.self.now.cells.items c.args.pos.col c.new.result));
    }

pub returns-clause-texts : goal.returns-clause-texts
returns-clause-texts c = texts_written _ _ _ _ _ (returns-clause-ok c)
