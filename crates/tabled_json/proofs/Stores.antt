-- No row of an even store is too long.
use Rattle.tabled_grid.specs.Grid.{Grid, IsEven, map_grid}
use Rattle.std.specs.Prelude.{IfErr}
use Rattle.tabled_json.proofs.Common.{Err, List, Ok, Result, arith, ℕ}
use Rattle.tabled_json.specs.Writes.{IsNoLongRow, IsWhy}
use Rattle.tabled_json.specs.declared.fault.WriteError.{WriteError}
use Rattle.tabled_json.specs.declared.fault.WriteError.TheVariants.{EqualKeys, Failed, LongRow, OutOfMemory}
use Rattle.tabled_texts.proofs.Stores.{stored-width}

pub none-long : {A : Type 0} (f : A → List ℕ) (g : Grid A) → IsEven g → (result : Result (Unit {0}) WriteError) → IfErr result (IsWhy (map_grid f g).cells) → IfErr result IsNoLongRow
none-long f g even (Ok u) why = tt
none-long f g even (Err (LongRow row)) why =
    absurd (omega (arith, why.0, why.1, stored-width f g even row why.0, stored-width f g even 0 (omega (arith, why.0))))
none-long f g even (Err (EqualKeys first second)) why = tt
none-long f g even (Err OutOfMemory) why = tt
none-long f g even (Err (Failed error)) why = tt
