-- Results.
use Rattle.tabled_options.proofs.Common.{Err, Ok, Result}
use Rattle.std.specs.Result.{OnErr}

-- what holds anyhow holds at an error
pub on_err : {T E P : Type 0} (r : Result T E) → P → OnErr r P
on_err (Ok x) p = tt
on_err (Err e) p = p
