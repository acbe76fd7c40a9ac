-- What could be told of a refusal.
use Rattle.std.proofs.KnownBytes.{Appends-nil}
use Rattle.std.specs.Prelude.{Err, Ok, Result}
use Rattle.std.specs.Result.{OnErr, OnOk}
use Rattle.std.specs.Io.KnownBytes.{Appends}
use Rattle.std.specs.declared.io.Error.{Error}
use Rattle.tabled_held.specs.Sent.{IsCutShort}
use Rattle.tabled_script.proofs.Common.{[], List, Option, append-nil, refl, sym, ℕ}
use Rattle.tabled_script.specs.Refusals.{GetsFirst}

pub gets_none : (a : Option (List ℕ)) (bytes : List ℕ) → GetsFirst a a bytes
gets_none a bytes = record { sent = []; unsent = bytes; parts = refl; got = Appends-nil a }

pub gets_first : {T : Type 0} (written : Result T Error) (a b : Option (List ℕ)) (bytes : List ℕ) → OnOk written (Appends a b bytes) → OnErr written (IsCutShort a b bytes) → GetsFirst a b bytes
gets_first (Ok x) a b bytes all some = record { sent = bytes; unsent = []; parts = sym (append-nil bytes); got = all }
gets_first (Err e) a b bytes all some = record { sent = some.sent; unsent = some.unsent; parts = some.parts; got = some.got }
