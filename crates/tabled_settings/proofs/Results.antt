-- Results.
use Rattle.tabled_settings.proofs.Common.{◌≡◌, Err, IfOk, Ok, Result, refl}

-- of a result that is a value, by that value
pub if_ok : {T E : Type 0} (r : Result T E) {P : T → Type 0} → ((x : T) → r ≡ Ok x → P x) → IfOk r P
if_ok (Ok x) f = f x refl
if_ok (Err e) f = tt
