-- An error that a call hands on.
use Rattle.std.proofs.Common.{◌≡◌, Result, Ok, Err, ap}
use Rattle.std.specs.Prelude.{IsErrAnd}

-- an error that is handed on
pub handed_on : {T E : Type 0} (r : Result T E) (x : E) → IsErrAnd r (λ e. e ≡ x) → r ≡ Err x
handed_on (Ok v) x gives = absurd gives
handed_on (Err e) x gives = ap Err gives
