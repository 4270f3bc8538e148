-- What holds whatever a call answers.
use Rattle.std.specs.Prelude.{Result, Ok, Err, OnOk}

pub always : {T E : Type 0} {P : Type 0} (r : Result T E) → P → OnOk r P
always (Ok x) h = h
always (Err e) h = tt
