-- One reading after another.
use Rattle.std.proofs.Common.{◌≡◌, Result, Ok, Err, refl, ap, ◌∙◌}
use Rattle.std.specs.Prelude.{IfOk}
use Rattle.tt_fields.specs.declared.answer.FileFault.{FileFault}
use Rattle.tt_fields.specs.declared.answer.FileFault.TheVariants as faults
use Rattle.tt_base.specs.Chain.{◌>>=◌}
use Rattle.tt_fields.specs.Answer.{Fault, Fails}

-- a fault of what is read first is the fault of both
pub fails_on : {A B : Type 0} (e : FileFault) (read : Result A Fault) (f : A → Result B Fault) → Fails e read → Fails e (read >>= f)
fails_on faults.Memory read f h = tt
fails_on (faults.Fault wrong path) read f h = ap (λ (r : Result _ Fault). r >>= f) h

-- what is read after a value that was read
pub then : {A B : Type 0} (r : Result A Fault) (x : A) (f : A → Result B Fault) (out : Result B Fault) → r ≡ Ok x → f x ≡ out → (r >>= f) ≡ out
then r x f out is rest = ap (λ (s : Result _ Fault). s >>= f) is ∙ rest

-- what holds of what f reads from any value that was read first holds of both
pub after : {A B : Type 0} (P : B → Type 0) (r : Result A Fault) (f : A → Result B Fault) → ((x : A) → r ≡ Ok x → IfOk (f x) P) → IfOk (r >>= f) P
after P (Ok x) f h = h x refl
after P (Err e) f h = tt
