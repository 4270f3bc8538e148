-- What holds of the value of an option, if there is one.
use Rattle.std.proofs.Common.{◌≡◌, Option, Some, None, refl, subst}
use Rattle.std.specs.Prelude.{IfSome}

-- it holds of each value that may be there
pub if-some : {A : Type 0} (o : Option A) (P : A → Type 0) → ((x : A) → o ≡ Some x → P x) → IfSome o P
if-some None P h = tt
if-some (Some x) P h = h x refl

-- it holds of the value that is there
pub some-at : {A : Type 0} (o : Option A) (x : A) (P : A → Type 0) → o ≡ Some x → P x → IfSome o P
some-at None x P is h = absurd (cc is)
some-at (Some y) x P is h = let same : x ≡ y = cc in subst P same h
