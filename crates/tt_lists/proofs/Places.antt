-- Places without repeats, one after another.
use Rattle.std.proofs.Common.{◌≡◌, ℕ, false, List, [], ◌∷◌, ◌++◌, All, nat_eq}
use Rattle.std.specs.List.{IsDistinct}
use Rattle.std.specs.Cmp.{nat_eq_equiv}
use Rattle.std.proofs.lemmas.List.Elements.{All-push}
use Rattle.std.proofs.lemmas.Map.Keys.{IsDistinct-push}
use Rattle.tt_base.specs.Lists.{is_listed}

pub none_distinct : IsDistinct nat_eq []
unfolding IsDistinct
none_distinct = tt

pub distinct_push : (places : List ℕ) (place : ℕ) → IsDistinct nat_eq places → is_listed place places ≡ false → IsDistinct nat_eq (places ++ place ∷ [])
distinct_push places place distinct apart = IsDistinct-push nat_eq_equiv places place distinct apart

pub among_push : (P : ℕ → Type 0) (places : List ℕ) (place : ℕ) → All P places → P place → All P (places ++ place ∷ [])
among_push P places place all here = All-push P places place all here
