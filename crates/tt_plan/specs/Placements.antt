-- A class at one of its values.
use Rattle.std.specs.Prelude.{◌≡◌, Some}
use Rattle.tt_problem.specs.declared.parts.Parts.{Parts}
use Rattle.tt_plan.specs.Domain.{IsOfDomain, IsSpotOf, spot_at_value}
use Rattle.tt_plan.specs.declared.placement.Placement.{Placement}

-- the value is of the domain of the class, and the spot is that of the value
pub record IsPlacement (p : Parts) (x : Placement) : Type 0 where
  pub value : IsOfDomain p x.class x.value
  pub spot : spot_at_value p x.class x.value ≡ Some x.spot
  pub fits : IsSpotOf p x.spot
