-- A value is of the domain of a class exactly where it stands in the list of the domain.
use Rattle.std.proofs.Common.{ℕ, zero, suc, ◌+◌, ◌*◌, ◌/◌, ◌%◌, ◌<◌, ◌↔◌, List, [], ◌∷◌, Option, Some, None, IfSome, length, slice_get, arith, subst, sym, ◌∙◌}
use Rattle.std.specs.List.{Contains}
use Rattle.std.specs.Option.{option_map_or}
use Rattle.std.proofs.lemmas.Option.{slice_get_within, get_or_from_slice_get}
use Rattle.tt_bits.specs.declared.times.Value.{Value}
use Rattle.tt_problem.specs.declared.parts.ClassPart.{ClassPart}
use Rattle.tt_problem.specs.declared.parts.Parts.{Parts}
use Rattle.tt_plan.specs.Domain.{values_of, value_of, values_per_time, domain_of, IsValueFor, IsOfDomain}
use Rattle.tt_plan.proofs.DomainLemmas.{value_at_place, places_at}

listed : (c : ClassPart) (v : Value) → IsValueFor c v → Contains (values_of c) v
listed c v is =
    let stands = value_at_place c v.time v.room is.time is.room in
    (v.time * values_per_time c + v.room, slice_get_within (values_of c) _ v stands, get_or_from_slice_get (values_of c) _ v v stands)

is_value : (c : ClassPart) (v : Value) → Contains (values_of c) v → IsValueFor c v
is_value c v (k, within, is) =
    let places = places_at c k within in
    let P : Value → Type 0 = IsValueFor c in
    let same = get_or_from_slice_get (values_of c) k (value_of (k / values_per_time c) (k % values_per_time c)) v places.value in
    subst P (sym same ∙ is) (record { time = places.time; room = places.room })

listed_at : (cs : List ClassPart) (class : ℕ) (v : Value) → class < length cs → IfSome (slice_get cs class) (λ c. IsValueFor c v)
    → Contains (option_map_or values_of (slice_get cs class) []) v
listed_at [] class v within is = absurd (omega arith)
listed_at (c ∷ cs) zero v within is = listed c v is
listed_at (c ∷ cs) (suc class) v within is = listed_at cs class v (omega arith) is

value_at_part : (o : Option ClassPart) (v : Value) → Contains (option_map_or values_of o []) v → IfSome o (λ c. IsValueFor c v)
value_at_part None v has = tt
value_at_part (Some c) v has = is_value c v has

stands_within : (cs : List ClassPart) (class : ℕ) (v : Value) → Contains (option_map_or values_of (slice_get cs class) []) v → class < length cs
stands_within [] class v (k, within, is) = absurd (omega arith)
stands_within (c ∷ cs) zero v has = omega arith
stands_within (c ∷ cs) (suc class) v has = let later = stands_within cs class v has in omega arith

pub IsOfDomain_iff : (p : Parts) (class : ℕ) (v : Value) → IsOfDomain p class v ↔ Contains (domain_of p class) v
unfolding domain_of
IsOfDomain_iff p class v = (
  λ is. listed_at p.classes class v is.within is.value,
  λ has. record { within = stands_within p.classes class v has; value = value_at_part (slice_get p.classes class) v has },
)
