-- Theorem. What is wrong with a published timetable, in order.
use Rattle.std.specs.Prelude.{ℕ, ◌==◌, false, not, is_none, nat_lt, List, [], ◌∷◌, ◌++◌, Option, None, length, map, count_by, option_and_then, slice_get, slice_index_or, if◌then◌else◌}
use Rattle.std.specs.List.{flat_map, range_with_len}
use Rattle.std.specs.Option.{option_map_or}
use Rattle.tt_base.specs.Lists.{is_listed}
use Rattle.tt_bits.specs.declared.times.Closure.{Closure}
use Rattle.tt_bits.specs.declared.times.Spot.{Spot}
use Rattle.tt_bits.specs.declared.times.Value.{Value}
use Rattle.tt_bits.specs.Spots.{spot_at}
use Rattle.tt_problem.specs.declared.parts.DistKind.{DistKind}
use Rattle.tt_problem.specs.declared.parts.DistKind.TheVariants as kind
use Rattle.tt_problem.specs.declared.parts.Rule.{Rule}
use Rattle.tt_problem.specs.declared.parts.Parts.{Parts}
use Rattle.tt_pair.specs.ViolatedPairs.{is_violated}
use Rattle.tt_clash.specs.Blocked.{is_closed}
use Rattle.tt_occupancy.specs.Clashes.{clash}
use Rattle.tt_plan.specs.Domain.{spots_of}
use Rattle.tt_roster.specs.Lists.{list_of}
use Rattle.tt_score.specs.Amounts.{rule_amount}
use Rattle.tt_published.specs.Published.{published_plan}
use Rattle.tt_published.specs.Timetable.{Timetable, has_published}
use Rattle.tt_struct.specs.Enrolments.{is_enrolment}
use Rattle.tt_verify.specs.declared.violation.Violation.{Violation}
use Rattle.tt_verify.specs.declared.violation.Violation.TheVariants as what
use Rattle.tt_verify.specs.Pairs.{related_pairs, are_related}

-- ---- classes and students

-- a class that isn't listed, or is listed and has no value
unfoldable pub class_fault : Timetable → List (Option Value) → (class : ℕ) → List Violation
class_fault t plan class =
    if not (has_published t class) then what.Missing class ∷ []
    else if is_none (slice_index_or plan class None) then what.Outside class ∷ []
    else []

-- a student whose list is no valid enrolment
unfoldable pub list_fault : Parts → List (List ℕ) → (student : ℕ) → List Violation
list_fault p lists student = if is_enrolment p student (list_of lists student) then [] else what.Invalid student ∷ []

-- the class at a place, where it has a limit and this many students have it, which are more
unfoldable pub limit_fault : Parts → (class students : ℕ) → List Violation
limit_fault p class students =
    let limit = option_and_then (λ part. part.limit) (slice_get p.classes class) in
    if option_map_or (λ most. nat_lt most students) limit false then what.Over class students ∷ [] else []

-- ---- rooms

-- a placed class whose room is closed at an overlapping time, by the file or by a closure that isn't lifted
unfoldable pub closed_fault : Parts → List Closure → List (Option Spot) → (class : ℕ) → List Violation
closed_fault p closures spots class = if option_map_or (is_closed p closures) (spot_at spots class) false then what.Closed class ∷ [] else []

-- ---- required rules

-- what is wrong with a required rule: its violated pairs, each member with each later one; or its amount, where it is above 0
unfoldable pub kind_faults : Parts → List (Option Spot) → (place : ℕ) → Rule → DistKind → List Violation
kind_faults p spots place r (kind.Pair pair) =
    let violated = related_pairs (are_related (is_violated pair p.travel) spots) r.members in
    map (λ c. what.Pair place c.0 c.1) violated
kind_faults p spots place r _ =
    if rule_amount p spots r == 0 then [] else what.Amount place (rule_amount p spots r) ∷ []

-- what is wrong with a rule
unfoldable pub rule_faults : Parts → List (Option Spot) → (place : ℕ) → Rule → List Violation
rule_faults p spots place r = if r.required then kind_faults p spots place r r.kind else []

-- the same of the rule at a place
unfoldable pub rule_faults_at : Parts → List (Option Spot) → (place : ℕ) → List Violation
rule_faults_at p spots place = option_map_or (rule_faults p spots place) (slice_get p.rules place) []

-- ---- all

-- what is counted as hard, with these closures: the pairs of placed classes that have the same room and overlap, each class with
-- each later one; closed rooms; and required rules
unfoldable pub hard_violations : Parts → List Closure → List (Option Spot) → List Violation
hard_violations p closures spots =
    map (λ c. what.Clash c.0 c.1) (related_pairs (are_related clash spots) (range_with_len 0 (length spots)))
    ++ flat_map (closed_fault p closures spots) (range_with_len 0 (length p.classes))
    ++ flat_map (rule_faults_at p spots) (range_with_len 0 (length p.rules))

-- all that is wrong with a timetable: with its classes, with the lists of the students, with the limits by these lists, and what is
-- counted as hard, with no closures beside the file's
unfoldable pub violations_of : Parts → Timetable → List Violation
violations_of p t =
    let classes = range_with_len 0 (length p.classes) in
    flat_map (class_fault t (published_plan p t)) classes
    ++ flat_map (list_fault p t.lists) (range_with_len 0 (length p.students))
    ++ flat_map (λ class. limit_fault p class (count_by (is_listed class) t.lists)) classes
    ++ hard_violations p [] (spots_of p (published_plan p t))
