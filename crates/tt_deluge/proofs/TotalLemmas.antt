-- A total is far below what a number of 128 bits can hold.
use Rattle.std.proofs.Common.{◌≡◌, ℕ, ◌*◌, ◌<◌, ◌≤◌, ◌^◌, List, Option, length, refl, ap, arith}
use Rattle.std.proofs.lemmas.Nat.{mul-le}
use Rattle.tt_bits.specs.declared.times.Closure.{Closure}
use Rattle.tt_bits.specs.declared.times.Spot.{Spot}
use Rattle.tt_bits.specs.declared.times.Value.{Value}
use Rattle.tt_problem.specs.declared.parts.Parts.{Parts}
use Rattle.tt_problem.specs.Valid.{IsValid}
use Rattle.tt_plan.specs.Domain.{room_penalty, spots_of, time_penalty}
use Rattle.tt_roster.specs.Conflicts.{student_conflicts}
use Rattle.tt_roster.specs.Kept.{IsRosterOf}
use Rattle.tt_roster.specs.Rostered.{Rostered}
use Rattle.tt_roster.proofs.KeptLemmas.{few_conflicts}
use Rattle.tt_score.specs.Amounts.{cost_sum}
use Rattle.tt_score.specs.Placed.{over_placed}
use Rattle.tt_score.specs.Totals.{totals_of}
use Rattle.tt_score.proofs.ClassLemmas.{few_in_room, few_in_time}
use Rattle.tt_score.proofs.TotalLemmas.{few_cost_sum}

pub total-small : (p : Parts) (closures : List Closure) (plan : List (Option Value)) (r : Rostered) → IsValid p → length plan ≡ length p.classes → IsRosterOf p r → r.spots ≡ spots_of p plan → (totals_of p closures plan r.seats).total < 2 ^ 127
total-small p closures plan r valid whole fits spots =
    let few : length plan ≤ 20000 = omega (arith, whole, valid.few_classes) in
    let times : ℕ = over_placed (time_penalty p) plan in
    let rooms : ℕ = over_placed (room_penalty p) plan in
    let costs : ℕ = cost_sum p (spots_of p plan) in
    let pairs : ℕ = student_conflicts p.travel (spots_of p plan) r.seats in
    let time : times ≤ 20000 * 1000000 = few_in_time p plan times valid few refl in
    let room : rooms ≤ 20000 * 1000000 = few_in_room p plan rooms valid few refl in
    let cost : costs ≤ 2 ^ 100 = omega (arith, few_cost_sum p (spots_of p plan) valid) in
    let same : student_conflicts p.travel r.spots r.seats ≡ pairs = ap (λ (l : List (Option Spot)). student_conflicts p.travel l r.seats) spots in
    let pair : pairs ≤ 4000000 * 4000000 = omega (arith, few_conflicts p r valid fits, same) in
    let one : p.weights.time * times ≤ 100000 * (20000 * 1000000) = mul-le p.weights.time times 100000 (20000 * 1000000) valid.weights.time time in
    let two : p.weights.room * rooms ≤ 100000 * (20000 * 1000000) = mul-le p.weights.room rooms 100000 (20000 * 1000000) valid.weights.room room in
    let three : p.weights.distribution * costs ≤ 100000 * 2 ^ 100 = mul-le p.weights.distribution costs 100000 (2 ^ 100) valid.weights.distribution cost in
    let four : p.weights.student * pairs ≤ 100000 * (4000000 * 4000000) = mul-le p.weights.student pairs 100000 (4000000 * 4000000) valid.weights.student pair in
    omega (arith, one, two, three, four)
