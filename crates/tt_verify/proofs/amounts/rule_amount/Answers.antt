use Rattle.std.proofs.Common.{◌≡◌, map}
use Rattle.std.proofs.lemmas.Result.{IfOk-weaker}
use Rattle.tt_bits.specs.Spots.{placed, spot_at}
use Rattle.tt_verify.proofs.AmountLemmas.{breaks_is, days_is, long_is, weeks_is}
use Rattle.tt_verify.proofs.PlanLemmas.{placed_rooms, rooms_fit}
use Rattle.tt_verify.proofs.amounts.rule_amount.Goals as goal

pub violated_pairs-requires-clause-rooms : goal.violated_pairs-requires-clause-rooms
violated_pairs-requires-clause-rooms c =
    let p = c.args.problem.now in
    let spots = c.args.spots.now in
    rw (c.deref.ensures.value, c.travel-travel.ensures, c.in_ok-placed.ensures.placed)
    (placed_rooms p.travel spots (rooms_fit p spots c.validity.ensures.travel_rooms c.requires.fit) c.as_slice.result.now)

pub returns-in-MaxDays-clause-amount : goal.returns-in-MaxDays-clause-amount
returns-in-MaxDays-clause-amount c =
    let spots = c.args.spots.now in
    let members : c.in_ok-placed.placed.items ≡ placed (map (spot_at spots) c.args.rule.now.members) = rw c.as_slice.ensures at c.in_ok-placed.ensures.placed in
    days_is c.args.problem.now spots c.args.rule.now c.in-MaxDays.most _ c.in_ok-placed.placed.items c.in-MaxDays.is members (rw c.deref-in-MaxDays.ensures.value at c.days_over.ensures.days)

pub returns-in-MaxWeeks-clause-amount : goal.returns-in-MaxWeeks-clause-amount
returns-in-MaxWeeks-clause-amount c =
    let spots = c.args.spots.now in
    let members : c.in_ok-placed.placed.items ≡ placed (map (spot_at spots) c.args.rule.now.members) = rw c.as_slice.ensures at c.in_ok-placed.ensures.placed in
    weeks_is c.args.problem.now spots c.args.rule.now c.in-MaxWeeks.most _ c.in_ok-placed.placed.items c.in-MaxWeeks.is members (rw c.deref-in-MaxWeeks.ensures.value at c.weeks_over.ensures.weeks)

pub returns-in-MaxBreaks-clause-amount : goal.returns-in-MaxBreaks-clause-amount
returns-in-MaxBreaks-clause-amount c =
    let spots = c.args.spots.now in
    let members : c.in_ok-placed.placed.items ≡ placed (map (spot_at spots) c.args.rule.now.members) = rw c.as_slice.ensures at c.in_ok-placed.ensures.placed in
    IfOk-weaker c.breaks_over.result _ _
    (λ n is. breaks_is c.args.problem.now spots c.args.rule.now c.in-MaxBreaks.breaks c.in-MaxBreaks.gap n c.nr_weeks-weeks.result c.in_ok-placed.placed.items c.in-MaxBreaks.is members c.nr_weeks-weeks.ensures.value is)
    c.breaks_over.ensures.breaks

pub returns-in-MaxBlock-clause-amount : goal.returns-in-MaxBlock-clause-amount
returns-in-MaxBlock-clause-amount c =
    let spots = c.args.spots.now in
    let members : c.in_ok-placed.placed.items ≡ placed (map (spot_at spots) c.args.rule.now.members) = rw c.as_slice.ensures at c.in_ok-placed.ensures.placed in
    IfOk-weaker c.long_blocks.result _ _
    (λ n is. long_is c.args.problem.now spots c.args.rule.now c.in-MaxBlock.most c.in-MaxBlock.gap n c.nr_weeks-weeks.result c.in_ok-placed.placed.items c.in-MaxBlock.is members c.nr_weeks-weeks.ensures.value is)
    c.long_blocks.ensures.long
