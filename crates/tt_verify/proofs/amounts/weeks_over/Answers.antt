use Rattle.std.proofs.Common.{◌-◌, ◌∙◌, ap, arith}
use Rattle.std.specs.List.{list_any}
use Rattle.tt_base.specs.Sets.{has}
use Rattle.tt_bits.specs.Sets.{week_set}
use Rattle.tt_verify.proofs.AmountLemmas.{counted_places}
use Rattle.tt_verify.proofs.amounts.weeks_over.Goals as goal

pub returns-clause-weeks : goal.returns-clause-weeks
returns-clause-weeks c =
    let all = counted_places (λ week. list_any (λ x. has (week_set x.time.weeks) week) c.args.spots.now) c.loop-week.week (omega (arith, c.loop-week.auto.week-end, c.loop-week-test.false)) in
    c.from.ensures ∙ c.saturating_sub.ensures ∙ ap (λ n. n - c.args.most) (c.loop-week.invariant.count ∙ all)
