use Rattle.std.proofs.Common.{◌≡◌, ◌∙◌, ◌*◌, ◌-◌, ◌+◌, ◌<◌, ℕ, refl, ◌∷◌, length, ap, subst, sym, rules, arith}
use Rattle.std.proofs.lemmas.List.Elements.{All-rest}
use Rattle.tt_pool.specs.Pools.{list_at}
use Rattle.tt_blocks.specs.Order.{member_at, places_on}
use Rattle.tt_blocks.specs.Sweeps.{Few}
use Rattle.tt_blocks.proofs.ListLemmas.{places-within}
use Rattle.tt_blocks.proofs.CellLemmas.{few_at_first, length-places_on, swept_step, sweep_end}
use Rattle.tt_blocks.proofs.members.Members.sweep.Goals as goal

pub loop-other-init : goal.loop-other-init
loop-other-init c =
    let held = c.as_slice-held.result.now in
    let value = c.as_slice-held.ensures.value in
    let listed : c.into_iter-other-iterator.result ≡ list_at c.self.inside.by_day c.args.day = search rules in
    let all : c.into_iter-other-iterator.result ≡ places_on c.args.day held = listed ∙ c.self.invariant.lists c.args.day c.requires.day.0 ∙ ap (places_on c.args.day) (sym value) in
    let few = ap length (value ∙ c.self.view_is) in
    rw (all, c.new-sweep.ensures) (record {
      swept = refl;
      within = places-within c.args.day held;
      short = omega (arith, length-places_on c.args.day held, few, c.requires.few);
      few = few_at_first _ _ _ _;
    })

pub loop-other-preserved : goal.loop-other-preserved
loop-other-preserved c =
    let held = c.as_slice-held.result.now in
    let before = c.loop-other.invariant in
    let next : c.loop-other.other-iterator ≡ c.in-Some.other ∷ c.next.new.self = search rules in
    let within : c.in-Some.other < length held = search rules in
    let fewer : 4000 - 2 * length c.loop-other.other-iterator + 2 ≡ 4000 - 2 * length c.next.new.self = omega (arith, ap length next, before.short) in
    record {
      swept = swept_step held (member_at c.args.place c.args.spot.now) _ c.loop-other.sweep c.add.new.self c.in-Some.other _ _ _ next within c.index-held-other.is c.add.ensures.swept ∙ before.swept;
      within = All-rest (λ q. q < length held) _ _ _ next before.within;
      short = omega (arith, ap length next, before.short);
      few = subst (λ (n : ℕ). Few c.add.new.self n) fewer (c.add.ensures.few _ before.few);
    }

pub returns-clause-alike : goal.returns-clause-alike
returns-clause-alike c = λ week alike. ((sweep_end c.args.rule.now c.as_slice-held.result.now c.args.self.now c.args.place c.args.day c.args.weeks c.args.spot.now c.loop-other.sweep _ c.loop-other.other-iterator
    (c.as_slice-held.ensures.value ∙ c.self.view_is) c.requires.place c.requires.day.1 c.requires.some c.ranges.weeks.fits c.requires.weeks c.end.ensures (search rules) c.loop-other.invariant.swept).each week alike).asked

pub returns-clause-some : goal.returns-clause-some
returns-clause-some c = (sweep_end c.args.rule.now c.as_slice-held.result.now c.args.self.now c.args.place c.args.day c.args.weeks c.args.spot.now c.loop-other.sweep _ c.loop-other.other-iterator
    (c.as_slice-held.ensures.value ∙ c.self.view_is) c.requires.place c.requires.day.1 c.requires.some c.ranges.weeks.fits c.requires.weeks c.end.ensures (search rules) c.loop-other.invariant.swept).some

pub returns-clause-with : goal.returns-clause-with
returns-clause-with c = λ week alike. ((sweep_end c.args.rule.now c.as_slice-held.result.now c.args.self.now c.args.place c.args.day c.args.weeks c.args.spot.now c.loop-other.sweep _ c.loop-other.other-iterator
    (c.as_slice-held.ensures.value ∙ c.self.view_is) c.requires.place c.requires.day.1 c.requires.some c.ranges.weeks.fits c.requires.weeks c.end.ensures (search rules) c.loop-other.invariant.swept).each week alike).with

pub returns-clause-without : goal.returns-clause-without
returns-clause-without c = λ week alike. ((sweep_end c.args.rule.now c.as_slice-held.result.now c.args.self.now c.args.place c.args.day c.args.weeks c.args.spot.now c.loop-other.sweep _ c.loop-other.other-iterator
    (c.as_slice-held.ensures.value ∙ c.self.view_is) c.requires.place c.requires.day.1 c.requires.some c.ranges.weeks.fits c.requires.weeks c.end.ensures (search rules) c.loop-other.invariant.swept).each week alike).without
