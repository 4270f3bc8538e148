use Rattle.std.proofs.Common.{◌≡◌, ◌∙◌, All, ap, arith, length, length-set}
use Rattle.std.specs.Prelude.{slice_set}
use Rattle.std.proofs.lemmas.List.{with_items_is}
use Rattle.std.proofs.lemmas.List.Elements.{All-set}
use Rattle.tt_least.specs.Prices.{AreGroups}
use Rattle.tt_least.proofs.NarrowLemmas.{node-narrowed}
use Rattle.tt_least.proofs.narrow.narrow.Goals as goal

pub loop-place-init : goal.loop-place-init
loop-place-init c = record { groups = rw c.as_mut_slice-groups.ensures.value c.requires.ready.groups; narrowed = c.drop_orphans.ensures c.args.limit }

pub narrow_often-requires-clause-node : goal.narrow_often-requires-clause-node
narrow_often-requires-clause-node c = node-narrowed c.args.table.now c.args.limit c.args.level.now c.loop-place.level c.loop-place.invariant.narrowed c.requires.node

pub returns-then-not-narrow_often-clause-ready : goal.returns-then-not-narrow_often-clause-ready
returns-then-not-narrow_often-clause-ready c =
    let groups = slice_set c.loop-place.groups c.loop-place.place c.narrow_often.new.groups in
    let long : length groups ≡ c.args.scratch.now.groups.len = omega (arith, length-set c.loop-place.groups c.loop-place.place c.narrow_often.new.groups, c.loop-place.auto.groups, c.as_mut_slice-groups.ensures.len) in
    let priced : length c.narrow_often.new.costs ≡ c.args.scratch.now.costs.len = c.narrow_often.auto.costs ∙ c.loop-place.auto.costs ∙ c.as_mut_slice-costs.ensures.len in
    let wide : length c.narrow_often.new.leasts ≡ c.args.scratch.now.leasts.len = c.narrow_often.auto.leasts ∙ c.loop-place.auto.leasts ∙ c.as_mut_slice-leasts.ensures.len in
    let all : All (AreGroups c.args.table.now) groups = All-set (AreGroups c.args.table.now) c.loop-place.groups c.loop-place.place c.narrow_often.new.groups c.narrow_often.ensures.groups c.loop-place.invariant.groups in
    record {
      groups = rw (with_items_is c.args.scratch.now.groups groups long) all;
      costs = omega (arith, ap length (with_items_is c.args.scratch.now.costs c.narrow_often.new.costs priced), priced, c.requires.ready.costs);
      leasts = omega (arith, ap length (with_items_is c.args.scratch.now.leasts c.narrow_often.new.leasts wide), wide, c.requires.ready.leasts);
      front = c.requires.ready.front;
      best = c.requires.ready.best;
    }
