use Rattle.std.proofs.Common.{◌≡◌, ℕ, ◌<◌, ◌≤◌, ◌++◌, sym, ap, subst, refl, ◌∙◌, arith, length, get_or, map, List}
use Rattle.std.proofs.lemmas.List.{take_all}
use Rattle.tt_problem.specs.declared.parts.RulePlace.{RulePlace}
use Rattle.tt_problem.specs.RulePlaces.{rules_of}
use Rattle.tt_clash.specs.Placings.{placing_of}
use Rattle.tt_clash.specs.ConflictSet.{clashing, out_for}
use Rattle.tt_clash.specs.Groups.{amounts_of}
use Rattle.tt_clash.specs.Found.{IsFoundWithin}
use Rattle.tt_clash.proofs.WithinLemmas.{found-whole, found-longer, fold-longer}
use Rattle.tt_clash.proofs.RuleLemmas.{same-none, same-set, groups-set, group-within, group-holds, group-weeks, shape-is, rule-skip, rule-adds}
use Rattle.tt_clash.proofs.clash.list_groups.Goals as goal
use Rattle.tt_clash.proofs.clash.list_groups.Goals.{then-is_required_group, else-is_required_group}

pub loop-with-init : goal.loop-with-init
loop-with-init g c = record {
  set = c.requires.set;
  classes = refl;
  groups = c.requires.groups;
  same = same-none _ _ _ _;
}

pub make_room-requires-clause-held : goal.make_room-requires-clause-held
make_room-requires-clause-held g c =
    let m = g.M.Measure in
    group-holds m.held m.weeks m.fits c.args.placing.now.problem.now c.args.placing.now.occupancy.now.spots c.loop-with.groups _ _ c.rule-rule.result.now c.loop-with.invariant.groups c.rule-rule.ensures.part
    ∙ ap (map _) (sym c.as_slice.ensures)

pub make_room-requires-clause-weeks : goal.make_room-requires-clause-weeks
make_room-requires-clause-weeks g c =
    let m = g.M.Measure in
    group-weeks m.held m.weeks m.fits c.args.placing.now.problem.now c.args.placing.now.occupancy.now.spots c.loop-with.groups _ c.index-groups-with.result c.rule-rule.result.now c.args.placing.now.spot c.loop-with.invariant.groups c.rule-rule.ensures.part c.requires.placing.weeks

pub loop-with-preserved : goal.loop-with-preserved
loop-with-preserved g c =
    let m = g.M.Measure in
    let before = c.loop-with.invariant in
    let d : RulePlace = record { rule = 0; place = 0 } in
    let r = get_or c.args.rules.now c.loop-with.with-index d in
    let p = c.args.placing.now.problem.now in
    let within : r.rule < length c.loop-with.groups = group-within m.held m.weeks m.fits p c.args.placing.now.occupancy.now.spots c.loop-with.groups r.rule c.rule-rule.result.now before.groups c.rule-rule.ensures.part in
    let amounts = amounts_of m.shape m.sum p.travel c.args.groups.now in
    let start = clashing (placing_of c.args.placing.now) in
    let listed = c.loop-with.listing.list in
    let so_far = before.set.all (omega (arith, c.len.ensures.count, c.if-len-most.false)) in
    let value = c.requires.rules in
    let at : r ≡ get_or (rules_of p c.args.placing.now.class) c.loop-with.with-index d = ap (λ (l : List RulePlace). get_or l c.loop-with.with-index d) value in
    let along : c.loop-with.with-index < length (rules_of p c.args.placing.now.class) = rw (← value) c.loop-with-test.true in
    elim c.if-is_required_group.branch [
      | then-is_required_group w ↦
          let amount = m.sum (m.shape (get_or c.loop-with.groups r.rule w.index-groups-with.result)) p.travel in
          let members = w.as_slice.result.now in
          let adds = rule-adds amounts amount (placing_of c.args.placing.now) start listed (listed ++ out_for amount members (placing_of c.args.placing.now) listed) members (rules_of p c.args.placing.now.class)
          c.loop-with.with-index r d c.rule-rule.result.now so_far along at c.rule-rule.ensures.part (sym c.is_required_group.ensures ∙ w.if-is_required_group.true)
          (ap (λ (sh : List ℕ). m.sum sh p.travel) (shape-is m.held m.weeks m.shape c.args.groups.now c.loop-with.groups r.rule w.index-groups-with.result before.same within))
          w.as_slice.ensures refl in
          rw (w.groups-is, w.listing-is) (record {
            set = subst (λ (l : List ℕ). IsFoundWithin c.args.most l w.make_room.new.listing.list) adds w.make_room.ensures.list;
            classes = w.make_room.ensures.classes ∙ before.classes;
            groups = groups-set m.held m.weeks m.shape m.fits c.args.placing.now.problem.now c.args.placing.now.occupancy.now.spots c.loop-with.groups r.rule _ w.make_room.new.group within before.groups w.make_room.ensures.same w.make_room.ensures.fits;
            same = same-set m.held m.weeks m.shape c.args.groups.now c.loop-with.groups r.rule _ w.make_room.new.group before.same w.make_room.ensures.same;
          })
      | else-is_required_group w ↦
          rw (w.groups-is, w.listing-is) (record {
            set = found-whole c.args.most _ _ (rule-skip amounts (placing_of c.args.placing.now) start listed (rules_of p c.args.placing.now.class) c.loop-with.with-index r d c.rule-rule.result.now so_far along at c.rule-rule.ensures.part
                (sym c.is_required_group.ensures ∙ w.if-is_required_group.false));
            classes = before.classes;
            groups = before.groups;
            same = before.same;
          })
    ]

pub returns-then-len-most-clause-set : goal.returns-then-len-most-clause-set
returns-then-len-most-clause-set g c =
    let m = g.M.Measure in
    let p = c.args.placing.now.problem.now in
    let amounts = amounts_of m.shape m.sum p.travel c.args.groups.now in
    let longer = fold-longer amounts (placing_of c.args.placing.now) (clashing (placing_of c.args.placing.now)) (rules_of p c.args.placing.now.class) c.loop-with.with-index in
    let more : c.args.most < length c.loop-with.listing.list = omega (arith, c.len.ensures.count, c.if-len-most.true) in
    found-longer c.args.most _ _ more (omega (arith, longer, c.loop-with.invariant.set.longer more))

pub returns-clause-set : goal.returns-clause-set
returns-clause-set g c =
    let m = g.M.Measure in
    let p = c.args.placing.now.problem.now in
    let amounts = amounts_of m.shape m.sum p.travel c.args.groups.now in
    let up : length (rules_of p c.args.placing.now.class) ≤ c.loop-with.with-index = rw (← c.requires.rules) c.loop-with-test.false in
    rw (take_all c.loop-with.with-index (rules_of p c.args.placing.now.class) up) at c.loop-with.invariant.set
