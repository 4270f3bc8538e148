use Rattle.tt_search.specs.Turns.{is_available}
use Rattle.tt_search.specs.Numbers.{prices_of}
use Rattle.tt_search.proofs.ChoiceLemmas.{passed_by_counters, passed_on, price_after}
use Rattle.tt_search.proofs.turn.look_at.Goals as goal

pub returns-then-not-may_be_offered-clause-lightest : goal.returns-then-not-may_be_offered-clause-lightest
returns-then-not-may_be_offered-clause-lightest c = λ xs are.
    let start = c.args.state.now in
    passed_by_counters start.problem c.args.aim.now start.present c.args.class (is_available start.problem start.present c.args.class) xs c.args.least.now c.args.value
    (rw (c.price.ensures, c.placement-placement.ensures.class, c.placement-placement.ensures.value) at (c.may_be_offered.ensures.passed c.if-not-may_be_offered.true)) are

pub returns-clause-lightest : goal.returns-clause-lightest
returns-clause-lightest c = λ xs are.
    let start = c.args.state.now in
    let prices = prices_of start.problem c.args.aim.now start.present c.args.class in
    let priced = price_after start c.may_be_offered.new.state c.args.aim.now c.args.class c.args.value _ _ (rw (c.placement-placement.ensures.class, c.placement-placement.ensures.value) at (c.may_be_offered.ensures.found c.if-not-may_be_offered.false)) c.tolls-weight.ensures.tolls (rw c.problem.ensures at c.is_stray-strays.ensures) in
    passed_on prices (is_available start.problem start.present c.args.class) xs c.take.new.self c.args.value (rw (c.placement-placement.ensures.class, c.placement-placement.ensures.value) at (c.may_be_offered.ensures.available c.if-not-may_be_offered.false)) ((rw c.placement-placement.ensures.value at c.take.ensures.lightest) prices xs priced are)

pub returns-clause-placements : goal.returns-clause-placements
returns-clause-placements c = λ are. c.take.ensures.placements c.args.state.now.problem c.args.class (record { class_is = c.placement-placement.ensures.class; placement = c.placement-placement.ensures.placement }) are
