use Rattle.std.proofs.Common.{List, refl, sym, subst, ap, ◌∙◌}
use Rattle.std.specs.Prelude.{All}
use Rattle.tt_bits.specs.declared.times.Value.{Value}
use Rattle.tt_draw.specs.Draws.{drawn}
use Rattle.tt_search.specs.Numbers.{IsAvailable}
use Rattle.tt_search.specs.PlacingNow.{burden_by, prices_by}
use Rattle.tt_search.proofs.ChoiceLemmas.{least_by_both}
use Rattle.tt_search.proofs.DrawingLemmas.{drawn_below}
use Rattle.tt_search.proofs.KeptLemmas.{least_available, standing_available}
use Rattle.tt_search.proofs.PlacingLemmas.{least_same, no_class, one_class}
use Rattle.tt_search.proofs.placing.next_turn.Goals as goal

pub returns-in_default-clause-turn : goal.returns-in_default-clause-turn
returns-in_default-clause-turn c = λ outs counts.
    let start = c.args.state.now in
    no_class start.problem c.args.class_word c.args.value_word (record { snapshot = start.present; outs = outs })
    (sym (c.drawn.ensures start.problem start.present c.requires.candidates) ∙ c.in_default.is)

pub find_lightest-requires-clause-class : goal.find_lightest-requires-clause-class
find_lightest-requires-clause-class c =
    let start = c.args.state.now in
    drawn_below start.problem start.present c.args.class_word _ (sym (c.drawn.ensures start.problem start.present c.requires.candidates) ∙ c.in-Some.is)

pub keep_least-requires-clause-class : goal.keep_least-requires-clause-class
keep_least-requires-clause-class c =
    let start = c.args.state.now in
    rw c.find_lightest.ensures.problem (drawn_below start.problem start.present c.args.class_word _ (sym (c.drawn.ensures start.problem start.present c.requires.candidates) ∙ c.in-Some.is))

pub keep_least-requires-clause-placements : goal.keep_least-requires-clause-placements
keep_least-requires-clause-placements c = rw c.find_lightest.ensures.problem c.find_lightest.ensures.placements

pub returns-clause-turn : goal.returns-clause-turn
returns-clause-turn c = λ outs counts.
    let start = c.args.state.now in
    let class = c.in-Some.class in
    let found = c.find_lightest.ensures in
    let least = rw (found.problem, found.present) at c.keep_least.ensures.least in
    let values = least_by_both start.problem start.present class (prices_by start.problem start.present c.args.weights.now.outs.items class) (λ x y. refl) _ _ found.lightest.items least in
    let same = least_same start.problem start.present outs c.args.weights.now class _ counts values in
    one_class start.problem c.args.class_word c.args.value_word (record { snapshot = start.present; outs = outs }) class c.drawn-value.result
    (sym (c.drawn.ensures start.problem start.present c.requires.candidates) ∙ c.in-Some.is)
    (ap (drawn c.args.value_word) (sym same) ∙ sym c.drawn-value.ensures)

pub returns-clause-may : goal.returns-clause-may
returns-clause-may c =
    let start = c.args.state.now in
    let class = c.in-Some.class in
    let found = c.find_lightest.ensures in
    let outs = c.args.weights.now.outs.items in
    let least = rw (found.problem, found.present) at c.keep_least.ensures.least in
    let values = least_by_both start.problem start.present class (prices_by start.problem start.present outs class) (λ x y. refl) _ _ found.lightest.items least in
    standing_available start.problem start.present class _ _ c.drawn-value.result
    (subst (λ (vs : List Value). All (IsAvailable start.problem start.present class) vs) (sym values) (least_available start.problem start.present class (burden_by start.problem start.present outs class)))
    (sym c.drawn-value.ensures)
