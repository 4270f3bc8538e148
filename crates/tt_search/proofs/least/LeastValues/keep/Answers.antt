use Rattle.std.proofs.Common.{◌∷◌, [], ap, refl, sym}
use Rattle.std.proofs.lemmas.List.{length-map}
use Rattle.tt_state.specs.Values.{total_with}
use Rattle.tt_search.specs.LeastNow.{total_numbers, values_of}
use Rattle.tt_search.proofs.ChoiceLemmas.{set_value, total_above, total_kept}
use Rattle.tt_search.proofs.least.LeastValues.keep.Goals as goal

pub returns-in_default-clause-least : goal.returns-in_default-clause-least
returns-in_default-clause-least c = λ xs are.
    let start = c.args.state.now in
    let placed = c.args.placement in
    total_above (total_numbers start.problem start.present placed.class) xs (values_of c.args.self.now.values.items) c.args.kept placed.value (total_with start.problem start.present placed.class placed.value) refl
    c.in_default.ensures.none c.in_default.ensures.above are

pub returns-clause-least : goal.returns-clause-least
returns-clause-least c = λ xs are.
    let start = c.args.state.now in
    let placed = c.args.placement in
    let items = c.args.self.now.values.items in
    rw (set_value items c.staying-count.result placed)
    (total_kept (total_numbers start.problem start.present placed.class) xs (values_of items) c.args.kept placed.value c.in-Some.total c.staying-count.result (ap (λ n. n ∷ []) (sym c.in-Some.ensures.total))
    (rw (length-map items (λ x. x.value)) c.requires.within) c.in-Some.ensures.most c.staying-count.ensures.none c.staying-count.ensures.below c.staying-count.ensures.same are)
