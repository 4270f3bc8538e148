use Rattle.std.proofs.Common.{◌≡◌, ◌<◌, ◌≤◌, ◌+◌, Some, length, take, ap, sym, ◌∙◌, rules, arith}
use Rattle.std.specs.Prelude.{slice_get}
use Rattle.std.proofs.lemmas.List.{length-map, take-map, take_all}
use Rattle.std.proofs.lemmas.Option.{slice_get-get_or, slice_get-map}
use Rattle.std.specs.Option.{option_map}
use Rattle.tt_plan.specs.declared.placement.Placement.{Placement}
use Rattle.tt_search.specs.LeastNow.{total_numbers, values_of}
use Rattle.tt_search.specs.PlaceTurns.{all_least}
use Rattle.tt_search.proofs.ChoiceLemmas.{rest_at, next_kept}
use Rattle.tt_search.proofs.KeptLemmas.{stands_at}
use Rattle.tt_search.proofs.LeastLemmas.{all_of_few}
use Rattle.tt_search.proofs.least.LeastValues.keep_least.Goals as goal

pub returns-then-len-lt2-clause-least : goal.returns-then-len-lt2-clause-least
returns-then-len-lt2-clause-least c =
    let start = c.args.state.now in
    let values = c.args.self.now.values in
    let few : length values.items < 2 = search rules in
    all_of_few (total_numbers start.problem start.present c.args.class) (values_of values.items) (rw (length-map values.items (λ x. x.value)) few)

pub keep-kept-requires-clause-placement : goal.keep-kept-requires-clause-placement
keep-kept-requires-clause-placement c =
    let items = c.loop-place.self.values.items in
    let place = c.loop-place.place in
    let placement = c.index-placement.result.now in
    let within : place < length items = search rules in
    let at : slice_get items place ≡ Some placement = slice_get-get_or items place placement within ∙ ap Some (sym c.index-placement.ensures) in
    rw c.loop-place.invariant.same (stands_at c.args.state.now.problem c.args.class items c.args.self.now.values.items place placement c.requires.placements c.loop-place.invariant.rest at).placement

pub keep-kept-requires-clause-without : goal.keep-kept-requires-clause-without
keep-kept-requires-clause-without c =
    let items = c.loop-place.self.values.items in
    let place = c.loop-place.place in
    let placement = c.index-placement.result.now in
    let within : place < length items = search rules in
    let at : slice_get items place ≡ Some placement = slice_get-get_or items place placement within ∙ ap Some (sym c.index-placement.ensures) in
    let class_is = (stands_at c.args.state.now.problem c.args.class items c.args.self.now.values.items place placement c.requires.placements c.loop-place.invariant.rest at).class_is in
    rw (c.loop-place.invariant.same, class_is) c.without-without.ensures.without

pub loop-place-preserved : goal.loop-place-preserved
loop-place-preserved c =
    let start = c.args.state.now in
    let on = c.loop-place.invariant in
    let items = c.loop-place.self.values.items in
    let whole = c.args.self.now.values.items in
    let place = c.loop-place.place in
    let placement = c.index-placement.result.now in
    let within : place < length items = search rules in
    let at : slice_get items place ≡ Some placement = slice_get-get_or items place placement within ∙ ap Some (sym c.index-placement.ensures) in
    let class_is = (stands_at start.problem c.args.class items whole place placement c.requires.placements on.rest at).class_is in
    let next = rest_at items whole place placement on.rest at in
    let value : slice_get (values_of whole) place ≡ Some placement.value = slice_get-map (λ x. x.value) whole place ∙ ap (option_map (λ (x : Placement). x.value)) next.0 in
    record {
      same = c.keep-kept.ensures.same ∙ on.same;
      room = c.keep-kept.ensures.room ∙ on.room;
      len = c.keep-kept.ensures.len ∙ on.len;
      few = omega (arith, c.keep-kept.ensures.few, on.few);
      rest = c.keep-kept.ensures.rest (place + 1) (omega (arith, on.few)) ∙ next.1;
      least = next_kept (total_numbers start.problem start.present c.args.class) (values_of whole) place placement.value (values_of c.keep-kept.new.self.values.items) c.keep-kept.result value
          ((rw (on.same, class_is) at c.keep-kept.ensures.least) (take place (values_of whole)) on.least);
    }

pub returns-clause-least : goal.returns-clause-least
returns-clause-least c =
    let start = c.args.state.now in
    let items = c.loop-place.self.values.items in
    let whole = c.args.self.now.values.items in
    let kept : c.truncate.new.self.items ≡ take c.loop-place.kept.count items = search rules in
    let long : length (values_of whole) ≡ length whole = length-map whole (λ x. x.value) in
    let done : length whole ≤ c.loop-place.place = search rules in
    let all = take_all c.loop-place.place (values_of whole) (omega (arith, long, done)) in
    ap values_of kept
    ∙ sym (take-map (λ x. x.value) c.loop-place.kept.count items)
    ∙ c.loop-place.invariant.least.items
    ∙ ap (all_least (total_numbers start.problem start.present c.args.class)) all
