use Rattle.std.proofs.Common.{◌≡◌, ◌∷◌, ◌++◌, [], ap, sym, ◌∙◌, rules}
use Rattle.std.proofs.lemmas.List.{map-append}
use Rattle.tt_search.specs.LeastNow.{values_of}
use Rattle.tt_search.proofs.ChoiceLemmas.{found_above, found_below, found_equal}
use Rattle.tt_search.proofs.least.LeastValues.take.Goals as goal

pub returns-then-is_below-clause-lightest : goal.returns-then-is_below-clause-lightest
returns-then-is_below-clause-lightest c = λ prices xs priced are.
    let set = c.set-then-is_below in
    found_below prices xs c.args.self.now set.new.self c.args.placement.now.value c.args.price c.in-Some.least c.in-Some.is priced (sym c.is_below.ensures ∙ c.if-is_below.true) set.ensures.price (ap values_of set.ensures.values) are

pub returns-then-not-is_below-clause-lightest : goal.returns-then-not-is_below-clause-lightest
returns-then-not-is_below-clause-lightest c = λ prices xs priced are.
    let more : c.push.new.self.items ≡ c.args.self.now.values.items ++ c.args.placement.now ∷ [] = search rules in
    found_equal prices xs c.args.self.now c.args.placement.now.value c.args.price c.in-Some.least _ c.in-Some.is priced (sym c.is_below.ensures ∙ c.if-is_below.false) (sym c.is_below-2.ensures ∙ c.if-not-is_below.true) (ap values_of more ∙ map-append (λ x. x.value) c.args.self.now.values.items (c.args.placement.now ∷ [])) are

pub returns-else-not-is_below-clause-lightest : goal.returns-else-not-is_below-clause-lightest
returns-else-not-is_below-clause-lightest c = λ prices xs priced are.
    found_above prices xs c.args.self.now c.args.placement.now.value c.args.price c.in-Some.least c.in-Some.is priced (sym c.is_below-2.ensures ∙ c.if-not-is_below.false) are
