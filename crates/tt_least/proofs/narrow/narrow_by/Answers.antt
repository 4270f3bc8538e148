use Rattle.std.proofs.Common.{arith}
use Rattle.tt_least.specs.declared.narrow.Bound.{Bound}
use Rattle.tt_least.specs.Prices.{IsBound}
use Rattle.tt_least.proofs.BoundLemmas.{bound-vain, owed-small}
use Rattle.tt_least.proofs.narrow.narrow_by.Goals as goal

pub overflow_add-limit : goal.overflow_add-limit
overflow_add-limit c = omega (arith, owed-small c.args.table.now c.args.groups.now c.requires.table c.requires.groups, c.requires.groups.owed, c.requires.few)

pub returns-then-sum-limit-clause-none : goal.returns-then-sum-limit-clause-none
returns-then-sum-limit-clause-none c = λ none.
    let t = c.args.table.now in
    let g = c.args.groups.now in
    let l = c.args.level.now in
    let b : Bound = record {
      costs = record { ref_ptr = c.args.costs.ref_ptr; now = c.write_costs-sum.new.costs };
      leasts = record { ref_ptr = c.args.leasts.ref_ptr; now = c.write_costs-sum.new.leasts };
      sum = c.write_costs-sum.result;
      owed = g.owed;
    } in
    let bound : IsBound t g l b = record {
      costs = c.write_costs-sum.ensures.costs;
      leasts = c.write_costs-sum.ensures.leasts;
      sum = c.write_costs-sum.ensures.sum;
      owed = c.requires.groups.owed;
    } in
    bound-vain t g l b c.args.limit c.requires.table c.requires.places c.requires.groups c.requires.node bound (omega arith)
