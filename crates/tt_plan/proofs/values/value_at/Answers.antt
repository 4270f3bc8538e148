use Rattle.std.proofs.Common.{arith}
use Rattle.tt_plan.proofs.DomainLemmas.{places_in, value_in, of_domain}
use Rattle.tt_plan.proofs.values.value_at.Goals as goal

pub overflow_cast-result : goal.overflow_cast-result
overflow_cast-result c =
    let places = places_in c.args.problem.now c.args.class c.class.result.now c.args.k c.class.ensures.part c.requires.within in
    let few = c.class.ensures.valid.few_times in
    rw c.values_per_time-count.ensures.count (omega arith)

pub returns-clause-value : goal.returns-clause-value
returns-clause-value c =
    let places = places_in c.args.problem.now c.args.class c.class.result.now c.args.k c.class.ensures.part c.requires.within in
    value_in c.args.problem.now c.args.class c.class.result.now c.args.k c.values_per_time-count.result c.class.ensures.part c.values_per_time-count.ensures.count places

pub returns-clause-of_domain : goal.returns-clause-of_domain
returns-clause-of_domain c =
    let places = places_in c.args.problem.now c.args.class c.class.result.now c.args.k c.class.ensures.part c.requires.within in
    rw c.values_per_time-count.ensures.count (of_domain c.args.problem.now c.args.class c.class.result.now _ c.class.ensures.part c.requires.class (record { time = places.time; room = places.room }))
