use Rattle.std.proofs.Common.{refl, arith}
use Rattle.tt_plan.specs.Domain.{domain_of}
use Rattle.tt_search.specs.Numbers.{prices_of}
use Rattle.tt_search.specs.Turns.{is_available}
use Rattle.tt_search.proofs.ChoiceLemmas.{none_found, one_further}
use Rattle.tt_search.proofs.turn.find_lightest.Goals as goal

pub loop-k-init : goal.loop-k-init
loop-k-init c =
    let start = c.args.state.now in
    record {
      problem = refl;
      present = refl;
      entries = refl;
      room = λ other below. omega (arith, c.clear.ensures.room, c.requires.room other below);
      few = rw c.clear.ensures.values (omega arith);
      placements = rw c.clear.ensures.values (λ k d lt. absurd (omega (arith, lt)));
      lightest = none_found (prices_of start.problem c.args.aim.now start.present c.args.class) c.clear.new.self c.clear.ensures.price c.clear.ensures.values;
    }

pub look_at-requires-clause-room : goal.look_at-requires-clause-room
look_at-requires-clause-room c =
    let size = rw (c.problem.ensures) at c.domain_size-k-end.ensures.size in
    omega (arith, size, c.loop-k-test.true, c.loop-k.invariant.few, c.loop-k.invariant.room c.args.class c.requires.class)

pub loop-k-preserved : goal.loop-k-preserved
loop-k-preserved c =
    let start = c.args.state.now in
    let problem = c.loop-k.invariant.problem in
    let present = c.loop-k.invariant.present in
    let at = rw (c.problem-in-loop-k.ensures, problem) at c.value_at-value.ensures.value in
    let looked = rw (problem, present) at c.look_at.ensures.lightest in
    record {
      problem = cc;
      present = cc;
      entries = cc;
      room = λ other below. omega (arith, c.look_at.ensures.room, c.loop-k.invariant.room other below);
      few = omega (arith, c.look_at.ensures.few, c.loop-k.invariant.few);
      placements = (rw problem at c.look_at.ensures.placements) c.loop-k.invariant.placements;
      lightest = one_further (prices_of start.problem c.args.aim.now start.present c.args.class) (is_available start.problem start.present c.args.class) (domain_of start.problem c.args.class) c.loop-k.k c.value_at-value.result c.look_at.new.least at (looked _ c.loop-k.invariant.lightest);
    }
