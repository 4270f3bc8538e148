use Rattle.std.proofs.Common.{◌≡◌, ◌^◌, ◌<◌, ◌∙◌, [], refl, arith}
use Rattle.tt_state.specs.History.{earlier, trail, with_taken}
use Rattle.tt_draw.proofs.WordLemmas.{random_from}
use Rattle.tt_state.proofs.StepLemmas.{within_next, within_same, within_still}
use Rattle.tt_search.proofs.PlacingLemmas.{all_placing, far_off, next_placing, no_placing, starts_placing, turn_made, two_drawn}
use Rattle.tt_search.proofs.ListLemmas.{on_err}
use Rattle.tt_search.proofs.placing.make_place_turns.Goals as goal

pub loop-made-init : goal.loop-made-init
loop-made-init g c =
    let start = c.args.state.now in
    let begins = c.requires.begins in
    let random = random_from c.args.seed c.new-random.result c.new-random.ensures in
    record {
      step = within_same (with_taken start []);
      at = begins.at;
      placing = starts_placing start.problem c.args.turns c.args.seed start.present _ (trail start) c.args.weights.now c.args.way.now.best c.requires.counts random c.requires.trail begins.ranked begins.first;
    }

pub next_turn-found-requires-clause-candidates : goal.next_turn-found-requires-clause-candidates
next_turn-found-requires-clause-candidates g c = rw c.loop-made.invariant.step.problem c.loop-made.invariant.at.candidates

pub next_turn-found-requires-clause-whole : goal.next_turn-found-requires-clause-whole
next_turn-found-requires-clause-whole g c = rw c.loop-made.invariant.step.problem c.loop-made.invariant.placing.counts.whole

pub next_turn-found-requires-clause-room : goal.next_turn-found-requires-clause-room
next_turn-found-requires-clause-room g c = rw c.loop-made.invariant.step.problem c.loop-made.invariant.at.room

pub go-requires-clause-at : goal.go-requires-clause-at
go-requires-clause-at g c =
    let begun = c.loop-made.invariant.step.problem in
    let at = c.loop-made.invariant.at in
    rw (c.none.ensures, c.next_turn-found.ensures.problem, c.next_turn-found.ensures.present, begun) (record { candidates = at.candidates; moved = at.moved; room = rw begun at c.next_turn-found.ensures.room })

pub go-requires-clause-step : goal.go-requires-clause-step
go-requires-clause-step g c =
    let same : earlier c.next_turn-found.new.state ≡ earlier c.args.state.now = rw (c.next_turn-found.ensures.present, c.next_turn-found.ensures.entries) c.loop-made.invariant.step.earlier in
    rw same c.requires.step

pub loop-made-preserved : goal.loop-made-preserved
loop-made-preserved g c =
    let start = c.args.state.now in
    let before = c.loop-made.state in
    let moved = c.next_turn-found.new.state in
    let after = c.go.new.state in
    let same_problem = c.next_turn-found.ensures.problem in
    let same_present = c.next_turn-found.ensures.present in
    let same_entries = c.next_turn-found.ensures.entries in
    let begun : before.problem ≡ start.problem = c.loop-made.invariant.step.problem in
    let problem : moved.problem ≡ start.problem = same_problem ∙ begun in
    let same_trail : trail moved ≡ trail before = rw (same_present, same_entries) refl in
    let random = two_drawn c.next_u32-class_word.result c.next_u32-value_word.result _ _ _ c.next_u32-class_word.ensures c.next_u32-value_word.ensures in
    let turn = rw (begun, c.in-Some.is) at c.next_turn-found.ensures.turn in
    record {
      step = within_next _ _ _ c.loop-made.invariant.step (within_next _ _ _ (within_still (with_taken before []) (with_taken moved []) same_problem same_present same_entries refl) c.in_ok-go.ensures.step);
      at = rw (c.none.ensures, problem) at c.in_ok-go.ensures.at;
      placing = next_placing _ _ _ _ c.loop-made.made _ _ _ before.present after.present (trail before) (trail after) c.loop-made.weights c.count_out.new.self c.loop-made.way.best c.go.new.self.best c.in-Some.next after.taken
          c.loop-made.invariant.placing (omega arith) random turn (rw (problem, same_present) at c.in_ok-go.ensures.present) (rw (problem, same_present) at c.in_ok-go.ensures.taken) (rw (c.none.ensures, problem, same_trail) at c.in_ok-go.ensures.best)
          c.count_out.ensures.whole c.count_out.ensures.counts c.count_out.ensures.few;
    }

pub count_out-requires-clause-room : goal.count_out-requires-clause-room
count_out-requires-clause-room g c =
    let below : c.loop-made.made < 2 ^ 32 = omega arith in
    far_off _ _ _ _ _ _ _ _ _ _ c.loop-made.invariant.placing below

pub returns-in_default-clause-step : goal.returns-in_default-clause-step
returns-in_default-clause-step g c =
    within_next _ _ _ c.loop-made.invariant.step (within_still (with_taken c.loop-made.state []) (with_taken c.next_turn-found.new.state []) c.next_turn-found.ensures.problem c.next_turn-found.ensures.present c.next_turn-found.ensures.entries refl)

pub returns-in_err-go-clause-step : goal.returns-in_err-go-clause-step
returns-in_err-go-clause-step g c =
    within_next _ _ _ c.loop-made.invariant.step
    (within_next _ _ _ (within_still (with_taken c.loop-made.state []) (with_taken c.next_turn-found.new.state []) c.next_turn-found.ensures.problem c.next_turn-found.ensures.present c.next_turn-found.ensures.entries refl) c.in_err-go.ensures.step)

pub returns-in_default-clause-way : goal.returns-in_default-clause-way
returns-in_default-clause-way g c =
    let same_trail : trail c.next_turn-found.new.state ≡ trail c.loop-made.state = rw (c.next_turn-found.ensures.present, c.next_turn-found.ensures.entries) refl in
    let random = two_drawn c.next_u32-class_word.result c.next_u32-value_word.result _ _ _ c.next_u32-class_word.ensures c.next_u32-value_word.ensures in
    let turn = rw (c.loop-made.invariant.step.problem, c.in_default.is) at c.next_turn-found.ensures.turn in
    rw same_trail (no_placing _ _ _ _ c.loop-made.made _ _ _ c.loop-made.state.present (trail c.loop-made.state) c.loop-made.weights c.loop-made.way.best c.loop-made.invariant.placing random turn)

pub returns-clause-way : goal.returns-clause-way
returns-clause-way g c =
    let made : c.args.turns ≡ c.loop-made.made = omega arith in
    all_placing _ _ _ _ c.loop-made.made _ c.loop-made.state.present (trail c.loop-made.state) c.loop-made.weights c.loop-made.way.best c.loop-made.invariant.placing made

pub returns-in_err-go-clause-memory : goal.returns-in_err-go-clause-memory
returns-in_err-go-clause-memory g c =
    let before = c.loop-made.state in
    let random = two_drawn c.next_u32-class_word.result c.next_u32-value_word.result _ _ _ c.next_u32-class_word.ensures c.next_u32-value_word.ensures in
    let turn = rw (c.loop-made.invariant.step.problem, c.in-Some.is) at c.next_turn-found.ensures.turn in
    on_err c.from_residual.result
    (turn_made _ _ _ _ c.loop-made.made _ _ _ before.present (trail before) c.loop-made.weights c.loop-made.way.best c.loop-made.invariant.placing (omega arith) random (λ outs counts. rw (turn outs counts) refl))
