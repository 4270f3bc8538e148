use Rattle.std.proofs.Common.{◌≡◌, ◌<◌, ◌≤◌, ◌-◌, ◌+◌, [], Some, None, refl, sym, ap, ◌∙◌, arith}
use Rattle.rand_core.specs.Steps.{stream_of, steps_u32}
use Rattle.rand_core.specs.Stream.{next_u32}
use Rattle.rand_pcg.specs.Pcg.{pcg32}
use Rattle.tt_state.specs.History.{earlier, trail, with_taken}
use Rattle.tt_search.specs.Turns.{turn_of}
use Rattle.tt_draw.proofs.WordLemmas.{random_from}
use Rattle.tt_search.specs.Searched.{after_turns, rank_of}
use Rattle.tt_search.specs.UnderWay.{search_end}
use Rattle.tt_state.proofs.StepLemmas.{within_next, within_same, within_still}
use Rattle.tt_search.proofs.WayLemmas.{made_turn, makes_one, no_turn, no_turn_left, start_way}
use Rattle.tt_search.proofs.ListLemmas.{on_err}
use Rattle.tt_search.proofs.seeking.make_turns.Goals as goal

pub loop-made-init : goal.loop-made-init
unfolding search_end
loop-made-init g c =
    let start = c.args.state.now in
    let aim = c.args.aim.now in
    let begins = c.requires.begins in
    let whole : c.args.turns - 0 ≡ c.args.turns = omega arith in
    let random = random_from c.args.seed c.new-random.result c.new-random.ensures in
    record {
      step = within_same (with_taken start []);
      at = begins.at;
      way = rw (whole, random) (start_way (rank_of start.problem aim) start.present (trail start) (after_turns start.problem aim c.args.turns c.args.seed start.present) c.args.way.now.best c.requires.trail begins.ranked begins.first);
    }

pub next_turn-requires-clause-candidates : goal.next_turn-requires-clause-candidates
next_turn-requires-clause-candidates g c = rw c.loop-made.invariant.step.problem c.loop-made.invariant.at.candidates

pub next_turn-requires-clause-room : goal.next_turn-requires-clause-room
next_turn-requires-clause-room g c = rw c.loop-made.invariant.step.problem c.loop-made.invariant.at.room

pub go-requires-clause-at : goal.go-requires-clause-at
go-requires-clause-at g c =
    let begun = c.loop-made.invariant.step.problem in
    let at = c.loop-made.invariant.at in
    rw (c.next_turn.ensures.problem, c.next_turn.ensures.present, begun) (record { candidates = at.candidates; moved = at.moved; room = rw begun at c.next_turn.ensures.room })

pub go-requires-clause-may : goal.go-requires-clause-may
go-requires-clause-may g c = rw (c.next_turn.ensures.problem, c.next_turn.ensures.present) c.in-Some.ensures.may

pub go-requires-clause-step : goal.go-requires-clause-step
go-requires-clause-step g c =
    let same : earlier c.next_turn.new.state ≡ earlier c.args.state.now = rw (c.next_turn.ensures.present, c.next_turn.ensures.entries) c.loop-made.invariant.step.earlier in
    rw same c.requires.step

pub loop-made-preserved : goal.loop-made-preserved
loop-made-preserved g c =
    let start = c.args.state.now in
    let aim = c.args.aim.now in
    let before = c.loop-made.state in
    let moved = c.next_turn.new.state in
    let after = c.go.new.state in
    let same_problem = c.next_turn.ensures.problem in
    let same_present = c.next_turn.ensures.present in
    let same_entries = c.next_turn.ensures.entries in
    let begun : before.problem ≡ start.problem = c.loop-made.invariant.step.problem in
    let problem : moved.problem ≡ start.problem = same_problem ∙ begun in
    let turn : turn_of start.problem aim c.next_u32-word.result before.present ≡ Some after.present =
    rw (← begun) (c.in-Some.ensures.turn ∙ ap Some (sym (rw (same_problem, same_present) at c.in_ok-go.ensures.present))) in
    let below : c.loop-made.made < c.args.turns = omega arith in
    let onward_is = made_turn next_u32 (turn_of start.problem aim) c.args.turns c.loop-made.made (stream_of (steps_u32 pcg32) c.loop-made.random) (stream_of (steps_u32 pcg32) c.next_u32-word.new.self) c.next_u32-word.result before.present after.present below c.next_u32-word.ensures turn in
    let same_trail : trail moved ≡ trail before = rw (same_present, same_entries) refl in
    record {
      step = within_next _ _ _ c.loop-made.invariant.step (within_next _ _ _ (within_still (with_taken before []) (with_taken moved []) same_problem same_present same_entries refl) c.in_ok-go.ensures.step);
      at = rw problem at c.in_ok-go.ensures.at;
      way = rw (problem, same_trail) at c.in_ok-go.ensures.best _ c.loop-made.made _ _ (rw onward_is at c.loop-made.invariant.way);
    }

pub returns-in_default-clause-step : goal.returns-in_default-clause-step
returns-in_default-clause-step g c =
    within_next _ _ _ c.loop-made.invariant.step (within_still (with_taken c.loop-made.state []) (with_taken c.next_turn.new.state []) c.next_turn.ensures.problem c.next_turn.ensures.present c.next_turn.ensures.entries refl)

pub returns-in_err-go-clause-step : goal.returns-in_err-go-clause-step
returns-in_err-go-clause-step g c =
    within_next _ _ _ c.loop-made.invariant.step
    (within_next _ _ _ (within_still (with_taken c.loop-made.state []) (with_taken c.next_turn.new.state []) c.next_turn.ensures.problem c.next_turn.ensures.present c.next_turn.ensures.entries refl) c.in_err-go.ensures.step)

pub returns-in_default-clause-way : goal.returns-in_default-clause-way
returns-in_default-clause-way g c =
    let start = c.args.state.now in
    let aim = c.args.aim.now in
    let before = c.loop-made.state in
    let moved = c.next_turn.new.state in
    let turn : turn_of start.problem aim c.next_u32-word.result before.present ≡ None = rw (← c.loop-made.invariant.step.problem) c.in_default.ensures.turn in
    let onward_is = no_turn next_u32 (turn_of start.problem aim) (c.args.turns - c.loop-made.made) (stream_of (steps_u32 pcg32) c.loop-made.random) (stream_of (steps_u32 pcg32) c.next_u32-word.new.self) c.next_u32-word.result before.present c.next_u32-word.ensures turn in
    let same_trail : trail moved ≡ trail before = rw (c.next_turn.ensures.present, c.next_turn.ensures.entries) refl in
    rw same_trail (rw onward_is at c.loop-made.invariant.way)

pub returns-clause-way : goal.returns-clause-way
returns-clause-way g c =
    let start = c.args.state.now in
    let aim = c.args.aim.now in
    let all : c.args.turns ≤ c.loop-made.made = omega arith in
    let onward_is = no_turn_left next_u32 (turn_of start.problem aim) c.args.turns c.loop-made.made (stream_of (steps_u32 pcg32) c.loop-made.random) c.loop-made.state.present all in
    let way = rw onward_is at c.loop-made.invariant.way in
    let made : c.args.turns ≡ c.loop-made.made = omega arith in
    record { now = way.now; at = way.at; ranked = way.ranked; ends = way.ends; counts = ap (λ n. n + 0) made ∙ way.counts }

pub returns-in_err-go-clause-memory : goal.returns-in_err-go-clause-memory
returns-in_err-go-clause-memory g c =
    let start = c.args.state.now in
    let aim = c.args.aim.now in
    let below : c.loop-made.made < c.args.turns = omega arith in
    let turn = rw c.loop-made.invariant.step.problem at c.in-Some.ensures.turn in
    let one = makes_one next_u32 (turn_of start.problem aim) c.args.turns c.loop-made.made (stream_of (steps_u32 pcg32) c.loop-made.random) (stream_of (steps_u32 pcg32) c.next_u32-word.new.self) c.next_u32-word.result c.loop-made.state.present _ below c.next_u32-word.ensures turn in
    on_err c.from_residual.result (omega (arith, c.loop-made.invariant.way.counts, one))
