use Rattle.std.proofs.Common.{◌≡◌, ◌∙◌, ℕ, Option, Some, None, refl, ap, sym}
use Rattle.std.specs.List.{find}
use Rattle.std.specs.Option.{option_map}
use Rattle.tt_state.specs.declared.obstacle.Obstacle.TheVariants as obstacle
use Rattle.tt_state.specs.Snapshots.{is_locked_in}
use Rattle.tt_clash.specs.declared.Block.{Block}
use Rattle.tt_bits.specs.declared.times.Value.{Value}
use Rattle.tt_state.specs.Values.{blocked_of, conflict_set_of, obstacle_of}
use Rattle.tt_state.specs.History.{Contents, with_taken}
use Rattle.tt_state.proofs.ObstacleLemmas.{obstacle_blocked, obstacle_open}
use Rattle.tt_state.proofs.state.State.find_obstacle.Goals as goal
use Rattle.tt_state.proofs.state.State.find_obstacle.Goals.{After-blocked}

-- what is said of the placement is said of the class and the value
blocked_is : (c : After-blocked) → c.blocked.result ≡ blocked_of c.args.self.now.problem c.args.self.now.present.closures c.args.class c.args.value
blocked_is c = rw (c.placement-placement.ensures.class, c.placement-placement.ensures.value) at c.blocked.ensures

pub returns-in-Some-clause-obstacle : goal.returns-in-Some-clause-obstacle
returns-in-Some-clause-obstacle c =
    let h = c.args.self.now in
    let at = goal.at.returns-in-Some-clause-obstacle c in
    sym (obstacle_blocked h.problem h.present c.args.class c.args.value c.in-Some.block (sym (blocked_is at.After-blocked) ∙ c.in-Some.is))

none_given : (o : Option Block) → ((x : Block) → o ≡ Some x → ⊥) → o ≡ None
none_given None not = refl
none_given (Some x) not = absurd (not x refl)

pub find_conflicts-requires-clause-open : goal.find_conflicts-requires-clause-open
find_conflicts-requires-clause-open c =
    let at = goal.at.find_conflicts-requires-clause-open c in
    sym (blocked_is at.After-blocked) ∙ none_given c.blocked.result c.in_default.not-Some

-- where the value isn't blocked, the first class of the conflict set that is locked stands in its way
obstacle_is : (h new : Contents) (class : ℕ) (v : Value) (first : Option ℕ) → blocked_of h.problem h.present.closures class v ≡ None → new ≡ with_taken h (conflict_set_of h.problem h.present class v) → first ≡ find (is_locked_in new.present) new.taken
    → option_map (λ other. obstacle.Held other) first ≡ obstacle_of h.problem h.present class v
obstacle_is h new class v first open_one found is =
    ap (option_map (λ other. obstacle.Held other)) (is ∙ ap (λ (n : Contents). find (is_locked_in n.present) n.taken) found) ∙ sym (obstacle_open h.problem h.present class v open_one)

pub returns-in-None-clause-obstacle : goal.returns-in-None-clause-obstacle
returns-in-None-clause-obstacle c =
    let at = goal.at.returns-in-None-clause-obstacle c in
    let open_one = sym (blocked_is at.After-blocked) ∙ none_given c.blocked.result c.in_default.not-Some in
    ap (option_map (λ other. obstacle.Held other)) (sym c.in-None.is) ∙ obstacle_is c.args.self.now c.find_conflicts.new.self c.args.class c.args.value c.first_locked.result open_one c.find_conflicts.ensures.found c.first_locked.ensures.first

pub returns-in-Some-first_locked-clause-obstacle : goal.returns-in-Some-first_locked-clause-obstacle
returns-in-Some-first_locked-clause-obstacle c =
    let at = goal.at.returns-in-Some-first_locked-clause-obstacle c in
    let open_one = sym (blocked_is at.After-blocked) ∙ none_given c.blocked.result c.in_default.not-Some in
    ap (option_map (λ other. obstacle.Held other)) (sym c.in-Some-first_locked.is)
    ∙ obstacle_is c.args.self.now c.find_conflicts.new.self c.args.class c.args.value c.first_locked.result open_one c.find_conflicts.ensures.found c.first_locked.ensures.first
