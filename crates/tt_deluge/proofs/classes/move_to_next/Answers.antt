use Rattle.std.proofs.Common.{◌≡◌, [], Option, Some, ap, sym, ◌∙◌, subst}
use Rattle.std.specs.Prelude.{IfOk}
use Rattle.std.specs.Option.{option_map}
use Rattle.tt_bits.specs.declared.times.Value.{Value}
use Rattle.tt_plan.specs.declared.placement.Placement.{Placement}
use Rattle.tt_state.specs.History.{with_taken}
use Rattle.tt_state.specs.Snapshots.{Snapshot, with_value}
use Rattle.tt_deluge.specs.Standing.{IsClassRound}
use Rattle.tt_deluge.specs.Pieces.{moved_to_next}
use Rattle.tt_deluge.proofs.classes.move_to_next.Goals as goal

pub move_within-requires-clause-class : goal.move_within-requires-clause-class
move_within-requires-clause-class c = rw (c.next_free.ensures.problem, c.next_free.ensures.present, c.in-Some.ensures.class) c.requires.class

pub returns-in-Some-clause-round : goal.returns-in-Some-clause-round
returns-in-Some-clause-round c =
    let h = c.args.state.now in
    let class = c.args.class in
    let e = c.next_free.ensures in
    let found : moved_to_next h.problem h.present class c.args.place ≡ Some (with_value h.present class (Some c.in-Some.placement.value)) =
    ap (option_map (λ (v : Value). with_value h.present class (Some v))) (sym e.value ∙ ap (option_map (λ (x : Placement). x.value)) c.in-Some.is) in
    let round = rw (e.problem, e.present, e.entries, c.in-Some.ensures.class) at c.move_within.ensures.round in
    subst (λ (o : Option Snapshot). IfOk c.move_within.result (IsClassRound c.args.level o (with_taken h []) (with_taken c.move_within.new.state []))) (sym found) round
