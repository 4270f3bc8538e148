use Rattle.std.proofs.Common.{◌≡◌}
use Rattle.std.specs.List.{list_any}
use Rattle.tt_choice.specs.Pieces.{places_between}
use Rattle.tt_choice.specs.Open.{may_come}
use Rattle.tt_choice.specs.Standings.{situation_in}
use Rattle.tt_choice.proofs.ahead.can_be_filled.Given as goal

abbrev pub invariant-loop-class : goal.invariant-loop-class
invariant-loop-class l =
    let test = may_come (situation_in l.standing) l.front l.rest in
    list_any test (places_between l.class l.fn.span.after) ≡ list_any test (places_between l.fn.span.first l.fn.span.after)
