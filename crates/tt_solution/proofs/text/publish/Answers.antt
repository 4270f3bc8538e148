use Rattle.std.proofs.Common.{◌≡◌, ◌∙◌, Ok, ap}
use Rattle.tt_published.specs.Timetable.{Timetable}
use Rattle.tt_solution.proofs.BackLemmas.{drafted_whole}
use Rattle.tt_solution.proofs.LineLemmas.{line_written, line_back, meetings_in}
use Rattle.tt_solution.proofs.text.publish.Goals as goal

pub returns-clause-text : goal.returns-clause-text
returns-clause-text c =
    let same : c.classes.result.now ≡ meetings_in c.args.problem.now c.args.plan.now = c.classes.ensures ∙ ap (λ (t : Timetable). t.classes) c.in_ok-published.ensures.timetable in
    line_written {T = Unit {0}} {E = Unit {0}} (Ok tt) _ _ _ _ _ _ same c.in_ok-append_line.ensures.text

pub returns-clause-back : goal.returns-clause-back
returns-clause-back c =
    let same : c.classes.result.now ≡ meetings_in c.args.problem.now c.args.plan.now = c.classes.ensures ∙ ap (λ (t : Timetable). t.classes) c.in_ok-published.ensures.timetable in
    line_back {T = Unit {0}} {E = Unit {0}} (Ok tt) _ _ _ _ c.validity.ensures c.requires.whole c.requires.domain c.requires.roster same c.in_ok-append_line.ensures.small

pub returns-clause-all : goal.returns-clause-all
returns-clause-all c = drafted_whole c.args.problem.now c.args.plan.now c.args.roster.now c.requires.whole c.requires.roster
