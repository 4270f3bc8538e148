use Rattle.std.proofs.Common.{ap}
use Rattle.std.proofs.lemmas.Result.{on_ok_weaker}
use Rattle.tt_state.proofs.FaultLemmas.{may_have_enrolment}
use Rattle.tt_state.proofs.StepLemmas.{within_answered}
use Rattle.tt_choice.proofs.seating.seat.Goals as goal

pub section_step-requires-clause-valid : goal.section_step-requires-clause-valid
section_step-requires-clause-valid c = may_have_enrolment c.args.state.now.problem c.args.student c.args.classes.now c.requires.may.enrolment

pub returns-clause-now : goal.returns-clause-now
returns-clause-now c = on_ok_weaker c.section_step.result (λ desk. ap (λ d. d.present) desk) c.section_step.ensures.desk

pub returns-clause-step : goal.returns-clause-step
returns-clause-step c = within_answered c.section_step.result c.args.state.now c.section_step.new.self c.section_step.ensures.step c.section_step.ensures.err
