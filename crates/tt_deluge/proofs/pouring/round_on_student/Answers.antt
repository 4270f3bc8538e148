use Rattle.std.proofs.Common.{◌≡◌, Bool, Some, None, [], cond, false, get_or, length, map, ap, sym, ◌∙◌}
use Rattle.std.specs.Prelude.{option_map, slice_get}
use Rattle.std.proofs.lemmas.Option.{slice_get-get_or, slice_get-map}
use Rattle.std.proofs.lemmas.List.{length-map}
use Rattle.std.proofs.lemmas.Result.{on_ok_weaker}
use Rattle.tt_state.specs.History.{trail, with_taken}
use Rattle.tt_improve.specs.declared.targets.Target.TheVariants.{Course}
use Rattle.tt_deluge.specs.declared.targets.Choice.{Choice}
use Rattle.tt_deluge.specs.Reading.{random_of}
use Rattle.tt_deluge.specs.Standing.{BeginsWith, IsRound, StandsAs}
use Rattle.tt_deluge.specs.StudentRounds.{choice_drawn}
use Rattle.tt_deluge.specs.Views.{target_of}
use Rattle.tt_deluge.specs.Pieces.{student_round, made_within}
use Rattle.tt_deluge.proofs.FoundLemmas.{drawn-seated, student-round-is}
use Rattle.tt_deluge.proofs.RoundLemmas.{if_ok_join}
use Rattle.tt_deluge.proofs.pouring.round_on_student.Goals as goal

pub student_round-requires-clause-target : goal.student_round-requires-clause-target
student_round-requires-clause-target c =
    let h = c.args.state.now in
    let choices = c.args.choices.now in
    let at = c.draw_below.result in
    let choice : Choice = get_or choices at (record { student = 0; course = 0 }) in
    let here : slice_get choices at ≡ Some choice = slice_get-get_or choices at (record { student = 0; course = 0 }) (c.draw_below.ensures.below c.requires.some) in
    let there : slice_get (map target_of choices) at ≡ Some (Course choice.student choice.course) = slice_get-map target_of choices at ∙ ap (option_map target_of) here in
    drawn-seated h.problem h.present (map target_of choices) at choice.student choice.course c.requires.choices there

pub returns-clause-random : goal.returns-clause-random
returns-clause-random c =
    let h = c.args.state.now in
    let choices = c.args.choices.now in
    let at = c.draw_below.result in
    let choice : Choice = get_or choices at (record { student = 0; course = 0 }) in
    let here : slice_get choices at ≡ Some choice = slice_get-get_or choices at (record { student = 0; course = 0 }) (c.draw_below.ensures.below c.requires.some) in
    let there : slice_get (map target_of choices) at ≡ Some (Course choice.student choice.course) = slice_get-map target_of choices at ∙ ap (option_map target_of) here in
    let is = student-round-is h.problem (map target_of choices) h.present (random_of c.args.random.now) (random_of c.draw_below.new.random) at (length choices) (Course choice.student choice.course) c.requires.choices (sym (length-map choices target_of)) c.draw_below.ensures.draw there in
    on_ok_weaker c.student_round.result (λ (e : random_of c.student_round.new.random ≡ (choice_drawn h.problem h.present (Course choice.student choice.course) (random_of c.draw_below.new.random)).1). e ∙ sym (ap (λ f. f.1) is)) c.student_round.ensures.random

pub returns-clause-round : goal.returns-clause-round
returns-clause-round c =
    let h = c.args.state.now in
    let end = c.student_round.new.state in
    let choices = c.args.choices.now in
    let at = c.draw_below.result in
    let choice : Choice = get_or choices at (record { student = 0; course = 0 }) in
    let target = Course choice.student choice.course in
    let here : slice_get choices at ≡ Some choice = slice_get-get_or choices at (record { student = 0; course = 0 }) (c.draw_below.ensures.below c.requires.some) in
    let there : slice_get (map target_of choices) at ≡ Some (Course choice.student choice.course) = slice_get-map target_of choices at ∙ ap (option_map target_of) here in
    let is = student-round-is h.problem (map target_of choices) h.present (random_of c.args.random.now) (random_of c.draw_below.new.random) at (length choices) (Course choice.student choice.course) c.requires.choices (sym (length-map choices target_of)) c.draw_below.ensures.draw there in
    let found : (student_round h.problem h.present (random_of c.args.random.now)).0 ≡ (choice_drawn h.problem h.present (Course choice.student choice.course) (random_of c.draw_below.new.random)).0 = ap (λ f. f.0) is in
    if_ok_join c.student_round.result
    (λ (made : Bool). made_within h.problem c.args.level (choice_drawn h.problem h.present (Course choice.student choice.course) (random_of c.draw_below.new.random)).0 ≡ cond made (Some end.present) None)
    (λ (made : Bool). made ≡ false → end.present ≡ h.present)
    (IsRound c.args.level (student_round h.problem h.present (random_of c.args.random.now)).0 (with_taken h []) (with_taken end []))
    (BeginsWith (trail h) (trail end)) (StandsAs h.problem h.present end.present)
    (λ made change same front stands. record { change = ap (made_within h.problem c.args.level) found ∙ change; same = same; front = front; stands = stands })
    c.student_round.ensures.made c.student_round.ensures.same c.student_round.ensures.trail c.student_round.ensures.stands
