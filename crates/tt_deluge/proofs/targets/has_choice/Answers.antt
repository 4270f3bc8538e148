use Rattle.std.proofs.Common.{◌≡◌, ℕ, ◌-◌, ◌<◌, true, get_or, ◌∙◌, arith, nat_lt}
use Rattle.std.proofs.lemmas.Bool.Decides.{nat_tests}
use Rattle.std.proofs.lemmas.Option.{slice_get-get_or}
use Rattle.tt_deluge.proofs.TargetLemmas.{choice_many, choice_single}
use Rattle.tt_deluge.proofs.targets.has_choice.Goals as goal

several : (n : ℕ) → 1 < n → nat_lt 1 n ≡ true
several n h = grind (arith, nat_tests)

pub returns-then-configs-gt1 : goal.returns-then-configs-gt1
returns-then-configs-gt1 c =
    let p = c.args.problem.now in
    let part = c.course.result.now in
    let within = c.course.ensures.within in
    let at = slice_get-get_or p.configs part.configs.first part.configs (omega (arith, within.some, within.within)) in
    let more : 1 < part.configs.after - part.configs.first = omega arith in
    several (part.configs.after - part.configs.first) more ∙ choice_many p c.validity.ensures c.args.course part (get_or p.configs part.configs.first part.configs) c.course.ensures.part within at more

pub returns-else-configs-gt1 : goal.returns-else-configs-gt1
returns-else-configs-gt1 c =
    let p = c.args.problem.now in
    choice_single p c.validity.ensures c.args.course c.course.result.now c.config.result c.course.ensures.part c.course.ensures.within c.config.ensures.part c.is_single.result (omega arith) c.is_single.ensures
