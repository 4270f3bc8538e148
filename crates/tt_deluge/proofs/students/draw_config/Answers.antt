use Rattle.std.proofs.Common.{◌-◌, ◌<◌, ℕ, ap, ◌∙◌, arith}
use Rattle.tt_deluge.specs.Draws.{draw_next}
use Rattle.tt_deluge.specs.Reading.{random_of}
use Rattle.tt_deluge.proofs.ChoiceLemmas.{config_drawn}
use Rattle.tt_deluge.proofs.students.draw_config.Goals as goal

pub returns-clause-config : goal.returns-clause-config
returns-clause-config c =
    let p = c.args.problem.now in
    let part = c.course.result.now in
    let place = c.draw_below-place.result in
    let random = random_of c.args.random.now in
    let some : 0 < c.from.result = omega (arith, c.from.ensures, c.course.ensures.within.some) in
    let below : place < part.configs.after - part.configs.first = omega (arith, c.from.ensures, c.draw_below-place.ensures.below some) in
    config_drawn p c.args.course part place random (random_of c.draw_below-place.new.random) c.config.result c.course.ensures.part c.course.ensures.within
    (c.draw_below-place.ensures.draw ∙ ap (λ (n : ℕ). draw_next n random) c.from.ensures) below c.config.ensures.part
