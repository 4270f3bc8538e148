use Rattle.std.proofs.Common.{◌≡◌, ◌<◌, length, arith}
use Rattle.tt_published.specs.Published.{is_moved}
use Rattle.tt_published.proofs.MovedLemmas.{moved_few}
use Rattle.tt_suggest.proofs.MovedLemmas.{moved_numbers, told_few}
use Rattle.tt_suggest.proofs.moved.moved_by.Goals as goal

pub overflow_add-result : goal.overflow_add-result
overflow_add-result c =
    let now = c.args.state.now in
    let count = rw c.problem.ensures at c.class_count-few.ensures.count in
    omega (arith, count, c.class_count-few.ensures.few, c.requires.moved, c.requires.belongs.classes, moved_few now.problem now.present.plan c.args.published.now, told_few c.will_be_moved-will.result c.from.result c.from.ensures)

pub overflow_sub-result : goal.overflow_sub-result
overflow_sub-result c =
    let now = c.args.state.now in
    let t = c.args.published.now in
    let within : c.args.class < length t.classes = omega (arith, c.requires.may.within, c.requires.belongs.classes) in
    let was : c.is_moved-was.result ≡ is_moved now.problem now.present.plan t c.args.class = cc (c.problem-2.ensures, c.plan.ensures, c.score.ensures.plan, c.is_moved-was.ensures) in
    omega (arith, moved_numbers now.problem now.present.plan t c.args.class c.args.value c.args.moved c.from-2.result c.from.result c.is_moved-was.result c.will_be_moved-will.result within c.requires.moved was c.will_be_moved-will.ensures c.from-2.ensures c.from.ensures)

pub returns : goal.returns
returns c =
    let now = c.args.state.now in
    let t = c.args.published.now in
    let within : c.args.class < length t.classes = omega (arith, c.requires.may.within, c.requires.belongs.classes) in
    let was : c.is_moved-was.result ≡ is_moved now.problem now.present.plan t c.args.class = cc (c.problem-2.ensures, c.plan.ensures, c.score.ensures.plan, c.is_moved-was.ensures) in
    omega (arith, moved_numbers now.problem now.present.plan t c.args.class c.args.value c.args.moved c.from-2.result c.from.result c.is_moved-was.result c.will_be_moved-will.result within c.requires.moved was c.will_be_moved-will.ensures c.from-2.ensures c.from.ensures)
