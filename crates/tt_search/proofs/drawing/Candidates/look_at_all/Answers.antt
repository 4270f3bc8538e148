use Rattle.std.proofs.Common.{◌<◌, ◌≤◌, ◌-◌, ◌+◌, length, arith}
use Rattle.std.specs.List.{range_with_len}
use Rattle.tt_search.proofs.DrawingLemmas.{all_late, late_first, late_none}
use Rattle.tt_search.proofs.drawing.Candidates.look_at_all.Goals as goal

pub loop-class-init : goal.loop-class-init
loop-class-init c = all_late c.args.state.now.problem c.args.state.now.present c.args.self.now c.requires.kept

pub loop-class-preserved : goal.loop-class-preserved
loop-class-preserved c =
    let now = c.args.state.now in
    let count = rw c.problem.ensures at c.class_count-class-end.ensures.count in
    let k = c.loop-class.class in
    let below : k < length now.problem.classes = omega (arith, count) in
    c.look_at.ensures.right (range_with_len (k + 1) (length now.problem.classes - (k + 1))) (late_first now.problem now.present c.loop-class.self k below c.loop-class.invariant)

pub returns : goal.returns
returns c =
    let now = c.args.state.now in
    let count = rw c.problem.ensures at c.class_count-class-end.ensures.count in
    let past : length now.problem.classes ≤ c.loop-class.class = omega (arith, count) in
    late_none now.problem now.present c.loop-class.self c.loop-class.class past c.loop-class.invariant
