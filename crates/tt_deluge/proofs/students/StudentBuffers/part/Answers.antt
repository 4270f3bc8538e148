use Rattle.std.proofs.Common.{◌++◌, ℕ, List, ap, ◌∙◌}
use Rattle.tt_improve.specs.Courses.{own_of, rest_of}
use Rattle.tt_improve.proofs.StudentLemmas.{list_below_at}
use Rattle.tt_deluge.proofs.students.StudentBuffers.part.Goals as goal

pub loop-class-init : goal.loop-class-init
loop-class-init c =
    let h = c.args.state.now in
    let is = c.into_iter-class-iterator.ensures.into_iter_gives ∙ c.classes_of-class-items.ensures in
    record {
      can = tt;
      finite = tt;
      below = list_below_at h.problem h.present c.args.student c.into_iter-class-iterator.result c.soundness.ensures.present c.requires is;
      own = ap (λ (xs : List ℕ). xs ++ own_of h.problem c.args.course c.into_iter-class-iterator.result) c.clear.ensures.items ∙ ap (own_of h.problem c.args.course) is;
      rest = ap (λ (xs : List ℕ). xs ++ rest_of h.problem c.args.course c.into_iter-class-iterator.result) c.clear-2.ensures.items ∙ ap (rest_of h.problem c.args.course) is;
    }
