use Rattle.std.proofs.Common.{ap, sym, ◌∙◌}
use Rattle.tt_state.specs.Snapshots.{list_in}
use Rattle.tt_improve.specs.Pairs.{has_pair_with}
use Rattle.tt_improve.proofs.ApartLemmas.{no_pair}
use Rattle.tt_improve.proofs.StudentLemmas.{list_below_at}
use Rattle.tt_improve.proofs.pairs.has_pair.Goals as goal

pub loop-class-init : goal.loop-class-init
loop-class-init c =
    let h = c.args.state.now in
    let is = c.into_iter-class-iterator.ensures.into_iter_gives ∙ c.classes_of-class-items.ensures in
    record {
      can = tt;
      finite = tt;
      below = list_below_at h.problem h.present c.args.student c.into_iter-class-iterator.result c.soundness.ensures.present c.requires is;
      ahead = ap (has_pair_with h.problem h.present c.args.course (list_in h.present c.args.student)) is;
    }

pub returns-clause-none : goal.returns-clause-none
returns-clause-none c =
    let h = c.args.state.now in
    let list = list_in h.present c.args.student in
    let none = sym c.loop-class.invariant.ahead ∙ ap (has_pair_with h.problem h.present c.args.course list) c.in-None.ensures.steps.0 in
    λ here. no_pair h.problem h.present c.args.student c.args.course c.soundness.ensures.present c.requires none
