use Rattle.tt_improve.proofs.ClassLemmas.{own_no_better}
use Rattle.tt_improve.proofs.classes.look_at.Goals as goal

pub returns-then-has_value-clause-better : goal.returns-then-has_value-clause-better
returns-then-has_value-clause-better c =
    let h = c.args.state.now in
    own_no_better h.problem h.present c.args.placement.now.class c.args.placement.now.value c.args.best (c.has_value.ensures.0 c.if-has_value.true) c.requires.low
