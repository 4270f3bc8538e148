use Rattle.std.proofs.Common.{◌∙◌, sym, arith}
use Rattle.std.proofs.lemmas.Bool.{lt-leb}
use Rattle.tt_struct.proofs.LengthLemmas.{too_long}
use Rattle.tt_struct.proofs.is_enrolment.Goals as goal

pub returns-else-classes-most : goal.returns-else-classes-most
returns-else-classes-most c =
    lt-leb _ _ c.if-classes-most.false
    ∙ sym (too_long c.args.problem.now c.args.student c.args.classes.now (omega (arith, c.most_classes_of-most.ensures.most, c.if-classes-most.false)))
