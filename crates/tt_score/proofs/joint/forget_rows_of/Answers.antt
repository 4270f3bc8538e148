use Rattle.std.proofs.Common.{◌∙◌, ◌∷◌, length, sym, ap}
use Rattle.tt_roster.specs.Lists.{list_of}
use Rattle.tt_score.specs.Rows.{row_at}
use Rattle.tt_score.proofs.RowLemmas.{row-left, rows-left, rows_without}
use Rattle.tt_score.proofs.joint.forget_rows_of.Goals as goal

pub returns-clause-long : goal.returns-clause-long
returns-clause-long c =
    let all = sym (ap (λ list. rows_without list c.loop-other.rows) c.in-None.ensures.steps.0) ∙ c.loop-other.invariant.rows in
    ap length all ∙ rows-left (c.args.class ∷ list_of c.args.roster.now.seats c.args.student) c.args.rows.now

pub returns-clause-left : goal.returns-clause-left
returns-clause-left c = λ class.
    let all = sym (ap (λ list. rows_without list c.loop-other.rows) c.in-None.ensures.steps.0) ∙ c.loop-other.invariant.rows in
    ap (λ rows. row_at rows class) all ∙ row-left (c.args.class ∷ list_of c.args.roster.now.seats c.args.student) c.args.rows.now class
