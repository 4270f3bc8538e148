use Rattle.std.proofs.Common.{◌≡◌, None, replicate, rules}
use Rattle.tt_score.proofs.RowLemmas.{rows-none}
use Rattle.tt_score.proofs.rows.JointRows.new.Goals as goal

pub returns : goal.returns
returns c =
    let spans : c.in_ok-vec.field-0.items ≡ replicate c.args.classes None = search rules in
    rw spans (rows-none _ c.args.classes)
