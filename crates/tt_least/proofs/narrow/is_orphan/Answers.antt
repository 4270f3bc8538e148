use Rattle.std.proofs.Common.{sym, ◌∙◌}
use Rattle.std.proofs.lemmas.Bool.{not-true}
use Rattle.tt_least.proofs.NarrowLemmas.{orphan}
use Rattle.tt_least.proofs.narrow.is_orphan.Goals as goal

pub returns-in-Some : goal.returns-in-Some
returns-in-Some c = λ gone choice h allowed.
    orphan c.args.table.now c.args.level.now c.args.class c.in-Some.parent c.requires.table (cc)
    (λ here. rw (c.as_slice.ensures.value) at (sym (c.is_left.ensures here) ∙ not-true c.is_left.result gone)) choice h allowed
