use Rattle.std.proofs.Common.{sym, ◌∙◌}
use Rattle.tt_base.proofs.ListLemmas.{drop_at}
use Rattle.tt_published.proofs.ValueLemmas.{unpublished}
use Rattle.tt_published.proofs.values.published_value.Goals as goal

pub returns-then-not-has-clause-value : goal.returns-then-not-has-clause-value
returns-then-not-has-clause-value c =
    sym (unpublished c.args.problem.now c.args.published.now c.args.class (sym c.has.ensures ∙ c.if-not-has.true))

pub returns-then-same-clause-value : goal.returns-then-same-clause-value
returns-then-same-clause-value c =
    rw (drop_at _ _ _ c.value_at-value.ensures.value, sym c.same.ensures ∙ c.if-same.true) at c.loop-k.invariant

pub loop-k-preserved : goal.loop-k-preserved
loop-k-preserved c =
    rw (drop_at _ _ _ c.value_at-value.ensures.value, sym c.same.ensures ∙ c.if-same.false) at c.loop-k.invariant
