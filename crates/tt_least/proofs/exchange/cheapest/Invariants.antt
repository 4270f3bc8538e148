use Rattle.std.proofs.Common.{◌≡◌, true}
use Rattle.std.specs.Prelude.{slice_index_or}
use Rattle.tt_problem.specs.Spans.{is_in}
use Rattle.tt_least.proofs.LeastLemmas.{no-span}
use Rattle.tt_least.proofs.exchange.cheapest.Given as goal

abbrev pub invariant-loop-class : goal.invariant-loop-class
invariant-loop-class l = is_in l.best (slice_index_or l.table.subparts.now l.part no-span) ≡ true
