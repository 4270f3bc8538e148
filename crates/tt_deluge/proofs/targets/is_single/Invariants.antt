use Rattle.std.proofs.Common.{◌≡◌, nat_le}
use Rattle.std.specs.List.{list_all}
use Rattle.tt_problem.specs.ListLengths.{span_length, spans_at}
use Rattle.tt_struct.proofs.SpanWalks.{from}
use Rattle.tt_deluge.proofs.targets.is_single.Given as goal

abbrev pub invariant-loop-place : goal.invariant-loop-place
invariant-loop-place l =
    list_all (λ subpart. nat_le (span_length subpart) 1) (spans_at l.problem.subparts (from l.place l.fn.config.after))
    ≡ list_all (λ subpart. nat_le (span_length subpart) 1) (spans_at l.problem.subparts l.fn.config)
