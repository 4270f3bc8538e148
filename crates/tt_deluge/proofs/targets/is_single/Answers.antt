use Rattle.std.proofs.Common.{◌≡◌, ℕ, ◌<◌, Bool, true, false, arith, nat_le}
use Rattle.std.specs.List.{list_all}
use Rattle.std.proofs.lemmas.Bool.Decides.{nat_tests}
use Rattle.tt_problem.specs.declared.parts.Span.{Span}
use Rattle.tt_problem.specs.ListLengths.{span_length, spans_at}
use Rattle.tt_struct.proofs.SpanWalks.{all_stops, all_goes}
use Rattle.tt_deluge.proofs.targets.is_single.Goals as goal

-- the subpart has at most one class
abbrev few : Span → Bool
few subpart = nat_le (span_length subpart) 1

more : (n : ℕ) → 1 < n → nat_le n 1 ≡ false
more n h = grind (arith, nat_tests)

at_most : (n : ℕ) → n < 2 → nat_le n 1 ≡ true
at_most n h = grind (arith, nat_tests)

pub returns-then-subpart-gt1 : goal.returns-then-subpart-gt1
returns-then-subpart-gt1 c =
    let p = c.args.problem.now in
    all_stops few p.subparts c.loop-place.place c.args.config.after c.subpart-subpart.result (list_all few (spans_at p.subparts c.args.config)) c.loop-place-test.true c.subpart-subpart.ensures.part
    (more (span_length c.subpart-subpart.result) (omega arith)) c.loop-place.invariant

pub loop-place-preserved : goal.loop-place-preserved
loop-place-preserved c =
    let p = c.args.problem.now in
    all_goes few p.subparts c.loop-place.place c.args.config.after c.subpart-subpart.result (list_all few (spans_at p.subparts c.args.config)) c.loop-place-test.true c.subpart-subpart.ensures.part
    (at_most (span_length c.subpart-subpart.result) (omega arith)) c.loop-place.invariant
