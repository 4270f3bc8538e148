use Rattle.std.proofs.Common.{◌≡◌, ◌+◌, ◌<◌, ◌≤◌, true, false, List, Some, length, refl, ap, sym, ◌∙◌, arith}
use Rattle.std.specs.Prelude.{◌&&◌, not, slice_get}
use Rattle.std.proofs.lemmas.Bool.{and_from, and_left, and_right, not_from_false, not_from_true}
use Rattle.tt_bits.specs.declared.times.Value.{Value}
use Rattle.tt_plan.specs.Domain.{domain_of}
use Rattle.tt_improve.specs.Classes.{is_free}
use Rattle.tt_deluge.specs.ClassRounds.{has_value, next_free, values_from}
use Rattle.tt_deluge.proofs.WalkLemmas.{find-hit, find-miss, turned-get}
use Rattle.tt_deluge.proofs.classes.next_free.Goals as goal
use Rattle.tt_deluge.proofs.classes.next_free.Goals.{else-not-has_value-via-then-not-has_value+else-is_free, else-not-has_value-via-else-not-has_value}

pub loop-k-init : goal.loop-k-init
unfolding next_free
loop-k-init c = record { problem = refl; present = refl; entries = refl; walk = refl }

pub returns-then-is_free-clause-value : goal.returns-then-is_free-clause-value
returns-then-is_free-clause-value c =
    let p = c.args.state.now.problem in
    let s = c.args.state.now.present in
    let class = c.args.class in
    let place = c.args.place in
    let k = c.loop-k.k in
    let v = c.value_at-value.result in
    let domain : List Value = domain_of p class in
    let problem = c.loop-k.invariant.problem in
    let present = c.loop-k.invariant.present in
    let size : c.domain_size-size.result ≡ length domain = rw c.problem.ensures at c.domain_size-size.ensures.size in
    let at = rw (c.problem-in-loop-k.ensures, problem) at c.value_at-value.ensures.value in
    let front : place + k < length domain → c.place_after.result ≡ place + k = λ lt. c.place_after.ensures.front (omega (arith, lt, size)) in
    let back : length domain ≤ place + k → c.place_after.result + length domain ≡ place + k = λ past. omega (arith, size, c.place_after.ensures.back (omega (arith, past, size))) in
    let there : slice_get (values_from p class place) k ≡ Some v = turned-get domain place k c.place_after.result c.requires.place (omega (arith, size, c.loop-k-test.true)) front back ∙ at in
    let free : is_free p s class v ≡ true = rw (problem, present, c.placement-placement.ensures.class, c.placement-placement.ensures.value) at (sym c.is_free.ensures.free ∙ c.if-is_free.true) in
    let had : has_value s class v ≡ false = rw present at (sym c.has_value.ensures ∙ c.if-not-has_value.true) in
    let passes : (is_free p s class v && not (has_value s class v)) ≡ true = and_from (is_free p s class v) (not (has_value s class v)) free (not_from_false (has_value s class v) had) in
    ap Some c.placement-placement.ensures.value ∙ sym (find-hit (λ (v : Value). is_free p s class v && not (has_value s class v)) (values_from p class place) k v there passes) ∙ c.loop-k.invariant.walk

pub loop-k-preserved : goal.loop-k-preserved
loop-k-preserved c =
    let p = c.args.state.now.problem in
    let s = c.args.state.now.present in
    let class = c.args.class in
    let place = c.args.place in
    let k = c.loop-k.k in
    let v = c.value_at-value.result in
    let domain : List Value = domain_of p class in
    let problem = c.loop-k.invariant.problem in
    let present = c.loop-k.invariant.present in
    let entries = c.loop-k.invariant.entries in
    let size : c.domain_size-size.result ≡ length domain = rw c.problem.ensures at c.domain_size-size.ensures.size in
    let at = rw (c.problem-in-loop-k.ensures, problem) at c.value_at-value.ensures.value in
    let front : place + k < length domain → c.place_after.result ≡ place + k = λ lt. c.place_after.ensures.front (omega (arith, lt, size)) in
    let back : length domain ≤ place + k → c.place_after.result + length domain ≡ place + k = λ past. omega (arith, size, c.place_after.ensures.back (omega (arith, past, size))) in
    let there : slice_get (values_from p class place) k ≡ Some v = turned-get domain place k c.place_after.result c.requires.place (omega (arith, size, c.loop-k-test.true)) front back ∙ at in
    let fails : (is_free p s class v && not (has_value s class v)) ≡ false =
    elim c.else-not-has_value.branch [
      | else-not-has_value-via-then-not-has_value+else-is_free w ↦ and_left (is_free p s class v) (not (has_value s class v)) (rw (problem, present, c.placement-placement.ensures.class, c.placement-placement.ensures.value) at (sym w.is_free.ensures.free ∙ w.if-is_free.false))
      | else-not-has_value-via-else-not-has_value w ↦ and_right (is_free p s class v) (not (has_value s class v)) (not_from_true (has_value s class v) (rw present at (sym c.has_value.ensures ∙ w.if-not-has_value.false)))
    ] in
    let walk = find-miss (λ (v : Value). is_free p s class v && not (has_value s class v)) (values_from p class place) k v there fails ∙ c.loop-k.invariant.walk in
    elim c.else-not-has_value.branch [
      | else-not-has_value-via-then-not-has_value+else-is_free w ↦ record { problem = cc (w.state-is, w.is_free.ensures.problem, problem); present = cc (w.state-is, w.is_free.ensures.present, present); entries = cc (w.state-is, w.is_free.ensures.entries, entries); walk = walk }
      | else-not-has_value-via-else-not-has_value w ↦ record { problem = cc (w.state-is, problem); present = cc (w.state-is, present); entries = cc (w.state-is, entries); walk = walk }
    ]
