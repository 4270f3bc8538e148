use Rattle.std.proofs.Common.{◌≡◌, ◌+◌, ◌-◌, ◌*◌, ◌<◌, ◌≤◌, arith, ap, length, take, drop, get_or, length-set, length-drop}
use Rattle.tt_problem.specs.declared.parts.Span.{Span}
use Rattle.tt_choice.specs.Standings.{situation_in}
use Rattle.tt_choice.specs.Ahead.{IsSure, IsLeastOf}
use Rattle.tt_choice.proofs.AheadLemmas.{sure-more, written-more}
use Rattle.tt_choice.proofs.Steps.{slice_rest}
use Rattle.tt_choice.proofs.ahead.look_ahead.Goals as goal

abbrev none : Span
none = record { first = 0; after = 0 }

pub loop-place-preserved : goal.loop-place-preserved
loop-place-preserved c =
    let s = situation_in c.args.standing.now in
    let before = c.loop-place.invariant in
    let n = length c.args.subparts.now in
    let place = c.loop-place.place in
    let sure = get_or c.loop-place.ahead place 0 in
    let value = c.least_pairs.result + sure in
    let e : place - 1 + 1 ≡ place = omega arith in
    let last : place - 1 < n = omega (arith, before.within) in
    let rest : IsSure s (drop (place - 1 + 1) c.args.subparts.now) sure = rw e (before.each place (omega arith) before.within) in
    let whole : take (n - place) (drop place c.args.subparts.now) ≡ drop place c.args.subparts.now = slice_rest c.args.subparts.now place in
    let least : IsLeastOf s (get_or c.args.subparts.now (place - 1) none) (drop (place - 1 + 1) c.args.subparts.now) c.least_pairs.result = rw e (rw whole at c.least_pairs.ensures.least) in
    let long : length (take (n - place) (drop place c.args.subparts.now)) ≤ 20000 = omega (arith, ap length whole, length-drop place c.args.subparts.now, c.requires.few) in
    let few : value ≤ (n - (place - 1)) * 820000 = omega (arith, before.few place (omega arith) before.within, c.least_pairs.ensures.few, c.args.standing.now.few_already, before.within, long) in
    record {
      long = rw length-set before.long;
      within = omega (arith, before.within);
      each = written-more (λ k v. IsSure s (drop k c.args.subparts.now) v) c.loop-place.ahead place n value c.loop-place-test.true before.within before.long before.each
          (sure-more s c.args.subparts.now (place - 1) none c.least_pairs.result sure last least rest);
      few = written-more (λ k v. v ≤ (n - k) * 820000) c.loop-place.ahead place n value c.loop-place-test.true before.within before.long before.few few;
    }
