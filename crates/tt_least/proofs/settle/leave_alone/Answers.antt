use Rattle.std.proofs.Common.{◌-◌, arith, inl, inr}
use Rattle.tt_least.proofs.ChoiceLemmas.{in-bounds}
use Rattle.tt_least.proofs.SettleLemmas.{outside-span}
use Rattle.tt_least.proofs.settle.leave_alone.Goals as goal

pub returns : goal.returns
returns c =
    let kept = c.loop-place.invariant in
    let here = in-bounds c.args.class c.args.span c.requires.class in
    record {
      long = kept.long;
      one = kept.one;
      others = λ d inside other.
          let there = in-bounds d c.args.span inside in
          kept.passed (d - c.args.first) (omega (arith, there, c.requires.from)) (omega (arith, there, here, c.requires.from)) (omega (arith, there, here, c.requires.from, other));
      rest = λ d from outside. elim (outside-span d c.args.span outside) [
        | inl early ↦ kept.before (d - c.args.first) (omega (arith, early, from))
        | inr late ↦ kept.behind (d - c.args.first) (omega (arith, late, here, from))
      ];
    }
