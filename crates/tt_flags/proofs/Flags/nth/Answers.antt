use Rattle.std.proofs.Common.{◌≡◌, ◌≤◌, ◌-◌, ◌*◌, length, refl, sym, ◌∙◌, ap, arith}
use Rattle.std.specs.Prelude.{slice_get}
use Rattle.tt_flags.specs.Counted.{FlagsAreCounted}
use Rattle.tt_flags.proofs.CountLemmas.{to_the_end, skip_block}
use Rattle.tt_flags.proofs.Flags.nth.Goals as goal

pub loop-count-init : goal.loop-count-init
loop-count-init c =
    let kept : FlagsAreCounted c.args.self.now c.deref-count-items.result.now c.self.inside.count = rw (c.deref-count-items.ensures.value, ← c.self.view_is) c.self.invariant in
    let all : length c.args.self.now - 0 ≡ length c.args.self.now = omega arith in
    record {
      first = refl;
      left = rw all at (ap (λ xs. slice_get xs c.args.place) (to_the_end c.args.self.now 0 (length c.deref-count-items.result.now * 128) kept.reach (omega arith)));
    }

pub returns-then-left-from : goal.returns-then-left-from
returns-then-left-from c =
    let kept : FlagsAreCounted c.args.self.now c.deref-count-items.result.now c.self.inside.count = rw (c.deref-count-items.ensures.value, ← c.self.view_is) c.self.invariant in
    let within : c.loop-count.first ≤ length c.args.self.now = omega (arith, kept.tight, c.loop-count.invariant.first, c.loop-count-test.true) in
    let found = rw (c.deref.ensures.value, c.self.view_is) at c.nth_from.ensures.number in
    record {
      number = found
          ∙ ap (λ xs. slice_get xs c.loop-count.left) (sym (to_the_end c.args.self.now c.loop-count.first (length c.deref-count-items.result.now * 128) kept.reach within))
          ∙ c.loop-count.invariant.left;
    }

pub overflow_add-first : goal.overflow_add-first
overflow_add-first c =
    let kept : FlagsAreCounted c.args.self.now c.deref-count-items.result.now c.self.inside.count = rw (c.deref-count-items.ensures.value, ← c.self.view_is) c.self.invariant in
    omega (arith, kept.tight, kept.few, c.loop-count.invariant.first, c.loop-count-test.true)

pub loop-count-preserved : goal.loop-count-preserved
loop-count-preserved c =
    let kept : FlagsAreCounted c.args.self.now c.deref-count-items.result.now c.self.inside.count = rw (c.deref-count-items.ensures.value, ← c.self.view_is) c.self.invariant in
    let block = rw (← c.loop-count.invariant.first) at (kept.blocks c.loop-count.count-index c.loop-count-test.true) in
    record {
      first = omega (arith, c.loop-count.invariant.first);
      left = skip_block c.args.self.now c.loop-count.first (length c.deref-count-items.result.now * 128) c.loop-count.left c.from-left.result _ (omega (arith, c.loop-count.invariant.first, c.loop-count-test.true)) (c.from-left.ensures ∙ block) (omega (arith, c.from.ensures, c.from-left.ensures, c.if-left-from.false)) c.loop-count.invariant.left;
    }
