use Rattle.std.proofs.Common.{ℕ, ◌<◌, ◌+◌, ◌-◌, ◌%◌, get_or, length, arith}
use Rattle.std.proofs.lemmas.Nat.{mod_below}
use Rattle.std.proofs.lemmas.Option.{slice_get-get_or}
use Rattle.tt_problem.specs.declared.parts.Span.{Span}
use Rattle.tt_least.proofs.ChoiceLemmas.{choice-long, choice-set, span-at}
use Rattle.tt_least.proofs.LeastLemmas.{no-span}
use Rattle.tt_least.proofs.exchange.disturb.Goals as goal
use Rattle.tt_least.proofs.exchange.disturb.Goals.{then-span+then-has, then-span+else-has, else-span}

-- a class taken by any number is one of the span's
any-below : (s : Span) (n : ℕ) → s.first < s.after → s.first + n % (s.after - s.first) < s.after
any-below s n some = omega (arith, some, mod_below n (s.after - s.first) (omega (arith, some)))

pub has-requires-clause-class : goal.has-requires-clause-class
has-requires-clause-class c =
    let subparts = c.args.table.now.subparts.now in
    let part = c.next_u32.result % length subparts in
    let within = span-at c.args.table.now part no-span c.requires.table (mod_below c.next_u32.result (length subparts) c.requires.some) in
    let below = any-below (get_or subparts part no-span) c.next_u32-then-span.result c.if-span.true in
    (omega (arith, within.0), omega (arith, below, within.2))

pub bounds-choice-part : goal.bounds-choice-part
bounds-choice-part c =
    let subparts = c.args.table.now.subparts.now in
    omega (arith, mod_below c.next_u32.result (length subparts) c.requires.some, choice-long subparts c.loop.choice c.loop.invariant)

pub loop-preserved : goal.loop-preserved
loop-preserved c =
    let subparts = c.args.table.now.subparts.now in
    let part = c.next_u32.result % length subparts in
    let span = get_or subparts part no-span in
    elim c.if-span.branch [
      | then-span+then-has w ↦
          let number = w.next_u32-then-span.result in
          rw w.choice-is (choice-set subparts c.loop.choice part (span.first + number % (span.after - span.first)) span c.loop.invariant
          (slice_get-get_or subparts part no-span (mod_below c.next_u32.result (length subparts) c.requires.some))
          (omega arith) (any-below span number w.if-span.true))
      | then-span+else-has w ↦ rw w.choice-is c.loop.invariant
      | else-span w ↦ rw w.choice-is c.loop.invariant
    ]
