use Rattle.std.proofs.Common.{◌≡◌, ◌≤◌, length, arith}
use Rattle.std.proofs.lemmas.Grind.{common_steps}
use Rattle.tt_least.proofs.LeafLemmas.{written-choice, written-vain}
use Rattle.tt_least.proofs.leaf.keep_choice.Goals as goal

pub is_within-requires-clause-choice : goal.is_within-requires-clause-choice
is_within-requires-clause-choice c =
    let same : c.as_slice.result.now ≡ c.write_front.new.front = grind (arith, common_steps) in
    let room : length c.args.table.now.subparts.now ≤ length c.write_front.new.front = omega arith in
    rw same (written-choice c.args.table.now c.args.level.now c.write_front.new.front c.requires.node room c.write_front.ensures)

pub returns-then-not-is_within-clause-none : goal.returns-then-not-is_within-clause-none
returns-then-not-is_within-clause-none c = λ e.
    let same : c.as_slice.result.now ≡ c.write_front.new.front = grind (arith, common_steps) in
    let room : length c.args.table.now.subparts.now ≤ length c.write_front.new.front = omega arith in
    written-vain c.args.table.now c.args.level.now c.args.limit c.write_front.new.front room c.write_front.ensures
    (rw (← same, ← c.as_slice-2.ensures.value) (c.is_within.ensures.no c.if-not-is_within.true))
