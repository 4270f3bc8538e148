use Rattle.std.proofs.Common.{◌≡◌, ◌∙◌, ◌<◌, ◌∷◌, All, [], length, ap, arith, rules}
use Rattle.std.specs.Prelude.{slice_set}
use Rattle.std.proofs.lemmas.List.{length-set}
use Rattle.std.proofs.lemmas.List.Elements.{All-head, All-tail}
use Rattle.tt_roster.specs.Lists.{list_of}
use Rattle.tt_score.specs.Table.{RowSeen, table_row}
use Rattle.tt_score.proofs.TableLemmas.{between-first, between-none, classes-set, row-any, leave-step}
use Rattle.tt_score.proofs.table.leave_in.Goals as goal
use Rattle.tt_score.proofs.table.leave_in.Goals.{In-Some}

pub returns-then-class-table : goal.returns-then-class-table
returns-then-class-table c = between-none c.args.class [] (list_of c.args.roster.now.seats c.args.student) c.args.table.now c.requires.whole (omega (arith, c.if-class-table.true))

pub loop-other-init : goal.loop-other-init
loop-other-init c =
    let list = list_of c.args.roster.now.seats c.args.student in
    let same : c.into_iter-other-iterator.result ≡ list = search rules in
    record {
      can = tt;
      finite = tt;
      within = rw same (c.requires.list c.args.class (omega (arith, c.if-class-table.false)));
      between = rw same (between-first c.args.class list c.args.table.now);
    }

-- the class and the other are of the table
here : (c : In-Some) → c.args.class < length c.loop-other.table
here c = omega (arith, c.loop-other.invariant.between.same, c.if-class-table.false)

ahead : (c : In-Some) → All (λ other. other < length c.loop-other.table) (c.in-Some.other ∷ c.next.new.self)
ahead c = rw c.in-Some.ensures.steps at c.loop-other.invariant.within

there : (c : In-Some) → c.in-Some.other < length c.loop-other.table
there c = All-head (λ other. other < length c.loop-other.table) c.in-Some.other c.next.new.self (ahead c)

pub take-requires : goal.take-requires
take-requires c =
    let at = (goal.at.take-requires c).In-Some in
    let before = c.loop-other.invariant.between in
    let first = row-any c.loop-other.table c.args.class c.index-table-class.result (here at) in
    omega (arith, there at, before.same, before.long c.args.class, c.requires.long c.args.class (omega (arith, c.if-class-table.false)), ap (λ (row : RowSeen). row.classes) first)

pub take-requires-in-loop-other : goal.take-requires-in-loop-other
take-requires-in-loop-other c =
    let at = (goal.at.take-requires-in-loop-other c).In-Some in
    let before = c.loop-other.invariant.between in
    let table = c.loop-other.table in
    let new = c.take.new.self in
    let other = c.in-Some.other in
    let first = row-any table c.args.class c.index-table-class.result (here at) in
    let classes : new.classes ≡ (table_row table c.args.class).classes = c.take.ensures.classes ∙ ap (λ (row : RowSeen). row.classes) first in
    let long = length-set table c.args.class new in
    let second = row-any (slice_set table c.args.class new) other c.index-table-other.result (omega (arith, there at, long)) in
    let same = classes-set table c.args.class other new (here at) classes in
    let of : (table_row c.args.table.now other).classes ≡ length c.args.table.now = c.requires.long other (omega (arith, there at, before.same)) in
    omega (arith, here at, before.same, before.long other, of, same, ap (λ (row : RowSeen). row.classes) second)

pub loop-other-preserved : goal.loop-other-preserved
loop-other-preserved c =
    let at = (goal.at.loop-other-preserved c).In-Some in
    let before = rw c.in-Some.ensures.steps at c.loop-other.invariant.between in
    let table = c.loop-other.table in
    let new = c.take.new.self in
    let new2 = c.take-in-loop-other.new.self in
    let other = c.in-Some.other in
    let first = row-any table c.args.class c.index-table-class.result (here at) in
    let long = length-set table c.args.class new in
    let table1 = slice_set table c.args.class new in
    let second = row-any table1 other c.index-table-other.result (omega (arith, there at, long)) in
    let both = length-set table1 other new2 in
    record {
      can = tt;
      finite = tt;
      within = rw (both, long) (All-tail (λ o. o < length table) other c.next.new.self (ahead at));
      between = leave-step c.args.class other (list_of c.args.roster.now.seats c.args.student) c.next.new.self c.args.table.now table new new2 (here at) (there at) before
          (c.take.ensures.classes ∙ ap (λ (row : RowSeen). row.classes) first) (rw first at c.take.ensures.pairs)
          (c.take-in-loop-other.ensures.classes ∙ ap (λ (row : RowSeen). row.classes) second) (rw second at c.take-in-loop-other.ensures.pairs);
    }
