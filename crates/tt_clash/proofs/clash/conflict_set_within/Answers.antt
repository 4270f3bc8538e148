use Rattle.std.proofs.Common.{◌<◌, ap, arith, length, sym}
use Rattle.std.proofs.lemmas.Bool.{le-leb, lt-leb}
use Rattle.tt_problem.specs.RulePlaces.{rules_of}
use Rattle.tt_clash.specs.Placings.{placing_of}
use Rattle.tt_clash.specs.ConflictSet.{clashing, conflict_set}
use Rattle.tt_clash.specs.Groups.{amounts_of}
use Rattle.tt_clash.proofs.FreedLemmas.{freed-all}
use Rattle.tt_clash.proofs.clash.conflict_set_within.Goals as goal

pub returns-then-count-most-clause-few : goal.returns-then-count-most-clause-few
returns-then-count-most-clause-few g c =
    let m = g.M.Measure in
    let p = c.args.placing.now.problem.now in
    let set = conflict_set (amounts_of m.shape m.sum p.travel c.args.groups.now) (placing_of c.args.placing.now) in
    let more : c.args.most < length set = c.list_conflict_set-count.ensures.set.longer (omega (arith, c.list_conflict_set-count.ensures.count, c.if-count-most.true)) in
    sym (lt-leb (length set) c.args.most more)

pub returns-clause-few : goal.returns-clause-few
returns-clause-few g c =
    let m = g.M.Measure in
    let p = c.args.placing.now.problem.now in
    let set = conflict_set (amounts_of m.shape m.sum p.travel c.args.groups.now) (placing_of c.args.placing.now) in
    let whole = c.list_conflict_set-count.ensures.set.all (omega (arith, c.list_conflict_set-count.ensures.count, c.if-count-most.false)) in
    sym (le-leb (length set) c.args.most (omega (arith, ap length whole, c.list_conflict_set-count.ensures.count, c.if-count-most.false)))

pub returns-clause-set : goal.returns-clause-set
returns-clause-set g c = λ _. c.list_conflict_set-count.ensures.set.all (omega (arith, c.list_conflict_set-count.ensures.count, c.if-count-most.false))

pub returns-clause-frees : goal.returns-clause-frees
returns-clause-frees g c = λ _.
    let m = g.M.Measure in
    let p = c.args.placing.now.problem.now in
    let amounts = amounts_of m.shape m.sum p.travel c.args.groups.now in
    rw (c.list_conflict_set-count.ensures.set.all (omega (arith, c.list_conflict_set-count.ensures.count, c.if-count-most.false))) (freed-all amounts (placing_of c.args.placing.now) (clashing (placing_of c.args.placing.now)) (rules_of p c.args.placing.now.class) c.requires.free)
