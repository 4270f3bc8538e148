use Rattle.tt_roster.specs.Seen.{seen}
use Rattle.tt_roster.proofs.KeptLemmas.{IsRosterOf-unplace_with}
use Rattle.tt_roster.proofs.roster.Roster.unplace_with.Goals as goal

pub overflow_sub-self : goal.overflow_sub-self
overflow_sub-self c =
    let s = c.self.inside in
    let fits = rw (← c.self.view_is) at c.requires.fits in
    let placed = rw (← c.self.view_is) at c.requires.placed in
    let count = rw (← c.self.view_is) at c.requires.less in
    (IsRosterOf-unplace_with c.args.problem.now (seen s.rows.items s.spots.items s.conflicts) c.args.class c.args.less c.validity.ensures fits placed count).0

pub returns-clause-fits : goal.returns-clause-fits
returns-clause-fits c =
    let s = c.self.inside in
    let fits = rw (← c.self.view_is) at c.requires.fits in
    let placed = rw (← c.self.view_is) at c.requires.placed in
    let count = rw (← c.self.view_is) at c.requires.less in
    (IsRosterOf-unplace_with c.args.problem.now (seen s.rows.items s.spots.items s.conflicts) c.args.class c.args.less c.validity.ensures fits placed count).1
