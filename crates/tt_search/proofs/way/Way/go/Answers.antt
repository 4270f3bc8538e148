use Rattle.std.proofs.Common.{◌≡◌, []}
use Rattle.tt_search.specs.MovedNow.{AreMoved}
use Rattle.tt_search.specs.Searched.{rank_of}
use Rattle.tt_search.proofs.DrawingLemmas.{candidates_changed}
use Rattle.tt_search.proofs.MovedLemmas.{moved_changed, moved_is}
use Rattle.tt_search.proofs.WayLemmas.{leads_on}
use Rattle.tt_state.specs.History.{trail}
use Rattle.tt_search.proofs.way.Way.go.Goals as goal

pub follow-requires : goal.follow-requires
follow-requires c =
    let before = c.args.state.now in
    let after = c.make.new.state in
    let problem : after.problem ≡ before.problem = c.in_ok-make.ensures.step.problem in
    record { late = rw problem (candidates_changed before.problem before.present after.present c.args.self.now.candidates _ c.in_ok-make.ensures.others c.requires.at.candidates) }

pub follow-requires-2-clause-late : goal.follow-requires-2-clause-late
follow-requires-2-clause-late c =
    let before = c.args.state.now in
    let aim = c.args.aim.now in
    let after = c.make.new.state in
    let problem : after.problem ≡ before.problem = c.in_ok-make.ensures.step.problem in
    rw problem (moved_changed before.problem aim before.present after.present c.args.self.now.moved _ c.in_ok-make.ensures.others c.requires.at.moved)

pub returns-clause-best : goal.returns-clause-best
returns-clause-best c =
    let before = c.args.state.now in
    let aim = c.args.aim.now in
    let after = c.make.new.state in
    let problem : after.problem ≡ before.problem = c.in_ok-make.ensures.step.problem in
    let moved : AreMoved before.problem aim after.present.plan c.follow-2.new.self [] = rw problem at c.follow-2.ensures in
    let rank = rw problem at (c.moment.ensures.rank aim) in
    let ranked = rank (moved_is before.problem aim after.present c.follow-2.new.self c.requires.belongs moved) in
    rw c.better-self.ensures (leads_on (rank_of before.problem aim) (trail before) (trail after) after.present c.args.self.now.best c.moment.result c.in_ok-make.ensures.trail ranked c.moment.ensures.place)
