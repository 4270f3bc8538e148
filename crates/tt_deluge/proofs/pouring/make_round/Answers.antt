use Rattle.std.proofs.Common.{◌≡◌, true, false, [], Option, ap, sym, ◌∙◌, subst}
use Rattle.std.specs.Prelude.{IfOk}
use Rattle.std.proofs.lemmas.Result.{on_ok_weaker}
use Rattle.tt_state.specs.History.{with_taken}
use Rattle.tt_state.specs.Snapshots.{Snapshot}
use Rattle.tt_deluge.specs.ClassRounds.{class_round}
use Rattle.tt_deluge.specs.Reading.{random_of}
use Rattle.tt_deluge.specs.Standing.{IsRound}
use Rattle.tt_deluge.specs.Views.{targets_in}
use Rattle.tt_deluge.specs.Pieces.{student_round, is_on_class}
use Rattle.tt_deluge.proofs.FoundLemmas.{found-class, found-student}
use Rattle.tt_deluge.proofs.pouring.make_round.Goals as goal

pub returns-then-is_on_class-clause-random : goal.returns-then-is_on_class-clause-random
returns-then-is_on_class-clause-random c =
    let h = c.args.state.now in
    let o = targets_in c.args.work.now.targets in
    let kind = c.draw_below-kind.result in
    let one = random_of c.draw_below-kind.new.random in
    let end = random_of c.round_on_class.new.random in
    let is : is_on_class o kind ≡ true = sym c.is_on_class.ensures ∙ c.if-is_on_class.true in
    let found = found-class h.problem o h.present (random_of c.args.random.now) one kind c.requires.targets c.draw_below-kind.ensures.draw is in
    on_ok_weaker c.round_on_class.result (λ (e : end ≡ (class_round h.problem h.present kind one).1). e ∙ sym (ap (λ f. f.1) found)) c.round_on_class.ensures.random

pub returns-then-is_on_class-clause-round : goal.returns-then-is_on_class-clause-round
returns-then-is_on_class-clause-round c =
    let h = c.args.state.now in
    let o = targets_in c.args.work.now.targets in
    let kind = c.draw_below-kind.result in
    let one = random_of c.draw_below-kind.new.random in
    let end = c.round_on_class.new.state in
    let is : is_on_class o kind ≡ true = sym c.is_on_class.ensures ∙ c.if-is_on_class.true in
    let found = found-class h.problem o h.present (random_of c.args.random.now) one kind c.requires.targets c.draw_below-kind.ensures.draw is in
    subst (λ (f : Option Snapshot). IfOk c.round_on_class.result (IsRound c.args.level f (with_taken h []) (with_taken end []))) (sym (ap (λ f. f.0) found)) c.round_on_class.ensures.round

pub returns-else-is_on_class-clause-random : goal.returns-else-is_on_class-clause-random
returns-else-is_on_class-clause-random c =
    let h = c.args.state.now in
    let o = targets_in c.args.work.now.targets in
    let kind = c.draw_below-kind.result in
    let one = random_of c.draw_below-kind.new.random in
    let end = random_of c.round_on_student.new.random in
    let is : is_on_class o kind ≡ false = sym c.is_on_class.ensures ∙ c.if-is_on_class.false in
    let found = found-student h.problem o h.present (random_of c.args.random.now) one kind c.requires.targets c.draw_below-kind.ensures.draw is in
    on_ok_weaker c.round_on_student.result (λ (e : end ≡ (student_round h.problem h.present one).1). e ∙ sym (ap (λ f. f.1) found)) c.round_on_student.ensures.random

pub returns-else-is_on_class-clause-round : goal.returns-else-is_on_class-clause-round
returns-else-is_on_class-clause-round c =
    let h = c.args.state.now in
    let o = targets_in c.args.work.now.targets in
    let kind = c.draw_below-kind.result in
    let one = random_of c.draw_below-kind.new.random in
    let end = c.round_on_student.new.state in
    let is : is_on_class o kind ≡ false = sym c.is_on_class.ensures ∙ c.if-is_on_class.false in
    let found = found-student h.problem o h.present (random_of c.args.random.now) one kind c.requires.targets c.draw_below-kind.ensures.draw is in
    subst (λ (f : Option Snapshot). IfOk c.round_on_student.result (IsRound c.args.level f (with_taken h []) (with_taken end []))) (sym (ap (λ f. f.0) found)) c.round_on_student.ensures.round
