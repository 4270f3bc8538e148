use Rattle.std.proofs.Common.{◌≡◌, ◌<◌, Bool, Some, None, [], cond, false, get_or, length, ap, sym, ◌∙◌, arith}
use Rattle.std.specs.Prelude.{slice_get}
use Rattle.std.proofs.lemmas.Option.{slice_get-get_or}
use Rattle.tt_plan.specs.Domain.{domain_of}
use Rattle.tt_state.specs.History.{trail, with_taken}
use Rattle.tt_improve.specs.Standing.{IsMovable}
use Rattle.tt_deluge.specs.ClassRounds.{class_change, class_round}
use Rattle.tt_deluge.specs.Reading.{random_of}
use Rattle.tt_deluge.specs.Standing.{BeginsWith, IsRound, StandsAs}
use Rattle.tt_deluge.specs.Pieces.{made_within}
use Rattle.tt_deluge.proofs.FoundLemmas.{class-round-is, domain-some, drawn-movable}
use Rattle.tt_deluge.proofs.RoundLemmas.{if_ok_join, on_ok_any}
use Rattle.tt_deluge.proofs.pouring.round_on_class.Goals as goal

pub domain_size-size-requires : goal.domain_size-size-requires
domain_size-size-requires c =
    let h = c.args.state.now in
    let classes = c.args.classes.now in
    let at = c.draw_below.result in
    let there : slice_get classes at ≡ Some (get_or classes at 0) = slice_get-get_or classes at 0 (c.draw_below.ensures.below c.requires.some) in
    let target : IsMovable h.problem h.present (get_or classes at 0) = drawn-movable h.problem h.present classes at (get_or classes at 0) c.requires.classes there in
    rw c.problem.ensures target.within

pub class_round-requires-clause-class : goal.class_round-requires-clause-class
class_round-requires-clause-class c =
    let h = c.args.state.now in
    let classes = c.args.classes.now in
    let at = c.draw_below.result in
    let there : slice_get classes at ≡ Some (get_or classes at 0) = slice_get-get_or classes at 0 (c.draw_below.ensures.below c.requires.some) in
    drawn-movable h.problem h.present classes at (get_or classes at 0) c.requires.classes there

pub class_round-requires-clause-place : goal.class_round-requires-clause-place
class_round-requires-clause-place c =
    let h = c.args.state.now in
    let classes = c.args.classes.now in
    let at = c.draw_below.result in
    let class = get_or classes at 0 in
    let there : slice_get classes at ≡ Some class = slice_get-get_or classes at 0 (c.draw_below.ensures.below c.requires.some) in
    let target : IsMovable h.problem h.present class = drawn-movable h.problem h.present classes at class c.requires.classes there in
    let size : c.domain_size-size.result ≡ length (domain_of h.problem class) = rw c.problem.ensures at c.domain_size-size.ensures.size in
    let some : 0 < length (domain_of h.problem class) = domain-some h.problem h.present class c.soundness.ensures.present.plan target in
    let below : c.draw_below-place.result < c.from.result = c.draw_below-place.ensures.below (omega (arith, some, size, c.from.ensures)) in
    omega (arith, below, size, c.from.ensures)

pub returns-clause-random : goal.returns-clause-random
returns-clause-random c =
    let h = c.args.state.now in
    let classes = c.args.classes.now in
    let at = c.draw_below.result in
    let class = get_or classes at 0 in
    let there : slice_get classes at ≡ Some class = slice_get-get_or classes at 0 (c.draw_below.ensures.below c.requires.some) in
    let size : c.domain_size-size.result ≡ length (domain_of h.problem class) = rw c.problem.ensures at c.domain_size-size.ensures.size in
    let second = rw (c.from.ensures, size) at c.draw_below-place.ensures.draw in
    let is = class-round-is h.problem classes h.present c.args.kind (random_of c.args.random.now) (random_of c.draw_below.new.random) (random_of c.draw_below-place.new.random) at class c.draw_below-place.result c.requires.classes c.draw_below.ensures.draw there second in
    on_ok_any c.class_round.result (sym (ap (λ f. f.1) is))

pub returns-clause-round : goal.returns-clause-round
returns-clause-round c =
    let h = c.args.state.now in
    let end = c.class_round.new.state in
    let classes = c.args.classes.now in
    let at = c.draw_below.result in
    let class = get_or classes at 0 in
    let there : slice_get classes at ≡ Some class = slice_get-get_or classes at 0 (c.draw_below.ensures.below c.requires.some) in
    let size : c.domain_size-size.result ≡ length (domain_of h.problem class) = rw c.problem.ensures at c.domain_size-size.ensures.size in
    let second = rw (c.from.ensures, size) at c.draw_below-place.ensures.draw in
    let is = class-round-is h.problem classes h.present c.args.kind (random_of c.args.random.now) (random_of c.draw_below.new.random) (random_of c.draw_below-place.new.random) at class c.draw_below-place.result c.requires.classes c.draw_below.ensures.draw there second in
    let found : (class_round h.problem h.present c.args.kind (random_of c.args.random.now)).0 ≡ class_change h.problem h.present c.args.kind class c.draw_below-place.result = ap (λ f. f.0) is in
    if_ok_join c.class_round.result
    (λ (made : Bool). made_within h.problem c.args.level (class_change h.problem h.present c.args.kind class c.draw_below-place.result) ≡ cond made (Some end.present) None)
    (λ (made : Bool). made ≡ false → end.present ≡ h.present)
    (IsRound c.args.level (class_round h.problem h.present c.args.kind (random_of c.args.random.now)).0 (with_taken h []) (with_taken end []))
    (BeginsWith (trail h) (trail end)) (StandsAs h.problem h.present end.present)
    (λ made change same front stands. record { change = ap (made_within h.problem c.args.level) found ∙ change; same = same; front = front; stands = stands })
    c.class_round.ensures.made c.class_round.ensures.same c.class_round.ensures.trail c.class_round.ensures.stands
