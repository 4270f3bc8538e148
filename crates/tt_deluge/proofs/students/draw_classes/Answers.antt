use Rattle.std.proofs.Common.{◌≡◌, ◌+◌, ◌<◌, ◌++◌, ℕ, List, [], ◌∷◌, length, sym, ap, ◌∙◌, subst, arith, length-append}
use Rattle.std.specs.Prelude.{All}
use Rattle.std.proofs.lemmas.List.Elements.{All-push}
use Rattle.rand_core.specs.Stream.{next_u32}
use Rattle.tt_problem.proofs.SpanLemmas.{few_subparts}
use Rattle.tt_problem.specs.ListLengths.{spans_at}
use Rattle.tt_struct.proofs.SpanWalks.{from}
use Rattle.tt_draw.specs.Draws.{drawn}
use Rattle.tt_deluge.specs.Reading.{random_of}
use Rattle.tt_deluge.specs.StudentRounds.{drawn_choice}
use Rattle.tt_deluge.specs.Pieces.{fitting}
use Rattle.tt_deluge.proofs.ChoiceLemmas.{choice_goes, choice_stops}
use Rattle.tt_deluge.proofs.students.draw_classes.Goals as goal

pub returns-in-None-clause-choice : goal.returns-in-None-clause-choice
returns-in-None-clause-choice c =
    let p = c.args.problem.now in
    let rest = c.args.rest.now in
    let subpart = c.subpart-subpart.result in
    let random = random_of c.loop-place.random in
    let none = c.in-None.ensures.class ∙ ap (λ (l : List ℕ). drawn (next_u32 random).0 (fitting p (rest ++ l) subpart)) c.as_slice.ensures.value in
    choice_stops p rest c.loop-place.choice.items c.loop-place.place c.args.config.after subpart random (random_of c.draw_class.new.random)
    (drawn_choice p rest [] (spans_at p.subparts c.args.config) (random_of c.args.random.now)) c.loop-place-test.true c.subpart-subpart.ensures.part none c.in-None.ensures.same c.loop-place.invariant.goes

pub returns-in-None-clause-few : goal.returns-in-None-clause-few
returns-in-None-clause-few c =
    omega (arith, few_subparts c.args.problem.now c.validity.ensures, c.loop-place.invariant.few, c.loop-place-test.true, c.requires.within)

pub loop-place-preserved : goal.loop-place-preserved
loop-place-preserved c =
    let p = c.args.problem.now in
    let rest = c.args.rest.now in
    let subpart = c.subpart-subpart.result in
    let so_far = c.loop-place.choice.items in
    let class = c.in-Some.class in
    let random = random_of c.loop-place.random in
    let left = random_of c.draw_class.new.random in
    let items : c.push.new.self.items ≡ so_far ++ class ∷ [] = c.in_ok-push-in-Some.ensures.items in
    let some = c.in-Some.ensures.class ∙ ap (λ (l : List ℕ). drawn (next_u32 random).0 (fitting p (rest ++ l) subpart)) c.as_slice.ensures.value in
    let goes = choice_goes p rest so_far c.loop-place.place c.args.config.after class subpart random left
    (drawn_choice p rest [] (spans_at p.subparts c.args.config) (random_of c.args.random.now)) c.loop-place-test.true c.subpart-subpart.ensures.part some c.in-Some.ensures.next c.loop-place.invariant.goes in
    record {
      below = subst (All (λ (k : ℕ). k < length p.classes)) (sym items) (All-push (λ (k : ℕ). k < length p.classes) so_far class c.loop-place.invariant.below c.in-Some.ensures.below);
      few = omega (arith, simp length-append at (ap length items), c.loop-place.invariant.few);
      goes = goes ∙ ap (λ (l : List ℕ). drawn_choice p rest l (spans_at p.subparts (from (c.loop-place.place + 1) c.args.config.after)) left) (sym items);
    }

pub returns-clause-few : goal.returns-clause-few
returns-clause-few c =
    omega (arith, few_subparts c.args.problem.now c.validity.ensures, c.loop-place.invariant.few, c.loop-place.auto, c.requires.within, c.requires.some)
