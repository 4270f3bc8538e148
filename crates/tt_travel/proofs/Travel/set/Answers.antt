use Rattle.tt_travel.proofs.TableLemmas.{IsTravel-places_set, between-places_set, All-places_set}
use Rattle.tt_travel.proofs.Travel.set.Goals as goal

pub returns-then-a-b-clause-sound : goal.returns-then-a-b-clause-sound
returns-then-a-b-clause-sound c =
    IsTravel-places_set _ c.args.self.now c.args.a c.args.b _ _ c.args.slots c.self.view_is c.place-there.ensures.place c.place-back.ensures.place
    c.self.invariant.0 c.requires.from c.requires.to c.if-a-b.true

pub invariant_of-self : goal.invariant_of-self
invariant_of-self c =
    (returns-then-a-b-clause-sound c, All-places_set _ _ _ c.args.slots _ _ c.self.invariant.1 c.max-self-inside.ensures)

pub returns-then-a-b-clause-others : goal.returns-then-a-b-clause-others
returns-then-a-b-clause-others c =
    between-places_set _ c.args.self.now c.args.a c.args.b _ _ c.args.slots c.self.view_is c.place-there.ensures.place c.place-back.ensures.place
    c.requires.from c.requires.to
