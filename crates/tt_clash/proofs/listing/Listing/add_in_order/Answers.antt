use Rattle.std.proofs.Common.{◌≡◌, ◌<◌, ◌∙◌, true, false, subst, sym, arith}
use Rattle.std.specs.Prelude.{vec_capacity}
use Rattle.std.proofs.lemmas.List.{length-set}
use Rattle.tt_base.specs.Lists.{is_listed}
use Rattle.tt_clash.specs.Listings.{ListedClasses, AreInOrder}
use Rattle.tt_clash.proofs.MarkLemmas.{listed-room}
use Rattle.tt_clash.proofs.OrderLemmas.{put-each, put-in_order, put-listing, listed-already}
use Rattle.tt_clash.proofs.listing.Listing.add_in_order.Goals as goal

pub returns-then-has-clause-each : goal.returns-then-has-clause-each
returns-then-has-clause-each c = listed-already c.args.self.now.list c.args.class (sym c.has.ensures ∙ c.if-has.true)

pub put_at-requires-clause-room : goal.put_at-requires-clause-room
put_at-requires-clause-room c =
    let i = c.self.inside in
    let within = subst (λ (l : ListedClasses). c.args.class < l.classes) (sym c.self.view_is) c.requires.within in
    let new = subst (λ (l : ListedClasses). is_listed c.args.class l.list ≡ false) (sym c.self.view_is) (sym c.has.ensures ∙ c.if-has.false) in
    omega (arith, i.order.ok.0, listed-room i.marks.items i.order.items (vec_capacity i.order) c.args.class c.self.invariant within new)

pub invariant_of-self : goal.invariant_of-self
invariant_of-self c =
    let i = c.self.inside in
    let within = subst (λ (l : ListedClasses). c.args.class < l.classes) (sym c.self.view_is) c.requires.within in
    let new = subst (λ (l : ListedClasses). is_listed c.args.class l.list ≡ false) (sym c.self.view_is) (sym c.has.ensures ∙ c.if-has.false) in
    let order = subst AreInOrder (sym c.self.view_is) c.requires.order in
    let is = rw (c.place_in_order-at.ensures.place, c.as_slice.ensures.value) at c.put_at.ensures.items in
    rw is (put-listing i.marks.items i.order.items (vec_capacity i.order) c.args.class c.self.invariant order within new (vec_capacity c.put_at.new.list) c.put_at.ensures.room)

pub returns-clause-each : goal.returns-clause-each
returns-clause-each c =
    let i = c.self.inside in
    let within = subst (λ (l : ListedClasses). c.args.class < l.classes) (sym c.self.view_is) c.requires.within in
    let new = subst (λ (l : ListedClasses). is_listed c.args.class l.list ≡ false) (sym c.self.view_is) (sym c.has.ensures ∙ c.if-has.false) in
    let order = subst AreInOrder (sym c.self.view_is) c.requires.order in
    let is = rw (c.place_in_order-at.ensures.place, c.as_slice.ensures.value) at c.put_at.ensures.items in
    rw (← c.self.view_is, is) (put-each i.marks.items i.order.items (vec_capacity i.order) c.args.class c.self.invariant order within new)

pub returns-clause-order : goal.returns-clause-order
returns-clause-order c =
    let i = c.self.inside in
    let within = subst (λ (l : ListedClasses). c.args.class < l.classes) (sym c.self.view_is) c.requires.within in
    let new = subst (λ (l : ListedClasses). is_listed c.args.class l.list ≡ false) (sym c.self.view_is) (sym c.has.ensures ∙ c.if-has.false) in
    let order = subst AreInOrder (sym c.self.view_is) c.requires.order in
    let is = rw (c.place_in_order-at.ensures.place, c.as_slice.ensures.value) at c.put_at.ensures.items in
    rw is (put-in_order i.marks.items i.order.items (vec_capacity i.order) c.args.class c.self.invariant order within new _ (length-set i.marks.items c.args.class true))
