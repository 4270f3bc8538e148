use Rattle.std.proofs.Common.{◌≡◌, ◌<◌, true, false, subst, sym, refl, arith}
use Rattle.std.specs.Prelude.{vec_capacity}
use Rattle.std.proofs.lemmas.List.{length-set}
use Rattle.tt_base.specs.Lists.{is_listed}
use Rattle.tt_clash.specs.Listings.{ListedClasses}
use Rattle.tt_clash.proofs.MarkLemmas.{listed-room, listed-more}
use Rattle.tt_clash.proofs.listing.Listing.add.Goals as goal

pub unwrap-requires : goal.unwrap-requires
unwrap-requires c =
    let i = c.self.inside in
    let within = subst (λ (l : ListedClasses). c.args.class < l.classes) (sym c.self.view_is) c.requires.within in
    let new = subst (λ (l : ListedClasses). is_listed c.args.class l.list ≡ false) (sym c.self.view_is) c.requires.new in
    c.push.ensures.succeeds (omega (arith, i.order.ok.0, listed-room i.marks.items i.order.items (vec_capacity i.order) c.args.class c.self.invariant within new))

pub invariant_of-self : goal.invariant_of-self
invariant_of-self c =
    let i = c.self.inside in
    let within = subst (λ (l : ListedClasses). c.args.class < l.classes) (sym c.self.view_is) c.requires.within in
    let new = subst (λ (l : ListedClasses). is_listed c.args.class l.list ≡ false) (sym c.self.view_is) c.requires.new in
    let is = rw c.unwrap.ensures at c.push.ensures.items in
    rw is (listed-more i.marks.items i.order.items (vec_capacity i.order) (vec_capacity c.push.new.self) c.args.class c.self.invariant within new c.push.ensures.capacity)

pub returns : goal.returns
returns c =
    let i = c.self.inside in
    let is = rw c.unwrap.ensures at c.push.ensures.items in
    rw (← c.self.view_is, is, length-set i.marks.items c.args.class true) refl
