use Rattle.std.proofs.Common.{◌≡◌, ◌∙◌, ◌<◌, ap, sym, length, nat_eq, arith}
use Rattle.std.specs.Prelude.{slice_index}
use Rattle.std.specs.List.{remove, position_or_len}
use Rattle.std.proofs.lemmas.Grind.{get_or_default_zero}
use Rattle.tt_roster.proofs.NodeLemmas.{without_is_remove, node_in-at, node_in-less}
use Rattle.tt_roster.proofs.rows.ClassRow.remove.Goals as goal

pub returns-clause-classes : goal.returns-clause-classes
returns-clause-classes c =
    let list = c.self.inside.classes.items in
    let at : c.place_of-place.result ≡ position_or_len (nat_eq c.args.class) list =
    c.place_of-place.ensures.place ∙ ap (position_or_len (nat_eq c.args.class)) c.as_slice.ensures.value in
    rw (← c.self.view_is) (c.remove.ensures.items ∙ ap (remove list) at ∙ sym (without_is_remove c.args.class list))

pub returns-clause-node : goal.returns-clause-node
returns-clause-node c =
    let list = c.self.inside.classes.items in
    let nodes = c.self.inside.nodes.items in
    let at : c.place_of-place.result ≡ position_or_len (nat_eq c.args.class) list =
    c.place_of-place.ensures.place ∙ ap (position_or_len (nat_eq c.args.class)) c.as_slice.ensures.value in
    let within : c.place_of-place.result < length list = rw c.as_slice.ensures.value at c.place_of-place.ensures.within in
    rw (← c.self.view_is)
    (c.remove-2.ensures.value
    ∙ get_or_default_zero nodes c.place_of-place.result _ (omega (arith, c.self.invariant.each, within))
    ∙ ap (slice_index nodes) at
    ∙ node_in-at c.args.class list nodes c.self.invariant.each)

pub returns-clause-others : goal.returns-clause-others
returns-clause-others c other ne =
    let list = c.self.inside.classes.items in
    let nodes = c.self.inside.nodes.items in
    let at : c.place_of-place.result ≡ position_or_len (nat_eq c.args.class) list =
    c.place_of-place.ensures.place ∙ ap (position_or_len (nat_eq c.args.class)) c.as_slice.ensures.value in
    rw (← c.self.view_is, c.remove.ensures.items, c.remove-2.ensures.items, at) (node_in-less other c.args.class list nodes c.self.invariant.each ne)
