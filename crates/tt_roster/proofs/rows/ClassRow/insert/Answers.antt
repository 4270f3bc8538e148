use Rattle.std.proofs.Common.{◌≡◌, ◌∙◌, ap, rules, nat_lt}
use Rattle.std.specs.List.{insert, position_or_len}
use Rattle.tt_roster.proofs.NodeLemmas.{node_in-here, node_in-more}
use Rattle.tt_roster.proofs.rows.ClassRow.insert.Goals as goal

pub returns-clause-node : goal.returns-clause-node
returns-clause-node c =
    let list = c.self.inside.classes.items in
    let nodes = c.self.inside.nodes.items in
    let classes_now : c.insert.new.self.items ≡ insert list c.place_in_order-place.result c.args.class = search rules in
    let nodes_now : c.insert-2.new.self.items ≡ insert nodes c.place_in_order-place.result c.args.node = search rules in
    let at : c.place_in_order-place.result ≡ position_or_len (nat_lt c.args.class) list =
    c.place_in_order-place.ensures.place ∙ ap (position_or_len (nat_lt c.args.class)) c.as_slice.ensures.value in
    let free = rw (← c.self.view_is) at c.requires.free in
    rw (classes_now, nodes_now, at) (node_in-here c.args.class c.args.node list nodes c.self.invariant.each free)

pub returns-clause-others : goal.returns-clause-others
returns-clause-others c other ne =
    let list = c.self.inside.classes.items in
    let nodes = c.self.inside.nodes.items in
    let classes_now : c.insert.new.self.items ≡ insert list c.place_in_order-place.result c.args.class = search rules in
    let nodes_now : c.insert-2.new.self.items ≡ insert nodes c.place_in_order-place.result c.args.node = search rules in
    let at : c.place_in_order-place.result ≡ position_or_len (nat_lt c.args.class) list =
    c.place_in_order-place.ensures.place ∙ ap (position_or_len (nat_lt c.args.class)) c.as_slice.ensures.value in
    rw (← c.self.view_is, classes_now, nodes_now, at) (node_in-more other c.args.class c.args.node list nodes c.self.invariant.each ne)
