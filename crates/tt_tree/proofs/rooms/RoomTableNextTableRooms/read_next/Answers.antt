use Rattle.std.proofs.Common.{rules, ◌≡◌, ◌+◌, length, Result, Ok, Err, ap, subst, sym, ◌∙◌, arith}
use Rattle.std.proofs.lemmas.Grind.{common_steps}
use Rattle.tt_problem.specs.Valid.{IsValidRoom}
use Rattle.tt_base.specs.Chain.{◌>>=◌}
use Rattle.tt_fields.specs.Answer.{Fails, part_of, fault_of}
use Rattle.tt_fields.specs.List.{items_of}
use Rattle.tt_fields.specs.Kinds.{each_as}
use Rattle.tt_fields.proofs.Chain.{fails_on}
use Rattle.tt_tree.specs.Context.{context_of}
use Rattle.tt_tree.specs.Read.{rooms_read}
use Rattle.tt_tree.specs.Tables.{a_room, a_closed_time}
use Rattle.tt_tree.proofs.Pushed.{closed_room, room_is, rooms_push}
use Rattle.tt_tree.proofs.rooms.RoomTableNextTableRooms.read_next.Goals as goal

pub returns-in_err-unavailable-clause-reads : goal.returns-in_err-unavailable-clause-reads
returns-in_err-unavailable-clause-reads c =
    let among = context_of c.args.self.now.context.now in
    let is : a_room among (part_of c.args.item.now) (rooms_read c.args.before.now) ≡ Err (fault_of c.in_err-unavailable.field-0.0) =
    room_is among (rooms_read c.args.before.now) _ _ _ _ (part_of c.args.item.now) c.read_onto.new.before _
    c.in_ok-as_object.ensures c.in_ok-id.ensures.reads c.in_ok-add_id.ensures.reads c.in_ok-items.ensures.reads c.in_ok-read_onto.ensures.reads c.requires.valid.1.ids c.requires.valid.2
    ∙ ap (λ (r : Result _ _). r >>= λ unavailable. each_as (a_closed_time among) unavailable >>= closed_room c.in_ok-id.id c.args.before.now.rooms.items c.read_onto.new.before) c.in_err-unavailable.ensures.reads in
    first_of (search rules, grind (arith, common_steps))

pub returns-in_err-closed-clause-reads : goal.returns-in_err-closed-clause-reads
returns-in_err-closed-clause-reads c =
    let among = context_of c.args.self.now.context.now in
    let is : a_room among (part_of c.args.item.now) (rooms_read c.args.before.now) ≡ (each_as (a_closed_time among) (items_of c.in_ok-unavailable.unavailable) >>= closed_room c.in_ok-id.id c.args.before.now.rooms.items c.read_onto.new.before) =
    room_is among (rooms_read c.args.before.now) _ _ _ _ (part_of c.args.item.now) c.read_onto.new.before _
    c.in_ok-as_object.ensures c.in_ok-id.ensures.reads c.in_ok-add_id.ensures.reads c.in_ok-items.ensures.reads c.in_ok-read_onto.ensures.reads c.requires.valid.1.ids c.requires.valid.2
    ∙ ap (λ (r : Result _ _). r >>= λ unavailable. each_as (a_closed_time among) unavailable >>= closed_room c.in_ok-id.id c.args.before.now.rooms.items c.read_onto.new.before) c.in_ok-unavailable.ensures.reads in
    let fails : Fails c.in_err-closed.field-0.0 (a_room among (part_of c.args.item.now) (rooms_read c.args.before.now)) =
    subst (Fails c.in_err-closed.field-0.0) (sym is)
    (fails_on c.in_err-closed.field-0.0 (each_as (a_closed_time among) (items_of c.in_ok-unavailable.unavailable)) (closed_room c.in_ok-id.id c.args.before.now.rooms.items c.read_onto.new.before) c.in_err-closed.ensures.reads) in
    search rules

pub returns-clause-reads : goal.returns-clause-reads
returns-clause-reads c =
    let among = context_of c.args.self.now.context.now in
    let is : a_room among (part_of c.args.item.now) (rooms_read c.args.before.now) ≡ closed_room c.in_ok-id.id c.args.before.now.rooms.items c.read_onto.new.before c.from_vec.result =
    room_is among (rooms_read c.args.before.now) _ _ _ _ (part_of c.args.item.now) c.read_onto.new.before _
    c.in_ok-as_object.ensures c.in_ok-id.ensures.reads c.in_ok-add_id.ensures.reads c.in_ok-items.ensures.reads c.in_ok-read_onto.ensures.reads c.requires.valid.1.ids c.requires.valid.2
    ∙ ap (λ (r : Result _ _). r >>= λ unavailable. each_as (a_closed_time among) unavailable >>= closed_room c.in_ok-id.id c.args.before.now.rooms.items c.read_onto.new.before) c.in_ok-unavailable.ensures.reads
    ∙ ap (λ (r : Result _ _). r >>= closed_room c.in_ok-id.id c.args.before.now.rooms.items c.read_onto.new.before) c.in_ok-closed.ensures.reads
    ∙ ap (closed_room c.in_ok-id.id c.args.before.now.rooms.items c.read_onto.new.before) (sym c.from_vec.ensures) in
    is ∙ ap (λ rooms. Ok (record { rooms = rooms; travel = c.read_onto.new.before })) (sym c.in_ok-push.ensures.items)

pub returns-clause-valid : goal.returns-clause-valid
returns-clause-valid c =
    let room : IsValidRoom c.args.self.now.context.now.nr_days c.args.self.now.context.now.nr_weeks (record { id = c.in_ok-id.id; closed = c.from_vec.result }) =
    first_of (search rules, grind (arith, common_steps)) in
    let count : length c.push.new.self.items ≡ c.args.place + 1 = first_of (search rules, grind (arith, common_steps)) in
    (c.requires.valid.0, rooms_push _ _ _ _ _ c.requires.valid.1 c.in_ok-push.ensures.items c.in_ok-add_id.ensures.last c.in_ok-add_id.ensures.distinct c.in_ok-read_onto.ensures.valid.2 room, count)
