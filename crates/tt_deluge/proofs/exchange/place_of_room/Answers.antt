use Rattle.std.proofs.Common.{◌≡◌, true, false, Some, get_or, length, sym, ◌∙◌, eq-eqb}
use Rattle.std.specs.Prelude.{slice_get}
use Rattle.std.proofs.lemmas.Bool.{ne_eqb}
use Rattle.std.proofs.lemmas.Option.{slice_get-get_or}
use Rattle.tt_problem.specs.declared.parts.RoomChoice.{RoomChoice}
use Rattle.tt_deluge.specs.Places.{is_room_at}
use Rattle.tt_deluge.proofs.SpotLemmas.{place-of-no-room, room-at}
use Rattle.tt_deluge.proofs.WalkLemmas.{place-hit, place-miss}
use Rattle.tt_deluge.proofs.exchange.place_of_room.Goals as goal

pub returns-in_default-clause-place : goal.returns-in_default-clause-place
returns-in_default-clause-place c = rw (c.then_some.ensures, c.in_default.is) (place-of-no-room c.args.rooms.now c.is_empty.result c.is_empty.ensures)

pub returns-then-rooms-place-clause-place : goal.returns-then-rooms-place-clause-place
returns-then-rooms-place-clause-place c =
    let rooms = c.args.rooms.now in
    let wanted = c.in-Some.wanted in
    let place = c.loop-place.place in
    let item : RoomChoice = get_or rooms place (record { room = 0; penalty = 0 }) in
    let there : slice_get rooms place ≡ Some item = slice_get-get_or rooms place (record { room = 0; penalty = 0 }) c.loop-place-test.true in
    let passes : is_room_at rooms (Some wanted) place ≡ true = room-at rooms wanted place item there ∙ eq-eqb item.room wanted c.if-rooms-place.true in
    rw c.in-Some.is (sym (place-hit (is_room_at rooms (Some wanted)) place (length rooms) c.loop-place-test.true passes) ∙ c.loop-place.invariant)

pub loop-place-preserved : goal.loop-place-preserved
loop-place-preserved c =
    let rooms = c.args.rooms.now in
    let wanted = c.in-Some.wanted in
    let place = c.loop-place.place in
    let item : RoomChoice = get_or rooms place (record { room = 0; penalty = 0 }) in
    let there : slice_get rooms place ≡ Some item = slice_get-get_or rooms place (record { room = 0; penalty = 0 }) c.loop-place-test.true in
    let fails : is_room_at rooms (Some wanted) place ≡ false = room-at rooms wanted place item there ∙ ne_eqb item.room wanted c.if-rooms-place.false in
    place-miss (is_room_at rooms (Some wanted)) place (length rooms) c.loop-place-test.true fails ∙ c.loop-place.invariant
