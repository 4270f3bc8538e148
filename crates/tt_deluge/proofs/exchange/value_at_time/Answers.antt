use Rattle.std.proofs.Common.{◌≡◌, Some, None, refl}
use Rattle.tt_deluge.specs.Places.{place_of_room, place_of_time}
use Rattle.tt_deluge.proofs.SpotLemmas.{value-by-places}
use Rattle.tt_deluge.proofs.exchange.value_at_time.Goals as goal

pub returns-in_err-time-clause-value : goal.returns-in_err-time-clause-value
returns-in_err-time-clause-value c =
    let part = c.class-part.result.now in
    let found = value-by-places c.args.problem.now c.args.class part c.args.time.now c.args.room c.class-part.ensures.part in
    let was : c.place_of_time.result ≡ None = c.in_err-time.was in
    let time : place_of_time part.times c.args.time.now ≡ None = cc in
    rw (c.from_residual.ensures, found, time) refl

pub returns-in_err-room-clause-value : goal.returns-in_err-room-clause-value
returns-in_err-room-clause-value c =
    let part = c.class-part.result.now in
    let found = value-by-places c.args.problem.now c.args.class part c.args.time.now c.args.room c.class-part.ensures.part in
    let was : c.place_of_time.result ≡ Some c.in_ok-time.time = c.in_ok-time.was in
    let was_not : c.place_of_room.result ≡ None = c.in_err-room.was in
    let time : place_of_time part.times c.args.time.now ≡ Some c.in_ok-time.time = cc in
    let room : place_of_room part.rooms c.args.room ≡ None = cc in
    rw (c.from_residual-in_err-room.ensures, found, time, room) refl

pub returns-clause-value : goal.returns-clause-value
returns-clause-value c =
    let part = c.class-part.result.now in
    let found = value-by-places c.args.problem.now c.args.class part c.args.time.now c.args.room c.class-part.ensures.part in
    let was : c.place_of_time.result ≡ Some c.in_ok-time.time = c.in_ok-time.was in
    let was_too : c.place_of_room.result ≡ Some c.in_ok-room.room = c.in_ok-room.was in
    let time : place_of_time part.times c.args.time.now ≡ Some c.in_ok-time.time = cc in
    let room : place_of_room part.rooms c.args.room ≡ Some c.in_ok-room.room = cc in
    rw (found, time, room) refl
