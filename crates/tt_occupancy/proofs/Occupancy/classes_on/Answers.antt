use Rattle.std.proofs.Common.{◌≡◌, None, sym, rules}
use Rattle.tt_occupancy.proofs.RoomDayLemmas.{none_on}
use Rattle.tt_occupancy.proofs.Occupancy.classes_on.Goals as goal

pub returns-in_err-room : goal.returns-in_err-room
returns-in_err-room c =
    let no_room : c.args.room ≡ None = search rules in
    let none : c.from_residual.result ≡ None = search rules in
    rw (none, no_room) (sym (none_on c.args.day 0 c.args.self.now.spots))
