use Rattle.std.proofs.Common.{◌≡◌, ◌<◌, ◌∙◌, true, false, [], ◌∷◌, length, refl, rules}
use Rattle.std.proofs.lemmas.List.Elements.{All-rest}
use Rattle.tt_bits.specs.Spots.{spot_at}
use Rattle.tt_occupancy.specs.Clashes.{clashes_in_room}
use Rattle.tt_occupancy.specs.RoomDays.{is_on, classes_on}
use Rattle.tt_occupancy.proofs.RoomDayLemmas.{classes_on-within}
use Rattle.tt_clash.proofs.RoomLemmas.{found-start, found-nobody, found-yes, found-no, pass-yes, still-yes}
use Rattle.tt_clash.proofs.clash.list_day.Goals as goal

pub returns-in_default-clause-day : goal.returns-in_default-clause-day
returns-in_default-clause-day c =
    let s = c.args.placing.now in
    let nobody : [] ≡ classes_on s.occupancy.now.spots s.spot.room c.args.day = search rules in
    λ few. found-nobody s.occupancy.now.spots s.spot.room c.args.day (clashes_in_room s.occupancy.now.spots s.class s.spot) c.args.listing.now.list nobody

pub loop-other-init : goal.loop-other-init
loop-other-init c =
    let s = c.args.placing.now in
    let spots = s.occupancy.now.spots in
    let all : c.into_iter-other-iterator.result ≡ classes_on spots s.spot.room c.args.day = search rules in
    record {
      clash = c.requires.clash;
      kept = λ d on. on;
      found = rw all (found-start spots s.spot.room c.args.day (clashes_in_room spots s.class s.spot) c.args.listing.now.list);
      within = rw all (classes_on-within spots s.spot.room c.args.day);
      order = c.requires.order;
      classes = refl;
    }

pub loop-other-preserved-else-len-most : goal.loop-other-preserved-else-len-most
loop-other-preserved-else-len-most c =
    let s = c.args.placing.now in
    let spots = s.occupancy.now.spots in
    let test = clashes_in_room spots s.class s.spot in
    let before = c.loop-other.invariant in
    let next : c.loop-other.other-iterator ≡ c.in-Some-other.other ∷ c.next.new.self = search rules in
    let passes : test c.in-Some-other.other ≡ true = search rules in
    record {
      clash = pass-yes test _ _ _ passes c.add_in_order.ensures.each before.clash;
      kept = still-yes _ _ _ _ c.add_in_order.ensures.each before.kept;
      found = found-yes (λ d. is_on s.spot.room c.args.day (spot_at spots d)) test _ _ _ _ _ next c.add_in_order.ensures.each before.found;
      within = All-rest (λ d. d < length spots) _ _ _ next before.within;
      order = c.add_in_order.ensures.order;
      classes = c.add_in_order.ensures.classes ∙ before.classes;
    }

pub loop-other-preserved : goal.loop-other-preserved
loop-other-preserved c =
    let s = c.args.placing.now in
    let spots = s.occupancy.now.spots in
    let test = clashes_in_room spots s.class s.spot in
    let before = c.loop-other.invariant in
    let next : c.loop-other.other-iterator ≡ c.in-Some-other.other ∷ c.next.new.self = search rules in
    let fails : test c.in-Some-other.other ≡ false = search rules in
    record {
      clash = before.clash;
      kept = before.kept;
      found = found-no (λ d. is_on s.spot.room c.args.day (spot_at spots d)) test _ _ _ _ next fails before.found;
      within = All-rest (λ d. d < length spots) _ _ _ next before.within;
      order = before.order;
      classes = before.classes;
    }
