use Rattle.std.proofs.Common.{All, false, arith}
use Rattle.std.proofs.lemmas.List.{length-replicate}
use Rattle.std.proofs.lemmas.List.Elements.{All-nil, All-push}
use Rattle.tt_least.specs.Prices.{HasRoomForGroups}
use Rattle.tt_least.proofs.search.Search.new.Goals as goal

pub returns : goal.returns
returns c =
    let room = HasRoomForGroups c.args.size in
    let none = c.in_ok-groups.groups.items in
    let one = c.push.new.self.items in
    let two = c.push-2.new.self.items in
    let at-first : All room none = rw c.in_ok-groups.ensures.items (All-nil room) in
    let after-one : All room one = rw c.in_ok-push.ensures.items (All-push room none c.in_ok-new_groups.field-0 at-first c.in_ok-new_groups.ensures) in
    let after-two : All room two = rw c.in_ok-push-2.ensures.items (All-push room one c.in_ok-new_groups-2.field-0 after-one c.in_ok-new_groups-2.ensures) in
    record {
      few = c.requires.size;
      levels = c.in_ok-new_levels.ensures.places;
      deep = omega (arith, c.in_ok-new_levels.ensures.deep);
      groups = rw c.in_ok-push-3.ensures.items (All-push room two c.in_ok-new_groups-3.field-0 after-two c.in_ok-new_groups-3.ensures);
      costs = rw (c.in_ok-vec.ensures.items_if_clones_equal (λ y clone. clone)) (length-replicate c.args.size 0);
      leasts = rw (c.in_ok-vec-2.ensures.items_if_clones_equal (λ y clone. clone)) (length-replicate c.args.size 0);
      front = rw (c.in_ok-vec-3.ensures.items_if_clones_equal (λ y clone. clone)) (length-replicate c.args.size 0);
      best = rw (c.in_ok-vec-4.ensures.items_if_clones_equal (λ y clone. clone)) (length-replicate c.args.size 0);
      left = rw (c.in_ok-vec-5.ensures.items_if_clones_equal (λ y clone. clone)) (length-replicate c.args.size false);
      trial = rw (c.in_ok-vec-6.ensures.items_if_clones_equal (λ y clone. clone)) (length-replicate c.args.size false);
    }
