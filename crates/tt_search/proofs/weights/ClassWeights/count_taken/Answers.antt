use Rattle.std.proofs.Common.{◌<◌, ◌≤◌, ◌∙◌, length, sym, arith}
use Rattle.std.specs.Prelude.{slice_index_or}
use Rattle.std.proofs.lemmas.List.{get_or_default}
use Rattle.std.proofs.lemmas.Option.{slice_get-get_or}
use Rattle.tt_search.proofs.PlacingLemmas.{room_left}
use Rattle.tt_search.proofs.weights.ClassWeights.count_taken.Goals as goal

pub overflow_add-index_mut : goal.overflow_add-index_mut
overflow_add-index_mut c =
    let found = c.taken-class-items in
    let taken = found.result.now in
    let i = c.loop-class.class-index in
    let place = slice_index_or taken i 0 in
    let outs = c.loop-class.self.outs.items in
    let few : length taken ≤ 20000 = omega (arith, found.ensures.few, rw c.problem.ensures at c.validity.ensures.few_classes) in
    let within : place < length outs = omega (arith, found.ensures.within i 0 c.loop-class-test.true, c.loop-class.invariant.whole, c.requires.whole) in
    let counts = rw (sym found.ensures.classes) at (c.loop-class.invariant.counts place) in
    let room = room_left outs c.args.self.now.outs.items taken i place (slice_get-get_or taken i 0 c.loop-class-test.true) counts (c.requires.room place) few in
    omega (arith, room, c.index_mut.ensures.value ∙ get_or_default outs place _ 0 within)
