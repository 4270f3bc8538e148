use Rattle.std.proofs.Common.{◌≡◌, false, Some, get_or, length, sym, ◌∙◌}
use Rattle.std.specs.Prelude.{slice_get}
use Rattle.std.proofs.lemmas.Option.{slice_get-get_or}
use Rattle.tt_problem.specs.declared.parts.TimeChoice.{TimeChoice}
use Rattle.tt_deluge.specs.Places.{is_alike_at}
use Rattle.tt_deluge.proofs.SpotLemmas.{alike-at}
use Rattle.tt_deluge.proofs.WalkLemmas.{place-miss}
use Rattle.tt_deluge.proofs.exchange.place_of_time.Goals as goal

pub loop-place-preserved : goal.loop-place-preserved
loop-place-preserved c =
    let times = c.args.times.now in
    let time = c.args.time.now in
    let place = c.loop-place.place in
    let item : TimeChoice = get_or times place c.index-times-place.result in
    let there : slice_get times place ≡ Some item = slice_get-get_or times place c.index-times-place.result c.loop-place-test.true in
    let fails : is_alike_at times time place ≡ false = alike-at times time place item there ∙ sym c.begin_alike.ensures ∙ c.if-begin_alike.false in
    place-miss (is_alike_at times time) place (length times) c.loop-place-test.true fails ∙ c.loop-place.invariant
