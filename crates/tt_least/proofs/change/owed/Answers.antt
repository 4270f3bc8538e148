use Rattle.std.proofs.Common.{◌≡◌, ◌+◌, ◌≤◌, get_or, take, arith}
use Rattle.std.proofs.lemmas.List.Sums.{sum_by_more}
use Rattle.tt_least.specs.Prices.{numbers_up_to, owed_of}
use Rattle.tt_least.proofs.PriceLemmas.{numbers-few}
use Rattle.tt_least.proofs.change.owed.Goals as goal

pub overflow_add-owed : goal.overflow_add-owed
overflow_add-owed c =
    let few = c.requires.few c.loop-price.price-index 0 c.loop-price-test.true in
    let one = numbers-few (get_or c.args.prices.now c.loop-price.price-index 0) 65535 few in
    omega (arith, c.owed_for-owed.ensures, one, c.loop-price.invariant.few, c.loop-price-test.true, c.requires.short)

pub loop-price-preserved : goal.loop-price-preserved
loop-price-preserved c =
    let price = get_or c.args.prices.now c.loop-price.price-index 0 in
    let few : price ≤ 65535 = c.requires.few c.loop-price.price-index 0 c.loop-price-test.true in
    let more : owed_of (take (c.loop-price.price-index + 1) c.args.prices.now) ≡ owed_of (take c.loop-price.price-index c.args.prices.now) + numbers_up_to price = sum_by_more numbers_up_to c.args.prices.now c.loop-price.price-index 0 c.loop-price-test.true in
    record {
      sum = omega (arith, c.owed_for-owed.ensures, more, c.loop-price.invariant.sum);
      few = omega (arith, c.owed_for-owed.ensures, numbers-few price 65535 few, c.loop-price.invariant.few);
    }
