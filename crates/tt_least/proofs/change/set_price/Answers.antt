use Rattle.std.proofs.Common.{◌*◌, ◌≤◌, length, arith}
use Rattle.tt_least.specs.Prices.{owed_of}
use Rattle.tt_least.proofs.PriceLemmas.{numbers-few, owed-few}
use Rattle.tt_least.proofs.change.set_price.Goals as goal

pub overflow_add-groups : goal.overflow_add-groups
overflow_add-groups c =
    let prices = c.args.groups.now.prices.items in
    let all : owed_of prices ≤ length prices * 2147450880 = owed-few prices c.requires.few in
    omega (arith, all, c.requires.owed, c.requires.short, c.owed_for-2.ensures, numbers-few c.args.change.price 65535 c.requires.price)
