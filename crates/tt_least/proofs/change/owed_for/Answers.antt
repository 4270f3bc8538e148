use Rattle.tt_least.proofs.PriceLemmas.{half-product}
use Rattle.tt_least.proofs.change.owed_for.Goals as goal

pub returns : goal.returns
returns c = half-product c.args.price
