use Rattle.std.proofs.Common.{ap, ◌∙◌, sym, length}
use Rattle.tt_pair.specs.ViolatedPairs.{violated_pairs}
use Rattle.tt_pair.proofs.ShapeLemmas.{kind_of-pair_shape}
use Rattle.tt_pair.proofs.PairGroupMeasure.amount.Goals as goal

pub returns : goal.returns
returns c = λ t kept.
    kept.counted ∙ ap (λ kind. violated_pairs kind t c.args.self.now.held.items) (sym (kind_of-pair_shape c.args.self.now.kind (length c.args.self.now.held.items)))
