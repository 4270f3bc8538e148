use Rattle.std.proofs.Common.{◌∙◌, ap, sym, arith, pos, w64, None, length}
use Rattle.std.specs.Prelude.{slice_set}
use Rattle.std.proofs.lemmas.Int.{to_z_pos}
use Rattle.tt_pair.specs.ViolatedPairs.{violated_with}
use Rattle.tt_pair.proofs.KeptLemmas.{violated_with-set}
use Rattle.tt_pair.proofs.ShapeLemmas.{kind_of-pair_shape}
use Rattle.tt_pair.proofs.PairGroupMeasure.gain.Goals as goal

pub returns : goal.returns
returns c =
    let group = c.args.self.now in
    to_z_pos w64 c.violated_with.result (omega (arith, c.violated_with.ensures.few))
    ∙ ap pos (c.violated_with.ensures.count ∙ sym (violated_with-set group.kind c.args.travel.now group.held.items c.args.place None c.args.spot))
    ∙ ap (λ kind. pos (violated_with kind c.args.travel.now (slice_set group.held.items c.args.place None) c.args.place c.args.spot))
    (sym (kind_of-pair_shape group.kind (length group.held.items)))
