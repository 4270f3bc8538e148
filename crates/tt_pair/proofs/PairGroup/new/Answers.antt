use Rattle.std.proofs.Common.{◌≡◌, rules, None, refl, ap, pos}
use Rattle.std.specs.Prelude.{replicate}
use Rattle.tt_pair.specs.ViolatedPairs.{violated_pairs, violated_with}
use Rattle.tt_pair.proofs.KeptLemmas.{PairAmountIsKept-new}
use Rattle.tt_pair.proofs.ShapeLemmas.{kind_of-pair_shape}
use Rattle.tt_pair.proofs.PairGroup.new.Goals as goal

pub returns : goal.returns
returns c =
    let none : c.in_ok-held.held.items ≡ replicate c.args.members None = search rules in
    record {
      new = record {
        held = none;
        weeks = refl;
        shape = search rules;
        sum = λ t h. ap (λ k. violated_pairs k t h) (kind_of-pair_shape c.args.kind _);
        delta = λ t h p x. ap (λ k. pos (violated_with k t h p x)) (kind_of-pair_shape c.args.kind _);
        most = λ n. refl;
        fits = λ t. rw none (PairAmountIsKept-new c.args.kind t c.args.members);
      };
    }
