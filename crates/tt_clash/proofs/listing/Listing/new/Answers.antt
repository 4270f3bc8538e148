use Rattle.std.proofs.Common.{◌≡◌, Bool, false, replicate, refl, arith}
use Rattle.std.proofs.lemmas.List.{length-replicate}
use Rattle.std.proofs.lemmas.List.Elements.{All-replicate}
use Rattle.tt_clash.proofs.ListedLemmas.{nothing-listed}
use Rattle.tt_clash.proofs.listing.Listing.new.Goals as goal

pub invariant_of-result : goal.invariant_of-result
invariant_of-result c =
    let marks = c.in_ok-marks.ensures.items_if_clones_equal (λ m clone. clone) in
    rw (marks, c.in_ok-order.ensures.items) (nothing-listed (replicate c.args.classes false) _ (All-replicate (λ (b : Bool). b ≡ false) c.args.classes false refl)
    (omega (arith, length-replicate c.args.classes false, c.in_ok-order.ensures.exact)) (omega (arith, length-replicate c.args.classes false, c.ranges.classes)))

pub returns : goal.returns
returns c =
    let marks = c.in_ok-marks.ensures.items_if_clones_equal (λ m clone. clone) in
    rw (marks, c.in_ok-order.ensures.items, length-replicate c.args.classes false) refl
