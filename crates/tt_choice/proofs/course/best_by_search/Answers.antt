use Rattle.std.proofs.Common.{◌≡◌, ◌≤◌, ◌++◌, ℕ, List, Some, length, take, drop, arith, ap, refl, sym, ◌∙◌}
use Rattle.std.proofs.lemmas.List.{take_all, take-append-le}
use Rattle.tt_choice.specs.Standings.{situation_in}
use Rattle.tt_choice.proofs.BestLemmas.{first-kept, more-stays, none-stays}
use Rattle.tt_choice.proofs.course.best_by_search.Goals as goal

-- a whole list stays where more follows it
front-whole : (n : ℕ) (xs rest : List ℕ) → length xs ≡ n → take n (xs ++ rest) ≡ xs
front-whole n xs rest e =
    let le : n ≤ length xs = omega arith in
    take-append-le n xs rest le ∙ take_all n xs (omega arith)

pub returns-in_default-clause-best : goal.returns-in_default-clause-best
returns-in_default-clause-best c =
    sym (none-stays (situation_in c.args.standing.now) c.args.buffers.now.best.items c.args.found c.args.subparts.now c.requires.found (c.in_default.ensures.none refl))

pub returns-in_default-find-clause-best : goal.returns-in_default-find-clause-best
returns-in_default-find-clause-best c =
    sym (more-stays (situation_in c.args.standing.now) c.args.buffers.now.best.items c.args.found c.args.subparts.now c.requires.found
    c.in-Some.most c.requires.few c.requires.few_already c.in-Some.ensures.more (c.in_default-find.ensures.none refl))

pub returns-clause-best : goal.returns-clause-best
returns-clause-best c =
    let n = length c.args.subparts.now in
    let old = c.args.buffers.now.best in
    let new = c.copy_found.new.to in
    let long : length new ≡ old.len = c.copy_found.ensures.long ∙ c.as_mut_slice.ensures.len in
    let whole = front-whole old.len new (drop (length new) old.items) long in
    let found = first-kept (situation_in c.args.standing.now) old.items c.args.found c.args.subparts.now c.requires.found
    c.in-Some.most c.in-Some-find.pairs (take n c.find.new.self.search.scratch.best.items) c.in-Some-find.ensures.first c.in-Some-find.ensures.pairs c.in-Some-find.ensures.most c.in-Some.ensures.fewer in
    ap (λ (xs : List ℕ). Some (take n xs)) whole ∙ c.copy_found.ensures.same ∙ ap (λ (xs : List ℕ). Some (take n xs)) c.as_slice.ensures.value ∙ sym found
