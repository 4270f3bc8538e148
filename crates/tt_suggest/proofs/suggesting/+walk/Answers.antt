use Rattle.std.proofs.Common.{◌≡◌, ◌∙◌, length, true, false, Err, ap, sym, refl, arith}
use Rattle.tt_state.specs.History.{Contents}
use Rattle.tt_state.specs.Values.{conflict_set_of}
use Rattle.tt_suggest.specs.declared.suggestion.SuggestEnd.TheVariants.{TooMany}
use Rattle.tt_suggest.proofs.BackLemmas.{back_next, back_same}
use Rattle.tt_suggest.proofs.FoundLemmas.{barren_found, child_found, child_free, child_spare, child_too_many, gives, leaf_above, leaf_found, on_ok}
use Rattle.tt_suggest.proofs.TreeLemmas.{branch_tries, way_end, way_next, way_start, way_too_many}
use Rattle.tt_suggest.proofs.WaitingLemmas.{both_empty, some_wait}
use Rattle.tt_suggest.proofs.suggesting.+walk.Goals as goal

pub try_value-returns-then-not-gives_child-clause-found : goal.try_value-returns-then-not-gives_child-clause-found
try_value-returns-then-not-gives_child-clause-found t c =
    let start = c.args.state.now in
    let none : gives start.problem start.present c.args.branch.now c.args.placement.now.value ≡ false = sym c.gives_child.ensures.gives ∙ c.if-not-gives_child.true in
    barren_found start.problem c.args.aim.now start.present c.args.branch.now c.args.placement.now.value c.args.found.now none c.requires.few

pub try_value-returns-in_ok-offer-in-Some-clause-found : goal.try_value-returns-in_ok-offer-in-Some-clause-found
try_value-returns-in_ok-offer-in-Some-clause-found t c =
    let start = c.args.state.now in
    let branch = c.args.branch.now in
    let some : gives start.problem start.present branch c.args.placement.now.value ≡ true = sym c.gives_child.ensures.gives ∙ c.if-not-gives_child.false in
    let problem : c.gives_child.new.state.problem ≡ start.problem = ap (λ (h : Contents). h.problem) c.gives_child.ensures.same in
    let present : c.gives_child.new.state.present ≡ start.present = ap (λ (h : Contents). h.present) c.gives_child.ensures.same in
    let conflicts : c.taken.result.now ≡ conflict_set_of start.problem start.present branch.class c.args.placement.now.value = c.taken.ensures.classes ∙ c.gives_child.ensures.taken c.if-not-gives_child.false in
    let empty = both_empty branch.others.items c.taken.result.now (sym c.is_last.ensures ∙ c.if-is_last.true) in
    let ranked = rw (problem, present) at c.in-Some.ensures.rank in
    leaf_found start.problem c.args.aim.now start.present branch c.args.placement.now.value c.in-Some.rank c.args.found.now c.offer.new.self some empty.0 (sym conflicts ∙ empty.1) ranked c.offer.ensures.tried c.requires.few c.in_ok-offer-in-Some.ensures.best

pub try_value-returns-in-None-clause-found : goal.try_value-returns-in-None-clause-found
try_value-returns-in-None-clause-found t c =
    let start = c.args.state.now in
    let branch = c.args.branch.now in
    let some : gives start.problem start.present branch c.args.placement.now.value ≡ true = sym c.gives_child.ensures.gives ∙ c.if-not-gives_child.false in
    let problem : c.gives_child.new.state.problem ≡ start.problem = ap (λ (h : Contents). h.problem) c.gives_child.ensures.same in
    let present : c.gives_child.new.state.present ≡ start.present = ap (λ (h : Contents). h.present) c.gives_child.ensures.same in
    let conflicts : c.taken.result.now ≡ conflict_set_of start.problem start.present branch.class c.args.placement.now.value = c.taken.ensures.classes ∙ c.gives_child.ensures.taken c.if-not-gives_child.false in
    let empty = both_empty branch.others.items c.taken.result.now (sym c.is_last.ensures ∙ c.if-is_last.true) in
    leaf_above start.problem c.args.aim.now start.present branch c.args.placement.now.value c.args.found.now some empty.0 (sym conflicts ∙ empty.1) c.requires.few (rw (problem, present) at c.in-None.ensures.above)

pub try_value-returns-clause-found : goal.try_value-returns-clause-found
try_value-returns-clause-found t c =
    let start = c.args.state.now in
    let branch = c.args.branch.now in
    let some : gives start.problem start.present branch c.args.placement.now.value ≡ true = sym c.gives_child.ensures.gives ∙ c.if-not-gives_child.false in
    let problem : c.gives_child.new.state.problem ≡ start.problem = ap (λ (h : Contents). h.problem) c.gives_child.ensures.same in
    let present : c.gives_child.new.state.present ≡ start.present = ap (λ (h : Contents). h.present) c.gives_child.ensures.same in
    on_ok c.descend.result (child_found start.problem c.args.aim.now start.present branch c.args.placement.now.value c.args.found.now c.descend.new.found some) (rw (problem, present) at c.descend.ensures.found)

pub try_value-returns-clause-too_many : goal.try_value-returns-clause-too_many
try_value-returns-clause-too_many t c =
    let start = c.args.state.now in
    let branch = c.args.branch.now in
    let some : gives start.problem start.present branch c.args.placement.now.value ≡ true = sym c.gives_child.ensures.gives ∙ c.if-not-gives_child.false in
    let problem : c.gives_child.new.state.problem ≡ start.problem = ap (λ (h : Contents). h.problem) c.gives_child.ensures.same in
    let present : c.gives_child.new.state.present ≡ start.present = ap (λ (h : Contents). h.present) c.gives_child.ensures.same in
    λ many. child_too_many start.problem start.present branch c.args.placement.now.value c.args.found.now.tried some (rw (problem, present) at (c.descend.ensures.too_many many))

pub walk-returns-in_err-add_tries-clause-too_many : goal.walk-returns-in_err-add_tries-clause-too_many
walk-returns-in_err-add_tries-clause-too_many t c =
    let start = c.args.state.now in
    let size = rw c.problem.ensures at c.domain_size-count.ensures.size in
    λ many. omega (arith, size, c.in_err-add_tries.ensures.too_many, c.add_tries.ensures.tried, branch_tries start.problem start.present c.args.branch.now)

pub walk-loop-k-init : goal.walk-loop-k-init
walk-loop-k-init t c =
    let start = c.args.state.now in
    let size = rw c.problem.ensures at c.domain_size-count.ensures.size in
    record {
      back = back_same start start refl;
      on = way_start start.problem c.args.aim.now start.present c.args.branch.now c.args.found.now c.add_tries.new.self c.domain_size-count.result size c.add_tries.ensures.tried c.add_tries.ensures.best c.in_ok-add_tries.ensures.few;
    }

pub walk-loop-k-preserved : goal.walk-loop-k-preserved
walk-loop-k-preserved t c =
    let start = c.args.state.now in
    let problem = c.loop-k.invariant.back.step.problem in
    let present = c.loop-k.invariant.back.present in
    let at = rw (c.problem-in-loop-k.ensures, problem) at c.value_at-value.ensures.value in
    let found = rw (problem, present, c.placement-placement.ensures.value) at c.in_ok-try_value.ensures.found in
    record {
      back = back_next start c.loop-k.state c.try_value.new.state c.loop-k.invariant.back c.in_ok-try_value.ensures.back;
      on = way_next start.problem c.args.aim.now start.present c.args.branch.now c.loop-k.found c.try_value.new.found c.loop-k.k c.value_at-value.result _ _ c.loop-k.invariant.on at found;
    }

pub walk-returns-in_err-try_value-clause-too_many : goal.walk-returns-in_err-try_value-clause-too_many
walk-returns-in_err-try_value-clause-too_many t c =
    let start = c.args.state.now in
    let problem = c.loop-k.invariant.back.step.problem in
    let present = c.loop-k.invariant.back.present in
    let at = rw (c.problem-in-loop-k.ensures, problem) at c.value_at-value.ensures.value in
    λ many.
    let e : c.try_value.result ≡ Err TooMany = grind (arith, many, c.in_err-try_value.was, c.from_residual-in_err-try_value.ensures) in
    way_too_many start.problem c.args.aim.now start.present c.args.branch.now c.loop-k.found c.loop-k.k c.value_at-value.result _ _ c.loop-k.invariant.on at (rw (problem, present, c.placement-placement.ensures.value) at (c.try_value.ensures.too_many e))

pub walk-returns-clause-found : goal.walk-returns-clause-found
walk-returns-clause-found t c =
    let start = c.args.state.now in
    let size = rw c.problem.ensures at c.domain_size-count.ensures.size in
    way_end start.problem c.args.aim.now start.present c.args.branch.now c.args.found.now c.loop-k.found c.loop-k.k _ _ c.loop-k.invariant.on (omega (arith, size))

pub descend-go_on-requires-clause-some : goal.descend-go_on-requires-clause-some
descend-go_on-requires-clause-some t c = some_wait _ c.requires.some

pub descend-go_on-requires-clause-few : goal.descend-go_on-requires-clause-few
descend-go_on-requires-clause-few t c =
    let start = c.args.state.now in
    omega (arith, ap length c.requires.taken, child_spare start.problem start.present c.args.branch.now c.args.value c.requires.gives)

pub descend-go_on-requires-clause-free : goal.descend-go_on-requires-clause-free
descend-go_on-requires-clause-free t c =
    let start = c.args.state.now in
    rw c.requires.taken (child_free start.problem start.present c.args.branch.now c.args.value c.requires.gives)
