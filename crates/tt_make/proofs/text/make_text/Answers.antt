use Rattle.tt_make.proofs.Problem.{problem_drawn}
use Rattle.std.proofs.Common.{ap, ◌∙◌, ◌++◌, List, ℕ}
use Rattle.tt_make.proofs.text.make_text.Goals as goal

pub returns : goal.returns
returns c = problem_drawn c.args.seed c.args.classes _ _ _ _ _ _ _ _ _ _ _ _ _ _ _ _ _ c.new-random.ensures c.course_count-courses.ensures.count
    c.new-rooms_text.ensures.items c.in_ok-push_list.ensures.text c.in_ok-push_list.ensures.random
    c.new-out.ensures.items c.in_ok-push_text.ensures c.in_ok-push_list-2.ensures.text c.in_ok-push_list-2.ensures.random
    c.in_ok-push_text-2.ensures c.in_ok-push_list-3.ensures.text c.in_ok-push_list-3.ensures.random
    c.in_ok-push_text-3.ensures (c.in_ok-extend_from_slice.ensures.items ∙ ap (λ (t : List ℕ). c.push_text-3.new.out.items ++ t) c.deref.ensures.value)
    c.in_ok-push_text-4.ensures c.in_ok-push_list-4.ensures.text c.in_ok-push_text-5.ensures
