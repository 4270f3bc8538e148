use Rattle.std.proofs.Common.{rules, ◌≡◌, ◌<◌, ◌+◌, length, arith}
use Rattle.std.proofs.lemmas.Grind.{common_steps}
use Rattle.tt_fields.specs.List.{path_of}
use Rattle.tt_tree.specs.Context.{context_of}
use Rattle.tt_tree.proofs.Pushed.{courses_push}
use Rattle.tt_tree.proofs.Whole.{more_configs}
use Rattle.tt_tree.proofs.courses.CourseTableNextTableCourses.read_next.Goals as goal

pub returns-clause-valid : goal.returns-clause-valid
returns-clause-valid c =
    let grown : length c.read_onto.new.before.spans.items ≡ length c.args.before.now.configs.spans.items + length c.in_ok-items.items.values.now =
    more_configs (context_of c.args.self.now.context.now) (path_of c.in_ok-items.items) c.in_ok-items.items.values.now c.args.before.now.configs c.read_onto.new.before c.in_ok-read_onto.ensures.reads in
    let more : length c.args.before.now.configs.spans.items < length c.read_onto.new.before.spans.items = omega (arith, grown, c.in_ok-items.ensures.count) in (
      c.requires.valid.0,
      courses_push _ _ _ _ c.requires.valid.1 c.in_ok-push.ensures.items c.in_ok-add_id.ensures.last c.in_ok-add_id.ensures.distinct c.in_ok-read_onto.ensures.valid.1
          (first_of (search rules, grind (arith, common_steps))) more,
    )
