use Rattle.std.proofs.Common.{rules, ◌≡◌, Ok, arith}
use Rattle.std.proofs.lemmas.Grind.{common_steps}
use Rattle.tt_fields.specs.List.{items_of, path_of}
use Rattle.tt_tree.specs.Context.{context_of}
use Rattle.tt_tree.specs.Read.{courses_read}
use Rattle.tt_tree.specs.Tables.{courses_in}
use Rattle.tt_tree.proofs.Whole.{courses_count, classes_whole}
use Rattle.tt_tree.proofs.courses.read_courses.Goals as goal

pub returns-clause-count : goal.returns-clause-count
unfolding courses_in
returns-clause-count c =
    let read : courses_in (context_of c.args.context.now) (items_of c.args.items.now) ≡ Ok (courses_read c.read_onto.new.before) = first_of (search rules, grind (arith, common_steps)) in
    courses_count (context_of c.args.context.now) (path_of c.args.items.now) c.args.items.now.values.now (courses_read c.read_onto.new.before) read

pub returns-clause-classes : goal.returns-clause-classes
unfolding courses_in
returns-clause-classes c =
    let read : courses_in (context_of c.args.context.now) (items_of c.args.items.now) ≡ Ok (courses_read c.read_onto.new.before) = first_of (search rules, grind (arith, common_steps)) in
    let valid = c.in_ok-read_onto.ensures.valid in
    classes_whole (context_of c.args.context.now) (items_of c.args.items.now) (courses_read c.read_onto.new.before) c.read_onto.new.before.configs.subparts.classes.ids.keys read
    valid.1.configs.subparts.classes.ids
