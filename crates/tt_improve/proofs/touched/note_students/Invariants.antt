use Rattle.std.proofs.Common.{◌≡◌, ℕ, ◌<◌, cond, length}
use Rattle.std.specs.Prelude.{slice_index}
use Rattle.std.specs.List.{AllByRecursion}
use Rattle.tt_base.specs.Lists.{is_listed}
use Rattle.tt_improve.proofs.touched.note_students.Given as goal

abbrev pub invariant-loop-place : goal.invariant-loop-place
invariant-loop-place l = record {
  can : goal.iterator-loop-place.can_next l.place-iterator;
  finite : goal.iterator-loop-place.is_finite l.place-iterator;
  whole : length l.table ≡ length l.initial.table;
  below : AllByRecursion (λ place. place < length l.initial.table) l.place-iterator;
  stages : (k : ℕ) → cond (is_listed k l.place-iterator) l.stage (slice_index l.table k) ≡ cond (is_listed k l.initial.place-iterator) l.stage (slice_index l.initial.table k);
}
