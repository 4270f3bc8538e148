-- How many parts reading courses gives, whatever ids are known.
use Rattle.std.proofs.Common.{◌≡◌, ℕ, ◌+◌, ◌-◌, List, [], ◌∷◌, length, Bool, true, false, cond, Option, Some, None, Result, Ok, Err, refl, ap, subst, ◌∙◌, sym, arith, length-append, codes}
use Rattle.std.specs.Prelude.{IfOk, sum_by, nat_lt}
use Rattle.std.specs.Option.{option_map_or}
use Rattle.std.proofs.lemmas.List.{length-map}
use Rattle.std.proofs.lemmas.List.Sums.{sum_by-cons}
use Rattle.std.proofs.lemmas.Result.{IfOk-at_ok}
use Rattle.serde_json.specs.Data.{Items, no_items, item}
use Rattle.serde_json.specs.Events.{items_len}
use Rattle.serde_json.specs.Find.{as_array, as_object}
use Rattle.serde_json.specs.View.{items_view}
use Rattle.serde_json.specs.declared.value.Value.{Value}
use Rattle.tt_problem.specs.declared.parts.ClassPart.{ClassPart}
use Rattle.tt_fields.specs.declared.faults.Wrong.TheVariants.{NotOfKind, TooFew, TooMany}
use Rattle.tt_fields.specs.Path.{at, shown}
use Rattle.tt_base.specs.Chain.{◌>>=◌}
use Rattle.tt_fields.specs.Answer.{Field, Fault, fault}
use Rattle.tt_fields.specs.Kinds.{a_number, an_object, a_list, a_reference, optional, each_as, or_wrong, counted, items_at, required, value_at, new_id, each}
use Rattle.tt_tree.specs.Context.{Context}
use Rattle.tt_problem.specs.Valid.{class_ids, course_ids}
use Rattle.tt_tree.specs.Tables.{span, no_limit, a_time_choice, rooms_of, a_class, Subparts, a_subpart, Configs, a_config, a_course, Courses, no_courses, courses_in}
use Rattle.tt_tree.specs.declared.courses as courses
use Rattle.tt_tree.specs.Read.{subparts_read, configs_read}
use Rattle.tt_tree.specs.Whole.{HasClasses}
use Rattle.tt_fields.proofs.Chain.{after}
use Rattle.tt_tree.proofs.Places.{items_length}

-- ---- one line of a table

object_is : (p o : Field) → an_object p ≡ Ok o → o ≡ p
unfolding an_object
object_is p o is = IfOk-at_ok (λ (x : Field). x ≡ p) is (after (λ (x : Field). x ≡ p) (or_wrong p (as_object p.value)) _ (λ ms h. refl))

-- the items at a key, and none where it has no list
abbrev items_or_none : Field → Option Items → List Field
items_or_none p None = []
items_or_none p (Some ds) = items_at p.path 0 ds

abbrev value_items : Option Field → List Field
value_items None = []
value_items (Some p) = items_or_none p (as_array p.value)

abbrev list_at : List ℕ → Field → List Field
list_at key o = value_items (value_at key o)

-- the parts are these
abbrev Are : List Field → List Field → Type 0
Are there ps = ps ≡ there

by_tests : {A : Type 0} (P : A → Type 0) (b c : Bool) (e f : Fault) (x : A) → P x → IfOk (cond b (Err e) (cond c (Err f) (Ok x))) P
by_tests P true c e f x h = tt
by_tests P false true e f x h = tt
by_tests P false false e f x h = h

counted_is : (most : ℕ) (p : Field) (ds : Items) → IfOk (counted 1 most p ds) (Are (items_at p.path 0 ds))
counted_is most p no_items = tt
counted_is most p (item d ds) =
    by_tests (Are (items_at p.path 0 (item d ds))) (nat_lt (items_len (item d ds)) 1) (nat_lt most (items_len (item d ds)))
    (record { wrong = TooFew; path = shown p.path }) (record { wrong = TooMany; path = shown p.path }) (items_at p.path 0 (item d ds)) refl

a_list_is : (most : ℕ) (p : Field) → IfOk (a_list 1 most p) (Are (items_or_none p (as_array p.value)))
unfolding a_list
a_list_is most p = elim (as_array p.value) as (λ d. IfOk (or_wrong p d >>= counted 1 most p) (Are (items_or_none p d))) [ None ↦ tt | Some ds ↦ counted_is most p ds ]

-- the list of an object is the one at the key
list_is : (most : ℕ) (key : List ℕ) (p o : Field) (ps : List Field) → an_object p ≡ Ok o → required (a_list 1 most) key o ≡ Ok ps → Are (list_at key p) ps
unfolding required
list_is most key p o ps is found =
    subst (λ (x : Field). Are (list_at key x) ps) (object_is p o is)
    (IfOk-at_ok (Are (list_at key o)) found
    (elim (value_at key o) as (λ v. IfOk (option_map_or (a_list 1 most) v (fault NotOfKind (at o.path key))) (Are (value_items v))) [ None ↦ tt | Some q ↦ a_list_is most q ]))

-- ---- one item after another

-- what each item keeps, all keep: a number that counts the items, and one to which each adds what it has
each_keeps : {S : Type 0} (read : Field → S → Result S Fault) (I : ℕ → ℕ → S → Type 0) (g : Field → ℕ)
    → ((n m : ℕ) (p : Field) (s : S) → I n m s → IfOk (read p s) (I (n + 1) (m + g p)))
    → (ps : List Field) (n m : ℕ) (s : S) → I n m s → IfOk (each read ps s) (I (n + length ps) (m + sum_by g ps))
each_keeps read I g step [] n m s h =
    let d : n ≡ n + 0 = omega arith in
    let e : m ≡ m + 0 = omega arith in
    subst (λ k. I k (m + 0) s) d (subst (λ k. I n k s) e h)
each_keeps read I g step (p ∷ ps) n m s h =
    let d : (n + 1) + length ps ≡ n + length (p ∷ ps) = omega arith in
    let e : (m + g p) + sum_by g ps ≡ m + sum_by g (p ∷ ps) = omega (arith, sum_by-cons g p ps) in
    after (I (n + length (p ∷ ps)) (m + sum_by g (p ∷ ps))) (read p s) _ (λ t is.
    subst (λ k. IfOk (each read ps t) (I k (m + sum_by g (p ∷ ps)))) d (subst (λ k. IfOk (each read ps t) (I ((n + 1) + length ps) k)) e
    (each_keeps read I g step ps (n + 1) (m + g p) t (IfOk-at_ok (I (n + 1) (m + g p)) is (step n m p s h)))))

abbrev none : Field → ℕ
none p = 0

-- ---- classes of a subpart

abbrev AreClasses : ℕ → ℕ → List ClassPart → Type 0
AreClasses n m classes = length classes ≡ n

class_keeps : (c : Context) (n m : ℕ) (p : Field) (s : List ClassPart) → AreClasses n m s → IfOk (a_class c p s) (AreClasses (n + 1) (m + 0))
unfolding a_class
class_keeps c n m p s h =
    after (AreClasses (n + 1) (m + 0)) (an_object p) _ (λ o is.
    after (AreClasses (n + 1) (m + 0)) (required (a_number 0 4294967295) (codes "id") o) _ (λ id is.
    after (AreClasses (n + 1) (m + 0)) (new_id id (class_ids s) o) _ (λ ids new.
    after (AreClasses (n + 1) (m + 0)) (optional (a_number 0 4294967295) (codes "limit") o) _ (λ limit is.
    after (AreClasses (n + 1) (m + 0)) (optional (a_reference c.classes) (codes "parent") o) _ (λ parent is.
    after (AreClasses (n + 1) (m + 0)) (rooms_of c o) _ (λ rooms is.
    after (AreClasses (n + 1) (m + 0)) (required (a_list 1 1000) (codes "times") o) _ (λ items is.
    after (AreClasses (n + 1) (m + 0)) (each_as (a_time_choice c) items) _ (λ times is.
    omega (arith, length-append s (record { id = id; limit = limit; parent = parent; times = times; rooms = rooms } ∷ []), h)))))))))

classes_are : (c : Context) (items : List Field) (s t : List ClassPart) → each (a_class c) items s ≡ Ok t → length t ≡ length s + length items
classes_are c items s t read = IfOk-at_ok (AreClasses (length s + length items) (0 + sum_by none items)) read
    (each_keeps (a_class c) AreClasses none (class_keeps c) items (length s) 0 s refl)

-- ---- subparts of a configuration

abbrev classes_at : Field → ℕ
classes_at p = length (list_at (codes "classes") p)

-- n subparts, with m classes
record AreSubparts (n m : ℕ) (s : Subparts) : Type 0 where
  count : length s.spans ≡ n
  classes : length s.classes ≡ m

subpart_keeps : (c : Context) (n m : ℕ) (p : Field) (s : Subparts) → AreSubparts n m s → IfOk (a_subpart c p s) (AreSubparts (n + 1) (m + classes_at p))
unfolding a_subpart
subpart_keeps c n m p s h =
    after (AreSubparts (n + 1) (m + classes_at p)) (an_object p) _ (λ o is.
    after (AreSubparts (n + 1) (m + classes_at p)) (required (a_list 1 (20000 - length s.classes)) (codes "classes") o) _ (λ items found.
    after (AreSubparts (n + 1) (m + classes_at p)) (each (a_class c) items s.classes) _ (λ classes read.
    let these : length items ≡ classes_at p = ap (λ (l : List Field). length l) (list_is (20000 - length s.classes) (codes "classes") p o items is found) in
    let more : length classes ≡ length s.classes + length items = classes_are c items s.classes classes read in
    record {
      count = omega (arith, length-append s.spans (span (length s.classes) (length classes) ∷ []), h.count);
      classes = omega (arith, more, these, h.classes);
    })))

subparts_are : (c : Context) (items : List Field) (s t : Subparts) → each (a_subpart c) items s ≡ Ok t → AreSubparts (length s.spans + length items) (length s.classes + sum_by classes_at items) t
subparts_are c items s t read = IfOk-at_ok (AreSubparts (length s.spans + length items) (length s.classes + sum_by classes_at items)) read
    (each_keeps (a_subpart c) AreSubparts classes_at (subpart_keeps c) items (length s.spans) (length s.classes) s (record { count = refl; classes = refl }))

-- ---- configurations of a course

abbrev subparts_at : Field → ℕ
subparts_at p = sum_by classes_at (list_at (codes "subparts") p)

-- n configurations, with m classes
record AreConfigs (n m : ℕ) (s : Configs) : Type 0 where
  count : length s.spans ≡ n
  classes : length s.subparts.classes ≡ m

config_keeps : (c : Context) (n m : ℕ) (p : Field) (s : Configs) → AreConfigs n m s → IfOk (a_config c p s) (AreConfigs (n + 1) (m + subparts_at p))
unfolding a_config
config_keeps c n m p s h =
    after (AreConfigs (n + 1) (m + subparts_at p)) (an_object p) _ (λ o is.
    after (AreConfigs (n + 1) (m + subparts_at p)) (required (a_list 1 no_limit) (codes "subparts") o) _ (λ items found.
    after (AreConfigs (n + 1) (m + subparts_at p)) (each (a_subpart c) items s.subparts) _ (λ subparts read.
    let these : sum_by classes_at items ≡ subparts_at p = ap (sum_by classes_at) (list_is no_limit (codes "subparts") p o items is found) in
    let more : length subparts.classes ≡ length s.subparts.classes + sum_by classes_at items = (subparts_are c items s.subparts subparts read).classes in
    record {
      count = omega (arith, length-append s.spans (span (length s.subparts.spans) (length subparts.spans) ∷ []), h.count);
      classes = omega (arith, more, these, h.classes);
    })))

configs_are : (c : Context) (items : List Field) (s t : Configs) → each (a_config c) items s ≡ Ok t → AreConfigs (length s.spans + length items) (length s.subparts.classes + sum_by subparts_at items) t
configs_are c items s t read = IfOk-at_ok (AreConfigs (length s.spans + length items) (length s.subparts.classes + sum_by subparts_at items)) read
    (each_keeps (a_config c) AreConfigs subparts_at (config_keeps c) items (length s.spans) (length s.subparts.classes) s (record { count = refl; classes = refl }))

-- ---- courses

abbrev configs_at : Field → ℕ
configs_at p = sum_by subparts_at (list_at (codes "configs") p)

-- n courses, with m classes
record AreCourses (n m : ℕ) (t : Courses) : Type 0 where
  count : length t.courses ≡ n
  classes : length t.configs.subparts.classes ≡ m

course_keeps : (c : Context) (n m : ℕ) (p : Field) (s : Courses) → AreCourses n m s → IfOk (a_course c p s) (AreCourses (n + 1) (m + configs_at p))
unfolding a_course
course_keeps c n m p s h =
    after (AreCourses (n + 1) (m + configs_at p)) (an_object p) _ (λ o is.
    after (AreCourses (n + 1) (m + configs_at p)) (required (a_number 0 4294967295) (codes "id") o) _ (λ id number.
    after (AreCourses (n + 1) (m + configs_at p)) (new_id id (course_ids s.courses) o) _ (λ more new.
    after (AreCourses (n + 1) (m + configs_at p)) (required (a_list 1 no_limit) (codes "configs") o) _ (λ items found.
    after (AreCourses (n + 1) (m + configs_at p)) (each (a_config c) items s.configs) _ (λ configs read.
    let these : sum_by subparts_at items ≡ configs_at p = ap (sum_by subparts_at) (list_is no_limit (codes "configs") p o items is found) in
    let grown : length configs.subparts.classes ≡ length s.configs.subparts.classes + sum_by subparts_at items = (configs_are c items s.configs configs read).classes in
    record {
      count = omega (arith, length-append s.courses (record { id = id; configs = span (length s.configs.spans) (length configs.spans) } ∷ []), h.count);
      classes = omega (arith, grown, these, h.classes);
    })))))

courses_are : (c : Context) (items : List Field) (t : Courses) → courses_in c items ≡ Ok t → AreCourses (0 + length items) (0 + sum_by configs_at items) t
unfolding courses_in
courses_are c items t is = IfOk-at_ok (AreCourses (0 + length items) (0 + sum_by configs_at items)) is
    (each_keeps (a_course c) AreCourses configs_at (course_keeps c) items 0 0 no_courses (record { count = refl; classes = refl }))

-- ---- what readers cite

-- as many classes are read as there are items
pub more_classes : (c : Context) (path : List ℕ) (vs : List Value) (s t : List ClassPart) → each (a_class c) (items_at path 0 (items_view vs)) s ≡ Ok t → length t ≡ length s + length vs
more_classes c path vs s t read = omega (arith, classes_are c (items_at path 0 (items_view vs)) s t read, items_length path 0 vs)

-- as many subparts are read as there are items
pub more_subparts : (c : Context) (path : List ℕ) (vs : List Value) (s t : courses.Subparts.Subparts)
    → each (a_subpart c) (items_at path 0 (items_view vs)) (subparts_read s) ≡ Ok (subparts_read t) → length t.spans.items ≡ length s.spans.items + length vs
more_subparts c path vs s t read = omega (arith, (subparts_are c (items_at path 0 (items_view vs)) (subparts_read s) (subparts_read t) read).count, items_length path 0 vs)

-- as many configurations are read as there are items
pub more_configs : (c : Context) (path : List ℕ) (vs : List Value) (s t : courses.Configs.Configs)
    → each (a_config c) (items_at path 0 (items_view vs)) (configs_read s) ≡ Ok (configs_read t) → length t.spans.items ≡ length s.spans.items + length vs
more_configs c path vs s t read = omega (arith, (configs_are c (items_at path 0 (items_view vs)) (configs_read s) (configs_read t) read).count, items_length path 0 vs)

-- as many courses are read as there are items
pub courses_count : (c : Context) (path : List ℕ) (vs : List Value) (t : Courses) → courses_in c (items_at path 0 (items_view vs)) ≡ Ok t → length t.courses ≡ length vs
courses_count c path vs t read = omega (arith, (courses_are c (items_at path 0 (items_view vs)) t read).count, items_length path 0 vs)

-- the classes of a list of courses are as many as their ids, whatever ids are known
pub classes_whole : (c : Context) (items : List Field) (t : Courses) (ids : List ℕ) → courses_in c items ≡ Ok t → ids ≡ class_ids t.configs.subparts.classes → HasClasses items (length ids)
classes_whole c items t ids is same = record {
  count = λ d u also.
      (courses_are d items u also).classes ∙ sym (courses_are c items t is).classes
      ∙ sym (length-map t.configs.subparts.classes (λ (x : ClassPart). x.id)) ∙ ap (λ (l : List ℕ). length l) (sym same);
}
