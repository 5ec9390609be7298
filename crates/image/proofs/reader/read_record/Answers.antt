-- `read_record` meets its contract: a law for each way that it goes. Assumes nothing.
use native.Mathlib.Omega.{arith}
use Rattle.image.proofs.ReaderLaws.{read_tiny, read_past, read_kind, read_length, whole_size, whole_kind, read_fields_lem, least_group, least_allow, least_transition, rest_constraint, least_constraint}
use mathlib.Core.Path.{◌≡◌, refl, sym, ◌∙◌}
use Rattle.std.specs.Prelude.{Option}
use mathlib.Core.List.{List}
use mathlib.Core.Bool.{true}
use Prim.Native.Nat.{ℕ, ◌≤◌}
use lib.ListN.{length, get_or, take}
use Rattle.format.specs.Check.{Read}
use Rattle.format.specs.Format.{kind_in, length_ok, bad_field}
use Rattle.format.specs.Check.{read_fields, read_of}
use Rattle.format.proofs.Fields.{field_group, field_allow, field_transition, field_constraint}
use Rattle.image.proofs.FieldLaws.{told_false, told_true}
use Rattle.image.proofs.reader.read_record.Goals as goal

pub returns-then-part-lt2 : goal.returns-then-part-lt2
returns-then-part-lt2 c = sym (read_tiny _ _ _ _ refl c.if-part-lt2.true)

pub returns-then-part-length : goal.returns-then-part-length
returns-then-part-length c = sym (read_past _ _ _ _ c.from-length.ensures c.if-part-length.true)

pub returns-then-not-kind_in : goal.returns-then-not-kind_in
returns-then-not-kind_in c = sym (read_kind _ _ _ _ refl (told_false c.kind_in.ensures c.if-not-kind_in.true))

pub returns-then-not-length_ok : goal.returns-then-not-length_ok
returns-then-not-length_ok c = sym (read_length _ _ _ _ c.from-length.ensures (told_false c.length_ok.ensures c.if-not-length_ok.true))

pub slice_bounds-whole-end : goal.slice_bounds-whole-end
slice_bounds-whole-end c =
    let part : List ℕ = c.args.part.now in
    let size : ℕ = c.from-length.result in
    let size_is : size ≡ get_or part 0 0 = c.from-length.ensures in
    let fits : size ≤ length part = omega arith in
    let kind_is : kind_in c.args.section (get_or part 1 0) ≡ true = told_true c.kind_in.ensures c.if-not-kind_in.false in
    let ok : length_ok (get_or part 1 0) size ≡ true = told_true c.length_ok.ensures c.if-not-length_ok.false in
    sym (whole_size _ c.args.groups _ _ size_is fits kind_is ok)

pub group_fields-requires : goal.group_fields-requires
group_fields-requires c =
    let part : List ℕ = c.args.part.now in
    let size : ℕ = c.from-length.result in
    let size_is : size ≡ get_or part 0 0 = c.from-length.ensures in
    let fits : size ≤ length part = omega arith in
    let kind_is : kind_in c.args.section (get_or part 1 0) ≡ true = told_true c.kind_in.ensures c.if-not-kind_in.false in
    let ok : length_ok (get_or part 1 0) size ≡ true = told_true c.length_ok.ensures c.if-not-length_ok.false in
    least_group _ c.args.groups _ _ size_is fits kind_is ok c.in-1.is

pub allow_fields-requires : goal.allow_fields-requires
allow_fields-requires c =
    let part : List ℕ = c.args.part.now in
    let size : ℕ = c.from-length.result in
    let size_is : size ≡ get_or part 0 0 = c.from-length.ensures in
    let fits : size ≤ length part = omega arith in
    let kind_is : kind_in c.args.section (get_or part 1 0) ≡ true = told_true c.kind_in.ensures c.if-not-kind_in.false in
    let ok : length_ok (get_or part 1 0) size ≡ true = told_true c.length_ok.ensures c.if-not-length_ok.false in
    least_allow _ c.args.groups _ _ size_is fits kind_is ok c.in-2.is

pub transition_fields-requires : goal.transition_fields-requires
transition_fields-requires c =
    let part : List ℕ = c.args.part.now in
    let size : ℕ = c.from-length.result in
    let size_is : size ≡ get_or part 0 0 = c.from-length.ensures in
    let fits : size ≤ length part = omega arith in
    let kind_is : kind_in c.args.section (get_or part 1 0) ≡ true = told_true c.kind_in.ensures c.if-not-kind_in.false in
    let ok : length_ok (get_or part 1 0) size ≡ true = told_true c.length_ok.ensures c.if-not-length_ok.false in
    least_transition _ c.args.groups _ _ size_is fits kind_is ok c.in-3.is

pub constraint_fields-requires : goal.constraint_fields-requires
constraint_fields-requires c =
    let part : List ℕ = c.args.part.now in
    let size : ℕ = c.from-length.result in
    let size_is : size ≡ get_or part 0 0 = c.from-length.ensures in
    let fits : size ≤ length part = omega arith in
    let kind_is : kind_in c.args.section (get_or part 1 0) ≡ true = told_true c.kind_in.ensures c.if-not-kind_in.false in
    let ok : length_ok (get_or part 1 0) size ≡ true = told_true c.length_ok.ensures c.if-not-length_ok.false in
    let four : get_or part 1 0 ≡ 4 = let k = get_or part 1 0 in
    let one : k ≡ 1 → ⊥ = omega arith in
    let two : k ≡ 2 → ⊥ = omega arith in
    let three : k ≡ 3 → ⊥ = omega arith in
    rest_constraint _ c.args.groups part size size_is fits kind_is ok one two three in
    least_constraint _ c.args.groups _ _ size_is fits kind_is ok four

pub returns-in-1 : goal.returns-in-1
returns-in-1 c =
    let part : List ℕ = c.args.part.now in
    let size : ℕ = c.from-length.result in
    let size_is : size ≡ get_or part 0 0 = c.from-length.ensures in
    let fits : size ≤ length part = omega arith in
    let kind_is : kind_in c.args.section (get_or part 1 0) ≡ true = told_true c.kind_in.ensures c.if-not-kind_in.false in
    let ok : length_ok (get_or part 1 0) size ≡ true = told_true c.length_ok.ensures c.if-not-length_ok.false in
    let kind_of_lem : (k : ℕ) → get_or part 1 0 ≡ k → get_or (take size part) 1 0 ≡ k = λ k e. whole_kind _ c.args.groups _ _ size_is fits kind_is ok ∙ e in
    let found : Read = read_of c.args.section
    c.args.groups part in
    let by_fields : (r : Read) (f : Option ℕ) → r ≡ read_fields f (length (take size part))
    → bad_field c.args.groups (take size part) ≡ f
    → r ≡ found = λ r f e b. e ∙ sym (read_fields_lem _ _ _ _ size_is fits kind_is ok f b) in
    by_fields _ _ c.group_fields.ensures (field_group _ _ (kind_of_lem 1 c.in-1.is))

pub returns-in-2 : goal.returns-in-2
returns-in-2 c =
    let part : List ℕ = c.args.part.now in
    let size : ℕ = c.from-length.result in
    let size_is : size ≡ get_or part 0 0 = c.from-length.ensures in
    let fits : size ≤ length part = omega arith in
    let kind_is : kind_in c.args.section (get_or part 1 0) ≡ true = told_true c.kind_in.ensures c.if-not-kind_in.false in
    let ok : length_ok (get_or part 1 0) size ≡ true = told_true c.length_ok.ensures c.if-not-length_ok.false in
    let kind_of_lem : (k : ℕ) → get_or part 1 0 ≡ k → get_or (take size part) 1 0 ≡ k = λ k e. whole_kind _ c.args.groups _ _ size_is fits kind_is ok ∙ e in
    let found : Read = read_of c.args.section
    c.args.groups part in
    let by_fields : (r : Read) (f : Option ℕ) → r ≡ read_fields f (length (take size part))
    → bad_field c.args.groups (take size part) ≡ f
    → r ≡ found = λ r f e b. e ∙ sym (read_fields_lem _ _ _ _ size_is fits kind_is ok f b) in
    by_fields _ _ c.allow_fields.ensures (field_allow _ _ (kind_of_lem 2 c.in-2.is))

pub returns-in-3 : goal.returns-in-3
returns-in-3 c =
    let part : List ℕ = c.args.part.now in
    let size : ℕ = c.from-length.result in
    let size_is : size ≡ get_or part 0 0 = c.from-length.ensures in
    let fits : size ≤ length part = omega arith in
    let kind_is : kind_in c.args.section (get_or part 1 0) ≡ true = told_true c.kind_in.ensures c.if-not-kind_in.false in
    let ok : length_ok (get_or part 1 0) size ≡ true = told_true c.length_ok.ensures c.if-not-length_ok.false in
    let kind_of_lem : (k : ℕ) → get_or part 1 0 ≡ k → get_or (take size part) 1 0 ≡ k = λ k e. whole_kind _ c.args.groups _ _ size_is fits kind_is ok ∙ e in
    let found : Read = read_of c.args.section
    c.args.groups part in
    let by_fields : (r : Read) (f : Option ℕ) → r ≡ read_fields f (length (take size part))
    → bad_field c.args.groups (take size part) ≡ f
    → r ≡ found = λ r f e b. e ∙ sym (read_fields_lem _ _ _ _ size_is fits kind_is ok f b) in
    by_fields _ _ c.transition_fields.ensures (field_transition _ _ (kind_of_lem 3 c.in-3.is))

pub returns-in_default : goal.returns-in_default
returns-in_default c =
    let part : List ℕ = c.args.part.now in
    let size : ℕ = c.from-length.result in
    let size_is : size ≡ get_or part 0 0 = c.from-length.ensures in
    let fits : size ≤ length part = omega arith in
    let kind_is : kind_in c.args.section (get_or part 1 0) ≡ true = told_true c.kind_in.ensures c.if-not-kind_in.false in
    let ok : length_ok (get_or part 1 0) size ≡ true = told_true c.length_ok.ensures c.if-not-length_ok.false in
    let kind_of_lem : (k : ℕ) → get_or part 1 0 ≡ k → get_or (take size part) 1 0 ≡ k = λ k e. whole_kind _ c.args.groups _ _ size_is fits kind_is ok ∙ e in
    let found : Read = read_of c.args.section
    c.args.groups part in
    let by_fields : (r : Read) (f : Option ℕ) → r ≡ read_fields f (length (take size part))
    → bad_field c.args.groups (take size part) ≡ f
    → r ≡ found = λ r f e b. e ∙ sym (read_fields_lem _ _ _ _ size_is fits kind_is ok f b) in
    let four : get_or part 1 0 ≡ 4 = let k = get_or part 1 0 in
    let one : k ≡ 1 → ⊥ = omega arith in
    let two : k ≡ 2 → ⊥ = omega arith in
    let three : k ≡ 3 → ⊥ = omega arith in
    rest_constraint _ c.args.groups part size size_is fits kind_is ok one two three in
    by_fields _ _ c.constraint_fields.ensures (field_constraint _ _ (kind_of_lem 4 four))
