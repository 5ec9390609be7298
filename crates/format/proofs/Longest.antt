-- The longest image that the limits allow is accepted: claim LongestReached. Assumes nothing.
--     group_length, rule_length, constraint_length   how long its records are
--     longest_full       each section has as many records as it may
--     longest_sound      the policy `longest` passes the check's tests
use Prim.Native.Nat.{ℕ, zero, suc, ◌+◌, ◌-◌, ◌*◌, ◌≤◌, ◌<◌}
use mathlib.Core.Path.{◌≡◌, refl, sym, subst, ap, ◌∙◌}
use mathlib.Core.Logic.{⊎_elim}
use mathlib.Core.Bool.{true}
use mathlib.Core.List.Memᴰ
use mathlib.Core.List.{List, [], ◌∷◌, ◌++◌, flatten, Memᴰ}
use native.Mathlib.Omega.{arith}
use lib.ListN.{length, get_or, replicate, length-append, length-replicate}
use borrow.Author.Tests.{le-leb, lt-ltb}
use Rattle.format.specs.declared.Section.{Section}
use Rattle.format.specs.declared.Section.TheVariants.{Groups, Rules, Constraints}
use Rattle.format.specs.Bytes.{Bytes, word_at, words, put_word}
use Rattle.format.specs.Refusals.{need, ◌or_else◌}
use Rattle.format.specs.Format.{known_version, limit_of, kind_in, length_ok, is_type, is_condition, list_ok, shape_ok, bad_member, bad_type, bad_group, bad_allow, bad_constraint, bad_field}
use Rattle.format.specs.Policy.{records_of, body_of}
use Rattle.format.specs.Twins.{Apart}
use Rattle.format.specs.Longest.{count_up, long_group, long_groups, long_rule, long_constraint, longest, LongestReached}
use Rattle.format.proofs.Bytes.{bytes_nil, bytes_cons, bytes_append, bytes_word, word_back}
use Rattle.format.proofs.Shapes.{Formed}
use Rattle.format.proofs.Twins.{apart_none}
use Rattle.format.proofs.Images.{Regular, Sound, image_length, image_accepted, image_bytes, policy_of_image}

-- ---- the records

group_formed : (g k : ℕ) → k < 256 → Formed Groups g (long_group k)
unfolding long_group count_up put_word shape_ok kind_in length_ok bad_field bad_group bad_member words need ◌or_else◌
group_formed g k h =
    record {
      shape = refl;
      kind = refl;
      fields = rw (word_back k, le-leb 0 k (omega arith), lt-ltb k 1024 (omega arith), le-leb (suc k) 256 (omega arith));
    }

rule_formed : (g : ℕ) → Formed Rules g long_rule
unfolding long_rule shape_ok kind_in length_ok bad_field bad_allow word_at is_type is_condition need ◌or_else◌
rule_formed g = record { shape = refl; kind = refl; fields = refl }

constraint_formed : (g : ℕ) → Formed Constraints g long_constraint
unfolding long_constraint shape_ok kind_in length_ok bad_field bad_constraint bad_type word_at words is_type list_ok need ◌or_else◌
constraint_formed g = record { shape = refl; kind = refl; fields = refl }

up_bytes : (n m : ℕ) → n + m ≤ 65536 → Bytes (count_up n m)
unfolding count_up
up_bytes zero m h = bytes_nil
up_bytes (suc n) m h = bytes_word m (count_up n (suc m)) (omega arith) (up_bytes n (suc m) (omega arith))

replicate_bytes : (n k : ℕ) → k < 256 → Bytes (replicate n k)
replicate_bytes zero k h = bytes_nil
replicate_bytes (suc n) k h = bytes_cons k (replicate n k) h (replicate_bytes n k h)

group_bytes : (k : ℕ) → k < 256 → Bytes (long_group k)
unfolding long_group
group_bytes k h =
    let t : Bytes (put_word k (count_up 63 256)) = bytes_word k (count_up 63 256) (omega arith) (up_bytes 63 256 (omega arith)) in
    bytes_cons 130 (1 ∷ put_word k (count_up 63 256)) (omega arith) (bytes_cons 1 (put_word k (count_up 63 256)) (omega arith) t)

-- a length and a kind, eight zeros, and what follows
record_bytes : (n k : ℕ) (t : List ℕ) → n < 256 → k < 256 → Bytes t → Bytes (n ∷ k ∷ replicate 8 0 ++ t)
record_bytes n k t h j b =
    let z : Bytes (replicate 8 0 ++ t) = bytes_append (replicate 8 0) t (replicate_bytes 8 0 (omega arith)) b in
    bytes_cons n (k ∷ replicate 8 0 ++ t) h (bytes_cons k (replicate 8 0 ++ t) j z)

rule_bytes : Bytes long_rule
unfolding long_rule
rule_bytes = record_bytes 11 2 (1 ∷ []) (omega arith) (omega arith) (bytes_cons 1 [] (omega arith) bytes_nil)

constraint_bytes : Bytes long_constraint
unfolding long_constraint
constraint_bytes =
    record_bytes 43 4 (2 ∷ replicate 32 0) (omega arith) (omega arith)
    (bytes_cons 2 (replicate 32 0) (omega arith) (replicate_bytes 32 0 (omega arith)))

-- ---- many of them

groups_many : (n : ℕ) → length (long_groups n) ≡ n
unfolding long_groups
groups_many zero = refl
groups_many (suc n) = ap suc (groups_many n)

groups_mem : (n : ℕ) (r : List ℕ) → Memᴰ r (long_groups n) → (k : ℕ) × (k < n) × (r ≡ long_group k)
unfolding long_groups
groups_mem zero r m = absurd (Memᴰ.not-nil m)
groups_mem (suc n) r m =
    ⊎_elim
    (λ e. (n, omega arith, e))
    (λ t. let q = groups_mem n r t in (q.0, omega (arith, q.1), q.2))
    (Memᴰ.cases_cons m)

replicate_mem : (n : ℕ) (x r : List ℕ) → Memᴰ r (replicate n x) → r ≡ x
replicate_mem zero x r m = absurd (Memᴰ.not-nil m)
replicate_mem (suc n) x r m = ⊎_elim (λ e. e) (λ t. replicate_mem n x r t) (Memᴰ.cases_cons m)

pub group_length : (k : ℕ) → length (long_group k) ≡ 130
unfolding long_group count_up put_word
group_length k = refl

groups_length : (n : ℕ) → length (flatten (long_groups n)) ≡ n * 130
unfolding long_groups flatten
groups_length zero = refl
groups_length (suc n) = rw (length-append (long_group n) (flatten (long_groups n)), groups_length n, group_length n) (omega arith)

replicate_length : (n : ℕ) (r : List ℕ) → length (flatten (replicate n r)) ≡ n * length r
unfolding flatten
replicate_length zero r = omega arith
replicate_length (suc n) r = rw (length-append r (flatten (replicate n r)), replicate_length n r) (omega arith)

-- ---- the policy

pub longest_full : (s : Section) → length (records_of longest s) ≡ limit_of s
unfolding records_of limit_of longest
longest_full Groups = groups_many 256
longest_full Rules = length-replicate 1024 long_rule
longest_full Constraints = length-replicate 256 long_constraint

longest_formed : (g : ℕ) (s : Section) (r : List ℕ) → Memᴰ r (records_of longest s) → Formed s g r
unfolding records_of longest
longest_formed g Groups r m = let q = groups_mem 256 r m in subst (Formed Groups g) (sym q.2) (group_formed g q.0 q.1)
longest_formed g Rules r m = subst (Formed Rules g) (sym (replicate_mem 1024 long_rule r m)) (rule_formed g)
longest_formed g Constraints r m = subst (Formed Constraints g) (sym (replicate_mem 256 long_constraint r m)) (constraint_formed g)

longest_bytes : (s : Section) (r : List ℕ) → Memᴰ r (records_of longest s) → Bytes r
unfolding records_of longest
longest_bytes Groups r m = let q = groups_mem 256 r m in subst Bytes (sym q.2) (group_bytes q.0 q.1)
longest_bytes Rules r m = subst Bytes (sym (replicate_mem 1024 long_rule r m)) rule_bytes
longest_bytes Constraints r m = subst Bytes (sym (replicate_mem 256 long_constraint r m)) constraint_bytes

longest_version : known_version longest.version ≡ true
unfolding known_version longest
longest_version = refl

-- no two groups begin alike
groups_nth : (n i k : ℕ) → n ≡ suc (i + k) → get_or (long_groups n) i [] ≡ long_group k
unfolding long_groups
groups_nth zero i k e = absurd (omega arith)
groups_nth (suc n) zero k e = let z : n ≡ k = omega arith in ap long_group z
groups_nth (suc n) (suc i) k e = groups_nth n i k (omega arith)

first_member : (k : ℕ) → word_at (long_group k) 2 ≡ k
unfolding word_at long_group put_word
first_member k = word_back k

groups_apart : Apart (long_groups 256)
groups_apart i j h l q =
    let n = groups_many 256 in
    let a = groups_nth 256 i (255 - i) (omega arith) in
    let b = groups_nth 256 j (255 - j) (omega arith) in
    let z : 255 - i ≡ 255 - j = sym (first_member (255 - i)) ∙ ap (λ (r : List ℕ). word_at r 2) (sym a ∙ q ∙ b) ∙ first_member (255 - j) in
    absurd (omega arith)

longest_regular : Regular longest
longest_regular =
    record { version = longest_version; few = λ s. omega (arith, longest_full s); formed = longest_formed (length longest.groups); bytes = longest_bytes }

pub longest_sound : Sound longest
unfolding longest
longest_sound = record { regular = longest_regular; twins = apart_none (long_groups 256) groups_apart }

pub rule_length : length long_rule ≡ 11
unfolding long_rule
rule_length = refl

pub constraint_length : length long_constraint ≡ 43
unfolding long_constraint
constraint_length = refl

longest_body : length (body_of longest) ≡ 55552
unfolding body_of longest
longest_body =
    rw (
      length-append (flatten (long_groups 256)) (flatten (replicate 1024 long_rule) ++ flatten (replicate 256 long_constraint)),
      length-append (flatten (replicate 1024 long_rule)) (flatten (replicate 256 long_constraint)),
      groups_length 256,
      replicate_length 1024 long_rule,
      replicate_length 256 long_constraint,
      rule_length,
      constraint_length,
    )

pub longest_reached : LongestReached
longest_reached =
    record {
      accepted = image_accepted longest longest_sound;
      bytes = image_bytes longest longest_regular;
      policy = policy_of_image longest longest_regular;
      reached = image_length longest ∙ ap (λ (n : ℕ). 9 + n) longest_body;
    }
