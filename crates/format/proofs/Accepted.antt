-- What acceptance says of an image, for the layers above, which never open the check. Assumes nothing.
--     Header l            the header of an accepted image
--     header_holds, holds_header   no refusal from 1 to 4, and its parts
--     laid_header, laid_length, laid_body, laid_end, laid_formed, laid_stands   of an image that passes 1 to 7: the header
--                         holds, with the length field; the last record ends where the image does; each record of a section
--                         is formed, and lies in the image, at its place
--     accepted_laid, accepted_twins, laid_accepted, accepted_means   accepted is that and no twins: claim AcceptedMeans
--     accepted_header, accepted_length, accepted_body, accepted_end, record_formed, record_stands   the same of an accepted one
--     twins_none, none_twins, twin_fault_some, rest_is, check_split   the twins' refusal, and where it stands
--     place_first, place_next   the first record's place, and the next
--     start_least   no section starts before 9
--     policy_rules, policy_constraints   the records of an image's policy
--     record_nth, group_nth   record n of a section of the policy, and of the groups
--     records_count       the section of the policy has as many records as the header counts
--     records_given, all_given, none_given, empty_tells   claims RecordsGiven, AllGiven, NoneGiven, EmptyTells
use Prim.Native.Nat.{ℕ, zero, suc, ◌+◌, ◌≤◌, ◌<◌}
use mathlib.Core.Path.{◌≡◌, refl, sym, ap, ap₂, ◌∙◌}
use mathlib.Core.Bool.{Bool, true, ◌&&◌}
use Rattle.std.specs.Prelude.{Option, None, Some}
use mathlib.Core.List.{List, [], ◌∷◌}
use native.Mathlib.Omega.{arith}
use native.Mathlib.Nat.{add-zero}
use native.Mathlib.Numerals.{add-one}
use lib.ListN.{length, get_or}
use lib.Dec.{leb, ltb, eqb}
use borrow.Author.Tests.{leb-true, ltb-true, eqb-true, le-leb, lt-ltb, le-ltb}
use Rattle.format.specs.declared.Section.{Section}
use Rattle.format.specs.declared.Section.TheVariants.{Groups, Rules, Constraints}
use Rattle.format.specs.declared.Refusal.{Refusal}
use Rattle.format.specs.Bytes.{word_at}
use Rattle.format.specs.Refusals.{refusal, need, ◌or_else◌, unless_refused}
use Rattle.format.specs.Format.{known_version, limit_of, count_of}
use Rattle.format.specs.Policy.{policy_of, records_of, record_at, records_at, place_after, start_of, place_of, end_of}
use Rattle.format.specs.Twins.{first_twin, twin_at, twin_fault, NoTwins}
use Rattle.format.specs.Check.{section_fault, count_fault, header_fault, body_fault, layout_fault, LaidOut, rest_fault, check, Accepted}
use Rattle.format.specs.Give.{give_fault, given_record}
use Rattle.format.specs.Claims.{AcceptedMeans, GivenAt, RecordsGiven, given_from, AllGiven, NoneGiven, EmptyTells}
use Rattle.format.proofs.Tests.{both, and_true}
use Rattle.format.proofs.Chain.{some_not_none, or_else_split, or_else_none, or_else_next, or_else_first, need_true, need_none, need_some}
use Rattle.format.specs.Inner.Places.{Stands}
use Rattle.format.proofs.Shapes.{Formed, stands, record_part}
use Rattle.format.proofs.Records.{place_snoc, place_least, records_length, records_nth, section_formed, section_rest}

pub record Header (fits : ℕ → ℕ → Bool) (l : List ℕ) : Type 0 where
  pub long : 9 ≤ length l
  pub version : known_version (get_or l 0 0) ≡ true
  pub least : 9 ≤ word_at l 1
  pub fit : fits (word_at l 1) (length l) ≡ true
  pub few : (s : Section) → count_of l s ≤ limit_of s

pub header_holds : (fits : ℕ → ℕ → Bool) (l : List ℕ) → header_fault fits l ≡ None → Header fits l
unfolding header_fault count_fault
header_holds fits l e =
    let e₁ = or_else_split (need (leb 9 (length l)) (refusal 1 0)) _ e in
    let e₂ = or_else_split (need (known_version (get_or l 0 0)) (refusal 2 0)) _ e₁.1 in
    let e₃ = or_else_split (need (leb 9 (word_at l 1) && fits (word_at l 1) (length l)) (refusal 3 0)) _ e₂.1 in
    let e₄ = or_else_split (count_fault l Groups) _ e₃.1 in
    let e₅ = or_else_split (count_fault l Rules) (count_fault l Constraints) e₄.1 in
    let fit = both (leb 9 (word_at l 1)) (fits (word_at l 1) (length l)) (need_true _ _ e₃.0) in
    record {
      long = leb-true 9 (length l) (need_true _ _ e₁.0);
      version = need_true _ _ e₂.0;
      least = leb-true 9 (word_at l 1) fit.0;
      fit = fit.1;
      few = few e₄.0 e₅.0 e₅.1;
    }
  where
    few : count_fault l Groups ≡ None → count_fault l Rules ≡ None → count_fault l Constraints ≡ None → (s : Section) → count_of l s ≤ limit_of s
    few a b c Groups = leb-true (count_of l Groups) (limit_of Groups) (need_true _ _ a)
    few a b c Rules = leb-true (count_of l Rules) (limit_of Rules) (need_true _ _ b)
    few a b c Constraints = leb-true (count_of l Constraints) (limit_of Constraints) (need_true _ _ c)

pub holds_header : (fits : ℕ → ℕ → Bool) (l : List ℕ) → Header fits l → header_fault fits l ≡ None
unfolding header_fault count_fault
holds_header fits l h =
    or_else_none (need_none _ (le-leb 9 (length l) h.long))
    (or_else_none (need_none _ h.version)
    (or_else_none (need_none _ (and_true (le-leb 9 (word_at l 1) h.least) h.fit))
    (or_else_none (few Groups) (or_else_none (few Rules) (few Constraints)))))
  where
    few : (s : Section) → count_fault l s ≡ None
    few s = need_none _ (le-leb (count_of l s) (limit_of s) (h.few s))

module _ (l : List ℕ) (e : LaidOut l) where
  pub laid_header : Header eqb l
  unfolding layout_fault
  laid_header = header_holds eqb l (or_else_split (header_fault eqb l) (body_fault l) e).0

  pub laid_length : word_at l 1 ≡ length l
  laid_length = eqb-true (word_at l 1) (length l) laid_header.fit

  pub laid_body : body_fault l ≡ None
  unfolding layout_fault
  laid_body = (or_else_split (header_fault eqb l) (body_fault l) e).1

twin_at_none : (l : List ℕ) (o : Option ℕ) → twin_at l o ≡ None → o ≡ None
unfolding twin_at
twin_at_none l None e = refl
twin_at_none l (Some n) e = some_not_none e

pub twins_none : (l : List ℕ) → twin_fault l ≡ None → NoTwins (policy_of l).groups
unfolding twin_fault
twins_none l e = twin_at_none l _ e

pub none_twins : (l : List ℕ) → NoTwins (policy_of l).groups → twin_fault l ≡ None
unfolding twin_fault twin_at
none_twins l e = rw e

pub twin_fault_some : (l : List ℕ) (n : ℕ) → first_twin [] 0 (policy_of l).groups ≡ Some n → twin_fault l ≡ Some (refusal 19 (place_of l Groups n))
unfolding twin_fault twin_at
twin_fault_some l n e = rw e

pub rest_is : (l : List ℕ) → rest_fault l ≡ body_fault l or_else twin_fault l
unfolding rest_fault
rest_is l = refl

-- 1 to 7, and then 19
pub check_split : (l : List ℕ) → check l ≡ layout_fault l or_else twin_fault l
unfolding check rest_fault layout_fault ◌or_else◌
check_split l = go (header_fault eqb l)
  where
    go : (o : Option Refusal) → o or_else rest_fault l ≡ (o or_else body_fault l) or_else twin_fault l
    go None = refl
    go (Some f) = refl

module _ (l : List ℕ) (e : Accepted l) where
  pub accepted_rest : rest_fault l ≡ None
  unfolding check
  accepted_rest = (or_else_split (header_fault eqb l) (rest_fault l) e).1

  pub accepted_laid : LaidOut l
  unfolding check rest_fault layout_fault
  accepted_laid = or_else_none (or_else_split (header_fault eqb l) (rest_fault l) e).0 (or_else_split (body_fault l) (twin_fault l) accepted_rest).0

  pub accepted_twins : NoTwins (policy_of l).groups
  unfolding rest_fault
  accepted_twins = twins_none l (or_else_split (body_fault l) (twin_fault l) accepted_rest).1

  pub accepted_header : Header eqb l
  accepted_header = laid_header l accepted_laid

  pub accepted_length : word_at l 1 ≡ length l
  accepted_length = laid_length l accepted_laid

  pub accepted_body : body_fault l ≡ None
  accepted_body = laid_body l accepted_laid

pub laid_accepted : (l : List ℕ) → LaidOut l → NoTwins (policy_of l).groups → Accepted l
unfolding check rest_fault layout_fault
laid_accepted l e n =
    let q = or_else_split (header_fault eqb l) (body_fault l) e in
    or_else_none q.0 (or_else_none q.1 (none_twins l n))

pub accepted_means : AcceptedMeans
accepted_means l = (λ e. (accepted_laid l e, accepted_twins l e), laid_accepted l)

pub section_inside : (l : List ℕ) (s : Section) (at n : ℕ) → at ≤ length l → section_fault l s at n ≡ None → place_after l at n ≤ length l
unfolding place_after
section_inside l s at zero h e = h
section_inside l s at (suc n) h e =
    let f = stands l at (section_formed l s at (suc n) 0 (omega arith) e).shape in
    section_inside l s (at + get_or l at 0) n (omega (arith, f.size, f.inside)) (section_rest l s at n e)

module _ (l : List ℕ) (e : body_fault l ≡ None) where
  pub body_sections : (s : Section) → section_fault l s (start_of l s) (count_of l s) ≡ None
  unfolding body_fault
  body_sections Groups = (or_else_split (section_fault l Groups (start_of l Groups) (count_of l Groups)) _ e).0
  body_sections Rules =
      (or_else_split (section_fault l Rules (start_of l Rules) (count_of l Rules)) _
      (or_else_split (section_fault l Groups (start_of l Groups) (count_of l Groups)) _ e).1).0
  body_sections Constraints =
      (or_else_split (section_fault l Constraints (start_of l Constraints) (count_of l Constraints)) _
      (or_else_split (section_fault l Rules (start_of l Rules) (count_of l Rules)) _
      (or_else_split (section_fault l Groups (start_of l Groups) (count_of l Groups)) _ e).1).1).0

  body_end : length l ≤ end_of l
  unfolding body_fault
  body_end =
      leb-true (length l) (end_of l) (need_true _ _
      (or_else_split (section_fault l Constraints (start_of l Constraints) (count_of l Constraints)) _
      (or_else_split (section_fault l Rules (start_of l Rules) (count_of l Rules)) _
      (or_else_split (section_fault l Groups (start_of l Groups) (count_of l Groups)) _ e).1).1).1)

  -- each section starts within the image
  pub start_inside : 9 ≤ length l → (s : Section) → start_of l s ≤ length l
  unfolding start_of
  start_inside h Groups = h
  start_inside h Rules = section_inside l Groups 9 (count_of l Groups) h (body_sections Groups)
  start_inside h Constraints =
      section_inside l Rules (place_after l 9 (count_of l Groups)) (count_of l Rules)
      (section_inside l Groups 9 (count_of l Groups) h (body_sections Groups)) (body_sections Rules)

  pub body_ends : 9 ≤ length l → end_of l ≡ length l
  unfolding end_of place_of
  body_ends h =
      let k = section_inside l Constraints (start_of l Constraints) (count_of l Constraints) (start_inside h Constraints) (body_sections Constraints) in
      omega (arith, body_end)

module _ (l : List ℕ) (e : LaidOut l) where
  pub laid_end : end_of l ≡ length l
  laid_end = body_ends l (laid_body l e) (laid_header l e).long

  module _ (s : Section) (n : ℕ) (h : n < count_of l s) where
    pub laid_formed : Formed s (count_of l Groups) (record_at l (place_of l s n))
    unfolding place_of
    laid_formed = section_formed l s (start_of l s) (count_of l s) n h (body_sections l (laid_body l e) s)

    pub laid_stands : Stands l (place_of l s n) (record_at l (place_of l s n))
    laid_stands = stands l (place_of l s n) laid_formed.shape

module _ (l : List ℕ) (e : Accepted l) where
  pub accepted_end : end_of l ≡ length l
  accepted_end = laid_end l (accepted_laid l e)

  module _ (s : Section) (n : ℕ) (h : n < count_of l s) where
    pub record_formed : Formed s (count_of l Groups) (record_at l (place_of l s n))
    record_formed = laid_formed l (accepted_laid l e) s n h

    pub record_stands : Stands l (place_of l s n) (record_at l (place_of l s n))
    record_stands = laid_stands l (accepted_laid l e) s n h

pub start_least : (l : List ℕ) (s : Section) → 9 ≤ start_of l s
unfolding start_of
start_least l Groups = omega arith
start_least l Rules = place_least l 9 (count_of l Groups)
start_least l Constraints =
    let a = place_least l 9 (count_of l Groups) in
    let b = place_least l (start_of l Rules) (count_of l Rules) in
    omega arith

pub start_groups : (l : List ℕ) → start_of l Groups ≡ 9
unfolding start_of
start_groups l = refl

pub place_first : (l : List ℕ) (s : Section) → place_of l s 0 ≡ start_of l s
unfolding place_of place_after
place_first l s = refl

pub place_next : (l : List ℕ) (s : Section) (n : ℕ) → place_of l s (n + 1) ≡ place_of l s n + get_or l (place_of l s n) 0
unfolding place_of
place_next l s n = rw add-one (place_snoc l (start_of l s) n)

pub policy_records : (l : List ℕ) (s : Section) → records_of (policy_of l) s ≡ records_at l (start_of l s) (count_of l s)
unfolding records_of policy_of
policy_records l Groups = refl
policy_records l Rules = refl
policy_records l Constraints = refl

module _ (l : List ℕ) where
  pub policy_rules : (policy_of l).rules ≡ records_at l (start_of l Rules) (count_of l Rules)
  unfolding policy_of
  policy_rules = refl

  pub policy_constraints : (policy_of l).constraints ≡ records_at l (start_of l Constraints) (count_of l Constraints)
  unfolding policy_of
  policy_constraints = refl

pub record_nth : (l : List ℕ) (s : Section) (n : ℕ) → n < count_of l s → get_or (records_of (policy_of l) s) n [] ≡ record_at l (place_of l s n)
unfolding place_of
record_nth l s n h = ap (λ (rs : List (List ℕ)). get_or rs n []) (policy_records l s) ∙ records_nth l (start_of l s) (count_of l s) n h

pub group_nth : (l : List ℕ) (n : ℕ) → n < count_of l Groups → get_or (policy_of l).groups n [] ≡ record_at l (place_of l Groups n)
unfolding records_of
group_nth l n h = record_nth l Groups n h

pub records_count : (l : List ℕ) (s : Section) → length (records_of (policy_of l) s) ≡ count_of l s
records_count l s = ap length (policy_records l s) ∙ records_length l (start_of l s) (count_of l s)

module _ (l : List ℕ) (e : Accepted l) (s : Section) (n : ℕ) (h : n < count_of l s) where
  pub give_none : give_fault l s n ≡ None
  unfolding give_fault
  give_none = or_else_none e (need_none _ (lt-ltb n (count_of l s) h))

  pub record_is : given_record l s n ≡ record_at l (place_of l s n)
  unfolding given_record unless_refused
  record_is = rw give_none (record_nth l s n h)

pub records_given : RecordsGiven
records_given l e s n k =
    let h : n < count_of l s = omega (arith, k, records_count l s) in
    let is = record_is l e s n h in
    let st = record_stands l e s n h in
    record {
      given = give_none l e s n h;
      nth = is ∙ sym (record_nth l s n h);
      nonempty = rw is (omega (arith, st.some));
      inside = rw is st.inside;
      part = rw is (record_part l (place_of l s n) st);
    }

-- a list is what its elements are, one after the other
given_list : (l : List ℕ) (s : Section) (k : ℕ) (rs : List (List ℕ)) → ((i : ℕ) → i < length rs → given_record l s (k + i) ≡ get_or rs i []) → given_from l s k (length rs) ≡ rs
unfolding given_from
given_list l s k [] h = refl
given_list l s k (r ∷ rs) h =
    ap₂ ◌∷◌ (ap (given_record l s) (sym (add-zero k)) ∙ h 0 (omega arith))
    (given_list l s (suc k) rs (λ i j. (let z : suc k + i ≡ k + suc i = omega arith in rw z (h (suc i) (omega arith)))))

pub all_given : AllGiven
all_given l e s =
    given_list l s 0 (records_of (policy_of l) s)
    (λ i h. (let z : 0 + i ≡ i = omega arith in rw z (records_given l e s i h).nth))

pub none_given : NoneGiven
unfolding give_fault
none_given l e s n h = or_else_next _ e ∙ need_some _ (le-ltb n (count_of l s) (rw (records_count l s) at h))

-- what it says that nothing is refused, for the callers of `find` and `record`
pub give_split : (l : List ℕ) (s : Section) (n : ℕ) → give_fault l s n ≡ None → (Accepted l) × (n < count_of l s)
unfolding give_fault
give_split l s n e =
    let q = or_else_split (check l) (need (ltb n (count_of l s)) (refusal 14 0)) e in
    (q.0, ltb-true n (count_of l s) (need_true _ _ q.1))

pub given_at : (l : List ℕ) (s : Section) (n : ℕ) → give_fault l s n ≡ None → GivenAt l s n
given_at l s n e = let q = give_split l s n e in records_given l q.0 s n (rw (records_count l s) q.1)

pub given_none : (l : List ℕ) (s : Section) (n : ℕ) {f : Refusal} → give_fault l s n ≡ Some f → given_record l s n ≡ []
unfolding given_record unless_refused
given_none l s n e = rw e

pub empty_tells : EmptyTells
empty_tells = record { given = λ l s n e. (given_at l s n e).nonempty; refused = λ l s n f e. given_none l s n e }

-- ---- for callers above

pub given_one : (l : List ℕ) (s : Section) (k : ℕ) → given_from l s k 1 ≡ given_record l s k ∷ []
unfolding given_from
given_one l s k = refl

-- a refused image gives nothing, for the image's own cause
pub give_image : (l : List ℕ) (s : Section) (n : ℕ) {f : Refusal} → check l ≡ Some f → give_fault l s n ≡ Some f
unfolding give_fault
give_image l s n e = or_else_first _ e
