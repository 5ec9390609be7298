-- What the rules say of constraints, kept from row to row for two switch words: that of the last row in front, and one before that
-- behind.
--     unasked                  nothing is kept; said n: what 0, 1 or 2 says; front_of v, behind_of v: what a verdict says
--     verdict_at vs n          the verdict on constraint n
--     verdict_of l w n          under a word, the rules break the predicate of constraint n
--     KeptVerdicts l w vs      what is kept in front is right under the word w; KeptBehind l w vs: what is kept behind
--     Written l w us vs        in front, right under w; behind, as it was in us
--     names_switch r            a rule's record is an allow rule's, and its condition a switch; any_named l: such a rule is there
--     Turns back u v           what stands in front is put behind, and in front what stands behind, or nothing; Turned back us vs: in
--                              the whole table
--     first_held w             what a first row under a word holds
--     KeptUnder l h vs         what is kept is right for the words of h, and so is what h says of the switches; KeptFor l h vs: it is so
--                              on an accepted policy, and before the first row nothing is kept
--     Recalled l w h vs        the same, and the word in front is w
--     no_tables                the tables lent to a first query
--     TablesFor l w t          the tables t are lent to a query under the word w: verdicts in front, and no mark is set
--     Left l w t u             what it leaves of them; RowTables l h t: from row to row
use Rattle.std.specs.Prelude.{ℕ, zero, suc, ◌/◌, ◌%◌, ◌<◌, ◌≡◌, Bool, ◌&&◌, cond, List, get_or, replicate, eqb, leb}
use Rattle.std.specs.Prelude.{Option, Some, None, MatchOption, IfSome}
use Rattle.format.specs.declared.Section.TheVariants.{Constraints}
use Rattle.format.specs.Policy.{policy_of, place_of}
use Rattle.format.specs.Check.{Accepted}
use Rattle.decision.specs.Sets.{any_of}
use Rattle.decision.specs.Decide.{broken}
use Rattle.decide.specs.declared.verdicts.Held.{Held}
use Rattle.decide.specs.declared.verdicts.Tables.{Tables}
use Rattle.decide.specs.declared.verdicts.Verdict.{Verdict}
use Rattle.decide.specs.Inner.Parts.{rules_in, constraint_in}
use Rattle.decide.specs.Inner.Marks.{no_marks}

abbrev pub verdict_of : List ℕ → ℕ → ℕ → Bool
verdict_of l w n = broken (rules_in l w) (constraint_in l (place_of l Constraints n))

abbrev pub unasked : Verdict
unasked = record { 0 = 0 }

unfoldable pub said : ℕ → Option Bool
said zero = None
said (suc n) = Some (eqb (suc n) 2)

abbrev pub front_of : Verdict → Option Bool
front_of v = said (v.0 % 4)

abbrev pub behind_of : Verdict → Option Bool
behind_of v = said (v.0 / 4 % 4)

abbrev pub verdict_at : List Verdict → ℕ → Verdict
verdict_at vs n = get_or vs n unasked

pub record KeptVerdicts (l : List ℕ) (w : ℕ) (vs : List Verdict) : Type 0 where
  pub is : (n : ℕ) → n < 256 → IfSome (front_of (verdict_at vs n)) (λ b. b ≡ verdict_of l w n)

pub record KeptBehind (l : List ℕ) (w : ℕ) (vs : List Verdict) : Type 0 where
  pub is : (n : ℕ) → n < 256 → IfSome (behind_of (verdict_at vs n)) (λ b. b ≡ verdict_of l w n)

pub record Written (l : List ℕ) (w : ℕ) (us vs : List Verdict) : Type 0 where
  pub front : KeptVerdicts l w vs
  pub behind : (n : ℕ) → behind_of (verdict_at vs n) ≡ behind_of (verdict_at us n)

pub record Turns (back : Bool) (u v : Verdict) : Type 0 where
  pub front : front_of v ≡ cond back (behind_of u) None
  pub behind : behind_of v ≡ front_of u

abbrev pub Turned : Bool → List Verdict → List Verdict → Type 0
Turned back us vs = (n : ℕ) → n < 256 → Turns back (verdict_at us n) (verdict_at vs n)

unfoldable pub names_switch : List ℕ → Bool
names_switch r = eqb (get_or r 1 0) 2 && leb 2 (get_or r 10 0)

unfoldable pub any_named : List ℕ → Bool
any_named l = any_of names_switch (policy_of l).rules

abbrev pub first_held : ℕ → Held
first_held w = record { word = w; other = w; named = None }

pub record KeptUnder (l : List ℕ) (h : Held) (vs : List Verdict) : Type 0 where
  pub front : KeptVerdicts l h.word vs
  pub behind : KeptBehind l h.other vs
  pub named : IfSome h.named (λ b. b ≡ any_named l)

abbrev pub KeptFor : List ℕ → Option Held → List Verdict → Type 0
KeptFor l h vs = MatchOption h ((n : ℕ) → verdict_at vs n ≡ unasked) (λ x. Accepted l → KeptUnder l x vs)

pub record Recalled (l : List ℕ) (w : ℕ) (h : Held) (vs : List Verdict) : Type 0 where
  pub kept : Accepted l → KeptUnder l h vs
  pub word : h.word ≡ w

abbrev pub no_tables : Tables
no_tables = record { verdicts = replicate 256 unasked; source = no_marks; dest = no_marks }

pub record TablesFor (l : List ℕ) (w : ℕ) (t : Tables) : Type 0 where
  pub verdicts : Accepted l → KeptVerdicts l w t.verdicts
  pub source : t.source ≡ no_marks
  pub dest : t.dest ≡ no_marks

pub record Left (l : List ℕ) (w : ℕ) (t u : Tables) : Type 0 where
  pub tables : TablesFor l w u
  pub behind : (n : ℕ) → behind_of (verdict_at u.verdicts n) ≡ behind_of (verdict_at t.verdicts n)

pub record RowTables (l : List ℕ) (h : Option Held) (t : Tables) : Type 0 where
  pub verdicts : KeptFor l h t.verdicts
  pub source : t.source ≡ no_marks
  pub dest : t.dest ≡ no_marks
