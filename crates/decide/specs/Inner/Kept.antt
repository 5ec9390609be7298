-- What is kept in tables of 256, so that it is found once, and what functions leave of it.
--     said b                   what is kept of an answer; says_no k: it is no
--     KeptOf f table           what is kept of f is what f says of a number, where it was asked
--     KeptTest f l kept        of a test f of the groups' sets
--     outside_in ms kept t      that a set is not within the type t is known from its marks, or kept; keep_outside kept t: it is kept
--                              then, of a group
--     SideOf l t s             the side s is of the type t: its marks and their number, and what is kept of the groups that it is
--                              within; Sides l q s d: the two of a query
--     KeptReach l ms f ..      of the groups that touch marks, and of a test of sources
--     Unmarks t ms ns          where ms are the marks of the type t, ns are none
--     Leaves x K r             the answer is x, and what is kept is right after it
use Rattle.std.specs.Prelude.{ℕ, ◌-◌, ◌≡◌, Bool, true, false, not, cond, List, get_or, set, ltb}
use Rattle.format.specs.declared.Section.TheVariants.{Groups}
use Rattle.format.specs.Format.{count_of}
use Rattle.format.specs.Claims.{IsType}
use Rattle.decision.specs.declared.Query.{Query}
use Rattle.decision.specs.Sets.{within}
use Rattle.decide.specs.declared.kept.Kept.{Kept}
use Rattle.decide.specs.declared.kept.Kept.TheVariants.{Unasked, No, Yes}
use Rattle.decide.specs.declared.kept.Side.{Side}
use Rattle.decide.specs.Inner.Parts.{set_in, group_set}
use Rattle.decide.specs.Inner.Marks.{no_marks, mark_all, Marked, any_marked}

unfoldable pub said : Bool → Kept
said b = cond b Yes No

unfoldable pub says_no : Kept → Bool
says_no Unasked = false
says_no No = true
says_no Yes = false

pub record KeptOf (f : ℕ → Bool) (table : List Kept) : Type 0 where
  pub is : (n : ℕ) (b : Bool) → get_or table n Unasked ≡ said b → f n ≡ b

abbrev pub KeptTest : (List ℕ → Bool) → List ℕ → List Kept → Type 0
KeptTest f l = KeptOf (λ g. f (group_set l g))

unfoldable pub outside_in : List Bool → List Kept → ℕ → Bool
outside_in ms kept t = cond (ltb t 32768) (not (get_or ms t false)) (says_no (get_or kept (t - 32768) Unasked))

unfoldable pub keep_outside : List Kept → ℕ → List Kept
keep_outside kept t = cond (ltb t 32768) kept (set kept (t - 32768) No)

pub record SideOf (l : List ℕ) (t : ℕ) (s : Side) : Type 0 where
  pub type : IsType (count_of l Groups) t
  pub marked : Marked (set_in l t) s.marks.now s.size
  pub kept : KeptTest (within (set_in l t)) l s.kept

pub record Sides (l : List ℕ) (q : Query) (s d : Side) : Type 0 where
  pub source : SideOf l q.source s
  pub dest : SideOf l q.dest d

pub record KeptReach (l : List ℕ) (ms : List Bool) (f : List ℕ → Bool) (kr ks : List Kept) : Type 0 where
  pub reach : KeptTest (any_marked ms) l kr
  pub source : KeptTest f l ks

abbrev pub Unmarks : ℕ → List Bool → List Bool → Type 0
Unmarks t ms ns = (l : List ℕ) → ms ≡ mark_all no_marks (set_in l t) → ns ≡ no_marks

module _ {A : Type 0} where
  pub record Leaves (x : A) (K : Type 0) (r : A) : Type 0 where
    pub is : r ≡ x
    pub kept : K
