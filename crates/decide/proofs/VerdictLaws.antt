-- Laws of the verdicts that are kept under two switch words. Assumes nothing.
--     front_none, front_says, front_adds   in front: nothing at first, what is read back, and one more kept
--     written_same, written_after, left_same   what stands behind stays
--     Turning, turning_next  the table turned before a number, and one number further
--     tables_first, rows_first   none is kept at first
--     recalled_first, recalled_plain, recalled_turned, recalled_refused   made right for a word, one for each way that it is
--     tables_for, rows_after   what a query is lent, and what it leaves for the next row
--     any_named_lem              all rules, by their records from the first on
--     names_not, names_allow what a rule at a place names
--     refused_not            a refused image is not accepted
use Prim.Native.Nat.{ℕ, zero, suc, ◌+◌, ◌≤◌, ◌<◌}
use native.Mathlib.Omega.{arith}
use mathlib.Core.Path.{◌≡◌, refl, sym, subst, ap, ◌∙◌}
use mathlib.Core.Bool.{Bool, true, false}
use Rattle.std.specs.Prelude.{Some}
use Rattle.std.proofs.lemmas.Option.{none-some}
use mir.Val.{bool_byte}
use Rattle.std.specs.Prelude.{Option, Some, None, IfSome}
use mathlib.Core.List.{List, [], ◌∷◌, map}
use lib.ListN.{length, get_or, set, replicate, length-set}
use lib.Seq.{get_or-set_same, get_or-set_other}
use lib.Dec.{eqb, leb}
use borrow.Author.Tests.{eq-eqb, eqb-true, eqb-false, leb-false}
use Rattle.format.specs.declared.Section.TheVariants.{Rules, Constraints}
use Rattle.format.specs.Format.{count_of}
use Rattle.format.specs.Policy.{policy_of, records_at, start_of, place_of}
use Rattle.format.specs.declared.Refusal.{Refusal}
use Rattle.format.specs.Check.{check, Accepted}
use Rattle.format.specs.Inner.Places.{RuleAt}
use Rattle.format.proofs.Accepted.{policy_rules}
use Rattle.decision.specs.Sets.{any_of}
use Rattle.decision.specs.Reading.{Rule}
use Rattle.decision.specs.Decide.{broken}
use Rattle.decision.specs.Switches.{NoSwitches}
use Rattle.decision.proofs.Search.{by_test, any_of_none}
use Rattle.decision.proofs.Switches.{plain_rules}
use Rattle.decide.specs.declared.verdicts.Held.{Held}
use Rattle.decide.specs.declared.verdicts.Tables.{Tables}
use Rattle.decide.specs.declared.verdicts.Verdict.{Verdict}
use Rattle.decide.specs.Inner.Parts.{constraint_in}
use Rattle.decide.specs.Inner.Rules.{allow_at}
use Rattle.decide.specs.Inner.Verdicts.{verdict_of, KeptVerdicts, KeptBehind, Written, names_switch, any_named}
use Rattle.decide.specs.Inner.Verdicts.{unasked, said, front_of, behind_of, verdict_at, Turns, Turned, first_held}
use Rattle.decide.specs.Inner.Verdicts.{KeptUnder, KeptFor, Recalled, no_tables, TablesFor, Left, RowTables}
use Rattle.decide.proofs.ArrayLaws.{blank, by_set}

-- ---- what is known of the switches

-- a list as it is
same_map : {A : Type 0} (xs : List A) → map (λ x. x) xs ≡ xs
same_map [] = refl
same_map (x ∷ xs) = ap (λ ys. x ∷ ys) (same_map xs)

pub any_named_lem : (l : List ℕ) → any_named l ≡ any_of names_switch
    (map (λ r. r) (records_at l (start_of l Rules) (count_of l Rules)))
unfolding any_named
any_named_lem l = ap (any_of names_switch) (policy_rules l ∙ sym (same_map _))

no_switches : (l : List ℕ) → any_named l ≡ false → NoSwitches (policy_of l)
unfolding any_named names_switch
no_switches l e r m k =
    let None : names_switch r ≡ false = any_of_none names_switch e m in
    let low : leb 2 (get_or r 10 0) ≡ false = simp (eq-eqb (get_or r 1 0) 2 k) at None in
    leb-false 2 (get_or r 10 0) low

-- ---- what is kept

-- what a number says
pub said_none : (n : ℕ) → said n ≡ None → n ≡ 0
unfolding said
said_none zero e = refl
said_none (suc n) e = absurd (none-some (eqb (suc n) 2) (sym e))

pub said_zero : (n : ℕ) → n ≡ 0 → said n ≡ None
unfolding said
said_zero n e = rw e refl

pub said_more : (n : ℕ) → (n ≡ 0 → ⊥) → said n ≡ Some (eqb n 2)
unfolding said
said_more zero h = absurd (h refl)
said_more (suc n) h = refl

pub said_found : (n : ℕ) (b : Bool) → n ≡ 1 + bool_byte b → said n ≡ Some b
unfolding said
said_found n true e = rw e refl
said_found n false e = rw e refl

pub byte_most : (b : Bool) → bool_byte b ≤ 1
byte_most true = omega arith
byte_most false = omega arith

-- nothing is said
silent : (v : Verdict) → v ≡ unasked → (front_of v ≡ None) × (behind_of v ≡ None)
unfolding said
silent v e = (ap front_of e, ap behind_of e)

if_none : {X : Type 0} (P : X → Type 0) (o : Option X) → o ≡ None → IfSome o P
if_none P None e = tt
if_none P (Some x) e = absurd (none-some x (sym e))

if_some : {X : Type 0} (P : X → Type 0) (o : Option X) (x : X) → o ≡ Some x → P x → IfSome o P
if_some P o x e p = subst (λ o. IfSome o P) (sym e) p

module _ (l : List ℕ) (w : ℕ) where
  pub front_blank : (vs : List Verdict) → ((n : ℕ) → verdict_at vs n ≡ unasked) → KeptVerdicts l w vs
  front_blank vs z = record { is = λ n m. if_none _ _ (silent (verdict_at vs n) (z n)).0 }

  behind_blank : (vs : List Verdict) → ((n : ℕ) → verdict_at vs n ≡ unasked) → KeptBehind l w vs
  behind_blank vs z = record { is = λ n m. if_none _ _ (silent (verdict_at vs n) (z n)).1 }

  pub front_none : KeptVerdicts l w (replicate 256 unasked)
  front_none = front_blank (replicate 256 unasked) (blank unasked 256)

  module _ (vs : List Verdict) (k : KeptVerdicts l w vs) where
    pub written_same : Written l w vs vs
    written_same = record { front = k; behind = λ n. refl }

    -- what is read back, and one more kept
    module _ (n : ℕ) (b : Bool) where
      pub front_says : n < 256 → front_of (verdict_at vs n) ≡ Some b → b ≡ verdict_of l w n
      front_says m e = subst (λ o. IfSome o (λ b. b ≡ verdict_of l w n)) e (k.is n m)

      pub front_adds : b ≡ verdict_of l w n → (v : Verdict) → (front_of v ≡ Some b) × (behind_of v ≡ behind_of (verdict_at vs n))
          → Written l w vs (set vs n v)
      front_adds e v f =
          record {
            front = record {
              is = by_set unasked (λ (j : ℕ) (x : Verdict). j < 256 → IfSome (front_of x) (λ b. b ≡ verdict_of l w j)) vs n v k.is
                  (λ m. if_some (λ b. b ≡ verdict_of l w n) (front_of v) b f.0 e);
            };
            behind = by_set unasked (λ (j : ℕ) (x : Verdict). behind_of x ≡ behind_of (verdict_at vs j)) vs n v (λ j. refl) f.1;
          }

  pub written_after : (us vs ws : List Verdict) → Written l w us vs → Written l w vs ws → Written l w us ws
  written_after us vs ws f g = record { front = g.front; behind = λ n. g.behind n ∙ f.behind n }

  pub left_same : (t : Tables) → TablesFor l w t → Left l w t t
  left_same t k = record { tables = k; behind = λ n. refl }

  -- the tables of a first query
  pub tables_first : (t : Tables) → t ≡ no_tables → TablesFor l w t
  tables_first t e = subst (TablesFor l w) (sym e) (record { verdicts = λ _. front_none; source = refl; dest = refl })

-- ---- front and back changed

module _ (l : List ℕ) (w o : ℕ) (us vs : List Verdict) (f : KeptVerdicts l w us) (g : KeptBehind l o us) where
  turned_back : Turned true us vs → KeptVerdicts l o vs × KeptBehind l w vs
  turned_back t = (
    record { is = λ n m. subst (λ x. IfSome x (λ b. b ≡ verdict_of l o n)) (sym (t n m).front) (g.is n m) },
    record { is = λ n m. subst (λ x. IfSome x (λ b. b ≡ verdict_of l w n)) (sym (t n m).behind) (f.is n m) },
  )

  turned_away : (w' : ℕ) → Turned false us vs → KeptVerdicts l w' vs × KeptBehind l w vs
  turned_away w' t = (
    record { is = λ n m. if_none _ _ (t n m).front },
    record { is = λ n m. subst (λ x. IfSome x (λ b. b ≡ verdict_of l w n)) (sym (t n m).behind) (f.is n m) },
  )

-- the table is turned before a number, and as it was from there on
pub record Turning (back : Bool) (us vs : List Verdict) (n : ℕ) : Type 0 where
  pub all : length vs ≡ length us
  pub done : (j : ℕ) → j < n → Turns back (verdict_at us j) (verdict_at vs j)
  pub rest : (j : ℕ) → n ≤ j → verdict_at vs j ≡ verdict_at us j

pub turning_next : (back : Bool) (us vs : List Verdict) (n : ℕ) (v : Verdict) → Turning back us vs n → n < length vs
    → Turns back (verdict_at vs n) v → Turning back us (set vs n v) (n + 1)
turning_next back us vs n v t m e =
    record {
      all = length-set vs n v ∙ t.all;
      done = λ j h. by_test (eqb j n)
          (λ p. subst (λ (i : ℕ). Turns back (verdict_at us i) (verdict_at (set vs n v) i)) (sym (eqb-true j n p)) now_is)
          (λ p. subst (Turns back (verdict_at us j)) (sym (other j (eqb-false j n p)))
          (t.done j (omega (arith, h, eqb-false j n p))));
      rest = λ j h. other j (λ p. absurd (omega (arith, h, p))) ∙ t.rest j (omega (arith, h));
    }
  where
    other : (j : ℕ) → (j ≡ n → ⊥) → verdict_at (set vs n v) j ≡ verdict_at vs j
    other j p = get_or-set_other vs n j v unasked p

    now_is : Turns back (verdict_at us n) (verdict_at (set vs n v) n)
    now_is = subst (Turns back (verdict_at us n)) (sym (get_or-set_same vs n v unasked m))
        (subst (λ (u : Verdict). Turns back u v) (t.rest n (omega arith)) e)

-- ---- made right for a word

pub rows_first : (l : List ℕ) (h : Option Held) (t : Tables) → h ≡ None → t ≡ no_tables → RowTables l h t
rows_first l h t e f =
    subst (RowTables l h) (sym f)
    (subst (λ (o : Option Held). RowTables l o no_tables) (sym e)
    (record { verdicts = blank unasked 256; source = refl; dest = refl }))

module _ (l : List ℕ) (w : ℕ) where
  -- nothing was kept, so what is kept is right for every word
  pub recalled_first : (vs : List Verdict) → ((n : ℕ) → verdict_at vs n ≡ unasked) → Recalled l w (first_held w) vs
  recalled_first vs z =
      record { kept = λ _. record { front = front_blank l w vs z; behind = behind_blank l w vs z; named = tt }; word = refl }

  pub recalled_none : (vs : List Verdict) (o : Option Held) → KeptFor l o vs → o ≡ None → Recalled l w (first_held w) vs
  recalled_none vs o k e = recalled_first vs (subst (λ (h : Option Held). KeptFor l h vs) e k)

  module _ (h : Held) (vs : List Verdict) (k : KeptUnder l h vs) (named : Bool) (asked : named ≡ any_named l) where
    -- no rule names a switch, so every word gives the same
    pub recalled_plain : named ≡ false → Recalled l w (record { word = w; other = h.other; named = Some named }) vs
    recalled_plain none =
        record {
          kept = λ _. record {
            front = record {
              is = λ n m. subst (λ (rs : List Rule). IfSome (front_of (verdict_at vs n))
                  (λ b. b ≡ broken rs (constraint_in l (place_of l Constraints n))))
                  (plain_rules (policy_of l) h.word w (no_switches l (sym asked ∙ none))) (k.front.is n m);
            };
            behind = k.behind;
            named = asked;
          };
          word = refl;
        }

    -- what was in front goes behind; what was behind is this word's, or goes
    pub recalled_turned : (ws : List Verdict) → Turned (eqb h.other w) vs ws
        → Recalled l w (record { word = w; other = h.word; named = Some named }) ws
    recalled_turned ws p =
        let r = go (eqb h.other w) refl p in
        record { kept = λ _. record { front = r.0; behind = r.1; named = asked }; word = refl }
      where
        go : (b : Bool) → b ≡ eqb h.other w → Turned b vs ws → KeptVerdicts l w ws × KeptBehind l h.word ws
        go true t p = subst (λ (x : ℕ). KeptVerdicts l x ws × KeptBehind l h.word ws) (eqb-true h.other w (sym t))
            (turned_back l h.word h.other vs ws k.front k.behind p)
        go false t p = turned_away l h.word h.other vs ws k.front k.behind w p

  pub recalled_refused : (vs : List Verdict) → (Accepted l → ⊥) → Recalled l w (first_held w) vs
  recalled_refused vs n = record { kept = λ a. absurd (n a); word = refl }

-- a refused image is not accepted
pub refused_not : (l : List ℕ) (f : Refusal) → check l ≡ Some f → Accepted l → ⊥
refused_not l f e a = (let z : ◌≡◌ {A = ℕ} 0 1 = cc in omega arith)

-- ---- what a query is lent, and what it leaves

module _ (l : List ℕ) (w : ℕ) (h : Held) where
  pub tables_for : (vs : List Verdict) → Recalled l w h vs → (o : Option Held) (t : Tables) → RowTables l o t
      → TablesFor l w (record t { verdicts = vs })
  tables_for vs r o t k =
      record {
        verdicts = λ a. subst (λ (x : ℕ). KeptVerdicts l x vs) r.word (r.kept a).front;
        source = k.source;
        dest = k.dest;
      }

  pub rows_after : (t u : Tables) → Recalled l w h t.verdicts → Left l w t u → RowTables l (Some h) u
  rows_after t u r k =
      record {
        verdicts = λ a. record {
          front = subst (λ (x : ℕ). KeptVerdicts l x u.verdicts) (sym r.word) (k.tables.verdicts a);
          behind = record {
            is = λ n m. subst (λ x. IfSome x (λ b. b ≡ verdict_of l h.other n)) (sym (k.behind n)) ((r.kept a).behind.is n m);
          };
          named = (r.kept a).named;
        };
        source = k.tables.source;
        dest = k.tables.dest;
      }

-- ---- the rule at a place

module _ (l : List ℕ) (at : ℕ) (r : List ℕ) (h : RuleAt l at r) where
  kind_is : get_or r 1 0 ≡ get_or l (at + 1) 0
  kind_is = h.here.field 1 (omega (arith, h.long))

  pub names_not : allow_at l at ≡ false → names_switch r ≡ false
  unfolding names_switch allow_at
  names_not e = rw kind_is (simp e)

  pub names_allow : allow_at l at ≡ true → get_or l at 0 ≡ 11 → names_switch r ≡ leb 2 (get_or l (at + 10) 0)
  unfolding names_switch allow_at
  names_allow e n =
      let k10 : get_or r 10 0 ≡ get_or l (at + 10) 0 = h.here.field 10 (omega (arith, n, h.here.size)) in
      rw (kind_is, k10) (simp e)
