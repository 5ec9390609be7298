-- Laws of records with their types moved. Assumes nothing.
--     RuleFields f r s, ConstraintFields f r s   s has the fields of r, with f of its types
--     rule_fields, constraint_fields             the moved record has
--     rule_is, constraint_is                     it is the record with the bytes of the moved types, written out
--     rule_length, constraint_length             it is as long
--     list_moved                                 the types of the moved list
--     rule_formed, constraint_formed             it is well formed where its types go to valid types
--     rule_bytes, constraint_bytes               it is of bytes
--     rule_same, constraint_same                 where no type moves, it is the record itself
--     map_nth                                    element i of a list that is mapped
use Prim.Native.Nat.{ℕ, zero, suc, ◌+◌, ◌-◌, ◌*◌, ◌/◌, ◌%◌, ◌≤◌, ◌<◌}
use native.Mathlib.Omega.{arith}
use mathlib.Core.Path.{◌≡◌, refl, sym, subst, ap, ap₂, ◌∙◌}
use mathlib.Core.Logic.{◌⊎◌, inl, inr, ⊎_elim}
use mathlib.Core.List.Memᴰ
use mathlib.Core.List.{List, [], ◌∷◌, ◌++◌, map, map-id, Memᴰ}
use lib.ListN.{length, get_or, take, drop, length-map, length-drop, get_or-append}
use lib.Seq.{length-take-le, get_or-take, get_or-append-add}
use Rattle.format.specs.declared.Section.TheVariants.{Rules, Constraints}
use Rattle.format.specs.Bytes.{Bytes, word_at, words, put_word, put_words}
use Rattle.format.specs.Claims.{IsType, IsAllow, IsTransition, IsConstraint, IsRecord}
use Rattle.format.proofs.Bytes.{bytes_cons, bytes_append, bytes_drop, bytes_take, put_word_lem, bytes_word, word_bytes, word_back}
use Rattle.format.proofs.Bytes.{word_at_lem, length_words, words_nth, words_put, length_put, bytes_put, put_words_lem}
use Rattle.format.proofs.Fields.{record_rule, rule_record, record_constraint, constraint_record}
use Rattle.decision.proofs.Settled.{map_same}
use Rattle.conversion.specs.Retype.{retype_rule, retype_constraint}

pub map_nth :
    {A B : Type 0} (f : A → B) (xs : List A) (i : ℕ) (d : A) (e : B) → i < length xs → get_or (map f xs) i e ≡ f (get_or xs i d)
map_nth f [] i d e h = absurd (omega arith)
map_nth f (x ∷ xs) zero d e h = refl
map_nth f (x ∷ xs) (suc i) d e h = map_nth f xs i d e (omega arith)

-- a list of six elements at least, of five, and of eleven
six : (P : List ℕ → Type 0) → ((a b c d e f : ℕ) (l : List ℕ) → P (a ∷ b ∷ c ∷ d ∷ e ∷ f ∷ l)) → (r : List ℕ) → 6 ≤ length r → P r
six P h [] n = absurd (omega arith)
six P h (a ∷ []) n = absurd (omega arith)
six P h (a ∷ b ∷ []) n = absurd (omega arith)
six P h (a ∷ b ∷ c ∷ []) n = absurd (omega arith)
six P h (a ∷ b ∷ c ∷ d ∷ []) n = absurd (omega arith)
six P h (a ∷ b ∷ c ∷ d ∷ e ∷ []) n = absurd (omega arith)
six P h (a ∷ b ∷ c ∷ d ∷ e ∷ f ∷ l) n = h a b c d e f l

five : (P : List ℕ → Type 0) → ((a b c d e : ℕ) (l : List ℕ) → P (a ∷ b ∷ c ∷ d ∷ e ∷ l)) → (r : List ℕ) → 5 ≤ length r → P r
five P h [] n = absurd (omega arith)
five P h (a ∷ []) n = absurd (omega arith)
five P h (a ∷ b ∷ []) n = absurd (omega arith)
five P h (a ∷ b ∷ c ∷ []) n = absurd (omega arith)
five P h (a ∷ b ∷ c ∷ d ∷ []) n = absurd (omega arith)
five P h (a ∷ b ∷ c ∷ d ∷ e ∷ l) n = h a b c d e l

eleven :
    (P : List ℕ → Type 0) → ((a b c d e f g h i j k : ℕ) (l : List ℕ) → P (a ∷ b ∷ c ∷ d ∷ e ∷ f ∷ g ∷ h ∷ i ∷ j ∷ k ∷ l))
    → (r : List ℕ) → 11 ≤ length r → P r
eleven P q r n =
    six (λ (r : List ℕ). 11 ≤ length r → P r)
    (λ a b c d e f l m. five (λ (l : List ℕ). P (a ∷ b ∷ c ∷ d ∷ e ∷ f ∷ l))
    (λ g h i j k l. q a b c d e f g h i j k l) l (omega arith))
    r (omega arith) n

-- the first bytes of a list, with others behind them
front : (n : ℕ) (r t : List ℕ) (k : ℕ) → n ≤ length r → k < n → get_or (take n r ++ t) k 0 ≡ get_or r k 0
front n r t k h l = get_or-append (take n r) t 0 k (omega (arith, length-take-le n r h)) ∙ get_or-take n r k 0 l

-- ---- rules

pub record RuleFields (f : ℕ → ℕ) (r s : List ℕ) : Type 0 where
  pub size : length s ≡ length r
  pub first : get_or s 0 0 ≡ get_or r 0 0
  pub kind : get_or s 1 0 ≡ get_or r 1 0
  pub source : word_at s 2 ≡ f (word_at r 2)
  pub dest : word_at s 4 ≡ f (word_at r 4)
  pub class : word_at s 6 ≡ word_at r 6
  pub action : word_at s 8 ≡ word_at r 8
  pub condition : get_or s 10 0 ≡ get_or r 10 0
  pub other : (k : ℕ) → (k < 2) ⊎ (6 ≤ k) → get_or s k 0 ≡ get_or r k 0

-- a rule's bytes with other types x and y
abbrev pub rule_with : ℕ → ℕ → List ℕ → List ℕ
rule_with x y r = take 2 r ++ (x / 256 ∷ x % 256 ∷ y / 256 ∷ y % 256 ∷ drop 6 r)

rule_with_lem :
    (f : ℕ → ℕ) (x y a b c d e g : ℕ) (l : List ℕ)
    → f (word_at (a ∷ b ∷ c ∷ d ∷ e ∷ g ∷ l) 2) ≡ x → f (word_at (a ∷ b ∷ c ∷ d ∷ e ∷ g ∷ l) 4) ≡ y
    → RuleFields f (a ∷ b ∷ c ∷ d ∷ e ∷ g ∷ l) (rule_with x y (a ∷ b ∷ c ∷ d ∷ e ∷ g ∷ l))
rule_with_lem f x y a b c d e g l p q =
    record {
      size = refl;
      first = refl;
      kind = refl;
      source = word_at_lem s 2 ∙ (word_back x ∙ sym p);
      dest = word_at_lem s 4 ∙ (word_back y ∙ sym q);
      class = word_at_lem s 6 ∙ sym (word_at_lem r 6);
      action = word_at_lem s 8 ∙ sym (word_at_lem r 8);
      condition = refl;
      other = other;
    }
  where
    r : List ℕ
    r = a ∷ b ∷ c ∷ d ∷ e ∷ g ∷ l

    s : List ℕ
    s = rule_with x y r

    other : (k : ℕ) → (k < 2) ⊎ (6 ≤ k) → get_or s k 0 ≡ get_or r k 0
    other k (inl h) = front 2 r (x / 256 ∷ x % 256 ∷ y / 256 ∷ y % 256 ∷ l) k (omega arith) h
    other k (inr h) =
        let z : 6 + (k - 6) ≡ k = omega arith in
        subst (λ (i : ℕ). get_or s i 0 ≡ get_or r i 0) z
        (get_or-append-add (take 6 s) l (k - 6) 0 ∙ sym (get_or-append-add (take 6 r) l (k - 6) 0))

module _ (f : ℕ → ℕ) where
  pub rule_is : (r : List ℕ) → retype_rule f r ≡ rule_with (f (word_at r 2)) (f (word_at r 4)) r
  unfolding retype_rule
  rule_is r =
      ap (λ (l : List ℕ). take 2 r ++ l)
      (put_word_lem (f (word_at r 2)) _
      ∙ ap (λ (l : List ℕ). f (word_at r 2) / 256 ∷ f (word_at r 2) % 256 ∷ l) (put_word_lem (f (word_at r 4)) (drop 6 r)))

  pub rule_fields : (r : List ℕ) → 6 ≤ length r → RuleFields f r (retype_rule f r)
  rule_fields r n =
      subst (RuleFields f r) (sym (rule_is r))
      (six (λ (r : List ℕ). RuleFields f r (rule_with (f (word_at r 2)) (f (word_at r 4)) r))
      (λ a b c d e g l. rule_with_lem f _ _ a b c d e g l refl refl) r n)

  pub rule_long : (g : ℕ) (r : List ℕ) → IsRecord Rules g r → 6 ≤ length r
  rule_long g r q = ⊎_elim (λ a. omega (arith, a.size.1)) (λ a. omega (arith, a.size.1)) (record_rule g r q)

  pub rule_length : (g : ℕ) (r : List ℕ) → IsRecord Rules g r → length (retype_rule f r) ≡ length r
  rule_length g r q = (rule_fields r (rule_long g r q)).size

  module _ (g g' : ℕ) (valid : (t : ℕ) → IsType g t → IsType g' (f t)) (r : List ℕ) where
    allow_is : IsAllow g r → IsAllow g' (retype_rule f r)
    allow_is q =
        let c = rule_fields r (omega (arith, q.size.1)) in
        record {
          size = (c.first ∙ (q.size.0 ∙ sym c.size), c.size ∙ q.size.1);
          kind = c.kind ∙ q.kind;
          source = subst (IsType g') (sym c.source) (valid _ q.source);
          dest = subst (IsType g') (sym c.dest) (valid _ q.dest);
          condition = omega (arith, q.condition, c.condition);
        }

    transition_is : IsTransition g r → IsTransition g' (retype_rule f r)
    transition_is q =
        let c = rule_fields r (omega (arith, q.size.1)) in
        record {
          size = (c.first ∙ (q.size.0 ∙ sym c.size), c.size ∙ q.size.1);
          kind = c.kind ∙ q.kind;
          source = subst (IsType g') (sym c.source) (valid _ q.source);
          dest = subst (IsType g') (sym c.dest) (valid _ q.dest);
        }

    pub rule_formed : IsRecord Rules g r → IsRecord Rules g' (retype_rule f r)
    rule_formed q =
        rule_record g' (retype_rule f r) (⊎_elim (λ a. inl (allow_is a)) (λ t. inr (transition_is t)) (record_rule g r q))

  pub rule_bytes : (r : List ℕ) → Bytes r → f (word_at r 2) < 65536 → f (word_at r 4) < 65536 → Bytes (retype_rule f r)
  unfolding retype_rule
  rule_bytes r b s d = bytes_append (take 2 r) _ (bytes_take 2 r b) (bytes_word _ _ s (bytes_word _ _ d (bytes_drop 6 r b)))

  pub rule_same :
      (r : List ℕ) → 6 ≤ length r → Bytes r → f (word_at r 2) ≡ word_at r 2 → f (word_at r 4) ≡ word_at r 4 → retype_rule f r ≡ r
  unfolding retype_rule
  rule_same r n b s d =
      ap₂ (λ (x y : ℕ). take 2 r ++ put_word x (put_word y (drop 6 r))) s d
      ∙ (ap (λ (l : List ℕ). take 2 r ++ put_word (word_at r 2) l) (word_bytes r b 4 (drop 6 r))
      ∙ (ap (λ (l : List ℕ). take 2 r ++ l) (word_bytes r b 2 (get_or r 4 0 ∷ get_or r 5 0 ∷ drop 6 r))
      ∙ six (λ (r : List ℕ). take 2 r ++ (get_or r 2 0 ∷ get_or r 3 0 ∷ get_or r 4 0 ∷ get_or r 5 0 ∷ drop 6 r) ≡ r)
      (λ a b c d e g l. refl) r n))

-- ---- constraints

pub record ConstraintFields (f : ℕ → ℕ) (r s : List ℕ) : Type 0 where
  pub first : get_or s 0 0 ≡ get_or r 0 0
  pub kind : get_or s 1 0 ≡ get_or r 1 0
  pub class : word_at s 2 ≡ word_at r 2
  pub action : word_at s 4 ≡ word_at r 4
  pub one : word_at s 6 ≡ f (word_at r 6)
  pub two : word_at s 8 ≡ f (word_at r 8)
  pub predicate : get_or s 10 0 ≡ get_or r 10 0
  pub rest : drop 11 s ≡ put_words (map f (words (drop 11 r)))
  pub past : length s ≡ 11 + length (put_words (map f (words (drop 11 r))))
  pub other : (k : ℕ) → (k < 6) ⊎ (k ≡ 10) → get_or s k 0 ≡ get_or r k 0

-- a constraint's bytes with other arguments x and y, and another list
abbrev pub constraint_with : ℕ → ℕ → List ℕ → List ℕ → List ℕ
constraint_with x y ts r = take 6 r ++ (x / 256 ∷ x % 256 ∷ y / 256 ∷ y % 256 ∷ get_or r 10 0 ∷ ts)

module _ (f : ℕ → ℕ) where
  abbrev pub moved_constraint : List ℕ → List ℕ
  moved_constraint r = constraint_with (f (word_at r 6)) (f (word_at r 8)) (put_words (map f (words (drop 11 r)))) r

  constraint_with_lem :
      (a b c d e g h i j k m : ℕ) (l : List ℕ)
      → ConstraintFields f (a ∷ b ∷ c ∷ d ∷ e ∷ g ∷ h ∷ i ∷ j ∷ k ∷ m ∷ l)
      (moved_constraint (a ∷ b ∷ c ∷ d ∷ e ∷ g ∷ h ∷ i ∷ j ∷ k ∷ m ∷ l))
  constraint_with_lem a b c d e g h i j k m l =
      record {
        first = refl;
        kind = refl;
        class = word_at_lem s 2 ∙ sym (word_at_lem r 2);
        action = word_at_lem s 4 ∙ sym (word_at_lem r 4);
        one = word_at_lem s 6 ∙ word_back (f (word_at r 6));
        two = word_at_lem s 8 ∙ word_back (f (word_at r 8));
        predicate = refl;
        rest = refl;
        past = omega arith;
        other = other;
      }
    where
      r : List ℕ
      r = a ∷ b ∷ c ∷ d ∷ e ∷ g ∷ h ∷ i ∷ j ∷ k ∷ m ∷ l

      s : List ℕ
      s = moved_constraint r

      other : (n : ℕ) → (n < 6) ⊎ (n ≡ 10) → get_or s n 0 ≡ get_or r n 0
      other n (inl h) = front 6 r (drop 6 s) n (omega arith) h
      other n (inr e) = rw e refl

  pub constraint_is : (r : List ℕ) → retype_constraint f r ≡ moved_constraint r
  unfolding retype_constraint
  constraint_is r =
      ap (λ (l : List ℕ). take 6 r ++ l)
      (put_word_lem (f (word_at r 6)) _
      ∙ ap (λ (l : List ℕ). f (word_at r 6) / 256 ∷ f (word_at r 6) % 256 ∷ l) (put_word_lem (f (word_at r 8)) _))

  pub constraint_fields : (r : List ℕ) → 11 ≤ length r → ConstraintFields f r (retype_constraint f r)
  constraint_fields r n =
      subst (ConstraintFields f r) (sym (constraint_is r))
      (eleven (λ (r : List ℕ). ConstraintFields f r (moved_constraint r)) constraint_with_lem r n)

  -- the list of the moved_constraint constraint
  pub list_moved : (r : List ℕ) → 11 ≤ length r → words (drop 11 (retype_constraint f r)) ≡ map f (words (drop 11 r))
  list_moved r n = ap words (constraint_fields r n).rest ∙ words_put (map f (words (drop 11 r)))

  length_moved : (r : List ℕ) (n : ℕ) → length r ≡ 11 + 2 * n → length (retype_constraint f r) ≡ length r
  length_moved r n e =
      let c = constraint_fields r (omega arith) in
      omega (
        arith,
        c.past,
        length_put (map f (words (drop 11 r))),
        length-map (words (drop 11 r)) f,
        length_words (drop 11 r),
        length-drop 11 r,
      )

  pub constraint_length : (g : ℕ) (r : List ℕ) → IsRecord Constraints g r → length (retype_constraint f r) ≡ length r
  constraint_length g r q = let c = record_constraint g r q in length_moved r c.0 c.1.size.1

  -- a type of the list, by its number
  list_nth : (r : List ℕ) → 11 ≤ length r → (i : ℕ) → i < length (words (drop 11 r))
      → word_at (retype_constraint f r) (11 + 2 * i) ≡ f (word_at r (11 + 2 * i))
  list_nth r n i h =
      let e = list_moved r n in
      let k : i < length (words (drop 11 (retype_constraint f r))) = omega (arith, ap length e, length-map (words (drop 11 r)) f) in
      sym (words_nth (retype_constraint f r) 11 i k)
      ∙ (ap (λ (l : List ℕ). get_or l i 0) e ∙ (map_nth f (words (drop 11 r)) i 0 0 h ∙ ap f (words_nth r 11 i h)))

  module _ (g g' : ℕ) (valid : (t : ℕ) → IsType g t → IsType g' (f t)) where
    constraint_moved : (r : List ℕ) (n : ℕ) → IsConstraint g r n → IsConstraint g' (retype_constraint f r) n
    constraint_moved r n q =
        let long : 11 ≤ length r = omega (arith, q.size.1) in
        let c = constraint_fields r long in
        let len = length_moved r n q.size.1 in
        record {
          size = (c.first ∙ (q.size.0 ∙ sym len), len ∙ q.size.1);
          kind = c.kind ∙ q.kind;
          first = subst (IsType g') (sym c.one) (valid _ q.first);
          second = subst (IsType g') (sym c.two) (valid _ q.second);
          predicate = omega (arith, q.predicate, c.predicate);
          listed = λ e. q.listed (sym c.predicate ∙ e);
          unlisted = λ e. q.unlisted (λ h. e (c.predicate ∙ h));
          most = q.most;
          list = λ i h.
              let w : length (words (drop 11 r)) ≡ n = omega (arith, q.size.1, length_words (drop 11 r), length-drop 11 r) in
              subst (IsType g') (sym (list_nth r long i (omega arith))) (valid _ (q.list i h));
        }

    pub constraint_formed : (r : List ℕ) → IsRecord Constraints g r → IsRecord Constraints g' (retype_constraint f r)
    constraint_formed r q =
        let c = record_constraint g r q in constraint_record g' (retype_constraint f r) (c.0, constraint_moved r c.0 c.1)

  map_small : (ts : List ℕ) → ((t : ℕ) → Memᴰ t ts → f t < 65536) → (u : ℕ) → Memᴰ u (map f ts) → u < 65536
  map_small ts h u m = let x = Memᴰ.of_map f ts m in subst (λ (z : ℕ). z < 65536) x.2 (h x.0 x.1)

  pub constraint_bytes :
      (r : List ℕ) → Bytes r → f (word_at r 6) < 65536 → f (word_at r 8) < 65536
      → ((t : ℕ) → Memᴰ t (words (drop 11 r)) → f t < 65536)
      → Bytes (retype_constraint f r)
  unfolding retype_constraint
  constraint_bytes r b s d h =
      bytes_append (take 6 r) _ (bytes_take 6 r b)
      (bytes_word _ _ s
      (bytes_word _ _ d
      (bytes_cons (get_or r 10 0) (put_words (map f (words (drop 11 r)))) (b 10)
      (bytes_put (map f (words (drop 11 r))) (map_small (words (drop 11 r)) h)))))

  pub constraint_same :
      (r : List ℕ) (n : ℕ) → length r ≡ 11 + 2 * n → Bytes r → f (word_at r 6) ≡ word_at r 6 → f (word_at r 8) ≡ word_at r 8
      → ((t : ℕ) → Memᴰ t (words (drop 11 r)) → f t ≡ t) → retype_constraint f r ≡ r
  unfolding retype_constraint
  constraint_same r n len b s d h =
      ap₂ (λ (x y : ℕ). take 6 r ++ put_word x (put_word y (get_or r 10 0 ∷ put_words (map f (words (drop 11 r)))))) s d
      ∙ (ap (λ (l : List ℕ). take 6 r ++ put_word (word_at r 6) (put_word (word_at r 8) (get_or r 10 0 ∷ l))) rest
      ∙ (ap (λ (l : List ℕ). take 6 r ++ put_word (word_at r 6) l) (word_bytes r b 8 (get_or r 10 0 ∷ drop 11 r))
      ∙ (ap (λ (l : List ℕ). take 6 r ++ l) (word_bytes r b 6 (get_or r 8 0 ∷ get_or r 9 0 ∷ get_or r 10 0 ∷ drop 11 r))
      ∙ eleven (λ (r : List ℕ). take 6 r ++ (get_or r 6 0 ∷ get_or r 7 0 ∷ get_or r 8 0 ∷ get_or r 9 0 ∷ get_or r 10 0 ∷ drop 11 r) ≡ r)
      (λ a b c d e g h i j k m l. refl) r (omega arith))))
    where
      rest : put_words (map f (words (drop 11 r))) ≡ drop 11 r
      rest =
          ap put_words (map_same f (λ t. t) (words (drop 11 r)) h ∙ map-id (words (drop 11 r)))
          ∙ put_words_lem (drop 11 r) n (omega (arith, length-drop 11 r)) (bytes_drop 11 r b)
