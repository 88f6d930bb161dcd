-- Of some places one stands first in the text.
use Rattle.std.proofs.Common.{◌≡◌, List, [], ◌∷◌, Bool, true, false, ◌&&◌, ◌||◌, nat_eq, nat_lt, refl, arith, ◌⊎◌, inl, inr, ⊎_elim}
use Rattle.fir_base.specs.Lists.{In}
use Rattle.fir_ast.specs.declared.place.Place.{Place}
use Rattle.fir_meaning.specs.Lack.{is_before}
use Rattle.fir_leaf.specs.working.ClockFaults.{IsFirstPlace}

irreflexive : (p : Place) → is_before p p ≡ false
irreflexive p = by (nat_lt p.line p.line) (nat_eq p.line p.line) (nat_lt p.col p.col) (grind arith) (grind arith)
  where
    by : (a b d : Bool) → a ≡ false → d ≡ false → (a || (b && d)) ≡ false
    by a true d e f = rw (e, f) refl
    by a false d e f = rw e refl

says : (a b d : Bool) → (a || (b && d)) ≡ true → (a ≡ true) ⊎ ((b ≡ true) × (d ≡ true))
says true b d e = inl refl
says false true true e = inr (refl, refl)
says false true false e = absurd cc
says false false d e = absurd cc

by_line : (a b d : Bool) → a ≡ true → (a || (b && d)) ≡ true
by_line a b d e = rw e refl

by_column : (a b d : Bool) → b ≡ true → d ≡ true → (a || (b && d)) ≡ true
by_column true b d e f = refl
by_column false b d e f = rw (e, f) refl

module _ (p q r : Place) where
  abbrev line_before : (nat_lt p.line r.line ≡ true) → is_before p r ≡ true
  line_before e = by_line (nat_lt p.line r.line) (nat_eq p.line r.line) (nat_lt p.col r.col) e

  abbrev column_before : (nat_eq p.line r.line ≡ true) → (nat_lt p.col r.col ≡ true) → is_before p r ≡ true
  column_before e f = by_column (nat_lt p.line r.line) (nat_eq p.line r.line) (nat_lt p.col r.col) e f

  transitive : is_before p q ≡ true → is_before q r ≡ true → is_before p r ≡ true
  transitive e f =
      ⊎_elim
      (λ (a : nat_lt p.line q.line ≡ true).
      ⊎_elim
      (λ (b : nat_lt q.line r.line ≡ true). line_before (grind arith))
      (λ (b : (nat_eq q.line r.line ≡ true) × (nat_lt q.col r.col ≡ true)). let same = b.0 in line_before (grind arith))
      (says (nat_lt q.line r.line) (nat_eq q.line r.line) (nat_lt q.col r.col) f))
      (λ (a : (nat_eq p.line q.line ≡ true) × (nat_lt p.col q.col ≡ true)).
      let same = a.0 in
      let left = a.1 in
      ⊎_elim
      (λ (b : nat_lt q.line r.line ≡ true). line_before (grind arith))
      (λ (b : (nat_eq q.line r.line ≡ true) × (nat_lt q.col r.col ≡ true)).
      let also = b.0 in
      let right = b.1 in
      column_before (grind arith) (grind arith))
      (says (nat_lt q.line r.line) (nat_eq q.line r.line) (nat_lt q.col r.col) f))
      (says (nat_lt p.line q.line) (nat_eq p.line q.line) (nat_lt p.col q.col) e)

not_before : (p q r : Place) → is_before p q ≡ true → is_before r q ≡ false → is_before r p ≡ false
not_before p q r e f = go (is_before r p) refl
  where
    go : (b : Bool) → is_before r p ≡ b → is_before r p ≡ false
    go false h = h
    go true h = let both : is_before r q ≡ true = transitive r p q h e in absurd cc

pub record HasFirst (ps : List Place) : Type 0 where
  pub place : Place
  pub is_first : IsFirstPlace place ps

one_first : (p : Place) → HasFirst (p ∷ [])
one_first p = record { place = p; is_first = record { among = inl refl; none_before = λ r m. alone r m } }
  where
    alone : (r : Place) → In (p ∷ []) r → is_before r p ≡ false
    alone r (inl e) = rw (← e) (irreflexive p)
    alone r (inr n) = absurd n

first_of_two : (p q : Place) (ps : List Place) → IsFirstPlace q ps → (b : Bool) → is_before p q ≡ b → HasFirst (p ∷ ps)
first_of_two p q ps h true e = record { place = p; is_first = record { among = inl refl; none_before = λ r m. behind r m } }
  where
    behind : (r : Place) → In (p ∷ ps) r → is_before r p ≡ false
    behind r (inl s) = rw (← s) (irreflexive p)
    behind r (inr s) = not_before p q r e (h.none_before r s)
first_of_two p q ps h false e = record { place = q; is_first = record { among = inr h.among; none_before = λ r m. behind r m } }
  where
    behind : (r : Place) → In (p ∷ ps) r → is_before r q ≡ false
    behind r (inl s) = rw (← s) e
    behind r (inr s) = h.none_before r s

pub has_first : (p : Place) (ps : List Place) → HasFirst (p ∷ ps)
has_first p [] = one_first p
has_first p (q ∷ ps) =
    let r = has_first q ps in
    first_of_two p r.place (q ∷ ps) r.is_first (is_before p r.place) refl
