-- The width of a term is at most 129, hangs on what the term reads alone, and grows with it.
use Rattle.std.proofs.Common.{◌≡◌, ℕ, ◌≤◌, [], ◌∷◌, Bool, ◌&&◌, if◌then◌else◌, nat_lt, nat_le, min, refl, ap, ◌∙◌, inl, inr, ◌⊎◌, arith}
use Rattle.std.proofs.lemmas.Bool.{cases_eq}
use Rattle.std.proofs.lemmas.Bool.Decides.{nat_tests}
use Rattle.fir_base.specs.Lists.{In}
use Rattle.fir_bits.specs.Widths.{width_of, counted_width}
use Rattle.fir_bits.specs.working.Laws.{Monotone}
use Rattle.fir_bits.specs.declared.operators.PrimOp.{PrimOp}
use Rattle.fir_least_widths.specs.declared.bound.Term.{Term}
use Rattle.fir_least_widths.specs.declared.bound.Term.TheVariants.{Known, Same, Single, Pair, Greater, Guarded}
use Rattle.fir_meaning.specs.WidthExpressions.{Widths}
use Rattle.fir_least_widths.specs.working.Bounds.{term_width, reads}

narrow_le : (a b : Bool) (x : ℕ) → (if a && b && nat_le x 128 then x else 129) ≤ 129
narrow_le a b x = grind (arith, nat_tests)

counted_le : (op : PrimOp) (signed : Bool) (w v n m : ℕ) → counted_width op signed w v n m ≤ 129
counted_le op signed w v n m = narrow_le (nat_le w 128) (nat_le v 128) (width_of op signed w v n m)

guarded_le : (c a : ℕ) → (if nat_lt c 129 then min a 129 else 129) ≤ 129
guarded_le c a = grind (arith, nat_tests)

guarded_grows : (c d a b : ℕ) → c ≤ d → a ≤ b → (if nat_lt c 129 then min a 129 else 129) ≤ (if nat_lt d 129 then min b 129 else 129)
guarded_grows c d a b p q = grind (arith, nat_tests)

pub term_le : (t : Term) (w : Widths) → term_width t w ≤ 129
term_le (Known n) w = omega arith
term_le (Same a) w = omega arith
term_le (Single op signed a n m) w = counted_le op signed (w a) 0 n m
term_le (Pair op signed a b) w = counted_le op signed (w a) (w b) 0 0
term_le (Greater a b) w = omega arith
term_le (Guarded c a) w = guarded_le (w c) (w a)

pub term_grows : Monotone → (t : Term) (w v : Widths) → ((k : ℕ) → w k ≤ v k) → term_width t w ≤ term_width t v
term_grows law (Known n) w v h = omega arith
term_grows law (Same a) w v h = omega (arith, h a)
term_grows law (Single op signed a n m) w v h = law op signed (w a) 0 n m (v a) 0 (h a) (omega arith)
term_grows law (Pair op signed a b) w v h = law op signed (w a) (w b) 0 0 (v a) (v b) (h a) (h b)
term_grows law (Greater a b) w v h = omega (arith, h a, h b)
term_grows law (Guarded c a) w v h = guarded_grows (w c) (v c) (w a) (v a) (h c) (h a)

pub term_same : (t : Term) (w v : Widths) → ((k : ℕ) → In (reads t) k → w k ≡ v k) → term_width t w ≡ term_width t v
term_same (Known n) w v h = refl
term_same (Same a) w v h = ap (λ x. min x 129) (h a (inl refl))
term_same (Single op signed a n m) w v h = ap (λ x. counted_width op signed x 0 n m) (h a (inl refl))
term_same (Pair op signed a b) w v h =
    ap (λ x. counted_width op signed x (w b) 0 0) (h a (inl refl)) ∙ ap (λ x. counted_width op signed (v a) x 0 0) (h b (inr (inl refl)))
term_same (Greater a b) w v h =
    let p : w a ≡ v a = h a (inl refl) in
    let q : w b ≡ v b = h b (inr (inl refl)) in
    rw (p, q) refl
term_same (Guarded c a) w v h =
    let p : w c ≡ v c = h c (inl refl) in
    let q : w a ≡ v a = h a (inr (inl refl)) in
    rw (p, q) refl

abbrev InOrNot : Term → ℕ → Type 0
InOrNot t k = In (reads t) k ⊎ (In (reads t) k → ⊥)

one_or_not : (a k : ℕ) → In (a ∷ []) k ⊎ (In (a ∷ []) k → ⊥)
one_or_not a k = by (cases_eq a k)
  where
    by : (a ≡ k) ⊎ (a ≡ k → ⊥) → In (a ∷ []) k ⊎ (In (a ∷ []) k → ⊥)
    by (inl e) = inl (inl e)
    by (inr n) = inr no
      where
        no : In (a ∷ []) k → ⊥
        no (inl e) = n e
        no (inr f) = f

two_or_not : (a b k : ℕ) → In (a ∷ b ∷ []) k ⊎ (In (a ∷ b ∷ []) k → ⊥)
two_or_not a b k = by (cases_eq a k) (one_or_not b k)
  where
    by : (a ≡ k) ⊎ (a ≡ k → ⊥) → In (b ∷ []) k ⊎ (In (b ∷ []) k → ⊥) → In (a ∷ b ∷ []) k ⊎ (In (a ∷ b ∷ []) k → ⊥)
    by (inl e) r = inl (inl e)
    by (inr n) (inl r) = inl (inr r)
    by (inr n) (inr m) = inr no
      where
        no : In (a ∷ b ∷ []) k → ⊥
        no (inl e) = n e
        no (inr r) = m r

-- a term reads an unknown or does not
pub read_or_not : (t : Term) (k : ℕ) → InOrNot t k
read_or_not (Known n) k = inr (λ f. f)
read_or_not (Same a) k = one_or_not a k
read_or_not (Single op signed a n m) k = one_or_not a k
read_or_not (Pair op signed a b) k = two_or_not a b k
read_or_not (Greater a b) k = two_or_not a b k
read_or_not (Guarded c a) k = two_or_not c a k
