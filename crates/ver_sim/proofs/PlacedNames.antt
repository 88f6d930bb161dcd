-- Names and their places: a place within a list belongs to one name.
use Rattle.std.proofs.Common.{◌≡◌, ℕ, zero, suc, ◌<◌, List, [], ◌∷◌, ◌++◌, append-nil, subst, length, cond, true, false, Bool, refl, sym, ap, ◌∙◌, inl, inr, arith, get_or-set_same, get_or-set_other}
use Rattle.std.specs.Prelude.{Some, slice_get, slice_set}
use Rattle.std.specs.Str.{bytes_eq}
use Rattle.std.proofs.lemmas.Bool.{cond-true, cond-false}
use Rattle.fir_base.specs.Lists.{In, Distinct}
use Rattle.fir_base.proofs.Elements.{get_in}
use Rattle.fir_base.proofs.SameNames.{name_is, name_same, name_other, name_apart}
use Rattle.ver_ast.specs.declared.tree.Verilog.{Verilog}
use Rattle.ver_sim.specs.working.Valued.{place_among, valued, env_of}

pub place_left : (xs ys : List (List ℕ)) (n : List ℕ) → In xs n → place_among (xs ++ ys) n < length xs
place_left [] ys n m = absurd m
place_left (x ∷ xs) ys n m = by (bytes_eq x n) refl m (place_left xs ys n)
  where
    by : (b : Bool) → bytes_eq x n ≡ b → In (x ∷ xs) n → (In xs n → place_among (xs ++ ys) n < length xs) → cond b 0 (suc (place_among (xs ++ ys) n)) < suc (length xs)
    by true e i ih = omega arith
    by false e (inl s) ih = let no-such : true ≡ false = sym (name_same x) ∙ ap (bytes_eq x) s ∙ e in absurd (cc)
    by false e (inr i) ih = let h = ih i in omega arith

pub place_below : (ns : List (List ℕ)) (n : List ℕ) → In ns n → place_among ns n < length ns
place_below ns n m = subst (λ (ks : List (List ℕ)). place_among ks n < length ns) (append-nil ns) (place_left ns [] n m)

pub same_place : (ns : List (List ℕ)) (n m : List ℕ) → In ns m → place_among ns n ≡ place_among ns m → n ≡ m
same_place [] n m i e = absurd i
same_place (k ∷ ks) n m i e = by (bytes_eq k n) (bytes_eq k m) refl refl e i (λ o h. same_place ks n m o h)
  where
    by : (b c : Bool) → bytes_eq k n ≡ b → bytes_eq k m ≡ c → cond b 0 (suc (place_among ks n)) ≡ cond c 0 (suc (place_among ks m)) → In (k ∷ ks) m
        → (In ks m → place_among ks n ≡ place_among ks m → n ≡ m) → n ≡ m
    by true true p q h j rest = sym (name_is k n p) ∙ name_is k m q
    by true false p q h j rest = absurd (omega (arith, h))
    by false true p q h j rest = absurd (omega (arith, h))
    by false false p q h (inl s) rest = absurd (name_apart k m q s)
    by false false p q h (inr o) rest = rest o (omega (arith, h))

-- where no name stands twice, a name's place is where it stands
pub place_is : (ns : List (List ℕ)) → Distinct ns → (i : ℕ) (n : List ℕ) → slice_get ns i ≡ Some n → place_among ns n ≡ i
place_is [] d i n e = absurd (cc)
place_is (k ∷ ks) d zero n e = let same : k ≡ n = cc in cond-true (bytes_eq k n) 0 (suc (place_among ks n)) (ap (bytes_eq k) (sym same) ∙ name_same k)
place_is (k ∷ ks) d (suc i) n e =
    let other : bytes_eq k n ≡ false = name_other k n (λ s. d.0 (rw s (get_in ks i n e))) in
    cond-false (bytes_eq k n) 0 (suc (place_among ks n)) other ∙ ap suc (place_is ks d.1 i n e)

-- another value at the place of a name
pub put_value : (v : Verilog) (values : List ℕ) (name : List ℕ) (x : ℕ) → In (valued v) name → length values ≡ length (valued v) → (n : List ℕ)
    → env_of v (slice_set values (place_among (valued v) name) x) n ≡ cond (bytes_eq n name) x (env_of v values n)
put_value v values name x m long n = by (bytes_eq n name) refl
  where
    within : place_among (valued v) name < length values
    within = omega (arith, place_below (valued v) name m, long)

    by : (b : Bool) → bytes_eq n name ≡ b → env_of v (slice_set values (place_among (valued v) name) x) n ≡ cond b x (env_of v values n)
    by true e =
        ap (λ (k : List ℕ). env_of v (slice_set values (place_among (valued v) name) x) k) (name_is n name e)
        ∙ get_or-set_same values (place_among (valued v) name) x 0 within
    by false e =
        get_or-set_other values (place_among (valued v) name) (place_among (valued v) n) x 0
        (λ s. name_apart n name e (same_place (valued v) n name m s))
