-- What the nets of a read mean where each has the value of its right side: the last one has the word at the address, or zero where the address is past the end or
-- nothing is read; and every right side has a value.
use Rattle.std.proofs.Common.{◌≡◌, ℕ, ◌^◌, ◌<◌, ◌≤◌, List, [], ◌∷◌, length, Bool, true, false, ◌&&◌, ◌==◌, nat_lt, if◌then◌else◌, refl, sym, ap, ◌∙◌, inl, inr, ◌⊎◌, ⊎_elim, subst, arith, Option, Some, unwrap_or}
use Rattle.std.specs.Prelude.{slice_get, IsSome, bit_and}
use Rattle.std.proofs.lemmas.Bool.{leb-true, lt-ltb, ltb-true}
use Rattle.fir_base.specs.Lists.{In}
use Rattle.fir_base.specs.Ticks.{Env}
use Rattle.fir_bits.specs.Operators.{flag}
use Rattle.ver_ast.specs.Nets.{SizedNet}
use Rattle.ver_ast.specs.Stores.{Store}
use Rattle.ver_ast.specs.AtomValues.{atom_value}
use Rattle.ver_ast.specs.SideValues.{rhs_value}
use Rattle.ver_build.specs.declared.held.Held.{Held}
use Rattle.ver_build.specs.declared.right_sides.Inner.{Inner}
use Rattle.ver_build.specs.working.ArrayTexts.{always_within, direct_inners, guarded_inners, reading_count, reading_inners}
use Rattle.ver_build.specs.working.Operands.{atom_at}

-- a word that there is, where a number is within and something is read
abbrev pub read_or_zero : (ℕ → ℕ) → ℕ → ℕ → ℕ → ℕ
read_or_zero word words e a = if (e == 1) && nat_lt a words then word a else 0

-- the nets have the values of their right sides
pub record MeetsInners (ns : List SizedNet) (store : Store) (f : Env) (xs : List Inner) : Type 0 where
  pub each : (i : Inner) → In xs i → f i.name ≡ unwrap_or (rhs_value ns store f i.width i.rhs) 0

-- and these have values
pub record AreValued (ns : List SizedNet) (store : Store) (f : Env) (xs : List Inner) : Type 0 where
  pub each : (i : Inner) → In xs i → IsSome (rhs_value ns store f i.width i.rhs)

some_is : (o : Option ℕ) (x : ℕ) → o ≡ Some x → IsSome o
some_is o x e = subst (λ (q : Option ℕ). IsSome q) (sym e) refl

module _ (ns : List SizedNet) (store : Store) (f : Env) (array : List ℕ) (words u w : ℕ) (at under : Held) (a e : ℕ)
    (address : atom_value ns f (atom_at w at) ≡ a) (enable : atom_value ns f (atom_at 1 under) ≡ e) (bit : (e ≡ 0) ⊎ (e ≡ 1)) (narrow : a < 2 ^ w)
    (some : 1 ≤ words) (word : ℕ → ℕ) (stored : (i : ℕ) → i < words → slice_get (store array) i ≡ Some (word i)) where
  choice : (c d v x : ℕ) → c ≡ d → v ≡ x → (if c == 1 then v else 0) ≡ (if d == 1 then x else 0)
  choice c d v x same value = ap (λ y. if y == 1 then v else 0) same ∙ ap (λ y. if d == 1 then y else 0) value

  -- an address that is never past the end
  direct_means : (name h : List ℕ) → 2 ^ w ≤ words → MeetsInners ns store f (direct_inners array u w at under (h ∷ []) name)
      → f name ≡ read_or_zero word words e a
  direct_means name h fit meets =
      let there : nat_lt a words ≡ true = lt-ltb a words (omega arith) in
      let read : f h ≡ word a =
      meets.each _ (inl refl) ∙ ap (λ i. unwrap_or (slice_get (store array) i) 0) address ∙ ap (λ o. unwrap_or o 0) (stored a (omega arith)) in
      meets.each _ (inr (inl refl)) ∙ choice _ e _ (word a) enable read
      ∙ sym (ap (λ b. if (e == 1) && b then word a else 0) there ∙ both e)
    where
      both : (d : ℕ) → (if (d == 1) && true then word a else 0) ≡ (if d == 1 then word a else 0)
      both d = by (d == 1)
        where
          by : (b : Bool) → (if b && true then word a else 0) ≡ (if b then word a else 0)
          by true = refl
          by false = refl

  direct_valued : (name h : List ℕ) → 2 ^ w ≤ words → AreValued ns store f (direct_inners array u w at under (h ∷ []) name)
  direct_valued name h fit = record {
    each = λ i m.
        ⊎_elim
        (λ (here : _ ≡ i).
        subst (λ (j : Inner). IsSome (rhs_value ns store f j.width j.rhs)) here
        (some_is _ (word a) (ap (slice_get (store array)) address ∙ stored a (omega arith))))
        (λ (rest : _ ⊎ ⊥).
        ⊎_elim (λ (here : _ ≡ i). subst (λ (j : Inner). IsSome (rhs_value ns store f j.width j.rhs)) here refl) (λ (o : ⊥). absurd o) rest)
        m;
  }

  -- an address that may be past the end: whether it is within and read, and the address there or 0
  module _ (name h g k v : List ℕ) (meets : MeetsInners ns store f (guarded_inners array words u w at under (h ∷ g ∷ k ∷ v ∷ []) name)) where
    within : f h ≡ flag (nat_lt a words)
    within = meets.each _ (inl refl) ∙ ap (λ x. flag (nat_lt x words)) address

    allowed : f g ≡ bit_and (flag (nat_lt a words)) e
    allowed = meets.each _ (inr (inl refl)) ∙ ap (λ x. bit_and x (atom_value ns f (atom_at 1 under))) within ∙ ap (λ x. bit_and (flag (nat_lt a words)) x) enable

    both_bits : (b : Bool) → (e ≡ 0) ⊎ (e ≡ 1) → (bit_and (flag b) e == 1) ≡ ((e == 1) && b)
    both_bits true (inl z) = rw z refl
    both_bits true (inr o) = rw o refl
    both_bits false (inl z) = rw z refl
    both_bits false (inr o) = rw o refl

    test : (f g == 1) ≡ ((e == 1) && nat_lt a words)
    test = ap (λ x. x == 1) allowed ∙ both_bits (nat_lt a words) bit

    placed : f k ≡ (if (e == 1) && nat_lt a words then a else 0)
    placed =
        meets.each _ (inr (inr (inl refl))) ∙ ap (λ (b : Bool). if b then atom_value ns f (atom_at w at) else 0) test
        ∙ ap (λ x. if (e == 1) && nat_lt a words then x else 0) address

    place_within : (c b : Bool) → nat_lt a words ≡ b → (if c && b then a else 0) < words
    place_within true true s = ltb-true a words s
    place_within true false s = omega arith
    place_within false b s = omega arith

    at_place : f k < words
    at_place = let p = place_within (e == 1) (nat_lt a words) refl in subst (λ x. x < words) (sym placed) p

    read : f v ≡ word (f k)
    read = meets.each _ (inr (inr (inr (inl refl)))) ∙ ap (λ o. unwrap_or o 0) (stored (f k) at_place)

    guarded_means : f name ≡ read_or_zero word words e a
    guarded_means =
        meets.each _ (inr (inr (inr (inr (inl refl))))) ∙ ap (λ (b : Bool). if b then f v else 0) test
        ∙ chosen ((e == 1) && nat_lt a words) placed
      where
        chosen : (b : Bool) → f k ≡ (if b then a else 0) → (if b then f v else 0) ≡ (if b then word a else 0)
        chosen true same = read ∙ ap word same
        chosen false same = refl

    guarded_valued : AreValued ns store f (guarded_inners array words u w at under (h ∷ g ∷ k ∷ v ∷ []) name)
    guarded_valued = record {
      each = λ i m.
          ⊎_elim (λ (here : _ ≡ i). valued i _ here refl)
          (λ (more : _ ⊎ _).
          ⊎_elim (λ (here : _ ≡ i). valued i _ here refl)
          (λ (more : _ ⊎ _).
          ⊎_elim (λ (here : _ ≡ i). valued i _ here refl)
          (λ (more : _ ⊎ _).
          ⊎_elim (λ (here : _ ≡ i). valued i _ here (some_is _ (word (f k)) (stored (f k) at_place)))
          (λ (more : _ ⊎ ⊥). ⊎_elim (λ (here : _ ≡ i). valued i _ here refl) (λ (o : ⊥). absurd o) more) more) more) more) m;
    }
      where
        valued : (i j : Inner) → j ≡ i → IsSome (rhs_value ns store f j.width j.rhs) → IsSome (rhs_value ns store f i.width i.rhs)
        valued i j here s = subst (λ (x : Inner). IsSome (rhs_value ns store f x.width x.rhs)) here s

  pub reading_means : (helpers : List (List ℕ)) (name : List ℕ) → length helpers ≡ reading_count w words
      → MeetsInners ns store f (reading_inners array words u w at under helpers name)
      → (f name ≡ read_or_zero word words e a) × AreValued ns store f (reading_inners array words u w at under helpers name)
  reading_means helpers name long meets = by (always_within w words) refl helpers long meets
    where
      by : (b : Bool) → always_within w words ≡ b → (hs : List (List ℕ)) → length hs ≡ (if b then 1 else 4)
          → MeetsInners ns store f (if b then direct_inners array u w at under hs name else guarded_inners array words u w at under hs name)
          → (f name ≡ read_or_zero word words e a)
          × AreValued ns store f (if b then direct_inners array u w at under hs name else guarded_inners array words u w at under hs name)
      by true s [] l m = absurd (omega arith)
      by true s (h ∷ []) l m = let fit = leb-true (2 ^ w) words s in (direct_means name h fit m, direct_valued name h fit)
      by true s (h ∷ g ∷ hs) l m = absurd (omega arith)
      by false s [] l m = absurd (omega arith)
      by false s (h ∷ []) l m = absurd (omega arith)
      by false s (h ∷ g ∷ []) l m = absurd (omega arith)
      by false s (h ∷ g ∷ k ∷ []) l m = absurd (omega arith)
      by false s (h ∷ g ∷ k ∷ v ∷ []) l m = (guarded_means name h g k v m, guarded_valued name h g k v m)
      by false s (h ∷ g ∷ k ∷ v ∷ x ∷ hs) l m = absurd (omega arith)
