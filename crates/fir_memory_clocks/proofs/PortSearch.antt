-- The ports of a memory one by one: those before, of which the first that has a clock is known, and one more.
use Rattle.std.proofs.Common.{◌≡◌, ◌↔◌, ℕ, zero, suc, ◌+◌, ◌<◌, ◌≤◌, List, [], ◌∷◌, ◌++◌, take, drop, get_or, length, Option, Some, None, refl, sym, ap, ◌∙◌, subst, inl, inr, ◌⊎◌, ⊎_elim, append_assoc, arith}
use Rattle.std.proofs.lemmas.List.{take_more}
use Rattle.std.specs.Prelude.{slice_get}
use Rattle.std.proofs.lemmas.Option.{same_Some, slice_get_within}
use Rattle.fir_base.specs.Lists.{In}
use Rattle.fir_base.proofs.Members.{in_either}
use Rattle.fir_memory_clocks.specs.working.PortClocks.{AreTwoClocks, HasRootIn, HaveOneClock, first_of}

-- of ports one is the first that has a clock, and none behind it has another
pub record IsFirstOf (H : ℕ → ℕ → Type 0) (ports : List ℕ) (clock : ℕ) : Type 0 where
  pub before : List ℕ
  pub one : ℕ
  pub between : List ℕ
  pub ports_are : ports ≡ before ++ one ∷ between
  pub none_before : (x root : ℕ) → In before x → H x root → ⊥
  pub one_has : H one clock
  pub same_between : (x root : ℕ) → In between x → H x root → root ≡ clock

abbrev pub IsFound : (ℕ → ℕ → Type 0) → List ℕ → Option ℕ → Type 0
IsFound H ports None = (x root : ℕ) → In ports x → H x root → ⊥
IsFound H ports (Some clock) = IsFirstOf H ports clock

module _ (H : ℕ → ℕ → Type 0) where
  in_push : (xs : List ℕ) (p x : ℕ) → In (xs ++ p ∷ []) x → In xs x ⊎ (p ≡ x)
  in_push xs p x i =
      ⊎_elim (λ (j : In xs x). inl j) (λ (j : (p ≡ x) ⊎ ⊥). ⊎_elim (λ (e : p ≡ x). inr e) (λ (n : ⊥). absurd n) j)
      (in_either xs (p ∷ []) x i)

  -- one more without a clock, or with the same
  kept_none : (ports : List ℕ) (p : ℕ) → IsFound H ports None → ((root : ℕ) → H p root → ⊥) → IsFound H (ports ++ p ∷ []) None
  kept_none ports p h none x root i has =
      ⊎_elim (λ (j : In ports x). h x root j has) (λ (e : p ≡ x). none root (subst (λ y. H y root) (sym e) has)) (in_push ports p x i)

  kept_some : (ports : List ℕ) (p clock : ℕ) → IsFirstOf H ports clock → ((root : ℕ) → H p root → root ≡ clock) → IsFirstOf H (ports ++ p ∷ []) clock
  kept_some ports p clock h same = record {
    before = h.before;
    one = h.one;
    between = h.between ++ p ∷ [];
    ports_are = ap (λ ys. ys ++ p ∷ []) h.ports_are ∙ append_assoc h.before (h.one ∷ h.between) (p ∷ []);
    none_before = h.none_before;
    one_has = h.one_has;
    same_between = λ x root i has.
        ⊎_elim (λ (j : In h.between x). h.same_between x root j has)
        (λ (e : p ≡ x). same root (subst (λ y. H y root) (sym e) has)) (in_push h.between p x i);
  }

  -- the first
  begins : (ports : List ℕ) (p clock : ℕ) → IsFound H ports None → H p clock → IsFirstOf H (ports ++ p ∷ []) clock
  begins ports p clock h has = record {
    before = ports;
    one = p;
    between = [];
    ports_are = refl;
    none_before = h;
    one_has = has;
    same_between = λ x root i r. absurd i;
  }

  -- and one with another
  two : (ports : List ℕ) (p : ℕ) (after : List ℕ) (clock other : ℕ) → IsFirstOf H ports clock → H p other → (clock ≡ other → ⊥)
      → AreTwoClocks H (ports ++ p ∷ after) clock other
  two ports p after clock other h has differ = record {
    before = h.before;
    one = h.one;
    between = h.between;
    other = p;
    after = after;
    ports_are = ap (λ ys. ys ++ p ∷ after) h.ports_are;
    none_before = h.none_before;
    one_has = h.one_has;
    same_between = h.same_between;
    other_has = has;
    differ = differ;
  }

  -- where each port has one clock at most, all have the first
  pub all_same : ((x one other : ℕ) → H x one → H x other → one ≡ other) → (ports : List ℕ) (found : Option ℕ) → IsFound H ports found
      → HaveOneClock H ports
  all_same once ports None h x y one other i j p q = absurd (h x one i p)
  all_same once ports (Some clock) h x y one other i j p q = is_first x one i p ∙ sym (is_first y other j q)
    where
      is_first : (z root : ℕ) → In ports z → H z root → root ≡ clock
      is_first z root k r =
          ⊎_elim (λ (l : In h.before z). absurd (h.none_before z root l r))
          (λ (l : (h.one ≡ z) ⊎ In h.between z).
          ⊎_elim (λ (e : h.one ≡ z). once z root clock r (subst (λ u. H u clock) e h.one_has)) (λ (m : In h.between z). h.same_between z root m r) l)
          (in_either h.before (h.one ∷ h.between) z (subst (λ ys. In ys z) h.ports_are k))

  -- ---- by their numbers

  module _ (ports : List ℕ) (i d : ℕ) (within : i < length ports) where
    abbrev p : ℕ
    p = get_or ports i d

    none_more : IsFound H (take i ports) None → ((root : ℕ) → H (get_or ports i d) root → ⊥) → IsFound H (take (i + 1) ports) None
    none_more h none = subst (λ ys. IsFound H ys None) (sym (take_more ports i d within)) (kept_none (take i ports) p h none)

    some_more : (clock : ℕ) → IsFound H (take i ports) (Some clock) → ((root : ℕ) → H (get_or ports i d) root → root ≡ clock)
        → IsFound H (take (i + 1) ports) (Some clock)
    some_more clock h same = subst (λ ys. IsFound H ys (Some clock)) (sym (take_more ports i d within)) (kept_some (take i ports) p clock h same)

    first_here : (clock : ℕ) → IsFound H (take i ports) None → H (get_or ports i d) clock → IsFound H (take (i + 1) ports) (Some clock)
    first_here clock h has = subst (λ ys. IsFound H ys (Some clock)) (sym (take_more ports i d within)) (begins (take i ports) p clock h has)

    other_here : (clock other : ℕ) → IsFound H (take i ports) (Some clock) → H (get_or ports i d) other → (clock ≡ other → ⊥) → AreTwoClocks H ports clock other
    other_here clock other h has differ =
        subst (λ ys. AreTwoClocks H ys clock other) (sym (around ports i within)) (two (take i ports) p (drop (suc i) ports) clock other h has differ)
      where
        around : (ys : List ℕ) (j : ℕ) → j < length ys → ys ≡ take j ys ++ get_or ys j d ∷ drop (suc j) ys
        around [] j lt = absurd (omega (arith, lt))
        around (y ∷ ys) zero lt = refl
        around (y ∷ ys) (suc j) lt = ap (λ zs. y ∷ zs) (around ys j (omega (arith, lt)))

    -- one more, whose clock is none or that of the first
    pub one_more : (first o : Option ℕ) → IsFound H (take i ports) first → ((root : ℕ) → (o ≡ Some root) ↔ H (get_or ports i d) root)
        → ((a b : ℕ) → first ≡ Some a → o ≡ Some b → a ≡ b) → IsFound H (take (i + 1) ports) (first_of first o)
    one_more None None h reads same = none_more h (λ root has. let never = (reads root).1 has in absurd (cc))
    one_more None (Some clock) h reads same = first_here clock h ((reads clock).0 refl)
    one_more (Some clock) o h reads same = some_more clock h (λ root has. sym (same clock root refl ((reads root).1 has)))

    -- or another
    pub one_other : (first o : Option ℕ) (clock other : ℕ) → IsFound H (take i ports) first → ((root : ℕ) → (o ≡ Some root) ↔ H (get_or ports i d) root)
        → first ≡ Some clock → o ≡ Some other → (clock ≡ other → ⊥) → AreTwoClocks H ports clock other
    one_other first o clock other h reads is has differ =
        other_here clock other (subst (IsFound H (take i ports)) is h) ((reads other).0 has) differ

pub none_yet : (H : ℕ → ℕ → Type 0) → IsFound H [] None
none_yet H x root i has = absurd i

-- a root in a list is one
pub root_once : (roots : List (Option ℕ)) (x one other : ℕ) → HasRootIn roots x one → HasRootIn roots x other → one ≡ other
root_once roots x one other p q = let same : Some one ≡ Some other = same_Some (Some one) (Some other) (sym p ∙ q) in same_Some one other same

module _ (roots : List (Option ℕ)) (x : ℕ) where
  -- the root of a leaf, by what was read
  pub read_root : (o : Option ℕ) → slice_get roots x ≡ Some o → (root : ℕ) → (o ≡ Some root) ↔ HasRootIn roots x root
  read_root o e root = ((λ f. e ∙ ap Some f), (λ f. same_Some o (Some root) (sym e ∙ f)))

  pub no_root : length roots ≤ x → (root : ℕ) → (None ≡ Some root) ↔ HasRootIn roots x root
  no_root le root = ((λ f. cc), (λ f. let lt = slice_get_within roots x (Some root) f in absurd (omega (arith, le, lt))))
