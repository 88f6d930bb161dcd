-- A Reset that a reference reaches is a leaf of its module, with the number that the reference is said to name.
use Rattle.std.proofs.Common.{◌≡◌, ℕ, ◌+◌, List, [], ◌∷◌, ◌++◌, Option, Some, None, refl, sym, ap, ◌∙◌, subst, inl, inr, ⊎_elim, arith, Bool, true, false, if◌then◌else◌, zero, suc}
use Rattle.std.specs.Prelude.{slice_get}
use Rattle.std.specs.Str.{bytes_eq}
use Rattle.std.proofs.lemmas.List.{append-nil}
use Rattle.std.proofs.lemmas.Option.{none-some, same_Some}
use Rattle.fir_base.specs.Lists.{In}
use Rattle.fir_base.proofs.Members.{in_left}
use Rattle.fir_base.proofs.SameNames.{name_is}
use Rattle.fir_base.proofs.Tests.{chosen}
use Rattle.fir_ast.specs.Types.{DataType, reset}
use Rattle.fir_ast.specs.Circuits.{CircuitTree, ModuleTree}
use Rattle.fir_meaning.specs.ComponentTypes.{typed_scope}
use Rattle.fir_meaning.specs.LeafPaths.{LeafPath, named}
use Rattle.fir_meaning.specs.working.NameGroups.{HasNames}
use Rattle.fir_meaning.specs.Reaching.{Reached}
use Rattle.fir_meaning.specs.ResetItems.{leaf_item}
use Rattle.fir_meaning.specs.ResetJoins.{type_of_known}
use Rattle.fir_meaning.specs.TypeGroup.{type_faults}
use Rattle.fir_meaning.specs.TypeLeaves.{type_leaves}
use Rattle.fir_meaning.specs.TypedScopes.{Known, TypedScope, known}
use Rattle.fir_meaning.specs.Visibility.{declarations}
use Rattle.fir_meaning.proofs.KnownNames.{known_front}
use Rattle.fir_types.specs.working.Notes.{position_of}
use Rattle.fir_types.specs.working.TypedModules.{leaf_declared}
use Rattle.fir_reset.specs.working.Inferred.{leaf_number, number_behind, number_in}
use Rattle.fir_reset.specs.working.LeafClasses.{behind_so_many, offset_in, offset_where}
use Rattle.fir_reset.proofs.NumberedClasses.{has_number}
use Rattle.fir_leaf_table.proofs.ReachedLeaves.{IsBelow}
use Rattle.fir_leaf_circuit.proofs.ResetEnds.{ResetEnd, reset_end}

-- a Reset at a path of a module, so many leaves behind the first of what is declared behind so many declarations
pub record ResetAt (c : CircuitTree) (number declaration before : ℕ) (path : LeafPath) : Type 0 where
  pub at : ResetEnd c number path
  pub first : ℕ
  pub is_first : leaf_declared c number declaration ≡ Some first
  pub number_is : leaf_number c at.end.item ≡ Some (first + before)

-- what is known is among all, under its name, at its place
known_among : (scope : TypedScope) (n : List ℕ) (k : Known) → known scope n ≡ Some k → In scope k × (k.name ≡ n)
known_among [] n k h = absurd (none-some k h)
known_among (x ∷ scope) n k h =
    ⊎_elim
    (λ (c : (bytes_eq x.name n ≡ true) × (Some x ≡ Some k)).
    let same : x ≡ k = same_Some x k c.1 in (inl same, ap (λ (z : Known). z.name) (sym same) ∙ name_is x.name n c.0))
    (λ (c : (bytes_eq x.name n ≡ false) × (known scope n ≡ Some k)). let r = known_among scope n k c.1 in (inr r.0, r.1))
    (chosen (bytes_eq x.name n) (Some x) (known scope n) (Some k) h)

position_front : (scope more : TypedScope) (n : List ℕ) (k : Known) → known scope n ≡ Some k
    → position_of (scope ++ more) n ≡ position_of scope n
position_front [] more n k h = absurd (none-some k h)
position_front (x ∷ scope) more n k h = by (bytes_eq x.name n) h (λ e. position_front scope more n k e)
  where
    by : (b : Bool) → (if b then Some x else known scope n) ≡ Some k
        → (known scope n ≡ Some k → position_of (scope ++ more) n ≡ position_of scope n)
        → (if b then zero else suc (position_of (scope ++ more) n)) ≡ (if b then zero else suc (position_of scope n))
    by true e later = refl
    by false e later = ap suc (later e)

-- the first of a number that is there
first_there : (o : Option ℕ) (before n : ℕ) → number_behind o (Some before) ≡ Some n → (first : ℕ) × (o ≡ Some first)
first_there None before n h = absurd (none-some n h)
first_there (Some first) before n h = (first, refl)

module _ (c : CircuitTree) (has : HasNames c) (clear : type_faults c ≡ []) (number : ℕ) (inside : ModuleTree)
    (is_module : slice_get c.modules number ≡ Some inside) (scope more : TypedScope)
    (all : typed_scope c.modules (declarations inside) ≡ scope ++ more) (n : List ℕ) (k : Known) (is_known : known scope n ≡ Some k)
    (t : DataType) (has_type : k.data_type ≡ Some t) (before : ℕ) (r : Reached) (below : IsBelow t k.name before r)
    (resets : r.data_type ≡ reset) where
  abbrev path : LeafPath
  path = named k.name ∷ below.steps

  here : (In scope k) × (k.name ≡ n)
  here = known_among scope n k is_known

  whole_knows : known (typed_scope c.modules (declarations inside)) k.name ≡ Some k
  whole_knows = ap (λ s. known s k.name) all ∙ ap (known (scope ++ more)) here.1 ∙ known_front scope more n k is_known

  position_is : position_of (typed_scope c.modules (declarations inside)) k.name ≡ position_of scope n
  position_is = ap (λ s. position_of s k.name) all ∙ ap (position_of (scope ++ more)) here.1 ∙ position_front scope more n k is_known

  offset_is : offset_in t below.steps ≡ Some before
  offset_is =
      let none : before + 0 ≡ before = omega arith in
      ap (offset_in t) (sym (append-nil below.steps)) ∙ below.offset []
      ∙ ap (λ u. behind_so_many before (offset_in u [])) resets ∙ ap Some none

  number_there : leaf_number c (leaf_item number path) ≡ number_behind (leaf_declared c number (position_of scope n)) (Some before)
  number_there =
      let ks = typed_scope c.modules (declarations inside) in
      let first = leaf_declared c number (position_of scope n) in
      ap (λ o. number_in c number o path) is_module
      ∙ ap (λ p. number_behind (leaf_declared c number p) (offset_where (type_of_known (known ks k.name)) below.steps)) position_is
      ∙ ap (λ o. number_behind first (offset_where (type_of_known o) below.steps)) whole_knows
      ∙ ap (λ o. number_behind first (offset_where o below.steps)) has_type
      ∙ ap (number_behind first) offset_is

  at : ResetEnd c number path
  at =
      let l = below.leaves (record { path = []; flip = false; ground_type = reset })
      (subst (λ u. In (type_leaves u) (record { path = []; flip = false; ground_type = reset })) (sym resets) (inl refl)) in
      reset_end c number inside is_module k (subst (λ s. In s k) (sym all) (in_left scope more k here.0)) t has_type l.leaf l.among l.ground_is path
      (ap (λ q. named k.name ∷ q) (sym (l.path_is ∙ append-nil below.steps)))

  pub reached_reset : ResetAt c number (position_of scope n) before (named k.name ∷ below.steps)
  reached_reset =
      let there = ap (leaf_number c) at.item ∙ number_there in
      let m = has_number c has clear at.end at.leaf in
      let first = first_there (leaf_declared c number (position_of scope n)) before m.0 (sym there ∙ m.1) in
      record { at = at; first = first.0; is_first = first.1; number_is = there ∙ ap (λ o. number_behind o (Some before)) first.1 }
