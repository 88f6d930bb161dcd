-- The leaf circuit of a design stores over its own types and values what the design stores.
use Rattle.std.proofs.Common.{◌≡◌, ℕ, zero, suc, ◌+◌, ◌<◌, ◌≤◌, List, [], ◌∷◌, Bool, true, false, length, nat_lt, refl, sym, ap, ap₂, ◌∙◌, arith, subst, Option, Some, None, inl, inr, ⊎_elim}
use Rattle.std.proofs.lemmas.Bool.{false_from_ne_true, ltb-true, ltb-false}
use Rattle.std.proofs.lemmas.List.{get_or_past}
use Rattle.fir_bits.specs.declared.types.NumTy.{NumTy}
use Rattle.fir_base.specs.Lists.{In}
use Rattle.fir_base.proofs.Members.{in_either, in_map_from}
use Rattle.fir_meaning.specs.LeafPaths.{LeafPath, named}
use Rattle.fir_meaning.specs.working.TermValues.{Env, clock_at, clock_of, value_at}
use Rattle.fir_meaning.specs.working.LeafBlocks.{exec_all, nothing_stored}
use Rattle.fir_meaning.specs.working.LeafModules.{LeafDeclared, leaf_at, no_leaf}
use Rattle.fir_meaning.specs.LeafTypes.{number_type}
use Rattle.fir_meaning.specs.working.LeafCircuits.{depth_of, type_of_leaf}
use Rattle.fir_leaf.specs.working.ChoiceLaws.{fitted_at}
use Rattle.fir_meaning.specs.SamePaths.{same_path}
use Rattle.fir_meaning.specs.working.Designs.{Design, made_of}
use Rattle.fir_meaning.specs.working.Flattened.{flattened}
use Rattle.fir_leaf.specs.working.SoundDesigns.{IsMain}
use Rattle.fir_leaf.specs.working.NamedDesigns.{IsBehind, IsNamed, paths_of}
use Rattle.fir_leaf.specs.working.DesignLaws.{numbered}
use Rattle.fir_leaf.specs.working.CircuitStores.{IsOfLeaves, SameCircuitClocks, SameCircuitStores, clocks_by_path, number_of_path, type_where, types_by_path, values_by_path}
use Rattle.fir_leaf.proofs.FlatStores.{same_path_is, same_path_refl}
use Rattle.fir_leaf.proofs.FlatMeaning.{same_clocks, same_stores}
use Rattle.fir_leaf.proofs.OncePaths.{all_inner_paths, flat_paths, in_at, items_begin, names_make_sound}

found : (ls : List LeafDeclared) (k x : ℕ)
    → ((i j : ℕ) → i < length ls → j < length ls → (leaf_at ls i).path ≡ (leaf_at ls j).path → i ≡ j) → x < length ls
    → number_of_path ls k (leaf_at ls x).path ≡ Some (k + x)
found [] k x once lt = absurd (omega (arith, lt))
found (l ∷ ls) k zero once lt = let e : k ≡ k + 0 = omega arith in rw (same_path_refl l.path) (ap Some e)
found (l ∷ ls) k (suc x) once lt =
    let e : suc k + x ≡ k + suc x = omega arith in
    let other : same_path l.path (leaf_at ls x).path ≡ false =
    false_from_ne_true (same_path l.path (leaf_at ls x).path)
    (λ t. let z : 0 ≡ suc x = once 0 (suc x) (omega arith) lt (same_path_is l.path (leaf_at ls x).path t) in omega (arith, z)) in
    rw other
    (found ls (suc k) x
    (λ i j li lj p. let z : suc i ≡ suc j = once (suc i) (suc j) (omega (arith, li)) (omega (arith, lj)) p in omega (arith, z))
    (omega (arith, lt))
    ∙ ap Some e)

not_found : (ls : List LeafDeclared) (k : ℕ) (p : LeafPath) → (In (paths_of ls) p → ⊥) → number_of_path ls k p ≡ None
not_found [] k p h = refl
not_found (l ∷ ls) k p h =
    let other : same_path l.path p ≡ false = false_from_ne_true (same_path l.path p) (λ t. h (inl (same_path_is l.path p t))) in
    rw other (not_found ls (suc k) p (λ among. h (inr among)))

beyond : (ls : List LeafDeclared) (x : ℕ) → length ls ≤ x → leaf_at ls x ≡ no_leaf
beyond ls x le = get_or_past ls x no_leaf le

-- no path of a design is empty
never_empty : (d : Design) → IsNamed d → In (paths_of (flattened d).leaves) [] → ⊥
never_empty (made_of m is) h among =
    ⊎_elim
    (λ (l : In (paths_of m.leaves) []).
    let from = in_map_from (λ (x : LeafDeclared). x.path) m.leaves [] l in
    let at = in_at m.leaves from.0 no_leaf from.1 in
    let begins : IsBehind _ (leaf_at m.leaves at.0).path = h.0.begins at.0 at.1 in
    let e : named _ ∷ begins.rest ≡ [] = sym begins.is ∙ ap (λ (x : LeafDeclared). x.path) at.2 ∙ from.2 in
    absurd (cc))
    (λ (r : In (all_inner_paths m is) []).
    let begins = items_begin m is h.2 [] r in
    let e : [] ≡ named _ ∷ begins.is.rest = begins.is.is in
    absurd (cc))
    (in_either (paths_of m.leaves) (all_inner_paths m is) [] (subst (λ (ps : List LeafPath). In ps []) (flat_paths m is) among))

module _ (d : Design) (w : IsMain d) (h : IsNamed d) where
  -- what is found of a leaf by its path, and of what is none
  by_number : {A : Type 0} (f : Option ℕ → A) (g : ℕ → A) → ((x : ℕ) → f (Some x) ≡ g x) → ((x : ℕ) → length (flattened d).leaves ≤ x → f None ≡ g x) → (x : ℕ)
      → f (number_of_path (flattened d).leaves 0 (leaf_at (flattened d).leaves x).path) ≡ g x
  by_number f g some none x = go (nat_lt x (length (flattened d).leaves)) refl
    where
      go : (b : Bool) → nat_lt x (length (flattened d).leaves) ≡ b → f (number_of_path (flattened d).leaves 0 (leaf_at (flattened d).leaves x).path) ≡ g x
      go true e =
          let z : 0 + x ≡ x = omega arith in
          ap f (found (flattened d).leaves 0 x (names_make_sound d w h).once (ltb-true x (length (flattened d).leaves) e) ∙ ap Some z) ∙ some x
      go false e =
          let le : length (flattened d).leaves ≤ x = ltb-false x (length (flattened d).leaves) e in
          ap (λ (l : LeafDeclared). f (number_of_path (flattened d).leaves 0 l.path)) (beyond (flattened d).leaves x le)
          ∙ ap f (not_found (flattened d).leaves 0 [] (never_empty d h)) ∙ none x le

  types_are : numbered (flattened d) (types_by_path (flattened d)) ≡ type_of_leaf (flattened d)
  types_are = λ i x.
      by_number (type_where (flattened d)) (type_of_leaf (flattened d)) (λ y. refl)
      (λ y le. ap (λ (l : LeafDeclared). number_type l.holds) (sym (beyond (flattened d).leaves y le))) x i

  values_are : (env : Env) → IsOfLeaves (flattened d) env → numbered (flattened d) (values_by_path (flattened d) env) ≡ env.numbers
  values_are env o = λ i x. by_number (λ q. value_at q env.numbers) env.numbers (λ y. refl) (λ y le. sym (o.numbers y le)) x i

  clocks_are : (env : Env) → IsOfLeaves (flattened d) env → numbered (flattened d) (clocks_by_path (flattened d) env) ≡ env.clocks
  clocks_are env o = λ i x. by_number (λ q. clock_at q env.clocks) env.clocks (λ y. refl) (λ y le. sym (o.clocks y le)) x i

pub same_circuit_stores : SameCircuitStores
same_circuit_stores d env w h o x lt =
    let c = flattened d in
    let stores = λ (holds : ℕ → NumTy) (numbers : ℕ → ℕ). exec_all holds (depth_of c) numbers (fitted_at holds numbers) c.body [] nothing_stored x in
    sym (ap₂ stores (types_are d w h) (values_are d w h env o))
    ∙ same_stores d (types_by_path c) (values_by_path c env) (names_make_sound d w h) x lt

pub same_circuit_clocks : SameCircuitClocks
same_circuit_clocks d env w h o x lt =
    let c = flattened d in
    let stores = λ (holds : ℕ → NumTy) (numbers : ℕ → ℕ) (clocks : ℕ → Option ℕ).
    exec_all holds (depth_of c) numbers (λ y t. clock_of holds (record { numbers = numbers; clocks = clocks }) t) c.body [] nothing_stored x in
    sym (ap₂ (λ (holds : ℕ → NumTy) (numbers : ℕ → ℕ). stores holds numbers (numbered c (clocks_by_path c env))) (types_are d w h) (values_are d w h env o)
    ∙ ap (λ (clocks : ℕ → Option ℕ). stores (type_of_leaf c) env.numbers clocks) (clocks_are d w h env o))
    ∙ same_clocks d (types_by_path c) (values_by_path c env) (clocks_by_path c env) (names_make_sound d w h) x lt
