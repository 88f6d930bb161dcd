-- Instances over leaves as declarations of their module: which one each of them is, and that no two are one.
use Rattle.std.proofs.Common.{◌≡◌, ℕ, ◌<◌, ◌≤◌, List, [], ◌∷◌, ◌++◌, map, length, Option, Some, None, refl, sym, ap, ◌∙◌, subst, append_assoc, ⊎_elim, arith}
use Rattle.std.proofs.lemmas.List.{map-append}
use Rattle.fir_base.specs.Lists.{In, Distinct}
use Rattle.fir_base.proofs.Members.{in_either, in_map_from}
use Rattle.fir_base.proofs.Twins.{distinct_joined}
use Rattle.fir_ast.specs.Statements.{PlacedName}
use Rattle.fir_ast.specs.Circuits.{ModuleTree}
use Rattle.fir_meaning.specs.Components.{Declaration, Declarations}
use Rattle.fir_meaning.specs.Components as component
use Rattle.fir_meaning.specs.Visibility.{Before, declaration_at, with_declaration}
use Rattle.fir_meaning.specs.TypedScopes.{TypedScope}
use Rattle.fir_meaning.specs.ComponentTypes.{typed_scope}
use Rattle.fir_meaning.specs.TypeGroup.{scope_at}
use Rattle.fir_meaning.specs.ResetJoins.{numbered_module}
use Rattle.fir_meaning.specs.working.LeafBlocks.{HeldInstance}
use Rattle.fir_meaning.specs.working.LeafedBlocks.{instance_block}
use Rattle.fir_leaf.specs.working.LeafLaws.{Begins}
use Rattle.fir_meaning.specs.working.Targets.{leaves_so_far}
use Rattle.fir_design.proofs.HeldInstances.{Held, all_held_in}
use Rattle.fir_design.proofs.KnownDeclarations.{known_long}

-- an instance, within so many whens
abbrev pub instance_within : PlacedName → List ℕ → ℕ → Declaration
instance_within n name depth = record { named = n; component = component.instance name; depth = depth }

-- what is declared is where all that is declared begins
abbrev pub Grows : Declarations → Declarations → Type 0
Grows ds all = (more : Declarations) × (ds ++ more ≡ all)

-- an instance's declaration among all, behind what is known at the start
pub record IsDeclared (modules : List ModuleTree) (start : TypedScope) (all : Declarations) (h : Held) : Type 0 where
  pub named : PlacedName
  pub module_name : List ℕ
  pub front : Declarations
  pub more : Declarations
  pub is : front ++ instance_within named module_name h.depth ∷ more ≡ all
  pub begins : Begins start (typed_scope modules front)
  pub child : ModuleTree
  pub found : numbered_module 0 modules module_name ≡ Some (h.own.module_number, child)
  pub declaration : h.own.declaration ≡ length front
  pub first : h.own.first ≡ leaves_so_far (typed_scope modules front)

abbrev pub declaration_of : Held → ℕ
declaration_of h = h.own.declaration

-- each of these is declared so, behind so many and before so many others, and no two are one declaration
pub record AreDeclared (modules : List ModuleTree) (start : TypedScope) (all : Declarations) (from upto : ℕ) (hs : List Held) : Type 0 where
  pub each : (h : Held) → In hs h → IsDeclared modules start all h
  pub low : (h : Held) → In hs h → from ≤ h.own.declaration
  pub high : (h : Held) → In hs h → h.own.declaration < upto
  pub once : Distinct (map declaration_of hs)

module _ (modules : List ModuleTree) (start : TypedScope) (all : Declarations) where
  pub none_declared : (from upto : ℕ) (hs : List Held) → hs ≡ [] → AreDeclared modules start all from upto hs
  none_declared from upto hs e = rw e (record { each = λ h i. absurd i; low = λ h i. absurd i; high = λ h i. absurd i; once = tt })

  one_declared : (from upto : ℕ) (h : Held) → IsDeclared modules start all h → h.own.declaration ≡ from → from < upto
      → AreDeclared modules start all from upto (h ∷ [])
  one_declared from upto h is e lt = record {
    each = λ x i. ⊎_elim (λ (s : h ≡ x). subst (IsDeclared modules start all) s is) (λ (n : ⊥). absurd n) i;
    low = λ x i. ⊎_elim (λ (s : h ≡ x). let same = ap declaration_of s in omega (arith, e, same)) (λ (n : ⊥). absurd n) i;
    high = λ x i. ⊎_elim (λ (s : h ≡ x). let same = ap declaration_of s in omega (arith, e, same, lt)) (λ (n : ⊥). absurd n) i;
    once = (λ n. n, tt);
  }

  pub both_declared : (from between upto : ℕ) (hs gs : List Held) → from ≤ between → between ≤ upto
      → AreDeclared modules start all from between hs
      → AreDeclared modules start all between upto gs → AreDeclared modules start all from upto (hs ++ gs)
  both_declared from between upto hs gs low high a b = record {
    each = λ h i. ⊎_elim (λ (l : In hs h). a.each h l) (λ (r : In gs h). b.each h r) (in_either hs gs h i);
    low = λ h i. ⊎_elim (λ (l : In hs h). a.low h l) (λ (r : In gs h). omega (arith, low, b.low h r)) (in_either hs gs h i);
    high = λ h i. ⊎_elim (λ (l : In hs h). omega (arith, high, a.high h l)) (λ (r : In gs h). b.high h r) (in_either hs gs h i);
    once =
        subst Distinct (sym (map-append declaration_of hs gs))
        (distinct_joined (map declaration_of hs) (map declaration_of gs) a.once b.once
        (λ k l r.
        let x = in_map_from declaration_of hs k l in
        let y = in_map_from declaration_of gs k r in
        omega (arith, x.2, y.2, a.high x.0 x.1, b.low y.0 y.1)));
  }

  -- an instance behind what is declared before it
  pub instance_declared : (before : Before) (n : PlacedName) (name : List ℕ) (k upto : ℕ) → before.depth ≡ k
      → Begins start (scope_at modules before)
      → Grows (with_declaration before n (component.instance name)).declared all → length before.declared < upto
      → AreDeclared modules start all (length before.declared) upto
      (all_held_in k (instance_block (scope_at modules before) (numbered_module 0 modules name)))
  instance_declared before n name k upto deep begins g lt = by (numbered_module 0 modules name) refl
    where
      by : (o : Option (ℕ × ModuleTree)) → numbered_module 0 modules name ≡ o
          → AreDeclared modules start all (length before.declared) upto (all_held_in k (instance_block (scope_at modules before) o))
      by None e = none_declared (length before.declared) upto [] refl
      by (Some child) e =
          let d = declaration_at before n (component.instance name) in
          let whole : before.declared ++ d ∷ g.0 ≡ all = sym (append_assoc before.declared (d ∷ []) g.0) ∙ g.1 in
          let own : HeldInstance =
          record { declaration = length (scope_at modules before); module_number = child.0; first = leaves_so_far (scope_at modules before) } in
          one_declared (length before.declared) upto (record { depth = k; own = own })
          (record {
            named = n;
            module_name = name;
            front = before.declared;
            more = g.0;
            is = ap (λ j. before.declared ++ instance_within n name j ∷ g.0) (sym deep) ∙ whole;
            begins = begins;
            child = child.1;
            found = e;
            declaration = known_long modules before.declared;
            first = refl;
          })
          (known_long modules before.declared) lt
