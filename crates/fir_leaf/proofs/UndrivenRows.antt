-- E24 of worked circuits, computed from their texts: which leaf is told, and with which choice.
-- It is so whatever the widths and the resets of a circuit are: each leaf before is driven, and this one is not.
use Rattle.std.proofs.Common.{◌≡◌, ℕ, zero, suc, List, [], ◌∷◌, map, Bool, true, false, Some, refl, subst, arith, ap}
use Rattle.std.proofs.lemmas.Option.{same_Some}
use Rattle.std.specs.Prelude.{codes, slice_get}
use Rattle.fir_ast.specs.Faults.{Fault}
use Rattle.fir_meaning.specs.SourceUndrivenGroup.{undriven_fault}
use Rattle.fir_ast.specs.declared.fault.Outcome.TheVariants as outcome
use Rattle.fir_ast.specs.Circuits.{CircuitTree}
use Rattle.fir_meaning.specs.LeafPaths.{LeafPath, element, named, path_text}
use Rattle.fir_meaning.specs.SizedDeclarations.{NumberedModule, numbered_modules}
use Rattle.fir_meaning.specs.working.TermReads.{multiples}
use Rattle.fir_meaning.specs.working.Choices.{Choice}
use Rattle.fir_meaning.specs.working.UndrivenChoices.{IsFirstUndriven, IsUndriven, told_all}
use Rattle.fir_meaning.specs.Outcomes.{ComesFirst, told_once}
use Rattle.fir_meaning.specs.working.UndrivenLeaves.{AreDrivenBefore, ShowsUndriven}
use Rattle.fir_meaning.specs.working.LeafModules.{LeafModule}
use Rattle.fir_meaning.specs.ModuleScenes.{Scene}
use Rattle.fir_meaning.specs.working.LeafedModules.{leafed_module}
use Rattle.fir_meaning.specs.Scenes.{IsSceneOf}
use Rattle.fir_meaning.proofs.SmallTrees.{at}
use Rattle.fir_meaning.specs.working.Designs.{module_of}
use Rattle.fir_leaf.proofs.TextTrees as text
use Rattle.fir_leaf.proofs.RowTrees.{modules_with}

-- the leaf of that number is the first of a module that is not driven
abbrev Tells : LeafModule → ℕ → Fault → Type 0
Tells m leaf f = ShowsUndriven m leaf f × AreDrivenBefore m leaf

abbrev first_module : (ℕ → ℕ) → (LeafPath → Bool) → CircuitTree → LeafModule
first_module widths is_async c = module_of (modules_with widths is_async c) 0

-- so it is in the first module of a circuit
abbrev IsTold : CircuitTree → ℕ → Fault → Type 0
IsTold c leaf f = (widths : ℕ → ℕ) (is_async : LeafPath → Bool) → Tells (first_module widths is_async c) leaf f

first_is_own : (f : NumberedModule → LeafModule) (ms : List NumberedModule) (own : NumberedModule)
    → slice_get ms 0 ≡ Some own → module_of (map f ms) 0 ≡ f own
first_is_own f [] own e = absurd cc
first_is_own f (m ∷ ms) own e = ap f (same_Some m own e)

-- then it is so with the widths and the resets of the circuit
told_in_scene : (c : CircuitTree) (leaf : ℕ) (f : Fault) → IsTold c leaf f → (s : Scene) → IsSceneOf c 0 s → Tells (leafed_module s) leaf f
told_in_scene c leaf f h s is =
    subst (λ m. Tells m leaf f)
    (first_is_own (λ own. leafed_module (record { own = own; widths = s.widths; is_async = s.is_async })) (numbered_modules c) s.own is.own)
    (h s.widths s.is_async)

-- in a when of c, and nowhere else, o <= a: the first choice that leaves o undriven is the one in which c is 0; the leaves are a, c and o
in_a_when_told : IsTold text.in_a_when 2 (undriven_fault (at 5 12) (codes "o") (outcome.When (at 6 5) false ∷ []))
in_a_when_told widths is_async = (
  record {
    outcomes = _;
    within = omega arith;
    is_sink = refl;
    first = record { choice = λ way. false; undriven = refl; are = refl; first = λ f e. go f (f (false ∷ [])) refl e };
    is = refl;
  },
  before,
)
  where
    go : (f : Choice) (v : Bool) → f (false ∷ []) ≡ v → IsUndriven 0 2 (first_module widths is_async text.in_a_when).body f
        → ComesFirst (outcome.When (at 6 5) false ∷ []) (told_all 0 2 (first_module widths is_async text.in_a_when).body 0 f)
    go f false q e = rw q (refl, tt)
    go f true q e = absurd (cc (rw q at e))

    before : AreDrivenBefore (first_module widths is_async text.in_a_when) 2
    before zero lt is = absurd cc
    before (suc zero) lt is = absurd cc
    before (suc (suc x)) lt is = absurd (omega (arith, lt))

-- o <- a, where a has the fields a and b, and o has b and c: no choice drives o.c; the leaves are a.a, a.b, o.b and o.c
shared_field_told : IsTold text.shared_field_alone 3 (undriven_fault (at 4 12) (codes "o.c") [])
shared_field_told widths is_async = (
  record {
    outcomes = _;
    within = omega arith;
    is_sink = refl;
    first = record { choice = λ way. false; undriven = refl; are = refl; first = λ f e. tt };
    is = refl;
  },
  before,
)
  where
    before : AreDrivenBefore (first_module widths is_async text.shared_field_alone) 3
    before zero lt is = absurd cc
    before (suc zero) lt is = absurd cc
    before (suc (suc zero)) lt is = λ f e. absurd cc
    before (suc (suc (suc x))) lt is = absurd (omega (arith, lt))

-- when a, and in it when c, o <= b; the leaves are a, b, c and o. Two choices leave o undriven, and the one in which a is 0 is told: c is not reached there
two_whens_told : IsTold text.two_whens 3 (undriven_fault (at 6 12) (codes "o") (outcome.When (at 7 5) false ∷ []))
two_whens_told widths is_async = (
  record {
    outcomes = _;
    within = omega arith;
    is_sink = refl;
    first = record { choice = λ way. false; undriven = refl; are = refl; first = λ f e. go f (f (false ∷ [])) refl };
    is = refl;
  },
  before,
)
  where
    go : (f : Choice) (v : Bool) → f (false ∷ []) ≡ v
        → ComesFirst (outcome.When (at 7 5) false ∷ []) (told_all 0 3 (first_module widths is_async text.two_whens).body 0 f)
    go f false q = rw q (refl, tt)
    go f true q = rw q refl

    before : AreDrivenBefore (first_module widths is_async text.two_whens) 3
    before zero lt is = absurd cc
    before (suc zero) lt is = absurd cc
    before (suc (suc zero)) lt is = absurd cc
    before (suc (suc (suc x))) lt is = absurd (omega (arith, lt))

second_is_not_first : (widths : ℕ → ℕ) (is_async : LeafPath → Bool)
    → IsFirstUndriven 0 3 (first_module widths is_async text.two_whens).body (outcome.When (at 7 5) true ∷ outcome.When (at 8 7) false ∷ []) → ⊥
second_is_not_first widths is_async h = go (h.choice (false ∷ [])) refl h.are (h.first (λ way. false) refl)
  where
    go : (v : Bool) → h.choice (false ∷ []) ≡ v
        → told_once (told_all 0 3 (first_module widths is_async text.two_whens).body 0 h.choice)
        ≡ outcome.When (at 7 5) true ∷ outcome.When (at 8 7) false ∷ []
        → ComesFirst (told_all 0 3 (first_module widths is_async text.two_whens).body 0 h.choice) (outcome.When (at 7 5) false ∷ []) → ⊥
    go false q are first = absurd (cc (rw q at are))
    go true q are first = rw q at first

-- o[i] <= x alone, where o has two elements; the leaves are i, x, o[0] and o[1]
by_index_told : IsTold text.by_index 2 (undriven_fault (at 5 12) (path_text (named (codes "o") ∷ element 0 ∷ [])) (outcome.Index (at 6 5) false ∷ []))
unfolding multiples
by_index_told widths is_async = (
  record {
    outcomes = _;
    within = omega arith;
    is_sink = refl;
    first = record { choice = λ way. false; undriven = refl; are = refl; first = λ f e. go f (f (false ∷ [])) refl e };
    is = refl;
  },
  before,
)
  where
    go : (f : Choice) (v : Bool) → f (false ∷ []) ≡ v → IsUndriven 0 2 (first_module widths is_async text.by_index).body f
        → ComesFirst (outcome.Index (at 6 5) false ∷ []) (told_all 0 2 (first_module widths is_async text.by_index).body 0 f)
    go f false q e = rw q (refl, tt)
    go f true q e = absurd (cc (rw q at e))

    before : AreDrivenBefore (first_module widths is_async text.by_index) 2
    before zero lt is = absurd cc
    before (suc zero) lt is = absurd cc
    before (suc (suc x)) lt is = absurd (omega (arith, lt))
