-- A port named within its instance, and from outside.
use Rattle.std.proofs.Common.{◌≡◌, ℕ, List, [], ◌∷◌, ◌++◌, Option, Some, None, option_map, refl, sym, ap, ap₂, ◌∙◌, subst, append_assoc}
use Rattle.fir_bits.specs.declared.values.Num.{Num}
use Rattle.fir_ast.specs.declared.place.Place.{Place}
use Rattle.fir_ast.specs.Circuits.{ModuleTree}
use Rattle.fir_ast.specs.Expressions.{Parts, no_parts, reference, subaccess, subfield, subindex}
use Rattle.fir_ast.specs.Types.{DataType}
use Rattle.fir_meaning.specs.LeafPaths.{LeafPath, Step, named, element}
use Rattle.fir_meaning.specs.Reaching.{field_of_type, vector_of_type}
use Rattle.fir_meaning.specs.TypeGroup.{scope_at}
use Rattle.fir_meaning.specs.TypeKinds.{FieldFound}
use Rattle.fir_meaning.specs.TypedScopes.{TypedScope}
use Rattle.fir_meaning.specs.Values.{number_of}
use Rattle.fir_meaning.specs.Visibility.{Before}
use Rattle.fir_meaning.specs.TreeAims.{Aim, element_aim, element_aim_at, field_aim, field_aim_at, named_aim, one_step_further, step_aim, whole_aim}
use Rattle.fir_meaning.specs.TreeValues.{TypesByPath, ValuesByPath, aim_along, aim_value, leaf_type_where, leaf_where, value, value_where}
use Rattle.fir_meaning.specs.LeafTypes.{number}
use Rattle.fir_meaning.specs.SourceAllows.{LeafShows}
use Rattle.fir_meaning.specs.SourceCircuits.{leaf_path}
use Rattle.fir_meaning.specs.SourceStores.{below}
use Rattle.fir_meaning.specs.SourceValues.{number_shown, number_stored, source_holds}
use Rattle.fir_source_laws.specs.working.PortLaws.{IsPortOf, IsStatic, PortsAreOne, PortsReadAsStored}
use Rattle.fir_source_laws.proofs.PortNames.{field_outside, type_outside, type_within}

module _ (i : List ℕ) where
  abbrev inward : Option LeafPath → Option LeafPath
  inward o = option_map (λ q. named i ∷ q) o

  -- the second names behind the name of the instance what the first names
  pub record IsShifted (a b : Aim) : Type 0 where
    pub at : b.at ≡ inward a.at
    pub first : b.first ≡ inward a.first
    pub data_type : b.data_type ≡ a.data_type

  step_shifted : (s : Step) (t : DataType) (a b : Aim) → IsShifted a b → IsShifted (step_aim s t a) (step_aim s t b)
  step_shifted s t a b h = record {
    at = ap (λ o. one_step_further o s) h.at ∙ by a.at;
    first = ap (λ o. one_step_further o s) h.first ∙ by a.first;
    data_type = refl;
  }
    where
      by : (o : Option LeafPath) → one_step_further (inward o) s ≡ inward (one_step_further o s)
      by None = refl
      by (Some q) = refl

  field_shifted : (x : List ℕ) (a b : Aim) → IsShifted a b → IsShifted (field_aim x a) (field_aim x b)
  field_shifted x a b h = subst (λ t. IsShifted (field_aim_at x a (field_of_type x a.data_type)) (field_aim_at x b (field_of_type x t))) (sym h.data_type)
      (by (field_of_type x a.data_type))
    where
      by : (found : Option FieldFound) → IsShifted (field_aim_at x a found) (field_aim_at x b found)
      by None = record { at = refl; first = refl; data_type = refl }
      by (Some f) = step_shifted (named x) f.data_type a b h

  element_shifted : (n : ℕ) (a b : Aim) → IsShifted a b → IsShifted (element_aim n a) (element_aim n b)
  element_shifted n a b h = subst (λ t. IsShifted (element_aim_at n a (vector_of_type a.data_type)) (element_aim_at n b (vector_of_type t))) (sym h.data_type)
      (by (vector_of_type a.data_type))
    where
      by : (found : Option (DataType × ℕ)) → IsShifted (element_aim_at n a found) (element_aim_at n b found)
      by None = record { at = refl; first = refl; data_type = refl }
      by (Some v) = step_shifted (element n) v.0 a b h

  module _ (outside within : TypedScope) (holds other : TypesByPath) (env values : ValuesByPath) where
    along_shifted : (ps : Parts) (a b : Aim) → IsStatic ps → IsShifted a b
        → IsShifted (aim_along within holds env a ps) (aim_along outside other values b ps)
    along_shifted no_parts a b static h = h
    along_shifted (subfield first p x rest) a b static h = along_shifted rest (field_aim x a) (field_aim x b) static (field_shifted x a b h)
    along_shifted (subindex first p n rest) a b static h = along_shifted rest (element_aim n a) (element_aim n b) static (element_shifted n a b h)
    along_shifted (subaccess first e rest) a b static h = absurd static

  -- with the values below the instance, and with those below the module that holds it
  module _ (holds : TypesByPath) (env : ValuesByPath) (at : LeafPath) (q : LeafPath) where
    type_shifted : (o : Option LeafPath) (t : DataType)
        → leaf_type_where o t (below (at ++ named i ∷ []) holds) q ≡ leaf_type_where (inward o) t (below at holds) q
    type_shifted None t = refl
    type_shifted (Some f) t = ap holds (append_assoc at (named i ∷ []) (f ++ q))

    value_shifted : (o : Option LeafPath)
        → value_where (leaf_where o q) (below (at ++ named i ∷ []) env) ≡ value_where (leaf_where (inward o) q) (below at env)
    value_shifted None = refl
    value_shifted (Some f) = ap env (append_assoc at (named i ∷ []) (f ++ q))

    leaf_shifted : (o : Option LeafPath)
        → option_map (λ x. (at ++ named i ∷ []) ++ x) (leaf_where o q) ≡ option_map (λ x. at ++ x) (leaf_where (inward o) q)
    leaf_shifted None = refl
    leaf_shifted (Some f) = ap Some (append_assoc at (named i ∷ []) (f ++ q))

    aim_shifted : (a b : Aim) → IsShifted a b
        → aim_value (below (at ++ named i ∷ []) holds) (below (at ++ named i ∷ []) env) a q ≡ aim_value (below at holds) (below at env) b q
    aim_shifted a b h =
        ap₂ number_of (type_shifted a.first a.data_type) (value_shifted a.at)
        ∙ ap₂ number_of
        (ap₂ (λ o t. leaf_type_where o t (below at holds) q) (sym h.first) (sym h.data_type))
        (ap (λ o. value_where (leaf_where o q) (below at env)) (sym h.at))

port_shifted : (modules : List ModuleTree) (outside within : Before) (i p : List ℕ) → IsPortOf modules outside within i p
    → IsShifted i (named_aim (scope_at modules within) p) (field_aim p (named_aim (scope_at modules outside) i))
port_shifted modules outside within i p is =
    let f = field_outside modules outside within i p is in
    rw (type_within modules outside within i p is, type_outside modules outside within i p is, f.1, f.2)
    (record { at = refl; first = refl; data_type = refl })

pub ports_are_one : PortsAreOne
ports_are_one modules outside within i p holds env at here there dot stands parts q is static =
    let shifted = along_shifted i (scope_at modules outside) (scope_at modules within) (below (at ++ named i ∷ []) holds) (below at holds)
    (below (at ++ named i ∷ []) env) (below at env) parts _ _ static (port_shifted modules outside within i p is) in (
      aim_shifted i holds env at q _ _ shifted,
      leaf_shifted i holds env at q _ ∙ ap (λ o. option_map (λ x. at ++ x) (leaf_where o q)) (sym shifted.at),
    )

-- what a module reads of its port, by the port's path from the main module on
port_read : (modules : List ModuleTree) (outside within : Before) (i p : List ℕ) (holds : TypesByPath) (env : ValuesByPath) (at : LeafPath) (here : Place)
    (q : LeafPath) → IsPortOf modules outside within i p
    → (value (scope_at modules within) (below (at ++ named i ∷ []) holds) (below (at ++ named i ∷ []) env) (reference here p no_parts) q).value.number
    ≡ env (at ++ named i ∷ named p ∷ q)
port_read modules outside within i p holds env at here q is =
    ap (λ t. (aim_value (below (at ++ named i ∷ []) holds) (below (at ++ named i ∷ []) env) (whole_aim p t) q).value.number)
    (type_within modules outside within i p is)
    ∙ ap env (append_assoc at (named i ∷ []) (named p ∷ q))

pub ports_read_as_stored : PortsReadAsStored
ports_read_as_stored t state tick env leaf h modules outside within i p at here there dot stands q settled among role holds path is =
    let shows : LeafShows t state tick.inputs env leaf (number h) = subst (LeafShows t state tick.inputs env leaf) holds (settled.each leaf among) in
    let sunk : number_stored t env (leaf_path leaf) ≡ Some (env.numbers (leaf_path leaf)) =
    sym (ap (number_shown t env state tick.inputs leaf.at (leaf_path leaf)) role) ∙ shows.0 in
    let stored : number_stored t env (at ++ named i ∷ named p ∷ q) ≡ Some (env.numbers (at ++ named i ∷ named p ∷ q)) =
    subst (λ x. number_stored t env x ≡ Some (env.numbers x)) path sunk in
    let inner = port_read modules outside within i p (source_holds t) env.numbers at here q is in
    let one = ports_are_one modules outside within i p (source_holds t) env.numbers at here there dot stands no_parts q is tt in (
      stored ∙ ap Some (sym inner),
      stored ∙ ap Some (sym inner ∙ ap (λ (v : Num). v.value.number) one.0),
    )
