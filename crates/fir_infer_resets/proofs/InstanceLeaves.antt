-- A leaf of an instance, as the code knows it: by the number of the instance's module.
use Rattle.std.proofs.Common.{◌≡◌, ℕ, suc, ◌+◌, List, [], ◌∷◌, map, Bool, true, false, cond, Option, Some, None, unwrap_or, refl, sym, ap, ◌∙◌, subst, arith}
use Rattle.std.specs.Prelude.{option_map}
use Rattle.std.specs.Str.{bytes_eq}
use Rattle.std.proofs.lemmas.Option.{same_Some, none-some}
use Rattle.fir_base.specs.Lists.{In}
use Rattle.fir_ast.specs.declared.place.Place.{Place}
use Rattle.fir_ast.specs.Statements.{PlacedName}
use Rattle.fir_ast.specs.Circuits.{ModuleTree, CircuitTree}
use Rattle.fir_meaning.specs.LeafPaths.{LeafPath, named}
use Rattle.fir_meaning.specs.Components.{Component, Declaration, port, wire, register, node, instance, memory}
use Rattle.fir_meaning.specs.ComponentTypes.{find_module, instance_bundle, instance_type, component_type}
use Rattle.fir_meaning.specs.Mentions.{module_names}
use Rattle.fir_meaning.specs.working.NameGroups.{HasNames}
use Rattle.fir_meaning.specs.TypedScopes.{Known}
use Rattle.fir_names.specs.working.ModuleOrder.{find_number}
use Rattle.fir_names.specs.working.Numbered.{component_of, number_of, module_number}
use Rattle.fir_meaning.specs.ResetItems.{leaf_item}
use Rattle.fir_meaning.specs.ResetJoins.{numbered_module, port_place, joins}
use Rattle.fir_meaning.specs.ResetWalks.{IsLeafOf}
use Rattle.fir_reset.specs.working.LeafClasses.{class_of}
use Rattle.fir_reset.specs.working.DeclaredLeaves.{IsNoInstance}
use Rattle.fir_infer_resets.specs.working.Holding.{reset_end}
use Rattle.fir_reset.proofs.DeclaredOnce.{one_declaration}
use Rattle.fir_reset.proofs.ModuleNumbers.{numbered_found}
use Rattle.fir_infer_resets.proofs.LeavesAtHome.{of_port}
use Rattle.fir_infer_resets.proofs.LeafDeclarations.{IsDeclaredLeaf}

-- the number of the first module of a name, and as the table of names has it
record IsFound (ms : List ModuleTree) (name : List ℕ) (from number : ℕ) : Type 0 where
  behind : ℕ
  is : find_number (map (λ m. m.named) ms) name ≡ Some behind
  sum : from + behind ≡ number

find_numbered : (from : ℕ) (ms : List ModuleTree) (name : List ℕ) (child : ℕ × ModuleTree) → numbered_module from ms name ≡ Some child → IsFound ms name from child.0
find_numbered from [] name child h = absurd (none-some child h)
find_numbered from (m ∷ ms) name child h = by (bytes_eq m.named.name name) refl h (find_numbered (suc from) ms name child)
  where
    by : (b : Bool) → bytes_eq m.named.name name ≡ b → cond b (Some (from, m)) (numbered_module (suc from) ms name) ≡ Some child
        → (numbered_module (suc from) ms name ≡ Some child → IsFound ms name (suc from) child.0) → IsFound (m ∷ ms) name from child.0
    by true t e rest =
        let same : from ≡ child.0 = ap (λ (x : ℕ × ModuleTree). x.0) (same_Some (from, m) child e) in
        record { behind = 0; is = ap (λ b. cond b (Some 0) (option_map (λ k. k + 1) (find_number (map (λ m. m.named) ms) name))) t; sum = omega (arith, same) }
    by false t e rest =
        let r = rest e in
        record {
          behind = r.behind + 1;
          is = ap (λ b. cond b (Some 0) (option_map (λ k. k + 1) (find_number (map (λ m. m.named) ms) name))) t ∙ ap (option_map (λ k. k + 1)) r.is;
          sum = omega (arith, r.sum);
        }

number_found : (c : CircuitTree) (name : List ℕ) (child : ℕ × ModuleTree) → numbered_module 0 c.modules name ≡ Some child → number_of (module_names c) name ≡ child.0
number_found c name child h =
    let r = find_numbered 0 c.modules name child h in
    let same : r.behind ≡ child.0 = omega (arith, r.sum) in
    ap (λ o. unwrap_or o 0) r.is ∙ same

-- a component that the code knows as an instance is one
is_instance : (modules : List PlacedName) (x : Component) (child : ℕ) → Some child ≡ module_number (component_of modules x) → (name : List ℕ) × (x ≡ instance name) × (child ≡ number_of modules name)
is_instance modules (port d t) child h = absurd (cc)
is_instance modules (wire t) child h = absurd (cc)
is_instance modules (register t) child h = absurd (cc)
is_instance modules (node e) child h = absurd (cc)
is_instance modules (instance name) child h = (name, refl, same_Some child (number_of modules name) h)
is_instance modules (memory parts) child h = absurd (cc)

-- the leaf of the port that a leaf of an instance is joined to
pub record HasPort (c : CircuitTree) (number : ℕ) (leaf : LeafPath) (p : Place) (child : ℕ) : Type 0 where
  pub name : List ℕ
  pub rest : LeafPath
  pub leaf_is : leaf ≡ named name ∷ rest
  pub place : Place
  pub is_leaf : IsLeafOf c (reset_end child rest place)
  pub no_instance : IsNoInstance c child rest
  pub class : class_of c (leaf_item number leaf) ≡ class_of c (leaf_item child rest)
  pub joined : In (joins c) (record { one = reset_end number leaf p; other = reset_end child rest place })

module _ (c : CircuitTree) (names : HasNames c) (number : ℕ) (leaf : LeafPath) (p : Place) (l : IsLeafOf c (reset_end number leaf p)) (d : IsDeclaredLeaf c number leaf (reset_end number leaf p)) where
  port_numbered : (name : List ℕ) → d.spot.declared.component ≡ instance name → (child : ℕ × ModuleTree) → numbered_module 0 c.modules name ≡ Some child → HasPort c number leaf p child.0
  port_numbered name is child f =
      let r = of_port c names number d.inside (reset_end number leaf p) d.spot name child is f in
      record {
        name = d.spot.declared.named.name;
        rest = d.spot.leaf.path;
        leaf_is = d.path_is;
        place = port_place d.spot.declared.named.place child.1.ports d.spot.leaf.path;
        is_leaf = r.is_leaf;
        no_instance = r.no_instance;
        class = r.class;
        joined = r.joined;
      }

  pub has_port : (child : ℕ) → Some child ≡ module_number (component_of (module_names c) d.spot.declared.component) → HasPort c number leaf p child
  has_port child h = found (find_module c.modules i.0) refl
    where
      i : (name : List ℕ) × (d.spot.declared.component ≡ instance name) × (child ≡ number_of (module_names c) name)
      i = is_instance (module_names c) d.spot.declared.component child h

      typed : instance_type c.modules i.0 ≡ Some d.spot.data_type
      typed =
          sym (ap (λ (x : Known). x.data_type) d.spot.stands.is.is ∙ ap (component_type c.modules d.spot.stands.is.scope d.spot.declared.named.place) i.1)
          ∙ d.spot.has_type

      found : (o : Option ModuleTree) → find_module c.modules i.0 ≡ o → HasPort c number leaf p child
      found None f = absurd (none-some d.spot.data_type (sym (ap (option_map instance_bundle) f) ∙ typed))
      found (Some x) f =
          let r = numbered_found 0 c.modules i.0 x f in
          subst (HasPort c number leaf p) (sym (i.2 ∙ number_found c i.0 (r.0, x) r.1)) (port_numbered i.0 i.1 (r.0, x) r.1)

  -- what the code knows as no instance is none
  pub no_port : None ≡ module_number (component_of (module_names c) d.spot.declared.component) → IsNoInstance c number leaf
  no_port h e name k is =
      let same = one_declaration c number leaf e d.spot.declared k d.declares in
      let some : module_number (component_of (module_names c) d.spot.declared.component) ≡ Some (number_of (module_names c) name) =
      ap (λ x. module_number (component_of (module_names c) x)) (ap (λ (y : Declaration). y.component) (sym same) ∙ is) in
      none-some (number_of (module_names c) name) (h ∙ some)
