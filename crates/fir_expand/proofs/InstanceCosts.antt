-- What a module costs is what it costs alone, and what the modules of its instances do; and these instances are those that it declares.
use Rattle.std.proofs.Common.{◌≡◌, ℕ, ◌+◌, List, [], ◌∷◌, ◌++◌, map, flat_map, refl, sym, ap, ◌∙◌, append_assoc, append-nil, inl, inr, arith}
use Rattle.std.proofs.lemmas.List.{map-append}
use Rattle.fir_base.specs.Lists.{In}
use Rattle.fir_base.proofs.Members.{in_flat_map_from, map_same}
use Rattle.fir_ast.specs.Statements.{PlacedName, Statement, wire, register, node, instance, memory, when, connect, partial_connect, invalid, skip, Block, done, then}
use Rattle.fir_ast.specs.Circuits.{PortTree, ModuleTree}
use Rattle.fir_meaning.specs.Components.{Component, Declaration, Declarations}
use Rattle.fir_meaning.specs.Components as component
use Rattle.fir_meaning.specs.Visibility.{Before, with_declaration, opened, reopened, behind, behind_block, behind_ports, at_head, declarations}
use Rattle.fir_names.specs.working.Numbered.{instance_number, instance_numbers, number_of}
use Rattle.fir_meaning.specs.Costs.{ModuleCosts, cost_of, cost_of_block, cost_of_module, sum_of}
use Rattle.fir_expand.specs.working.OwnCosts.{instances_in, instances_in_block, own_cost}
use Rattle.fir_expand.proofs.CostSums.{sum_joined}

abbrev nothing : ModuleCosts
nothing name = 0

module _ (modules : List ModuleTree) (costs : ModuleCosts) where
  joined : (xs ys : List (List ℕ)) → sum_of (map costs (xs ++ ys)) ≡ sum_of (map costs xs) + sum_of (map costs ys)
  joined xs ys = ap sum_of (map-append costs xs ys) ∙ sum_joined (map costs xs) (map costs ys)

  mutual
    statement_parts : (s : Statement) (before : Before) → cost_of modules costs before s ≡ cost_of modules nothing before s + sum_of (map costs (instances_in s))
    statement_parts (wire p n begins t) before = omega arith
    statement_parts (register p n begins t c r) before = omega arith
    statement_parts (node p n e) before = omega arith
    statement_parts (instance p n other) before = omega arith
    statement_parts (memory p n parts) before = omega arith
    statement_parts (when p c a b) before =
        let second = reopened before (behind_block (opened before) a) in
        omega (arith, block_parts a (opened before), block_parts b second, joined (instances_in_block a) (instances_in_block b))
    statement_parts (connect p sink e) before = omega arith
    statement_parts (partial_connect p sink e) before = omega arith
    statement_parts (invalid p sink) before = omega arith
    statement_parts (skip p) before = refl

    block_parts : (b : Block) (before : Before)
        → cost_of_block modules costs before b ≡ cost_of_block modules nothing before b + sum_of (map costs (instances_in_block b))
    block_parts done before = refl
    block_parts ((then) s b) before =
        omega (arith, statement_parts s before, block_parts b (behind before s), joined (instances_in s) (instances_in_block b))

  pub module_parts : (m : ModuleTree) → cost_of_module modules costs m ≡ own_cost modules m + sum_of (map costs (instances_in_block m.body))
  module_parts m = omega (arith, block_parts m.body (behind_ports at_head m.ports))

-- costs that agree on the modules of its instances give a module one cost
pub costs_agree : (modules : List ModuleTree) (costs others : ModuleCosts) (m : ModuleTree)
    → ((name : List ℕ) → In (instances_in_block m.body) name → costs name ≡ others name) → cost_of_module modules costs m ≡ cost_of_module modules others m
costs_agree modules costs others m same =
    module_parts modules costs m ∙ ap (λ l. own_cost modules m + sum_of l) (map_same costs others (instances_in_block m.body) same)
    ∙ sym (module_parts modules others m)

-- the module of an instance
abbrev instance_of : Component → List (List ℕ)
instance_of (component.instance name) = name ∷ []
instance_of _ = []

abbrev instances : Declarations → List (List ℕ)
instances = flat_map (λ d. instance_of d.component)

instances_joined : (ds es : Declarations) → instances (ds ++ es) ≡ instances ds ++ instances es
instances_joined [] es = refl
instances_joined (d ∷ ds) es = ap (λ l. instance_of d.component ++ l) (instances_joined ds es) ∙ sym (append_assoc (instance_of d.component) (instances ds) (instances es))

instances_last : (before : Before) (n : PlacedName) (k : Component) → instances (with_declaration before n k).declared ≡ instances before.declared ++ instance_of k
instances_last before n k =
    instances_joined before.declared (record { named = n; component = k; depth = before.depth } ∷ [])
    ∙ ap (λ l. instances before.declared ++ l) (append-nil (instance_of k))

mutual
  instances_behind : (s : Statement) (before : Before) → instances (behind before s).declared ≡ instances before.declared ++ instances_in s
  instances_behind (wire p n begins t) before = instances_last before n (component.wire t)
  instances_behind (register p n begins t c r) before = instances_last before n (component.register t)
  instances_behind (node p n e) before = instances_last before n (component.node e)
  instances_behind (instance p n other) before = instances_last before n (component.instance other.name)
  instances_behind (memory p n parts) before = instances_last before n (component.memory parts)
  instances_behind (when p c a b) before =
      let first = behind_block (opened before) a in
      instances_behind_block b (reopened before first) ∙ ap (λ l. l ++ instances_in_block b) (instances_behind_block a (opened before))
      ∙ append_assoc (instances before.declared) (instances_in_block a) (instances_in_block b)
  instances_behind (connect p sink e) before = sym (append-nil (instances before.declared))
  instances_behind (partial_connect p sink e) before = sym (append-nil (instances before.declared))
  instances_behind (invalid p sink) before = sym (append-nil (instances before.declared))
  instances_behind (skip p) before = sym (append-nil (instances before.declared))

  instances_behind_block : (b : Block) (before : Before) → instances (behind_block before b).declared ≡ instances before.declared ++ instances_in_block b
  instances_behind_block done before = sym (append-nil (instances before.declared))
  instances_behind_block ((then) s b) before =
      instances_behind_block b (behind before s) ∙ ap (λ l. l ++ instances_in_block b) (instances_behind s before)
      ∙ append_assoc (instances before.declared) (instances_in s) (instances_in_block b)

instances_behind_ports : (ps : List PortTree) (before : Before) → instances (behind_ports before ps).declared ≡ instances before.declared
instances_behind_ports [] before = refl
instances_behind_ports (p ∷ ps) before =
    let port = component.port p.direction p.data_type in
    instances_behind_ports ps (with_declaration before p.named port) ∙ instances_last before p.named port ∙ append-nil (instances before.declared)

instances_declared : (m : ModuleTree) → instances (declarations m) ≡ instances_in_block m.body
instances_declared m =
    instances_behind_block m.body (behind_ports at_head m.ports) ∙ ap (λ l. l ++ instances_in_block m.body) (instances_behind_ports m.ports at_head)

-- an instance in the text is declared
pub instance_declared : (m : ModuleTree) (name : List ℕ) → In (instances_in_block m.body) name
    → (d : Declaration) × In (declarations m) d × (d.component ≡ component.instance name)
instance_declared m name i =
    let r = in_flat_map_from (λ (d : Declaration). instance_of d.component) (declarations m) name (rw (instances_declared m) i) in
    (r.0, r.1, is r.0.component r.2)
  where
    is : (k : Component) → In (instance_of k) name → k ≡ component.instance name
    is (component.port d t) i = absurd i
    is (component.wire t) i = absurd i
    is (component.register t) i = absurd i
    is (component.node e) i = absurd i
    is (component.instance other) (inl e) = ap component.instance e
    is (component.instance other) (inr i) = absurd i
    is (component.memory parts) i = absurd i

-- and the instances by the numbers of their modules
number_each : (names : List PlacedName) (k : Component) → instance_number names k ≡ map (number_of names) (instance_of k)
number_each names (component.port d t) = refl
number_each names (component.wire t) = refl
number_each names (component.register t) = refl
number_each names (component.node e) = refl
number_each names (component.instance name) = refl
number_each names (component.memory parts) = refl

numbers_each : (names : List PlacedName) (ds : Declarations) → instance_numbers names ds ≡ map (number_of names) (instances ds)
numbers_each names [] = refl
numbers_each names (d ∷ ds) =
    ap (λ l. l ++ instance_numbers names ds) (number_each names d.component)
    ∙ ap (λ l. map (number_of names) (instance_of d.component) ++ l) (numbers_each names ds)
    ∙ sym (map-append (number_of names) (instance_of d.component) (instances ds))

pub numbers_declared : (names : List PlacedName) (m : ModuleTree) → instance_numbers names (declarations m) ≡ map (number_of names) (instances_in_block m.body)
numbers_declared names m = numbers_each names (declarations m) ∙ ap (map (number_of names)) (instances_declared m)
