-- What is known of a module has the names of what it declares, in the order of the text.
use Rattle.std.proofs.Common.{◌≡◌, ℕ, List, [], ◌∷◌, ◌++◌, map, Some, sym, ap, ◌∙◌, append_assoc}
use Rattle.std.specs.Prelude.{slice_get}
use Rattle.std.proofs.lemmas.List.{append-nil, map-append}
use Rattle.fir_ast.specs.Statements.{PlacedName, Statement, wire, register, node, instance, memory, when, connect, partial_connect, invalid, skip, Block, done, then}
use Rattle.fir_ast.specs.Circuits.{PortTree, ModuleTree}
use Rattle.fir_meaning.specs.TypedScopes.{Known, TypedScope}
use Rattle.fir_meaning.specs.Components.{Component, Declaration, Declarations}
use Rattle.fir_meaning.specs.Components as component
use Rattle.fir_meaning.specs.Visibility.{Before, declaration_at, with_declaration, opened, reopened, behind, behind_block, behind_ports, at_head, declarations}
use Rattle.fir_meaning.specs.ComponentTypes.{known_as, typed_behind, typed_scope}
use Rattle.fir_leaf.proofs.LeafPlaces.{get_mapped}
use Rattle.fir_leaf_text.specs.working.DeclaredNames.{names_in, names_in_block, names_in_module}
use Rattle.fir_leaf_text.proofs.ModuleNames.{port_name}

abbrev names_of : Declarations → List (List ℕ)
names_of ds = map (λ (d : Declaration). d.named.name) ds

abbrev names_known : TypedScope → List (List ℕ)
names_known ks = map (λ (k : Known). k.name) ks

-- declarations one by one
one_more : (before : Before) (n : PlacedName) (c : Component) → names_of (with_declaration before n c).declared ≡ names_of before.declared ++ n.name ∷ []
one_more before n c = map-append (λ (d : Declaration). d.named.name) before.declared (declaration_at before n c ∷ [])

-- names behind others, part by part
joined_names : (front one two all : List (List ℕ)) (mid : List (List ℕ)) → mid ≡ front ++ one → all ≡ mid ++ two → all ≡ front ++ (one ++ two)
joined_names front one two all mid h k = k ∙ ap (λ names. names ++ two) h ∙ append_assoc front one two

mutual
  statement_named : (x : Statement) (before : Before) → names_of (behind before x).declared ≡ names_of before.declared ++ names_in x
  statement_named (wire p n begins t) before = one_more before n (component.wire t)
  statement_named (register p n begins t c r) before = one_more before n (component.register t)
  statement_named (node p n e) before = one_more before n (component.node e)
  statement_named (instance p n m) before = one_more before n (component.instance m.name)
  statement_named (memory p n parts) before = one_more before n (component.memory parts)
  statement_named (when p c a b) before =
      let inside = behind_block (opened before) a in
      joined_names (names_of before.declared) (names_in_block a) (names_in_block b) (names_of (behind_block (reopened before inside) b).declared)
      (names_of inside.declared) (block_named a (opened before)) (block_named b (reopened before inside))
  statement_named (connect p d e) before = sym (append-nil (names_of before.declared))
  statement_named (partial_connect p d e) before = sym (append-nil (names_of before.declared))
  statement_named (invalid p d) before = sym (append-nil (names_of before.declared))
  statement_named (skip p) before = sym (append-nil (names_of before.declared))

  block_named : (b : Block) (before : Before) → names_of (behind_block before b).declared ≡ names_of before.declared ++ names_in_block b
  block_named done before = sym (append-nil (names_of before.declared))
  block_named ((then) x b) before =
      joined_names (names_of before.declared) (names_in x) (names_in_block b) (names_of (behind_block (behind before x) b).declared)
      (names_of (behind before x).declared) (statement_named x before) (block_named b (behind before x))

ports_named : (ps : List PortTree) (before : Before) → names_of (behind_ports before ps).declared ≡ names_of before.declared ++ map port_name ps
ports_named [] before = sym (append-nil (names_of before.declared))
ports_named (p ∷ ps) before =
    let c = component.port p.direction p.data_type in
    let next = with_declaration before p.named c in
    joined_names (names_of before.declared) (p.named.name ∷ []) (map port_name ps) (names_of (behind_ports next ps).declared) (names_of next.declared)
    (one_more before p.named c) (ports_named ps next)

declarations_named : (m : ModuleTree) → names_of (declarations m) ≡ names_in_module m
declarations_named m =
    let head = behind_ports at_head m.ports in
    block_named m.body head ∙ ap (λ names. names ++ names_in_block m.body) (ports_named m.ports at_head)

known_named : (modules : List ModuleTree) (scope : TypedScope) (ds : Declarations)
    → names_known (typed_behind modules scope ds) ≡ names_known scope ++ names_of ds
known_named modules scope [] = sym (append-nil (names_known scope))
known_named modules scope (d ∷ ds) =
    let k = known_as modules scope d in
    joined_names (names_known scope) (k.name ∷ []) (names_of ds) (names_known (typed_behind modules (scope ++ k ∷ []) ds)) (names_known (scope ++ k ∷ []))
    (map-append (λ (x : Known). x.name) scope (k ∷ [])) (known_named modules (scope ++ k ∷ []) ds)

pub names_are : (modules : List ModuleTree) (m : ModuleTree) → map (λ (k : Known). k.name) (typed_scope modules (declarations m)) ≡ names_in_module m
names_are modules m = known_named modules [] (declarations m) ∙ declarations_named m

-- by its number
pub name_of_known : (modules : List ModuleTree) (m : ModuleTree) (position : ℕ) (k : Known) → slice_get (typed_scope modules (declarations m)) position ≡ Some k
    → slice_get (names_in_module m) position ≡ Some k.name
name_of_known modules m position k there =
    let ks = typed_scope modules (declarations m) in
    ap (λ names. slice_get names position) (sym (names_are modules m))
    ∙ get_mapped (λ (x : Known). x.name) ks position k there
