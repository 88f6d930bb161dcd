-- The number of the first leaf of what is declared: the ports of a module begin behind those of the modules before it, and each declaration of a body behind all
-- ports and all that bodies declare before it.
use Rattle.std.proofs.Common.{◌≡◌, ℕ, zero, suc, ◌+◌, List, [], ◌∷◌, map, Bool, true, false, if◌then◌else◌, Option, Some, refl, ap, ◌∙◌, arith}
use Rattle.std.specs.Prelude.{slice_get, unwrap_or}
use Rattle.std.specs.Str.{bytes_eq}
use Rattle.std.proofs.lemmas.Option.{same_Some, none-some}
use Rattle.fir_ast.specs.Types.{DataType}
use Rattle.fir_ast.specs.Circuits.{ModuleTree, CircuitTree}
use Rattle.fir_meaning.specs.Components.{Component, Declaration, Declarations, port, wire, register, node, instance, memory}
use Rattle.fir_meaning.specs.Visibility.{declarations}
use Rattle.fir_meaning.specs.TypedScopes.{Known, TypedScope}
use Rattle.fir_meaning.specs.ComponentTypes.{component_type, typed_scope}
use Rattle.fir_meaning.specs.SharedLeaves.{shared_count}
use Rattle.fir_meaning.specs.SizedDeclarations.{port_numbers, all_port_numbers}
use Rattle.fir_types.specs.working.LeafNumbers.{NextLeaf, numbers_taken, ports_from, first_leaf, leaf_behind, first_leaves_of, leaves_behind, first_leaves_from}
use Rattle.fir_reset.specs.working.Inferred.{first_of_position}
use Rattle.fir_reset.specs.working.LeafClasses.{port_count}
use Rattle.fir_meaning.specs.ResetJoins.{numbered_module}
use Rattle.fir_reset.proofs.KnownDeclarations.{IsKnown, EachKnown, each_known}
use Rattle.fir_reset.proofs.PortsCounted.{port_counts, ports_counted}
use Rattle.fir_reset.proofs.Sums.{total, sum_before}

-- how many numbers of bodies a declaration takes
abbrev pub body_count : Component → Option DataType → ℕ
body_count (port d t) o = 0
body_count (instance name) o = 0
body_count c o = numbers_taken o

abbrev pub body_counts : Declarations → TypedScope → List ℕ
body_counts (d ∷ ds) (k ∷ ks) = body_count d.component k.data_type ∷ body_counts ds ks
body_counts ds ks = []

abbrev pub module_counts : List ModuleTree → ModuleTree → List ℕ
module_counts modules m = body_counts (declarations m) (typed_scope modules (declarations m))

abbrev pub body_total : List ModuleTree → ModuleTree → ℕ
body_total modules m = total (module_counts modules m)

-- so many numbers of ports and of bodies behind
abbrev pub further : NextLeaf → ℕ → ℕ → NextLeaf
further next ports bodies = record { port = next.port + ports; body = next.body + bodies }

same_next : (a b : NextLeaf) → a.port ≡ b.port → a.body ≡ b.body → a ≡ b
same_next a b h i = ap (λ n. record { port = n; body = a.body }) h ∙ ap (λ n. record { port = b.port; body = n }) i

further_none : (next : NextLeaf) → next ≡ further next 0 0
further_none next = same_next next (further next 0 0) (omega arith) (omega arith)

further_twice : (next : NextLeaf) (a b c d : ℕ) → further (further next a b) c d ≡ further next (a + c) (b + d)
further_twice next a b c d = same_next (further (further next a b) c d) (further next (a + c) (b + d)) (omega arith) (omega arith)

leaf_further : (modules : List ModuleTree) (next : NextLeaf) (d : Declaration) (k : Known) → IsKnown modules d k
    → leaf_behind next d.component k.data_type ≡ further next (port_count d.component) (body_count d.component k.data_type)
leaf_further modules next d k known = by d.component (ap (λ (x : Known). x.data_type) known.is)
  where
    by : (c : Component) → k.data_type ≡ component_type modules known.scope d.named.place c
        → leaf_behind next c k.data_type ≡ further next (port_count c) (body_count c k.data_type)
    by (port direction t) h =
        ap (λ o. record { port = next.port + numbers_taken o; body = next.body }) h
        ∙ same_next (record { port = next.port + shared_count t; body = next.body }) (further next (shared_count t) 0) refl (omega arith)
    by (instance name) h = further_none next
    by (wire t) h = same_next (leaf_behind next (wire t) k.data_type) (further next 0 (numbers_taken k.data_type)) (omega arith) refl
    by (register t) h = same_next (leaf_behind next (register t) k.data_type) (further next 0 (numbers_taken k.data_type)) (omega arith) refl
    by (node e) h = same_next (leaf_behind next (node e) k.data_type) (further next 0 (numbers_taken k.data_type)) (omega arith) refl
    by (memory parts) h = same_next (leaf_behind next (memory parts) k.data_type) (further next 0 (numbers_taken k.data_type)) (omega arith) refl

-- within a module
first_there : (modules : List ModuleTree) (next : NextLeaf) (ds : Declarations) (ks : TypedScope) (place : ℕ) (d : Declaration) → EachKnown modules ds ks
    → slice_get ds place ≡ Some d
    → slice_get (first_leaves_of modules next ds ks) place
    ≡ Some (first_leaf modules (further next (sum_before (port_counts ds) place) (sum_before (body_counts ds ks) place)) d.component)
first_there modules next [] ks place d each h = absurd (none-some d h)
first_there modules next (x ∷ ds) [] place d each h = absurd each
first_there modules next (x ∷ ds) (y ∷ ks) zero d each h =
    let same : x ≡ d = same_Some x d h in
    ap (λ (z : Declaration). Some (first_leaf modules next z.component)) same ∙ ap (λ n. Some (first_leaf modules n d.component)) (further_none next)
first_there modules next (x ∷ ds) (y ∷ ks) (suc place) d each h =
    let after = leaf_behind next x.component y.data_type in
    let ports = sum_before (port_counts ds) place in
    let bodies = sum_before (body_counts ds ks) place in
    let own = port_count x.component in
    let body = body_count x.component y.data_type in
    first_there modules after ds ks place d each.1 h
    ∙ ap (λ n. Some (first_leaf modules (further n ports bodies) d.component)) (leaf_further modules next x y each.0)
    ∙ ap (λ n. Some (first_leaf modules n d.component)) (further_twice next own body ports bodies)

all_further : (modules : List ModuleTree) (next : NextLeaf) (ds : Declarations) (ks : TypedScope) → EachKnown modules ds ks
    → leaves_behind next ds ks ≡ further next (total (port_counts ds)) (total (body_counts ds ks))
all_further modules next [] [] each = further_none next
all_further modules next [] (y ∷ ks) each = absurd each
all_further modules next (x ∷ ds) [] each = absurd each
all_further modules next (x ∷ ds) (y ∷ ks) each =
    let after = leaf_behind next x.component y.data_type in
    let ports = total (port_counts ds) in
    let bodies = total (body_counts ds ks) in
    all_further modules after ds ks each.1
    ∙ ap (λ n. further n ports bodies) (leaf_further modules next x y each.0)
    ∙ further_twice next (port_count x.component) (body_count x.component y.data_type) ports bodies

-- over the modules
module_further : (modules : List ModuleTree) (next : NextLeaf) (m : ModuleTree)
    → leaves_behind next (declarations m) (typed_scope modules (declarations m)) ≡ further next (port_numbers m) (body_total modules m)
module_further modules next m =
    all_further modules next (declarations m) (typed_scope modules (declarations m)) (each_known modules (declarations m))
    ∙ ap (λ n. further next n (body_total modules m)) (ports_counted m)

module_firsts : (modules : List ModuleTree) (next : NextLeaf) (ms : List ModuleTree) (at : ℕ) (m : ModuleTree) → slice_get ms at ≡ Some m
    → slice_get (first_leaves_from modules next ms) at
    ≡ Some
    (first_leaves_of modules (further next (sum_before (map port_numbers ms) at) (sum_before (map (body_total modules) ms) at)) (declarations m)
    (typed_scope modules (declarations m)))
module_firsts modules next [] at m h = absurd (none-some m h)
module_firsts modules next (x ∷ ms) zero m h =
    let same : x ≡ m = same_Some x m h in
    ap (λ z. Some (first_leaves_of modules next (declarations z) (typed_scope modules (declarations z)))) same
    ∙ ap (λ n. Some (first_leaves_of modules n (declarations m) (typed_scope modules (declarations m)))) (further_none next)
module_firsts modules next (x ∷ ms) (suc at) m h =
    let after = leaves_behind next (declarations x) (typed_scope modules (declarations x)) in
    let ports = sum_before (map port_numbers ms) at in
    let bodies = sum_before (map (body_total modules) ms) at in
    module_firsts modules after ms at m h
    ∙ ap (λ n. Some (first_leaves_of modules (further n ports bodies) (declarations m) (typed_scope modules (declarations m)))) (module_further modules next x)
    ∙ ap (λ n. Some (first_leaves_of modules n (declarations m) (typed_scope modules (declarations m))))
    (further_twice next (port_numbers x) (body_total modules x) ports bodies)

-- the next numbers at a declaration
abbrev pub next_at : List ModuleTree → ℕ → ModuleTree → ℕ → NextLeaf
next_at modules at m place = record {
  port = sum_before (map port_numbers modules) at + sum_before (port_counts (declarations m)) place;
  body =
      all_port_numbers modules + sum_before (map (body_total modules) modules) at + sum_before (module_counts modules m) place;
}

pub first_at : (c : CircuitTree) (at : ℕ) (m : ModuleTree) (place : ℕ) (d : Declaration) → slice_get c.modules at ≡ Some m
    → slice_get (declarations m) place ≡ Some d → first_of_position c at place ≡ Some (first_leaf c.modules (next_at c.modules at m place) d.component)
first_at c at m place d h i =
    let start : NextLeaf = record { port = 0; body = all_port_numbers c.modules } in
    let ports = sum_before (map port_numbers c.modules) at in
    let bodies = sum_before (map (body_total c.modules) c.modules) at in
    let own = sum_before (port_counts (declarations m)) place in
    let body = sum_before (module_counts c.modules m) place in
    let same : further (further start ports bodies) own body ≡ next_at c.modules at m place =
    same_next (further (further start ports bodies) own body) (next_at c.modules at m place) (omega arith) refl in
    ap (λ o. slice_get (unwrap_or o []) place) (module_firsts c.modules start c.modules at m h)
    ∙ first_there c.modules (further start ports bodies) (declarations m) (typed_scope c.modules (declarations m)) place d
    (each_known c.modules (declarations m)) i
    ∙ ap (λ n. Some (first_leaf c.modules n d.component)) same

-- an instance has the numbers of its module's ports
record PortsBehind (k from : ℕ) (ms : List ModuleTree) (name : List ℕ) (number : ℕ) : Type 0 where
  behind : ℕ
  is_number : from + behind ≡ number
  first : ports_from k ms name ≡ k + sum_before (map port_numbers ms) behind

ports_behind : (k from : ℕ) (ms : List ModuleTree) (name : List ℕ) (child : ℕ × ModuleTree) → numbered_module from ms name ≡ Some child
    → PortsBehind k from ms name child.0
ports_behind k from [] name child h = absurd (none-some child h)
ports_behind k from (m ∷ ms) name child h = by (bytes_eq m.named.name name) refl h (ports_behind (k + port_numbers m) (suc from) ms name child)
  where
    by : (b : Bool) → bytes_eq m.named.name name ≡ b → (if b then Some (from, m) else numbered_module (suc from) ms name) ≡ Some child
        → (numbered_module (suc from) ms name ≡ Some child → PortsBehind (k + port_numbers m) (suc from) ms name child.0) → PortsBehind k from (m ∷ ms) name child.0
    by true t e rest =
        let same : (from, m) ≡ child = same_Some (from, m) child e in
        let number : from ≡ child.0 = ap (λ (x : ℕ × ModuleTree). x.0) same in
        let none : k ≡ k + 0 = omega arith in
        record { behind = 0; is_number = omega (arith, number); first = rw t none }
    by false t e rest =
        let r = rest e in
        let sum : k + port_numbers m + sum_before (map port_numbers ms) r.behind ≡ k + (port_numbers m + sum_before (map port_numbers ms) r.behind) = omega arith in
        record { behind = suc r.behind; is_number = omega (arith, r.is_number); first = rw t (r.first ∙ sum) }

pub instance_first : (modules : List ModuleTree) (name : List ℕ) (child : ℕ × ModuleTree) → numbered_module 0 modules name ≡ Some child
    → ports_from 0 modules name ≡ sum_before (map port_numbers modules) child.0
instance_first modules name child h =
    let r = ports_behind 0 0 modules name child h in
    let number : r.behind ≡ child.0 = omega (arith, r.is_number) in
    let none : 0 + sum_before (map port_numbers modules) r.behind ≡ sum_before (map port_numbers modules) r.behind = omega arith in
    r.first ∙ none ∙ ap (sum_before (map port_numbers modules)) number
