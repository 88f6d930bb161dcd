-- The bundle of a module's ports in the making, and the bundles of modules in a table that grows.
use Rattle.std.proofs.Common.{◌≡◌, ℕ, ◌+◌, ◌<◌, ◌≤◌, List, [], ◌∷◌, ◌++◌, map, length, slice_get, Some, refl, sym, ap, ◌∙◌, take, get_or, arith}
use Rattle.std.specs.List.{All}
use Rattle.std.proofs.lemmas.List.{length-append, map-append, map_more, take_all}
use Rattle.std.proofs.lemmas.List.Elements.{All-head, All-push, All-tail, All-weaker}
use Rattle.std.proofs.lemmas.Option.{slice_get_within}
use Rattle.fir_base.proofs.Elements.{get_left}
use Rattle.fir_ast.specs.declared.circuit.Module.{Module}
use Rattle.fir_ast.specs.declared.circuit.Port.{Port}
use Rattle.fir_ast.specs.Types.{DataType, Fields, bundle, field}
use Rattle.fir_ast.specs.Circuits.{ModuleTree, PortTree}
use Rattle.fir_ast.specs.View.{fields_of}
use Rattle.fir_ast.specs.working.TypeViews.{type_of}
use Rattle.fir_ast.specs.working.Views.{module_of, port_of}
use Rattle.fir_meaning.specs.ComponentTypes.{instance_bundle, is_input, port_fields}
use Rattle.fir_type_table.specs.declared.entry.Entry.{Entry}
use Rattle.fir_type_table.specs.declared.entry.Part.{Part}
use Rattle.fir_type_table.specs.declared.kind.TypeId.{TypeId}
use Rattle.fir_type_table.specs.working.Tables.{Adds, part_of, type_at, types_of}
use Rattle.fir_check.specs.working.MemoryParts.{AreParts}
use Rattle.fir_types.specs.working.Walked.{HoldsBundles}
use Rattle.fir_types.proofs.GrownScopes.{append_none, bundles_grown}
use Rattle.fir_check.proofs.HeldTypes.{grown_twice, type_held}
use Rattle.fir_check.proofs.MemoryPorts.{no_parts}

-- what a port puts before the fields behind it
abbrev pub port_part : PortTree → Fields → Fields
port_part p rest = field p.named.place (is_input p.direction) p.named.name p.type_place p.data_type rest

fields_are : (ps : List PortTree) → fields_of (map port_part ps) ≡ port_fields ps
fields_are [] = refl
fields_are (p ∷ ps) = ap (port_part p) (fields_are ps)

-- parts stay the same fields where the table grows
type_left : (ts more : List DataType) (k : ℕ) → k < length ts → type_at (ts ++ more) k ≡ type_at ts k
type_left ts more k within = rw (get_left ts more k within) refl

same_parts : (ts more : List DataType) (parts : List Part) → All (λ q. q.ty.number < length ts) parts → map (part_of (ts ++ more)) parts ≡ map (part_of ts) parts
same_parts ts more [] h = refl
same_parts ts more (q ∷ parts) h =
    let P : Part → Type 0 = λ q. q.ty.number < length ts in
    ap (λ t. (λ rest. field q.place q.flip q.name q.type_place t rest) ∷ map (part_of (ts ++ more)) parts) (type_left ts more q.ty.number (All-head P q parts h))
    ∙ ap (λ fs. part_of ts q ∷ fs) (same_parts ts more parts (All-tail P q parts h))

parts_grown : (ts more : List DataType) (fs : List (Fields → Fields)) (parts : List Part) → AreParts ts fs parts → AreParts (ts ++ more) fs parts
parts_grown ts more fs parts h = record {
  are = same_parts ts more parts h.held ∙ h.are;
  held =
      All-weaker (λ q. q.ty.number < length ts) (λ q. q.ty.number < length (ts ++ more))
      (λ q within. let both = length-append ts more in omega (arith, both, within)) parts h.held;
}

-- the parts of the ports so far
pub record PortsMade (old new : List Entry) (ports : List Port) (i : ℕ) (parts : List Part) : Type 0 where
  pub more : List DataType
  pub grown : types_of new ≡ types_of old ++ more
  pub are : AreParts (types_of new) (map port_part (map port_of (take i ports))) parts

pub made_none : (old : List Entry) (ports : List Port) (parts : List Part) → parts ≡ [] → PortsMade old old ports 0 parts
made_none old ports parts none = record { more = []; grown = append_none (types_of old); are = no_parts (types_of old) parts none }

pub made_more : (old next new : List Entry) (ports : List Port) (i : ℕ) (p : Port) (before after : List Part) (q : Part)
    → i < length ports → p ≡ get_or ports i p → PortsMade old next ports i before → Adds next new q.ty.number (type_of p.ty)
    → q.place ≡ p.ident.place → q.flip ≡ is_input p.direction → q.name ≡ p.ident.name → q.type_place ≡ p.type_place
    → after ≡ before ++ q ∷ [] → PortsMade old new ports (i + 1) after
made_more old next new ports i p before after q within at made adds place flip name type_place pushed =
    let ts = types_of new in
    let front = map port_part (map port_of (take i ports)) in
    let held : AreParts ts front before = rw adds.grown (parts_grown (types_of next) adds.more front before made.are) in
    let own : part_of ts q ≡ port_part (port_of p) =
    ap (λ (t : DataType). (λ (rest : Fields). field q.place q.flip q.name q.type_place t rest)) (type_held ts q.ty.number (type_of p.ty) adds.held)
    ∙ ap (λ x. (λ (rest : Fields). field x q.flip q.name q.type_place (type_of p.ty) rest)) place
    ∙ ap (λ x. (λ (rest : Fields). field p.ident.place x q.name q.type_place (type_of p.ty) rest)) flip
    ∙ ap (λ x. (λ (rest : Fields). field p.ident.place (is_input p.direction) x q.type_place (type_of p.ty) rest)) name
    ∙ ap (λ x. (λ (rest : Fields). field p.ident.place (is_input p.direction) p.ident.name x (type_of p.ty) rest)) type_place in
    let longer : map port_part (map port_of (take (i + 1) ports)) ≡ front ++ port_part (port_of p) ∷ [] =
    ap (map port_part) (map_more port_of ports i p within) ∙ map-append port_part (map port_of (take i ports)) (port_of (get_or ports i p) ∷ [])
    ∙ ap (λ x. front ++ port_part (port_of x) ∷ []) (sym at) in
    record {
      more = made.more ++ adds.more;
      grown = grown_twice old next new made.more adds.more made.grown adds.grown;
      are = rw (pushed, longer) record {
        are = map-append (part_of ts) before (q ∷ []) ∙ ap (λ fs. fs ++ part_of ts q ∷ []) held.are ∙ ap (λ f. front ++ f ∷ []) own;
        held = All-push (λ q. q.ty.number < length ts) before q held.held (slice_get_within ts q.ty.number (type_of p.ty) adds.held);
      };
    }

pub made_all : (old next new : List Entry) (ports : List Port) (i id : ℕ) (parts : List Part) → length ports ≤ i → PortsMade old next ports i parts
    → Adds next new id (bundle (fields_of (map (part_of (types_of next)) parts))) → Adds old new id (bundle (port_fields (map port_of ports)))
made_all old next new ports i id parts past made adds =
    let is : fields_of (map (part_of (types_of next)) parts) ≡ port_fields (map port_of ports) =
    ap fields_of made.are.are ∙ fields_are (map port_of (take i ports)) ∙ ap (λ ps. port_fields (map port_of ps)) (take_all i ports past) in
    record {
      more = made.more ++ adds.more;
      grown = grown_twice old next new made.more adds.more made.grown adds.grown;
      held = adds.held ∙ ap (λ fs. Some (bundle fs)) is;
    }

-- one more module's bundle
bundles_more : (ts : List DataType) (ids : List TypeId) (ms : List ModuleTree) (id : TypeId) (m : ModuleTree) → HoldsBundles ts ids ms
    → slice_get ts id.number ≡ Some (instance_bundle m) → HoldsBundles ts (ids ++ id ∷ []) (ms ++ m ∷ [])
bundles_more ts [] [] id m h at = (at, tt)
bundles_more ts (x ∷ ids) (y ∷ ms) id m h at = (h.0, bundles_more ts ids ms id m h.1 at)
bundles_more ts [] (y ∷ ms) id m h at = absurd h
bundles_more ts (x ∷ ids) [] id m h at = absurd h

pub bundles_pushed : (old new : List Entry) (modules : List Module) (i : ℕ) (m : Module) (ports : List Port) (before after : List TypeId) (id : TypeId)
    → i < length modules → m ≡ get_or modules i m → ports ≡ m.ports.items → HoldsBundles (types_of old) before (map module_of (take i modules))
    → Adds old new id.number (bundle (port_fields (map port_of ports))) → after ≡ before ++ id ∷ []
    → HoldsBundles (types_of new) after (map module_of (take (i + 1) modules))
bundles_pushed old new modules i m ports before after id within at same h adds pushed =
    let longer : map module_of (take (i + 1) modules) ≡ map module_of (take i modules) ++ module_of m ∷ [] =
    map_more module_of modules i m within ∙ ap (λ x. map module_of (take i modules) ++ module_of x ∷ []) (sym at) in
    let grown : HoldsBundles (types_of new) before (map module_of (take i modules)) = rw adds.grown (bundles_grown (types_of old) adds.more before (map module_of (take i modules)) h) in
    rw (pushed, longer)
    (bundles_more (types_of new) before (map module_of (take i modules)) id (module_of m) grown (adds.held ∙ ap (λ ps. Some (bundle (port_fields (map port_of ps)))) same))
