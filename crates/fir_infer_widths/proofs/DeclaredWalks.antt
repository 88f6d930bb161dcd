-- The walks over what is declared push the leaves of all declarations in the order of their numbers.
use Rattle.std.proofs.Common.{◌≡◌, ℕ, zero, suc, ◌+◌, ◌<◌, ◌≤◌, List, [], ◌∷◌, ◌++◌, length, map, flat_map, Option, Some, None, Vec, Global, refl, sym, ap, ◌∙◌, subst, append_assoc, append-nil, drop, get_or, arith}
use Rattle.std.specs.Prelude.{option_map, slice_get}
use Rattle.std.proofs.lemmas.List.{length-append, drop_all, drop_more}
use Rattle.std.proofs.lemmas.Option.{get_or_from_slice_get, none-some, same_Some, slice_get-map, slice_get_read, slice_get_within}
use Rattle.fir_base.proofs.Elements.{beside, get_in}
use Rattle.fir_ast.specs.Types.{DataType}
use Rattle.fir_ast.specs.Statements.{PlacedName}
use Rattle.fir_ast.specs.Circuits.{ModuleTree, CircuitTree}
use Rattle.fir_meaning.specs.Components.{Component, Declaration, Declarations, port, wire, register, node, instance, memory}
use Rattle.fir_meaning.specs.MemoryTypes.{memory_type}
use Rattle.fir_meaning.specs.Mentions.{module_names}
use Rattle.fir_meaning.specs.working.NameGroups.{HasNames}
use Rattle.fir_meaning.specs.TypeGroup.{type_faults}
use Rattle.fir_meaning.specs.TypedScopes.{TypedScope}
use Rattle.fir_meaning.specs.ComponentTypes.{component_type, instance_bundle, known_as, typed_scope}
use Rattle.fir_meaning.specs.Visibility.{declarations}
use Rattle.fir_meaning.specs.WidthExpressions.{Width}
use Rattle.fir_meaning.specs.SizedTypes.{numbered}
use Rattle.fir_meaning.specs.SizedMemories.{as_written}
use Rattle.fir_meaning.specs.SizedDeclarations.{Numbering, behind_module, first_numbers, modules_from, numbered_with, port_numbers}
use Rattle.fir_names.specs.declared.declaration.Component.{Component as ComponentOfCode}
use Rattle.fir_names.specs.declared.declaration.Declaration.{Declaration as Entry}
use Rattle.fir_names.specs.declared.names.Names.{Names}
use Rattle.fir_names.specs.working.Numbered.{component_of}
use Rattle.fir_names.specs.working.Tabulated.{Tabulates, entries_from, entry_at, entry_of}
use Rattle.fir_types.specs.declared.found.Found.{Found}
use Rattle.fir_types.specs.working.FirstLeaves.{component_at}
use Rattle.fir_types.specs.working.Seen.{seen}
use Rattle.fir_types.specs.working.TypedModules.{declared_types, found_types}
use Rattle.fir_types.proofs.InstanceWalks.{length_of_map}
use Rattle.fir_infer_widths.specs.declared.arena.Arena.{Arena}
use Rattle.fir_infer_widths.specs.declared.declared.Stage.TheVariants as stage
use Rattle.fir_width.specs.working.FlatWidths.{flat}
use Rattle.fir_width.specs.working.DeclaredWidths.{body_widths, leaf_widths, module_widths, own_widths, port_widths}
use Rattle.fir_infer_widths.specs.working.Numbered.{Keeps}
use Rattle.fir_infer_widths.specs.working.PushedLeaves.{Pushes, stage_widths, walked_widths}
use Rattle.fir_width.proofs.BodyNumbers.{next_behind, next_number, ports_before}
use Rattle.fir_width.proofs.DeclaredScopes.{IsTypedNode, Met, NodesTyped, expression_inferred, known_behind, met_more, met_none, nodes_typed, scope_known}
use Rattle.fir_width.proofs.PortsFirst.{declared_ports, own_ports, ports_are}
use Rattle.fir_width.proofs.FlatShapes.{flat_long}

-- the code has the components of declarations behind so many
record Reads (at : ℕ → Option ComponentOfCode) (ns : List PlacedName) (p : ℕ) (ds : Declarations) : Type 0 where
  each : (j : ℕ) (d : Declaration) → slice_get ds j ≡ Some d → at (p + j) ≡ Some (component_of ns d.component)

entry_behind : (ns : List PlacedName) (ds : Declarations) (i j : ℕ) (d : Declaration) → slice_get ds j ≡ Some d
    → slice_get (entries_from ns i ds) j ≡ Some (entry_of ns (i + j) d)
entry_behind ns [] i j d e = absurd (none-some d e)
entry_behind ns (x ∷ ds) i zero d e = ap (λ y. Some (entry_of ns i y)) (same_Some x d e) ∙ ap (λ k. Some (entry_of ns k d)) (let z : i ≡ i + 0 = omega arith in z)
entry_behind ns (x ∷ ds) i (suc j) d e = entry_behind ns ds (suc i) j d e ∙ ap (λ k. Some (entry_of ns k d)) (let z : suc i + j ≡ i + suc j = omega arith in z)

reads_module : (ns : List PlacedName) (names : Names) (ds : Declarations) → Tabulates ns names ds → Reads (component_at names) ns 0 ds
reads_module ns names ds tabulates = record {
  each = λ j d e.
      let found : entry_at names j ≡ Some (entry_of ns (0 + j) d) = ap (λ es. slice_get es j) tabulates.in_order ∙ entry_behind ns ds 0 j d e in
      ap (component_at names) (let z : 0 + j ≡ j = omega arith in z) ∙ ap (λ (o : Option Entry). option_map (λ e. e.component) o) found;
}

reads_here : (at : ℕ → Option ComponentOfCode) (ns : List PlacedName) (p : ℕ) (d : Declaration) (ds : Declarations) → Reads at ns p (d ∷ ds)
    → at p ≡ Some (component_of ns d.component)
reads_here at ns p d ds reads = ap at (let z : p ≡ p + 0 = omega arith in z) ∙ reads.each 0 d refl

reads_later : (at : ℕ → Option ComponentOfCode) (ns : List PlacedName) (p : ℕ) (d : Declaration) (ds : Declarations) → Reads at ns p (d ∷ ds)
    → Reads at ns (p + 1) ds
reads_later at ns p d ds reads =
    record { each = λ j e is. ap at (let z : p + 1 + j ≡ p + suc j = omega arith in z) ∙ reads.each (suc j) e is }

-- the types that are known
abbrev types_in : TypedScope → List (Option DataType)
types_in = map (λ k. k.data_type)

module _ (modules : List ModuleTree) (ns : List PlacedName) (at : ℕ → Option ComponentOfCode) where
  port_own : (ks : TypedScope) (d : Declaration) (c : Component) (k : ℕ)
      → stage_widths stage.Ports (Some (component_of ns c)) (component_type modules ks d.named.place c) k ≡ own_ports c k
  port_own ks d (port direction t) k = refl
  port_own ks d (wire t) k = refl
  port_own ks d (register t) k = refl
  port_own ks d (node e) k = refl
  port_own ks d (instance name) k = refl
  port_own ks d (memory parts) k = refl

  ports_walked : (ds : Declarations) (ks : TypedScope) (p k : ℕ) → Reads at ns p ds
      → walked_widths stage.Ports at p (types_in (known_behind modules ks ds)) k ≡ declared_ports k ds
  ports_walked [] ks p k reads = refl
  ports_walked (d ∷ ds) ks p k reads =
      let t = component_type modules ks d.named.place d.component in
      let later = ks ++ known_as modules ks d ∷ [] in
      let own : stage_widths stage.Ports (at p) t k ≡ own_ports d.component k =
      ap (λ c. stage_widths stage.Ports c t k) (reads_here at ns p d ds reads) ∙ port_own ks d d.component k in
      ap (λ ws. ws ++ walked_widths stage.Ports at (p + 1) (types_in (known_behind modules later ds)) (k + length ws)) own
      ∙ ap (λ ws. own_ports d.component k ++ ws) (ports_walked ds later (p + 1) (k + length (own_ports d.component k)) (reads_later at ns p d ds reads))

  memory_own : (o : Option DataType) (k : ℕ) → stage_widths stage.Bodies (Some (component_of ns (memory []))) o k ≡ flat (as_written o)
  memory_own None k = refl
  memory_own (Some t) k = refl

  module _ (start : Numbering) (empty : start.scope ≡ []) where
    body_own : (ks : TypedScope) (numbers : Numbering) (d : Declaration) (c : Component) → Met modules start ks numbers → IsTypedNode ks c
        → stage_widths stage.Bodies (Some (component_of ns c)) (component_type modules ks d.named.place c) numbers.next ≡ own_widths modules numbers d c
    body_own ks numbers d (port direction t) met typed = refl
    body_own ks numbers d (wire t) met typed = refl
    body_own ks numbers d (register t) met typed = refl
    body_own ks numbers d (node e) met typed =
        ap (λ o. stage_widths stage.Bodies (Some (component_of ns (node e))) o numbers.next) typed.1
        ∙ ap flat (sym (expression_inferred modules start empty ks numbers e typed.0 met typed.1 numbers.next))
    body_own ks numbers d (instance name) met typed = refl
    body_own ks numbers d (memory parts) met typed = memory_own (memory_type d.named.place parts) numbers.next

    bodies_walked : (ds : Declarations) (ks : TypedScope) (numbers : Numbering) (p k : ℕ) → Met modules start ks numbers → NodesTyped modules ks ds
        → Reads at ns p ds → numbers.next ≡ k
        → walked_widths stage.Bodies at p (types_in (known_behind modules ks ds)) k ≡ body_widths modules numbers ds
    bodies_walked [] ks numbers p k met typed reads next = refl
    bodies_walked (d ∷ ds) ks numbers p k met typed reads next =
        let t = component_type modules ks d.named.place d.component in
        let later = ks ++ known_as modules ks d ∷ [] in
        let meant = own_widths modules numbers d d.component in
        let own : stage_widths stage.Bodies (at p) t k ≡ meant =
        ap (λ c. stage_widths stage.Bodies c t k) (reads_here at ns p d ds reads)
        ∙ ap (stage_widths stage.Bodies (Some (component_of ns d.component)) t) (sym next) ∙ body_own ks numbers d d.component met typed.0 in
        ap (λ ws. ws ++ walked_widths stage.Bodies at (p + 1) (types_in (known_behind modules later ds)) (k + length ws)) own
        ∙ ap (λ ws. meant ++ ws) (bodies_walked ds later (numbered_with modules numbers d) (p + 1) (k + length meant)
        (met_more modules start ks numbers d met) typed.1 (reads_later at ns p d ds reads) (next_number modules numbers d ∙ ap (λ n. n + length meant) next))

left_is : (ms : List ModuleTree) (i : ℕ) (m : ModuleTree) → slice_get ms i ≡ Some m → drop i ms ≡ m ∷ drop (i + 1) ms
left_is ms i m e = drop_more ms i m (slice_get_within ms i m e) ∙ ap (λ y. y ∷ drop (i + 1) ms) (get_or_from_slice_get ms i m m e)

-- so far in the ports of all modules
pub record PortsSoFar (c : CircuitTree) (i : ℕ) (arena : Arena) : Type 0 where
  pub done : List Width
  pub keeps : Keeps done [] arena
  pub same : port_widths 0 c.modules ≡ done ++ port_widths (length done) (drop i c.modules)

-- and in their bodies
pub record BodiesSoFar (c : CircuitTree) (i : ℕ) (arena : Arena) : Type 0 where
  pub numbers : Numbering
  pub empty : numbers.scope ≡ []
  pub done : List Width
  pub keeps : Keeps done [] arena
  pub next : numbers.next ≡ length done
  pub same : leaf_widths c ≡ done ++ flat_map module_widths (modules_from c.modules numbers (drop i c.modules))

module _ (c : CircuitTree) (ts : List DataType) (declared : List (Vec (Option Found) Global)) (types : found_types ts declared ≡ declared_types c) where
  pub module_beside : (i : ℕ) (v : Vec (Option Found) Global) → i < length declared → v ≡ get_or declared i v
      → (m : ModuleTree) × (slice_get c.modules i ≡ Some m) × (map (λ k. k.data_type) (typed_scope c.modules (declarations m)) ≡ map (seen ts) v.items)
  module_beside i v within at =
      beside (λ m. map (λ k. k.data_type) (typed_scope c.modules (declarations m))) (λ v. map (seen ts) v.items) c.modules declared (sym types) i v
      (slice_get_read declared (length declared) i v refl within at)

  types_known : (m : ModuleTree) (found : List (Option Found)) → map (λ k. k.data_type) (typed_scope c.modules (declarations m)) ≡ map (seen ts) found
      → map (seen ts) found ≡ types_in (known_behind c.modules [] (declarations m))
  types_known m found same = sym same ∙ ap types_in (scope_known c.modules (declarations m))

  none_left : (i : ℕ) → length declared ≤ i → drop i c.modules ≡ []
  none_left i past =
      let long : length declared ≡ length c.modules =
      sym (length_of_map (λ v. map (seen ts) v.items) declared) ∙ ap length types ∙ length_of_map (λ m. types_in (typed_scope c.modules (declarations m))) c.modules in
      drop_all i c.modules (subst (λ n. n ≤ i) long past)

  pub ports_begin : (arena : Arena) → Keeps [] [] arena → PortsSoFar c 0 arena
  ports_begin arena keeps = record { done = []; keeps = keeps; same = refl }

  pub ports_next : (names : Names) (i : ℕ) (v : Vec (Option Found) Global) (old new : Arena) → i < length declared → v ≡ get_or declared i v
      → ((m : ModuleTree) → slice_get c.modules i ≡ Some m → Tabulates (module_names c) names (declarations m)) → PortsSoFar c i old
      → Pushes (walked_widths stage.Ports (component_at names) 0 (map (seen ts) v.items)) old new → PortsSoFar c (i + 1) new
  ports_next names i v old new within at tabulates so_far pushes =
      let there = module_beside i v within at in
      let m = there.0 in
      let k = length so_far.done in
      let own = flat (numbered (Some k) (instance_bundle m)) in
      let reads = reads_module (module_names c) names (declarations m) (tabulates m there.1) in
      let walked : walked_widths stage.Ports (component_at names) 0 (map (seen ts) v.items) k ≡ own =
      ap (λ us. walked_widths stage.Ports (component_at names) 0 us k) (types_known m v.items there.2)
      ∙ ports_walked c.modules (module_names c) (component_at names) (declarations m) [] 0 k reads ∙ ports_are k m in
      let further : k + port_numbers m ≡ length (so_far.done ++ own) =
      let both = length-append so_far.done own in let long = flat_long (Some k) (instance_bundle m) in omega (arith, both, long) in
      record {
        done = so_far.done ++ own;
        keeps = subst (λ ws. Keeps (so_far.done ++ ws) [] new) walked (pushes.each so_far.done [] so_far.keeps);
        same =
            so_far.same ∙ ap (λ ms. so_far.done ++ port_widths k ms) (left_is c.modules i m there.1)
            ∙ sym (append_assoc so_far.done own (port_widths (k + port_numbers m) (drop (i + 1) c.modules)))
            ∙ ap (λ n. (so_far.done ++ own) ++ port_widths n (drop (i + 1) c.modules)) further;
      }

  pub ports_end : (i : ℕ) (arena : Arena) → length declared ≤ i → PortsSoFar c i arena → Keeps (port_widths 0 c.modules) [] arena
  ports_end i arena past so_far =
      let same : port_widths 0 c.modules ≡ so_far.done =
      so_far.same ∙ ap (λ ms. so_far.done ++ port_widths (length so_far.done) ms) (none_left i past) ∙ append-nil so_far.done in
      subst (λ ws. Keeps ws [] arena) (sym same) so_far.keeps

  pub bodies_begin : (arena : Arena) → Keeps (port_widths 0 c.modules) [] arena → BodiesSoFar c 0 arena
  bodies_begin arena keeps = record {
    numbers = first_numbers c.modules;
    empty = refl;
    done = port_widths 0 c.modules;
    keeps = keeps;
    next = sym (ports_before 0 c.modules);
    same = refl;
  }

  pub bodies_next : HasNames c → type_faults c ≡ [] → (names : Names) (i : ℕ) (v : Vec (Option Found) Global) (old new : Arena) → i < length declared
      → v ≡ get_or declared i v
      → ((m : ModuleTree) → slice_get c.modules i ≡ Some m → Tabulates (module_names c) names (declarations m)) → BodiesSoFar c i old
      → Pushes (walked_widths stage.Bodies (component_at names) 0 (map (seen ts) v.items)) old new → BodiesSoFar c (i + 1) new
  bodies_next has clear names i v old new within at tabulates so_far pushes =
      let there = module_beside i v within at in
      let m = there.0 in
      let k = length so_far.done in
      let own = body_widths c.modules so_far.numbers (declarations m) in
      let reads = reads_module (module_names c) names (declarations m) (tabulates m there.1) in
      let typed = nodes_typed c has clear m (get_in c.modules i m there.1) in
      let walked : walked_widths stage.Bodies (component_at names) 0 (map (seen ts) v.items) k ≡ own =
      ap (λ us. walked_widths stage.Bodies (component_at names) 0 us k) (types_known m v.items there.2)
      ∙ bodies_walked c.modules (module_names c) (component_at names) so_far.numbers so_far.empty (declarations m) [] so_far.numbers 0 k
      (met_none c.modules so_far.numbers) typed reads so_far.next in
      let behind = behind_module c.modules so_far.numbers m in
      record {
        numbers = behind;
        empty = refl;
        done = so_far.done ++ own;
        keeps = subst (λ ws. Keeps (so_far.done ++ ws) [] new) walked (pushes.each so_far.done [] so_far.keeps);
        next =
            next_behind c.modules so_far.numbers (declarations m) ∙ ap (λ n. n + length own) so_far.next ∙ sym (length-append so_far.done own);
        same =
            so_far.same ∙ ap (λ ms. so_far.done ++ flat_map module_widths (modules_from c.modules so_far.numbers ms)) (left_is c.modules i m there.1)
            ∙ sym (append_assoc so_far.done own (flat_map module_widths (modules_from c.modules behind (drop (i + 1) c.modules))));
      }

  pub bodies_end : (i : ℕ) (arena : Arena) → length declared ≤ i → BodiesSoFar c i arena → Keeps (leaf_widths c) [] arena
  bodies_end i arena past so_far =
      let same : leaf_widths c ≡ so_far.done =
      so_far.same ∙ ap (λ ms. so_far.done ++ flat_map module_widths (modules_from c.modules so_far.numbers ms)) (none_left i past) ∙ append-nil so_far.done in
      subst (λ ws. Keeps ws [] arena) (sym same) so_far.keeps
