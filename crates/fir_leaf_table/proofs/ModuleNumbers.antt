-- So do the leaves of all declarations of all modules, however many they are.
use Rattle.std.proofs.Common.{◌≡◌, ℕ, zero, suc, ◌+◌, List, [], ◌∷◌, ◌++◌, length, flat_map, Some, refl, sym, ap, ◌∙◌, subst, inl, inr}
use Rattle.std.specs.Prelude.{slice_get}
use Rattle.std.proofs.lemmas.Option.{none-some, same_Some}
use Rattle.fir_base.specs.Lists.{In}
use Rattle.fir_ast.specs.Circuits.{ModuleTree}
use Rattle.fir_meaning.specs.Components.{Declaration, Declarations}
use Rattle.fir_meaning.specs.ComponentTypes.{instance_bundle, typed_scope}
use Rattle.fir_meaning.specs.SizedTypes.{numbered}
use Rattle.fir_meaning.specs.SizedDeclarations.{Numbering, NumberedModule, behind_module, modules_from, numbered_behind, port_numbers}
use Rattle.fir_meaning.specs.Visibility.{declarations}
use Rattle.fir_meaning.specs.WidthExpressions.{Width}
use Rattle.fir_types.specs.working.LeafNumbers.{NextLeaf, first_leaves_from, first_leaves_of, leaves_behind}
use Rattle.fir_width.specs.working.DeclaredWidths.{body_widths, module_widths, port_widths}
use Rattle.fir_width.specs.working.FlatWidths.{flat}
use Rattle.fir_width.specs.working.StandingWidths.{Stands}
use Rattle.fir_width.proofs.BodyNumbers.{Same, next_behind, same_behind}
use Rattle.fir_width.proofs.DeclaredScopes.{NodesTyped, known_behind, met_none, scope_known}
use Rattle.fir_width.proofs.PortsFirst.{ports_are, ports_taken}
use Rattle.fir_width.proofs.FlatShapes.{flat_long}
use Rattle.fir_width.proofs.StandingWidths.{stands_left, stands_right}
use Rattle.fir_leaf_table.proofs.DeclarationNumbers.{Left, StandsAt, one_stands}

module _ (meant : List Width) (modules : List ModuleTree) (all_ports : Stands meant 0 (port_widths 0 modules)) where
  -- of a module
  in_module : (m : ModuleTree) (start : Numbering) (next : NextLeaf) → start.scope ≡ [] → Same next start
      → NodesTyped modules [] (declarations m)
      → Stands meant start.port (flat (numbered (Some start.port) (instance_bundle m)))
      → Stands meant start.next (body_widths modules start (declarations m))
      → (ds rest : Declarations) (d : Declaration) → declarations m ≡ ds ++ d ∷ rest
      → StandsAt meant modules (typed_scope modules ds) (numbered_behind modules start ds) d
      (first_leaves_of modules next (declarations m) (typed_scope modules (declarations m))) (length ds)
  in_module m start next empty same typed ports bodies ds rest d split =
      let whole = declarations m in
      let left : Left meant modules all_ports start empty [] start next whole = record {
        met = met_none modules start;
        same = same;
        typed = typed;
        ports = subst (Stands meant start.port) (sym (ports_are start.port m)) ports;
        bodies = bodies;
      } in
      let one =
      one_stands meant modules all_ports start empty ds rest d [] start next
      (subst (Left meant modules all_ports start empty [] start next) split left) in
      let firsts : first_leaves_of modules next (ds ++ d ∷ rest) (known_behind modules [] (ds ++ d ∷ rest))
      ≡ first_leaves_of modules next whole (typed_scope modules whole) =
      ap (λ es. first_leaves_of modules next es (known_behind modules [] es)) (sym split)
      ∙ ap (first_leaves_of modules next whole) (sym (scope_known modules whole)) in
      subst (λ fs. StandsAt meant modules (typed_scope modules ds) (numbered_behind modules start ds) d fs (length ds)) firsts one

  pub in_modules : (ms : List ModuleTree) (numbers : Numbering) (next : NextLeaf) → numbers.scope ≡ [] → Same next numbers
      → ((m : ModuleTree) → In ms m → NodesTyped modules [] (declarations m))
      → Stands meant numbers.port (port_widths numbers.port ms)
      → Stands meant numbers.next (flat_map module_widths (modules_from modules numbers ms))
      → (k : ℕ) (m : NumberedModule) (firsts : List ℕ) → slice_get (modules_from modules numbers ms) k ≡ Some m
      → slice_get (first_leaves_from modules next ms) k ≡ Some firsts → (ds rest : Declarations) (d : Declaration)
      → declarations m.inside ≡ ds ++ d ∷ rest
      → StandsAt meant modules (typed_scope modules ds) (numbered_behind modules m.start ds) d firsts (length ds)
  in_modules [] numbers next empty same typed ports bodies k m firsts here at ds rest d split = absurd (none-some m here)
  in_modules (x ∷ ms) numbers next empty same typed ports bodies zero m firsts here at ds rest d split =
      let own = flat (numbered (Some numbers.port) (instance_bundle x)) in
      let body = body_widths modules numbers (declarations x) in
      let is : record { modules = modules; inside = x; start = numbers } ≡ m =
      same_Some (record { modules = modules; inside = x; start = numbers }) m here in
      let list : first_leaves_of modules next (declarations x) (typed_scope modules (declarations x)) ≡ firsts =
      same_Some (first_leaves_of modules next (declarations x) (typed_scope modules (declarations x))) firsts at in
      let one =
      in_module x numbers next empty same (typed x (inl refl))
      (stands_left meant numbers.port own (port_widths (numbers.port + port_numbers x) ms) ports)
      (stands_left meant numbers.next body (flat_map module_widths (modules_from modules (behind_module modules numbers x) ms)) bodies) ds rest d
      (ap (λ (n : NumberedModule). declarations n.inside) is ∙ split) in
      subst (λ (n : NumberedModule). StandsAt meant modules (typed_scope modules ds) (numbered_behind modules n.start ds) d firsts (length ds)) is
      (subst (λ fs. StandsAt meant modules (typed_scope modules ds) (numbered_behind modules numbers ds) d fs (length ds)) list one)
  in_modules (x ∷ ms) numbers next empty same typed ports bodies (suc k) m firsts here at ds rest d split =
      let whole = declarations x in
      let own = flat (numbered (Some numbers.port) (instance_bundle x)) in
      let body = body_widths modules numbers whole in
      let after = behind_module modules numbers x in
      let behind = leaves_behind next whole (typed_scope modules whole) in
      let counted : Same (leaves_behind next whole (known_behind modules [] whole)) (numbered_behind modules numbers whole) =
      same_behind modules numbers empty whole [] numbers next (met_none modules numbers) same (typed x (inl refl)) in
      let known : leaves_behind next whole (known_behind modules [] whole) ≡ behind =
      ap (leaves_behind next whole) (sym (scope_known modules whole)) in
      let further : Same behind after =
      record { port = ap (λ n. n.port) (sym known) ∙ counted.port; body = ap (λ n. n.body) (sym known) ∙ counted.body } in
      let port_next : numbers.port + port_numbers x ≡ after.port = sym (ports_taken modules numbers x) in
      let ports_left : Stands meant (numbers.port + port_numbers x) (port_widths (numbers.port + port_numbers x) ms) =
      subst (λ n. Stands meant (numbers.port + n) (port_widths (numbers.port + port_numbers x) ms))
      (flat_long (Some numbers.port) (instance_bundle x))
      (stands_right meant numbers.port own (port_widths (numbers.port + port_numbers x) ms) ports) in
      let bodies_left : Stands meant (numbers.next + length body) (flat_map module_widths (modules_from modules after ms)) =
      stands_right meant numbers.next body (flat_map module_widths (modules_from modules after ms)) bodies in
      in_modules ms after behind refl further (λ y among. typed y (inr among)) (subst (λ n. Stands meant n (port_widths n ms)) port_next ports_left)
      (subst (λ n. Stands meant n (flat_map module_widths (modules_from modules after ms))) (sym (next_behind modules numbers whole)) bodies_left)
      k m firsts here at
      ds rest d split
