-- The leaf views of the modules of a circuit without faults have types.
use Rattle.std.proofs.Common.{ℕ, zero, suc, ◌<◌, List, [], ◌∷◌, length, refl, sym, subst, inl, inr, arith}
use Rattle.fir_base.specs.Lists.{In}
use Rattle.fir_base.proofs.Each.{all_at, all_joined}
use Rattle.fir_base.proofs.Elements.{get_in}
use Rattle.fir_base.proofs.Empty.{empty_at, empty_left, empty_right}
use Rattle.fir_base.proofs.Members.{in_flat_map}
use Rattle.fir_meaning.specs.Visibility.{at_head, behind_ports, declarations}
use Rattle.fir_meaning.specs.SizedDeclarations.{NumberedModule, numbered_modules}
use Rattle.fir_meaning.specs.WidthRules.{rules_in_block}
use Rattle.fir_meaning.specs.WidthWalk.{shown_in_block, shown_in_module, shown_in_ports}
use Rattle.fir_meaning.specs.OverFaults.{over_rule}
use Rattle.fir_meaning.specs.LegalFaults.{legal_rule}
use Rattle.fir_meaning.specs.working.WellTyped.{AreLegal}
use Rattle.fir_meaning.specs.working.WidthLaws.{WidthsGrow}
use Rattle.fir_meaning.proofs.WellTypedCircuits.{well_typed}
use Rattle.fir_meaning.specs.working.LeafModules.{LeafDeclared, leaf_at}
use Rattle.fir_meaning.specs.ModuleScenes.{behind_all_ports}
use Rattle.fir_meaning.specs.working.LeafedModules.{driven_leaves, leaves_in_block, leaves_of_ports, leafed_module, module_leaves}
use Rattle.fir_leaf.proofs.DeclaredLeaves.{own_module}
use Rattle.fir_leaf_types.specs.working.TypedModules.{LeafedModulesAreTyped, held_in}
use Rattle.fir_leaf_types.proofs.DeclarationsGrow.{grows_all}
use Rattle.fir_leaf_types.proofs.BlocksTyped.{block_typed}
use Rattle.fir_leaf_types.proofs.RolesTyped.{LeafIsTyped, block_leaves, ports_typed}
use Rattle.fir_leaf_types.proofs.NodesHold.{nodes_hold}

leaf_in : (ls : List LeafDeclared) (x : ℕ) → x < length ls → In ls (leaf_at ls x)
leaf_in [] x lt = absurd (omega arith)
leaf_in (l ∷ ls) zero lt = inl refl
leaf_in (l ∷ ls) (suc x) lt = inr (leaf_in ls x (omega arith))

pub modules_typed : WidthsGrow → LeafedModulesAreTyped
modules_typed grow c module_number s names types scene over legal =
    let i = get_in (numbered_modules c) module_number s.own scene.own in
    let own = own_module c s.own i in
    let head = behind_all_ports s.own.inside in
    let all = declarations s.own.inside in
    let body = s.own.inside.body in
    let is_legal : AreLegal s.own.modules (behind_all_ports s.own.inside) s.own.inside.body =
    subst (λ ms. AreLegal ms (behind_all_ports s.own.inside) s.own.inside.body) (sym own.modules) ((well_typed c names).0 types s.own.inside own.inside) in
    let within = empty_at (shown_in_module (over_rule s.widths)) (numbered_modules c) over s.own i in
    let fine = empty_at (shown_in_module (legal_rule c s.widths)) (numbered_modules c) legal s.own i in
    let over_ports = shown_in_ports (over_rule s.widths) s.own at_head s.own.inside.ports in
    let over_body = shown_in_block (over_rule s.widths) s.own head body in
    let legal_ports = shown_in_ports (legal_rule c s.widths) s.own at_head s.own.inside.ports in
    let legal_body = shown_in_block (legal_rule c s.widths) s.own head body in
    let nodes = nodes_hold grow c names types s i scene.widths in
    let leaves =
    all_joined (LeafIsTyped (held_in (leafed_module s))) (leaves_of_ports s at_head s.own.inside.ports) (leaves_in_block s head body)
    (ports_typed c s own.start nodes s.own.inside.ports at_head (empty_left over_ports over_body within))
    (block_leaves c s own.start nodes body head (grows_all all) is_legal (empty_right over_ports over_body within)
    (empty_right legal_ports legal_body fine)
    (λ r j.
    scene.widths.meets.each r
    (in_flat_map (λ (m : NumberedModule). rules_in_block m (behind_ports at_head m.inside.ports) m.inside.body) (numbered_modules c) s.own r i j))) in
    let each : (x : ℕ) → x < length (module_leaves s) → LeafIsTyped (held_in (leafed_module s)) (leaf_at (module_leaves s) x) =
    λ x lt. all_at (LeafIsTyped (held_in (leafed_module s))) (module_leaves s) leaves (leaf_at (module_leaves s) x) (leaf_in (module_leaves s) x lt) in
    record {
      body =
          block_typed c s own.start (driven_leaves s) body head (grows_all all) is_legal (empty_right over_ports over_body within)
          (empty_right legal_ports legal_body fine);
      narrow = λ x lt. (each x lt).narrow;
      roles = λ x lt. (each x lt).gives;
    }
