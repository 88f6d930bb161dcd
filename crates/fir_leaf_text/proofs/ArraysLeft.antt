-- The texts of the arrays of statements, statement after statement, and of a module.
use Rattle.std.proofs.Common.{◌≡◌, ℕ, ◌+◌, ◌<◌, ◌≤◌, List, ◌++◌, drop, get_or, length, map, Some, sym, ap, ◌∙◌, arith}
use Rattle.std.specs.Prelude.{slice_get}
use Rattle.std.proofs.lemmas.List.{length-map}
use Rattle.std.proofs.lemmas.Option.{same_Some}
use Rattle.fir_ast.specs.declared.circuit.Circuit.{Circuit}
use Rattle.fir_ast.specs.declared.circuit.Module.{Module}
use Rattle.fir_ast.specs.declared.place.Place.{Place}
use Rattle.fir_ast.specs.declared.statements.Memory.{Memory}
use Rattle.fir_ast.specs.declared.statements.Stmt.{Stmt, fold-roll-Stmt}
use Rattle.fir_ast.specs.declared.statements.Stmt.TheVariants as code
use Rattle.fir_ast.specs.declared.statements.Stmt.TheOpen as layer
use Rattle.fir_ast.specs.Circuits.{ModuleTree}
use Rattle.fir_ast.specs.Statements.{Statement, memory}
use Rattle.fir_ast.specs.working.Views.{block_of, circuit_of, memory_part_of, module_of, named_of, stmt_of, stmt_step, when_step}
use Rattle.fir_meaning.specs.ModuleScenes.{behind_all_ports}
use Rattle.fir_names.proofs.FirstMentions.{views_left}
use Rattle.fir_leaf.proofs.LeafPlaces.{get_mapped}
use Rattle.fir_leaf_text.specs.working.TextsOfArrays.{AreArrayTextsOf, array_texts_in, array_texts_in_block}
use Rattle.fir_leaf_text.proofs.ArrayTexts.{block_arrays}
use Rattle.fir_leaf_text.proofs.SceneLeaves.{inside_there, module_there}

pub memory_view : (p : Place) (m : Memory) → stmt_of (code.Mem p m) ≡ memory p (named_of m.ident) (map memory_part_of m.fields.items)
memory_view p m = ap stmt_of (sym (code.rolls-Mem p m)) ∙ fold-roll-Stmt Statement (Place → Statement) stmt_step when_step (layer.Mem p m)

abbrev pub texts_of_statements : List Stmt → List (List ℕ)
texts_of_statements ss = array_texts_in_block (block_of (map stmt_of ss))

pub texts_left : (ss : List Stmt) (i : ℕ) (s : Stmt) → i < length ss → s ≡ get_or ss i s
    → texts_of_statements (drop i ss) ≡ array_texts_in (stmt_of s) ++ texts_of_statements (drop (i + 1) ss)
texts_left ss i s within at = ap (λ views. array_texts_in_block (block_of views)) (views_left stmt_of ss i s within at)

-- the arrays of a module
module _ (tree : Circuit) (module_number : ℕ) where
  pub module_arrays : (part : Module) (body : List Stmt) (texts : List (List ℕ)) → slice_get tree.modules.items module_number ≡ Some part
      → body ≡ part.body.items → texts ≡ texts_of_statements body → AreArrayTextsOf (circuit_of tree) module_number texts
  module_arrays part body texts there same put = λ s scene.
      let c = circuit_of tree in
      let own = inside_there c module_number s.own scene.own in
      let is : module_of part ≡ s.own.inside =
      same_Some (module_of part) s.own.inside (sym (get_mapped module_of tree.modules.items module_number part there) ∙ own) in
      put ∙ ap texts_of_statements same ∙ ap (λ (m : ModuleTree). array_texts_in_block m.body) is
      ∙ sym (block_arrays s s.own.inside.body (behind_all_ports s.own.inside))

  pub no_arrays : (texts : List (List ℕ)) → length tree.modules.items ≤ module_number → AreArrayTextsOf (circuit_of tree) module_number texts
  no_arrays texts past = λ s scene.
      absurd (omega (arith, module_there (circuit_of tree) module_number s.own scene.own, length-map tree.modules.items module_of))
