-- The names of a module by the numbers of its declarations: those of its ports stand before those of its statements.
use Rattle.std.proofs.Common.{◌≡◌, ℕ, ◌+◌, ◌-◌, ◌≤◌, List, ◌++◌, length, map, Option, Some, None, sym, ap, ◌∙◌, arith}
use Rattle.std.specs.Prelude.{slice_get}
use Rattle.std.proofs.lemmas.List.{length-map}
use Rattle.std.proofs.lemmas.Option.{slice_get_past}
use Rattle.fir_ast.specs.declared.circuit.Module.{Module}
use Rattle.fir_ast.specs.declared.circuit.Port.{Port}
use Rattle.fir_ast.specs.declared.statements.Stmt.{Stmt}
use Rattle.fir_ast.specs.Circuits.{PortTree}
use Rattle.fir_ast.specs.working.Views.{module_of, port_of}
use Rattle.fir_leaf.proofs.LeafPlaces.{get_left, get_mapped, get_right}
use Rattle.fir_leaf_text.specs.working.DeclaredNames.{names_in_module}
use Rattle.fir_leaf_text.proofs.SearchedNames.{names_of_statements}

abbrev pub port_name : PortTree → List ℕ
port_name p = p.named.name

abbrev pub names_of_ports : List Port → List (List ℕ)
names_of_ports ps = map port_name (map port_of ps)

-- its ports and its statements, as the code reads them
module _ (m : Module) (ps : List Port) (ss : List Stmt) (ports_are : ps ≡ m.ports.items) (statements_are : ss ≡ m.body.items) where
  abbrev all : List (List ℕ)
  all = names_of_ports ps ++ names_of_statements ss

  abbrev named_there : ℕ → Option (List ℕ)
  named_there k = slice_get (names_in_module (module_of m)) k

  same_names : (k : ℕ) → slice_get all k ≡ named_there k
  same_names k =
      ap (λ names. slice_get (names ++ names_of_statements ss) k) (ap names_of_ports ports_are)
      ∙ ap (λ names. slice_get (names_of_ports m.ports.items ++ names) k) (ap names_of_statements statements_are)

  ports_counted : length (names_of_ports ps) ≡ length ps
  ports_counted = length-map (map port_of ps) port_name ∙ length-map ps port_of

  pub port_there : (k : ℕ) (p : Port) → slice_get ps k ≡ Some p → Some p.ident.name ≡ named_there k
  port_there k p there =
      sym (get_left (names_of_ports ps) (names_of_statements ss) k p.ident.name
      (get_mapped port_name (map port_of ps) k (port_of p) (get_mapped port_of ps k p there))) ∙ same_names k

  behind_ports : (k left : ℕ) → k ≡ length ps + left → slice_get all k ≡ slice_get (names_of_statements ss) left
  behind_ports k left passed =
      ap (slice_get all) passed ∙ get_right (names_of_ports ps) (names_of_statements ss) (length ps) left ports_counted

  pub statement_there : (k : ℕ) (n : List ℕ) → length ps ≤ k → slice_get (names_of_statements ss) (k - length ps) ≡ Some n → Some n ≡ named_there k
  statement_there k n behind there = sym (behind_ports k (k - length ps) (omega arith) ∙ there) ∙ same_names k

  pub none_there : (k left : ℕ) → length ps ≤ k → k - length ps ≡ length (names_of_statements ss) + left → None ≡ named_there k
  none_there k left behind passed =
      sym (behind_ports k (k - length ps) (omega arith) ∙ slice_get_past (names_of_statements ss) (k - length ps) (omega arith)) ∙ same_names k
