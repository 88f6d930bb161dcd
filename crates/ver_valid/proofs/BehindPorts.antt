-- The ports of a tree, each behind those before it.
use Rattle.std.proofs.Common.{◌≡◌, ℕ, List, [], ◌∷◌, ◌++◌, map, refl, sym, ap, ◌∙◌, inl, subst, append_assoc, append-nil}
use Rattle.std.specs.Prelude.{IsTrue}
use Rattle.std.specs.List.{AllByRecursion}
use Rattle.std.proofs.lemmas.List.{map-append}
use Rattle.fir_base.specs.Lists.{In, Distinct}
use Rattle.fir_base.proofs.Twins.{apart}
use Rattle.ver_ast.specs.declared.tree.Verilog.{Verilog}
use Rattle.ver_ast.specs.declared.tree.Port.{Port}
use Rattle.ver_valid.specs.working.Declarations.{entries, entry_names, port_entry, port_kind, IsNarrowKind}
use Rattle.ver_valid.specs.working.Walks.{AreNextPorts, with_ports, no_items}

abbrev pub port_names : List Port → List (List ℕ)
port_names = map (λ p. p.name)

abbrev pub IsPlainPort : Port → Type 0
IsPlainPort p = IsTrue p.is_clock → p.width ≡ 1

names_of_ports : (ps : List Port) → entry_names (map port_entry ps) ≡ port_names ps
names_of_ports [] = refl
names_of_ports (p ∷ ps) = ap (λ ns. p.name ∷ ns) (names_of_ports ps)

-- the names of a tree without items are those of its ports
pub port_names_are : (v : Verilog) → entry_names (entries (no_items v)) ≡ port_names v.ports
port_names_are v = ap entry_names (append-nil (map port_entry v.ports)) ∙ names_of_ports v.ports

pub plain_ports : (v : Verilog) (ps : List Port) → AreNextPorts v ps → AllByRecursion IsPlainPort ps
plain_ports v [] h = tt
plain_ports v (p ∷ ps) h = (h.0.plain, plain_ports (with_ports v (p ∷ [])) ps h.1)

module _ (v : Verilog) where
  abbrev with_only : List Port → Verilog
  with_only ps = record v { ports = ps; items = [] }

  pub ports_walked : (before ps : List Port) → Distinct (port_names (before ++ ps)) → AllByRecursion (λ (p : Port). IsNarrowKind (port_kind p)) ps
      → AllByRecursion IsPlainPort ps → AreNextPorts (with_only before) ps
  ports_walked before [] d narrow plain = tt
  ports_walked before (p ∷ ps) d narrow plain = (
    record {
      fresh = λ m.
          apart (port_names before) (port_names (p ∷ ps)) (subst Distinct (map-append (λ (q : Port). q.name) before (p ∷ ps)) d) p.name
          (subst (λ ns. In ns p.name) (port_names_are (with_only before)) m) (inl refl);
      narrow = narrow.0;
      plain = plain.0;
    },
    ports_walked (before ++ p ∷ []) ps (subst (λ qs. Distinct (port_names qs)) (sym (append_assoc before (p ∷ []) ps)) d) narrow.1 plain.1,
  )
