-- Ports and items one behind the other: they have no fault exactly where each is such as the next of a valid tree.
use Rattle.std.proofs.Common.{◌≡◌, List, [], ◌∷◌, refl, sym, ap, subst, append_assoc, append-nil, arith}
use Rattle.std.specs.List.{AllByRecursion}
use Rattle.ver_ast.specs.declared.place.VPlace.{VPlace}
use Rattle.ver_ast.specs.declared.tree.Verilog.{Verilog}
use Rattle.ver_ast.specs.declared.tree.Port.{Port}
use Rattle.ver_ast.specs.declared.tree.Item.{Item}
use Rattle.ver_ast.specs.Grammar.{item_tokens, port_tokens}
use Rattle.ver_valid.specs.working.Walks.{AreNextItems, AreNextPorts, no_ports, with_items, with_ports}
use Rattle.ver_places.specs.Places.{behind}
use Rattle.ver_check.specs.ItemFaults.{Before, item_faults, port_faults}
use Rattle.ver_check.specs.TreeFaults.{behind_item, behind_items, behind_port, behind_ports, items_faults, nothing_before, ports_faults}
use Rattle.ver_check.specs.working.Laws.{IsShallowItem}
use Rattle.ver_check.proofs.Faultless.{first_empty, second_empty}
use Rattle.ver_check.proofs.OwnFaults.{none_of_both}
use Rattle.ver_check.proofs.FaultlessItems.{faultless_item, faultless_port, new_item}
use Rattle.ver_check.proofs.SoundItems.{sound_item, sound_port}
use Rattle.ver_check.proofs.StepsBehind.{Stands, next_new, stands_more, stands_port}

pub stands_first : (v : Verilog) → Stands nothing_before (no_ports v)
stands_first v = record {
  mirrors = record { scope = refl; assigned = refl; written = refl; words = refl };
  fine = record { once = tt; narrow = λ e m. absurd m };
  few = omega arith;
  assigned_once = tt;
  written_once = tt;
}

one_port : (v : Verilog) (p : Port) (rest : List Port) → with_ports (with_ports v (p ∷ [])) rest ≡ with_ports v (p ∷ rest)
one_port v p rest = ap (λ (xs : List Port). record v { ports = xs }) (append_assoc v.ports (p ∷ []) rest)

one_item : (v : Verilog) (i : Item) (rest : List Item) → with_items (with_items v (i ∷ [])) rest ≡ with_items v (i ∷ rest)
one_item v i rest = ap (λ (xs : List Item). record v { items = xs }) (append_assoc v.items (i ∷ []) rest)

pub stands_ports : (before : Before) (v : Verilog) (ports : List Port) (ps : List VPlace) → v.items ≡ [] → Stands before v → AreNextPorts v ports
    → Stands (behind_ports before ports ps) (with_ports v ports)
stands_ports before v [] ps none s h = subst (λ (xs : List Port). Stands before (record v { ports = xs })) (sym (append-nil v.ports)) s
stands_ports before v (p ∷ rest) ps none s h =
    subst (Stands (behind_ports before (p ∷ rest) ps)) (one_port v p rest)
    (stands_ports (behind_port before p ps) (with_ports v (p ∷ [])) rest (behind (port_tokens p) ps) none (stands_port before v p ps none s h.0) h.1)

pub stands_items : (before : Before) (v : Verilog) (items : List Item) (ps : List VPlace) → Stands before v → AreNextItems v items
    → Stands (behind_items before items ps) (with_items v items)
stands_items before v [] ps s h = subst (λ (xs : List Item). Stands before (record v { items = xs })) (sym (append-nil v.items)) s
stands_items before v (i ∷ rest) ps s h =
    subst (Stands (behind_items before (i ∷ rest) ps)) (one_item v i rest)
    (stands_items (behind_item before i ps) (with_items v (i ∷ [])) rest (behind (item_tokens i) ps) (stands_more before v i ps s (next_new v i h.0)) h.1)

-- the same of items without a fault
pub faultless_stands : (before : Before) (v : Verilog) (items : List Item) (ps : List VPlace) → Stands before v → items_faults before items ps ≡ []
    → Stands (behind_items before items ps) (with_items v items)
faultless_stands before v [] ps s e = subst (λ (xs : List Item). Stands before (record v { items = xs })) (sym (append-nil v.items)) s
faultless_stands before v (i ∷ rest) ps s e =
    subst (Stands (behind_items before (i ∷ rest) ps)) (one_item v i rest)
    (faultless_stands (behind_item before i ps) (with_items v (i ∷ [])) rest (behind (item_tokens i) ps)
    (stands_more before v i ps s (new_item before v s.mirrors s.fine i ps (first_empty _ _ e))) (second_empty (item_faults before i ps) _ e))

pub faultless_ports : (before : Before) (v : Verilog) (ports : List Port) (ps : List VPlace) → v.items ≡ [] → Stands before v
    → ports_faults before ports ps ≡ [] → AreNextPorts v ports
faultless_ports before v [] ps none s e = tt
faultless_ports before v (p ∷ rest) ps none s e =
    let h = faultless_port before v s.mirrors s.fine p ps (first_empty _ _ e) in (
      h,
      faultless_ports (behind_port before p ps) (with_ports v (p ∷ [])) rest (behind (port_tokens p) ps) none (stands_port before v p ps none s h)
          (second_empty (port_faults before p ps) _ e),
    )

pub faultless_items : (before : Before) (v : Verilog) (items : List Item) (ps : List VPlace) → Stands before v → AllByRecursion IsShallowItem items
    → items_faults before items ps ≡ [] → AreNextItems v items
faultless_items before v [] ps s shallow e = tt
faultless_items before v (i ∷ rest) ps s shallow e =
    let h = faultless_item before v s.mirrors s.fine i ps shallow.0 (first_empty _ _ e) in (
      h,
      faultless_items (behind_item before i ps) (with_items v (i ∷ [])) rest (behind (item_tokens i) ps) (stands_more before v i ps s (next_new v i h)) shallow.1
          (second_empty (item_faults before i ps) _ e),
    )

pub sound_ports : (before : Before) (v : Verilog) (ports : List Port) (ps : List VPlace) → v.items ≡ [] → Stands before v → AreNextPorts v ports
    → ports_faults before ports ps ≡ []
sound_ports before v [] ps none s h = refl
sound_ports before v (p ∷ rest) ps none s h =
    none_of_both (port_faults before p ps) _ (sound_port before v s.mirrors s.fine p ps h.0)
    (sound_ports (behind_port before p ps) (with_ports v (p ∷ [])) rest (behind (port_tokens p) ps) none (stands_port before v p ps none s h.0) h.1)

pub sound_items : (before : Before) (v : Verilog) (items : List Item) (ps : List VPlace) → Stands before v → AreNextItems v items
    → items_faults before items ps ≡ []
sound_items before v [] ps s h = refl
sound_items before v (i ∷ rest) ps s h =
    none_of_both (item_faults before i ps) _ (sound_item before v s.mirrors s.fine i ps h.0)
    (sound_items (behind_item before i ps) (with_items v (i ∷ [])) rest (behind (item_tokens i) ps) (stands_more before v i ps s (next_new v i h.0)) h.1)
