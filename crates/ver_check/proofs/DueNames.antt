-- All that an assign has to drive has one exactly where nothing is undriven.
use Rattle.std.proofs.Common.{◌≡◌, ℕ, List, [], ◌∷◌, map, flat_map, Bool, true, false, not, ◌&&◌, if◌then◌else◌, refl, sym, ap, ◌∙◌, inl, inr, ⊎_elim, subst}
use Rattle.std.specs.List.{AllByRecursion}
use Rattle.std.proofs.lemmas.Bool.{not-false}
use Rattle.fir_base.specs.Lists.{In}
use Rattle.fir_base.specs.declared.direction.Direction.{Direction}
use Rattle.fir_base.specs.declared.direction.Direction.TheVariants.{Input as InputPort, Output as OutputPort}
use Rattle.fir_base.proofs.Each.{all_at, all_from}
use Rattle.fir_base.proofs.Members.{in_either, in_flat_map, in_flat_map_from, in_left, in_map, in_map_from, in_right}
use Rattle.ver_ast.specs.declared.tree.Verilog.{Verilog}
use Rattle.ver_ast.specs.declared.tree.Port.{Port}
use Rattle.ver_ast.specs.declared.tree.Item.{Item}
use Rattle.ver_ast.specs.declared.tree.Item.TheVariants as item
use Rattle.ver_ast.proofs.Chosen.{among, is_named}
use Rattle.ver_fault.specs.Faults.{VFault}
use Rattle.ver_valid.specs.declared.declared.Declared.TheVariants.{Wire}
use Rattle.ver_valid.specs.working.Declarations.{Entry, entries, item_entries, kind_of as port_kind_of, port_entry}
use Rattle.ver_valid.specs.working.Walks.{IsItemDriven, IsOutputDriven, IsPortDriven, assigned_names}
use Rattle.ver_check.specs.FaultForms.{undriven_fault}
use Rattle.ver_check.specs.Scopes.{Declaration, is_driven}
use Rattle.ver_check.specs.ItemFaults.{Before}
use Rattle.ver_check.specs.TreeFaults.{is_assigned, undriven_of}
use Rattle.ver_check.proofs.Faultless.{first_empty, second_empty}
use Rattle.ver_check.proofs.OwnFaults.{none_of_both, untested}
use Rattle.ver_check.proofs.Mirrors.{Mirrors, Named, driver_names, kind_as, named, named_entry}

none_at : {S : Type 0} (f : S → List VFault) (xs : List S) → flat_map f xs ≡ [] → (x : S) → In xs x → f x ≡ []
none_at f [] e x m = absurd m
none_at f (y ∷ ys) e x (inl s) = subst (λ z. f z ≡ []) s (first_empty (f y) (flat_map f ys) e)
none_at f (y ∷ ys) e x (inr m) = none_at f ys (second_empty (f y) (flat_map f ys) e) x m

none_of_all : {S : Type 0} (f : S → List VFault) (xs : List S) → ((x : S) → In xs x → f x ≡ []) → flat_map f xs ≡ []
none_of_all f [] h = refl
none_of_all f (y ∷ ys) h = none_of_both (f y) (flat_map f ys) (h y (inl refl)) (none_of_all f ys (λ x m. h x (inr m)))

-- what is due and is not assigned is missing
given : (due assigned : Bool) (f : VFault) → (if due && not assigned then f ∷ [] else []) ≡ [] → due ≡ true → assigned ≡ true
given true assigned f e h = not-false assigned (untested (not assigned) f e)
given false assigned f e h = absurd (cc)

none_missing : (due assigned : Bool) (f : VFault) → (due ≡ true → assigned ≡ true) → (if due && not assigned then f ∷ [] else []) ≡ []
none_missing true assigned f h = ap (λ (b : Bool). if not b then f ∷ [] else []) (h refl)
none_missing false assigned f h = refl

abbrev pub AreDriven : Verilog → Type 0
AreDriven v = (e : Entry) → In (entries v) e → is_driven (kind_as e.1) ≡ true → In (assigned_names v) e.0

module _ (before : Before) (v : Verilog) (mirrors : Mirrors before v) where
  abbrev missing : Declaration → List VFault
  missing d = if is_driven d.kind && not (is_assigned before.assigned d) then undriven_fault d.place d.name ∷ [] else []

  pub all_driven : undriven_of before ≡ [] → AreDriven v
  all_driven e x m due =
      let r =
      in_map_from named before.scope (named_entry x) (subst (λ (xs : List Named). In xs (named_entry x)) (sym mirrors.scope) (in_map named_entry (entries v) x m)) in
      let here : is_driven r.0.kind ≡ true = ap (λ (p : Named). is_driven p.1) r.2 ∙ due in
      let assigned = given (is_driven r.0.kind) (is_assigned before.assigned r.0) _ (none_at missing before.scope e r.0 r.1) here in
      subst (In (assigned_names v)) (ap (λ (p : Named). p.0) r.2)
      (subst (λ ns. In ns r.0.name) mirrors.assigned (among (driver_names before.assigned) r.0.name assigned))

  pub none_undriven : AreDriven v → undriven_of before ≡ []
  none_undriven h =
      none_of_all missing before.scope (λ d m.
      none_missing (is_driven d.kind) (is_assigned before.assigned d) (undriven_fault d.place d.name) (λ due.
      let r = in_map_from named_entry (entries v) (named d) (subst (λ (xs : List Named). In xs (named d)) mirrors.scope (in_map named before.scope d m)) in
      let here : is_driven (kind_as r.0.1) ≡ true = ap (λ (p : Named). is_driven p.1) r.2 ∙ due in
      let name : r.0.0 ≡ d.name = ap (λ (p : Named). p.0) r.2 in
      is_named (driver_names before.assigned) d.name
      (subst (λ ns. In ns d.name) (sym mirrors.assigned) (subst (In (assigned_names v)) name (h r.0 r.1 here)))))

-- outputs and wires
output_due : (b : Bool) (w : ℕ) → is_driven (kind_as (port_kind_of b OutputPort w)) ≡ true
output_due true w = refl
output_due false w = refl

output_driven : (ns : List (List ℕ)) (b : Bool) (d : Direction) (w : ℕ) (n : List ℕ) → IsOutputDriven ns d n → is_driven (kind_as (port_kind_of b d w)) ≡ true → In ns n
output_driven ns true InputPort w n h due = absurd (cc)
output_driven ns false InputPort w n h due = absurd (cc)
output_driven ns true OutputPort w n h due = h
output_driven ns false OutputPort w n h due = h

wire_driven : (ns : List (List ℕ)) (i : Item) (e : Entry) → IsItemDriven ns i → In (item_entries i) e → is_driven (kind_as e.1) ≡ true → In ns e.0
wire_driven ns (item.Wire n) e h (inl s) due = subst (In ns) (ap (λ (x : Entry). x.0) s) h
wire_driven ns (item.Wire n) e h (inr m) due = absurd m
wire_driven ns (item.Reg n) e h (inl s) due = let no : is_driven (kind_as e.1) ≡ false = ap (λ (x : Entry). is_driven (kind_as x.1)) (sym s) in absurd (cc)
wire_driven ns (item.Reg n) e h (inr m) due = absurd m
wire_driven ns (item.Array a) e h (inl s) due = let no : is_driven (kind_as e.1) ≡ false = ap (λ (x : Entry). is_driven (kind_as x.1)) (sym s) in absurd (cc)
wire_driven ns (item.Array a) e h (inr m) due = absurd m
wire_driven ns (item.Assign a) e h m due = absurd m
wire_driven ns (item.Always b) e h m due = absurd m
wire_driven ns (item.Resetting b) e h m due = absurd m
wire_driven ns (item.Writing b) e h m due = absurd m

module _ (v : Verilog) (driven : AreDriven v) where
  one_output : (p : Port) → In v.ports p → (d : Direction) → p.direction ≡ d → IsOutputDriven (assigned_names v) d p.name
  one_output p m InputPort e = tt
  one_output p m OutputPort e =
      driven (port_entry p) (in_left (map port_entry v.ports) (flat_map item_entries v.items) (port_entry p) (in_map port_entry v.ports p m))
      (ap (λ (d : Direction). is_driven (kind_as (port_kind_of p.is_clock d p.width))) e ∙ output_due p.is_clock p.width)

  one_wire : (i : Item) → In v.items i → IsItemDriven (assigned_names v) i
  one_wire (item.Wire n) m =
      driven (n.name, Wire n.width)
      (in_right (map port_entry v.ports) (flat_map item_entries v.items) (n.name, Wire n.width)
      (in_flat_map item_entries v.items (item.Wire n) (n.name, Wire n.width) m (inl refl)))
      refl
  one_wire _ m = tt

  pub outputs_driven : AllByRecursion (IsPortDriven (assigned_names v)) v.ports
  outputs_driven = all_from (IsPortDriven (assigned_names v)) v.ports (λ p m. one_output p m p.direction refl)

  pub wires_driven : AllByRecursion (IsItemDriven (assigned_names v)) v.items
  wires_driven = all_from (IsItemDriven (assigned_names v)) v.items one_wire

pub due_driven : (v : Verilog) → AllByRecursion (IsPortDriven (assigned_names v)) v.ports → AllByRecursion (IsItemDriven (assigned_names v)) v.items → AreDriven v
due_driven v outputs wires e m due =
    ⊎_elim
    (λ (i : In (map port_entry v.ports) e).
    let r = in_map_from port_entry v.ports e i in
    let own : is_driven (kind_as (port_entry r.0).1) ≡ true = ap (λ (x : Entry). is_driven (kind_as x.1)) r.2 ∙ due in
    subst (In (assigned_names v)) (ap (λ (x : Entry). x.0) r.2)
    (output_driven (assigned_names v) r.0.is_clock r.0.direction r.0.width r.0.name (all_at (IsPortDriven (assigned_names v)) v.ports outputs r.0 r.1) own))
    (λ (i : In (flat_map item_entries v.items) e).
    let r = in_flat_map_from item_entries v.items e i in
    wire_driven (assigned_names v) r.0 e (all_at (IsItemDriven (assigned_names v)) v.items wires r.0 r.1) r.2 due)
    (in_either (map port_entry v.ports) (flat_map item_entries v.items) e m)
