-- A port and an item without a fault are such as the next of a valid tree.
use Rattle.std.proofs.Common.{◌≡◌, ℕ, ◌+◌, ◌≤◌, List, [], ◌∷◌, Bool, true, false, refl, ap, inl, inr, subst}
use Rattle.std.specs.Prelude.{Option, Some, None, drop, nat_eq, option_map, if◌then◌else◌, IsTrue}
use Rattle.std.proofs.lemmas.Bool.{eqb-true, ltb-false}
use Rattle.fir_base.specs.Lists.{In}
use Rattle.fir_base.specs.declared.direction.Direction.{Direction}
use Rattle.fir_base.specs.declared.direction.Direction.TheVariants.{Input as InputPort, Output as OutputPort}
use Rattle.ver_ast.specs.declared.place.VPlace.{VPlace}
use Rattle.ver_ast.specs.declared.tree.Verilog.{Verilog}
use Rattle.ver_ast.specs.declared.tree.Port.{Port}
use Rattle.ver_ast.specs.declared.tree.Array.{Array}
use Rattle.ver_ast.specs.declared.tree.Assign.{Assign}
use Rattle.ver_ast.specs.declared.tree.Item.{Item}
use Rattle.ver_ast.specs.declared.tree.Item.TheVariants as item
use Rattle.ver_ast.specs.declared.tree.Write.{Write}
use Rattle.ver_ast.specs.Nets.{arrays, first_array}
use Rattle.ver_valid.specs.working.Declarations.{IsNarrow, IsNarrowKind, kind_of as port_kind_of}
use Rattle.ver_valid.specs.working.Scopes.{IsFine, driven_nets}
use Rattle.ver_valid.specs.working.Walks.{IsFresh, IsNextAssign, IsNextItem, IsNextNet, IsNextPort, assigned_names, words_of, written_names}
use Rattle.ver_check.specs.FaultForms.{kind_fault}
use Rattle.ver_check.specs.declared.kind.Kind.{Kind}
use Rattle.ver_check.specs.declared.kind.Kind.TheVariants as kind
use Rattle.ver_check.specs.Scopes.{Declaration, Scope, declaration_of, kind_of}
use Rattle.ver_places.specs.Places.{nowhere, place_at, range_places}
use Rattle.ver_check.specs.OperandFaults.{is_narrow}
use Rattle.ver_check.specs.SideFaults.{clock_side_faults, truth_faults}
use Rattle.ver_check.specs.ItemFaults.{Before, array_faults, assign_faults, assign_faults_by, clock_port_faults, declared_faults, driven_faults, driver_of, item_faults, named_faults, net_assign_faults, no_range_faults, port_faults, range_faults, register_faults, writes_faults}
use Rattle.ver_check.specs.working.Laws.{IsShallowItem}
use Rattle.ver_check.proofs.DriverNames.{not_driven, only_target}
use Rattle.ver_check.proofs.Faultless.{first_empty, second_empty}
use Rattle.ver_check.proofs.OwnFaults.{narrow_is, tested, untested}
use Rattle.ver_check.proofs.FaultlessSides.{faultless_clock_side, faultless_rhs}
use Rattle.ver_check.proofs.FaultlessBlocks.{faultless_plain, faultless_resetting, faultless_writing}
use Rattle.ver_check.proofs.StepsBehind.{IsNew}
use Rattle.ver_check.proofs.Undriven.{free_of, reset_free, write_free}
use Rattle.ver_check.proofs.Mirrors.{Mirrors, clock_output_in, fresh_in, output_in, wire_in}

undeclared : (p : VPlace) (n : List ℕ) (o : Option Declaration) → declared_faults p n o ≡ [] → option_map (λ (d : Declaration). d.kind) o ≡ None
undeclared p n None e = refl
undeclared p n (Some d) e = absurd (cc)

port_narrow : (b : Bool) (d : Direction) (w : ℕ) → (b ≡ false → IsNarrow w) → IsNarrowKind (port_kind_of b d w)
port_narrow true InputPort w h = tt
port_narrow true OutputPort w h = tt
port_narrow false InputPort w h = h refl
port_narrow false OutputPort w h = h refl

module _ (before : Before) (v : Verilog) (mirrors : Mirrors before v) (fine : IsFine v) where
  abbrev scope : Scope
  scope = before.scope

  is_fresh : (n : List ℕ) (p : VPlace) → declared_faults p n (declaration_of scope n) ≡ [] → IsFresh v n
  is_fresh n p e = fresh_in before v mirrors fine n (undeclared p n (declaration_of scope n) e)

  a_net : (w : ℕ) (n : List ℕ) (ps : List VPlace) → named_faults before w n ps ≡ [] → IsNextNet v n w
  a_net w n ps e =
      let p = place_at (1 + range_places w) ps in (
        is_fresh n p (second_empty (range_faults w (place_at 2 ps)) _ e),
        narrow_is w (tested (is_narrow w) (kind_fault (place_at 2 ps)) (first_empty _ (declared_faults p n (declaration_of scope n)) e)),
      )

  pub faultless_port : (p : Port) (ps : List VPlace) → port_faults before p ps ≡ [] → IsNextPort v p
  faultless_port p ps e = by p.is_clock refl e
    where
      by : (b : Bool) → p.is_clock ≡ b → (if b then clock_port_faults before p.width p.name ps else named_faults before p.width p.name ps) ≡ [] → IsNextPort v p
      by true s h =
          let q = place_at (2 + range_places p.width) ps in
          let plain : p.width ≡ 1 =
          eqb-true p.width 1 (tested (nat_eq p.width 1) (kind_fault (place_at 2 ps)) (first_empty _ (declared_faults q p.name (declaration_of scope p.name)) h)) in
          record {
            fresh = is_fresh p.name q (second_empty (no_range_faults p.width (place_at 2 ps)) _ h);
            narrow = port_narrow p.is_clock p.direction p.width (λ no. absurd (cc));
            plain = λ c. plain;
          }
      by false s h =
          let r = a_net p.width p.name ps h in
          record { fresh = r.0; narrow = port_narrow p.is_clock p.direction p.width (λ no. r.1); plain = λ c. absurd (let no : false ≡ true = subst IsTrue s c in cc) }

  an_array : (a : Array) (ps : List VPlace) → array_faults before a ps ≡ [] → IsNextNet v a.name a.width × (words_of (arrays v) + (a.last + 1) ≤ 4194304)
  an_array a ps e =
      let few = ltb-false 4194304 (before.words + (a.last + 1)) (untested _ _ (second_empty (named_faults before a.width a.name ps) _ e)) in
      (a_net a.width a.name ps (first_empty _ _ e), subst (λ (x : ℕ). x + (a.last + 1) ≤ 4194304) mirrors.words few)

  not_assigned : (n : List ℕ) (p : VPlace) → driven_faults p n (driver_of before.assigned n) ≡ [] → In (assigned_names v) n → ⊥
  not_assigned n p e = not_driven before.assigned (assigned_names v) mirrors.assigned n p e

  not_written : (n : List ℕ) → driver_of before.written n ≡ None → (m : List ℕ) → In (n ∷ []) m → In (written_names v) m → ⊥
  not_written n e m i =
      only_target (written_names v) n m (not_driven before.written (written_names v) mirrors.written n nowhere (ap (driven_faults nowhere n) e)) i

  -- what an assign of each kind of target drives
  new_by_kind : (a : Assign) (ps : List VPlace) (n : List ℕ) (k : Kind) (q : VPlace)
      → assign_faults_by before (Some (record { name = n; kind = k; place = q })) a ps ≡ [] → In (assigned_names v) a.target → ⊥
  new_by_kind a ps n kind.ClockInput q e = absurd (cc)
  new_by_kind a ps n kind.ClockOutput q e = not_assigned a.target (place_at 1 ps) (first_empty _ (clock_side_faults scope a.rhs (place_at 2 ps)) e)
  new_by_kind a ps n (kind.Input w) q e = absurd (let twice = second_empty (truth_faults w a.rhs (place_at 1 ps)) _ e in cc)
  new_by_kind a ps n (kind.Output w) q e = not_assigned a.target (place_at 1 ps) (second_empty (truth_faults w a.rhs (place_at 1 ps)) _ (first_empty _ _ e))
  new_by_kind a ps n (kind.Wire w) q e = not_assigned a.target (place_at 1 ps) (second_empty (truth_faults w a.rhs (place_at 1 ps)) _ (first_empty _ _ e))
  new_by_kind a ps n (kind.Register w) q e = absurd (cc)
  new_by_kind a ps n (kind.Array w) q e = absurd (cc)

  new_by : (a : Assign) (ps : List VPlace) (o : Option Declaration) → assign_faults_by before o a ps ≡ [] → In (assigned_names v) a.target → ⊥
  new_by a ps None e = absurd (cc)
  new_by a ps (Some d) e = new_by_kind a ps d.name d.kind d.place e

  new_writes : (ws : List Write) (ps : List VPlace) → writes_faults before ws ps ≡ [] → (n : List ℕ) → In (first_array ws) n → In (written_names v) n → ⊥
  new_writes [] ps e n m k = m
  new_writes (w ∷ ws) ps e n m k = not_written w.array (write_free before w ws ps e) n m k

  pub new_item : (i : Item) (ps : List VPlace) → item_faults before i ps ≡ [] → IsNew v i
  new_item (item.Wire n) ps e = a_net n.width n.name ps e
  new_item (item.Reg n) ps e = a_net n.width n.name ps e
  new_item (item.Array a) ps e = an_array a ps e
  new_item (item.Assign a) ps e = new_by a ps (declaration_of scope a.target) e
  new_item (item.Always b) ps e =
      let p = place_at 3 ps in
      let register : register_faults before b.target p ≡ [] = second_empty _ _ (first_empty _ _ e) in
      not_written b.target (free_of p b.target (driver_of before.written b.target) (second_empty _ _ register))
  new_item (item.Resetting b) ps e = not_written b.target (reset_free before b ps e)
  new_item (item.Writing b) ps e = new_writes b.writes (drop 4 ps) (second_empty _ _ e)

  module _ (a : Assign) (ps : List VPlace) (s : IsShallowItem (item.Assign a)) where
    abbrev IsNext : Type 0
    IsNext = IsNextAssign v a × (In (assigned_names v) a.target → ⊥)

    net_assign : (w : ℕ) → In (driven_nets v) (a.target, w) → net_assign_faults before w a ps ≡ [] → IsNext
    net_assign w m e =
        let front = first_empty _ _ e in (
          inr (w, m, faultless_rhs before v mirrors fine w a.rhs (place_at 1 ps) (drop 2 ps) (first_empty _ _ front) (second_empty _ _ e) s),
          not_assigned a.target (place_at 1 ps) (second_empty (truth_faults w a.rhs (place_at 1 ps)) _ front),
        )

    by_kind : (n : List ℕ) (k : Kind) (q : VPlace) → kind_of scope a.target ≡ Some k
        → assign_faults_by before (Some (record { name = n; kind = k; place = q })) a ps ≡ [] → IsNext
    by_kind n kind.ClockInput q is e = absurd (cc)
    by_kind n kind.ClockOutput q is e = (
      inl (clock_output_in before v mirrors fine a.target is, faultless_clock_side before v mirrors fine a.rhs (place_at 2 ps) (second_empty _ _ e)),
      not_assigned a.target (place_at 1 ps) (first_empty _ (clock_side_faults scope a.rhs (place_at 2 ps)) e),
    )
    by_kind n (kind.Input w) q is e = absurd (let twice = second_empty (truth_faults w a.rhs (place_at 1 ps)) _ e in cc)
    by_kind n (kind.Output w) q is e = net_assign w (output_in before v mirrors fine a.target w is) e
    by_kind n (kind.Wire w) q is e = net_assign w (wire_in before v mirrors fine a.target w is) e
    by_kind n (kind.Register w) q is e = absurd (cc)
    by_kind n (kind.Array w) q is e = absurd (cc)

    faultless_assign : assign_faults before a ps ≡ [] → IsNext
    faultless_assign e = by (declaration_of scope a.target) refl e
      where
        by : (o : Option Declaration) → declaration_of scope a.target ≡ o → assign_faults_by before o a ps ≡ [] → IsNext
        by None is h = absurd (cc)
        by (Some d) is h = by_kind d.name d.kind d.place (ap (option_map (λ (x : Declaration). x.kind)) is) h

  pub faultless_item : (i : Item) (ps : List VPlace) → IsShallowItem i → item_faults before i ps ≡ [] → IsNextItem v i
  faultless_item (item.Wire n) ps s e = a_net n.width n.name ps e
  faultless_item (item.Reg n) ps s e = a_net n.width n.name ps e
  faultless_item (item.Array a) ps s e = an_array a ps e
  faultless_item (item.Assign a) ps s e = faultless_assign a ps s e
  faultless_item (item.Always b) ps s e = faultless_plain before v mirrors fine b ps e s
  faultless_item (item.Resetting b) ps s e = faultless_resetting before v mirrors fine b ps e s
  faultless_item (item.Writing b) ps s e = faultless_writing before v mirrors fine b ps e s
