-- A port and an item that are such as the next of a valid tree have no fault.
use Rattle.std.proofs.Common.{◌≡◌, ℕ, ◌+◌, ◌≤◌, List, [], ◌∷◌, Bool, true, false, refl, sym, ap, inl, inr, ⊎_elim, subst}
use Rattle.std.specs.Prelude.{Option, Some, None, drop, option_map, if◌then◌else◌}
use Rattle.std.proofs.lemmas.Bool.{eq-eqb, le-ltb}
use Rattle.fir_base.specs.Lists.{In}
use Rattle.fir_base.specs.declared.direction.Direction.{Direction}
use Rattle.fir_base.specs.declared.direction.Direction.TheVariants.{Input as InputPort, Output as OutputPort}
use Rattle.ver_ast.specs.declared.place.VPlace.{VPlace}
use Rattle.ver_ast.specs.declared.tree.Verilog.{Verilog}
use Rattle.ver_ast.specs.declared.tree.Port.{Port}
use Rattle.ver_ast.specs.declared.tree.Array.{Array}
use Rattle.ver_ast.specs.declared.tree.Assign.{Assign}
use Rattle.ver_ast.specs.declared.tree.Item.{Item}
use Rattle.ver_ast.specs.declared.tree.Item.TheVariants as item
use Rattle.ver_ast.specs.Nets.{arrays, nets}
use Rattle.ver_ast.specs.SoundSides.{IsSoundSide}
use Rattle.ver_ast.specs.Valid.{IsClockSide}
use Rattle.ver_valid.specs.working.Declarations.{IsNarrow, IsNarrowKind, kind_of as port_kind_of}
use Rattle.ver_valid.specs.working.Scopes.{IsFine}
use Rattle.ver_valid.specs.working.Walks.{IsFresh, IsNextAssign, IsNextItem, IsNextNet, IsNextPort, assigned_names, words_of}
use Rattle.ver_check.specs.FaultForms.{kind_fault}
use Rattle.ver_check.specs.declared.kind.Kind.{Kind}
use Rattle.ver_check.specs.declared.kind.Kind.TheVariants as kind
use Rattle.ver_check.specs.Scopes.{Declaration, Scope, declaration_of, kind_of}
use Rattle.ver_places.specs.Places.{place_at, range_places}
use Rattle.ver_check.specs.ItemFaults.{Before, array_faults, assign_faults, assign_faults_by, clock_port_faults, declared_faults, driven_faults, driver_of, item_faults, named_faults, net_assign_faults, port_faults}
use Rattle.ver_check.proofs.DriverNames.{none_driven}
use Rattle.ver_check.proofs.OwnFaults.{is_narrow_from, none_of_both}
use Rattle.ver_check.proofs.SoundSides.{sound_clock_side, sound_side, sound_truth}
use Rattle.ver_check.proofs.SoundBlocks.{sound_plain, sound_resetting, sound_writing}
use Rattle.ver_check.proofs.Mirrors.{Mirrors, clock_output_kind, driven_kind, fresh_kind}

none_declared : (p : VPlace) (n : List ℕ) (o : Option Declaration) → option_map (λ (d : Declaration). d.kind) o ≡ None → declared_faults p n o ≡ []
none_declared p n None e = refl
none_declared p n (Some d) e = absurd (cc)

-- what has a kind is declared
declared_as : (o : Option Declaration) (k : Kind) → option_map (λ (d : Declaration). d.kind) o ≡ Some k → (d : Declaration) × (o ≡ Some d) × (d.kind ≡ k)
declared_as None k e = absurd (cc)
declared_as (Some d) k e = (d, refl, cc)

narrow_port : (d : Direction) (w : ℕ) → IsNarrowKind (port_kind_of false d w) → IsNarrow w
narrow_port InputPort w h = h
narrow_port OutputPort w h = h

module _ (before : Before) (v : Verilog) (mirrors : Mirrors before v) (fine : IsFine v) where
  abbrev scope : Scope
  scope = before.scope

  not_declared : (n : List ℕ) (p : VPlace) → IsFresh v n → declared_faults p n (declaration_of scope n) ≡ []
  not_declared n p h = none_declared p n (declaration_of scope n) (fresh_kind before v mirrors fine n h)

  none_named : (w : ℕ) (n : List ℕ) (ps : List VPlace) → IsFresh v n → IsNarrow w → named_faults before w n ps ≡ []
  none_named w n ps new narrow =
      none_of_both _ _ (ap (λ (b : Bool). if b then [] else kind_fault (place_at 2 ps) ∷ []) (is_narrow_from w narrow))
      (not_declared n (place_at (1 + range_places w) ps) new)

  pub sound_port : (p : Port) (ps : List VPlace) → IsNextPort v p → port_faults before p ps ≡ []
  sound_port p ps h = by p.is_clock refl
    where
      by : (b : Bool) → p.is_clock ≡ b → (if b then clock_port_faults before p.width p.name ps else named_faults before p.width p.name ps) ≡ []
      by true s =
          none_of_both _ _ (ap (λ (b : Bool). if b then [] else kind_fault (place_at 2 ps) ∷ []) (eq-eqb p.width 1 (h.plain s)))
          (not_declared p.name (place_at (2 + range_places p.width) ps) h.fresh)
      by false s =
          none_named p.width p.name ps h.fresh
          (narrow_port p.direction p.width (subst (λ (b : Bool). IsNarrowKind (port_kind_of b p.direction p.width)) s h.narrow))

  none_array : (a : Array) (ps : List VPlace) → IsNextNet v a.name a.width → words_of (arrays v) + (a.last + 1) ≤ 4194304 → array_faults before a ps ≡ []
  none_array a ps h few =
      let room : before.words + (a.last + 1) ≤ 4194304 = subst (λ (x : ℕ). x + (a.last + 1) ≤ 4194304) (sym mirrors.words) few in
      none_of_both _ _ (none_named a.width a.name ps h.0 h.1)
      (ap (λ (b : Bool). if b then kind_fault (place_at (4 + range_places a.width) ps) ∷ [] else []) (le-ltb 4194304 (before.words + (a.last + 1)) room))

  none_assigned : (n : List ℕ) (p : VPlace) → (In (assigned_names v) n → ⊥) → driven_faults p n (driver_of before.assigned n) ≡ []
  none_assigned n p h = none_driven before.assigned (assigned_names v) mirrors.assigned n p h

  module _ (a : Assign) (ps : List VPlace) (free : In (assigned_names v) a.target → ⊥) where
    abbrev none_by : Option Declaration → Type 0
    none_by o = assign_faults_by before o a ps ≡ []

    none_net : (w : ℕ) → IsSoundSide (nets v) (arrays v) w a.rhs → net_assign_faults before w a ps ≡ []
    none_net w s =
        none_of_both _ _
        (none_of_both _ _ (sound_truth before v mirrors fine w a.rhs (place_at 1 ps) s) (none_assigned a.target (place_at 1 ps) free))
        (sound_side before v mirrors fine w a.rhs (drop 2 ps) s)

    none_clock : IsClockSide v a.rhs → (n : List ℕ) (q : VPlace) → none_by (Some (record { name = n; kind = kind.ClockOutput; place = q }))
    none_clock s n q =
        none_of_both _ _ (none_assigned a.target (place_at 1 ps) free) (sound_clock_side before v mirrors fine a.rhs (place_at 2 ps) s)

    -- by the kind of the target
    by_kind : (k : Kind) → kind_of scope a.target ≡ Some k → ((n : List ℕ) (q : VPlace) → none_by (Some (record { name = n; kind = k; place = q })))
        → assign_faults before a ps ≡ []
    by_kind k e h =
        let d = declared_as (declaration_of scope a.target) k e in
        let whole : ◌≡◌ {A = Declaration} d.0 (record { name = d.0.name; kind = k; place = d.0.place }) =
        ap (λ (x : Kind). record { name = d.0.name; kind = x; place = d.0.place }) d.2 in
        subst none_by (sym d.1) (subst (λ (x : Declaration). none_by (Some x)) (sym whole) (h d.0.name d.0.place))

    sound_assign : IsNextAssign v a → assign_faults before a ps ≡ []
    sound_assign (inl h) = by_kind kind.ClockOutput (clock_output_kind before v mirrors fine a.target h.0) (none_clock h.1)
    sound_assign (inr h) =
        ⊎_elim
        (λ (e : kind_of scope a.target ≡ Some (kind.Wire h.0)). by_kind (kind.Wire h.0) e (λ n q. none_net h.0 h.2))
        (λ (e : kind_of scope a.target ≡ Some (kind.Output h.0)). by_kind (kind.Output h.0) e (λ n q. none_net h.0 h.2))
        (driven_kind before v mirrors fine a.target h.0 h.1)

  pub sound_item : (i : Item) (ps : List VPlace) → IsNextItem v i → item_faults before i ps ≡ []
  sound_item (item.Wire n) ps h = none_named n.width n.name ps h.0 h.1
  sound_item (item.Reg n) ps h = none_named n.width n.name ps h.0 h.1
  sound_item (item.Array a) ps h = none_array a ps h.0 h.1
  sound_item (item.Assign a) ps h = sound_assign a ps h.1 h.0
  sound_item (item.Always b) ps h = sound_plain before v mirrors fine b ps h
  sound_item (item.Resetting b) ps h = sound_resetting before v mirrors fine b ps h
  sound_item (item.Writing b) ps h = sound_writing before v mirrors fine b ps h
