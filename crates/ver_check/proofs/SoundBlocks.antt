-- A sound block that writes what no block before it writes has no fault.
use Rattle.std.proofs.Common.{◌≡◌, ℕ, List, [], ◌∷◌, Bool, refl, sym, ap, ◌∙◌, inl, subst}
use Rattle.std.specs.Prelude.{Option, Some, None, drop, if◌then◌else◌}
use Rattle.std.specs.List.{AllByRecursion}
use Rattle.std.specs.Str.{bytes_eq}
use Rattle.fir_base.specs.Lists.{In}
use Rattle.fir_base.proofs.SameNames.{name_same}
use Rattle.ver_ast.specs.declared.place.VPlace.{VPlace}
use Rattle.ver_ast.specs.declared.tree.Verilog.{Verilog}
use Rattle.ver_ast.specs.declared.tree.Always.{Always}
use Rattle.ver_ast.specs.declared.tree.Edge.{Edge}
use Rattle.ver_ast.specs.declared.tree.Resetting.{Resetting}
use Rattle.ver_ast.specs.declared.tree.Write.{Write}
use Rattle.ver_ast.specs.declared.tree.Writing.{Writing}
use Rattle.ver_ast.specs.Atoms.{AtomTree}
use Rattle.ver_ast.specs.AtomForms.{constant_number}
use Rattle.ver_ast.specs.Grammar.{atom_tokens, write_tokens}
use Rattle.ver_ast.specs.Nets.{clocks, first_array, nets, plain_block, regs, resetting_block, writing_block}
use Rattle.ver_ast.specs.SoundSides.{HasWidth}
use Rattle.ver_ast.specs.Valid.{AreWrites, IsEdge, IsResetting, IsWrite}
use Rattle.ver_ast.proofs.Nets.{reg_is_net}
use Rattle.ver_valid.specs.working.Scopes.{IsFine}
use Rattle.ver_valid.specs.working.Walks.{IsNextBlock, written_names}
use Rattle.ver_valid.proofs.Fine.{fine_narrow}
use Rattle.ver_check.specs.Scopes.{Scope, bits_of, kind_bits, kind_of, register_bits, word_bits}
use Rattle.ver_places.specs.Places.{behind, place_at}
use Rattle.ver_check.specs.OperandFaults.{atom_faults, is_constant_fit, width_faults}
use Rattle.ver_check.specs.SideFaults.{clock_faults, misplaced_faults}
use Rattle.ver_check.specs.ItemFaults.{Before, again_faults, always_faults, at_array, driven_faults, driver_of, more_writes_faults, register_faults, reset_faults, resetting_faults, resetting_faults_by, tested_faults, writes_faults, writing_faults, written_faults}
use Rattle.ver_check.proofs.DriverNames.{none_driven}
use Rattle.ver_check.proofs.OwnFaults.{IsMet, bits_named, constant_fits, met_width, none_of_both, own_none}
use Rattle.ver_check.proofs.SoundSides.{none_at, none_wide, sound_clock}
use Rattle.ver_check.proofs.Mirrors.{Mirrors, clock_is, net_bits, register_is, word_is}

module _ (before : Before) (v : Verilog) (mirrors : Mirrors before v) (fine : IsFine v) where
  abbrev scope : Scope
  scope = before.scope

  no_clock_fault : (n : List ℕ) (p : VPlace) → In (clocks v) n → clock_faults p n (kind_of scope n) ≡ []
  no_clock_fault n p m = sound_clock before v mirrors fine n p (clock_is before v mirrors fine n m)

  none_written : (n : List ℕ) (p : VPlace) → (In (written_names v) n → ⊥) → driven_faults p n (driver_of before.written n) ≡ []
  none_written n p h = none_driven before.written (written_names v) mirrors.written n p h

  none_again : (first n : List ℕ) (p : VPlace) → n ≡ first → again_faults before first n p ≡ []
  none_again first n p e =
      ap (λ (b : Bool). if b then [] else misplaced_faults p n (kind_of scope n)) (ap (bytes_eq first) e ∙ name_same first)

  no_register_fault : (n : List ℕ) (w : ℕ) (p : VPlace) → In (regs v) (n, w) → (In (written_names v) n → ⊥) → register_faults before n p ≡ []
  no_register_fault n w p m free =
      none_of_both _ _ (bits_named register_bits p n (kind_of scope n) w (register_is before v mirrors fine n w m)) (none_written n p free)

  -- an operand of as many bits as a name has
  none_as : (o : Option ℕ) (w : ℕ) (a : AtomTree) (ps : List VPlace) → o ≡ Some w → HasWidth (nets v) w a → atom_faults scope o a ps ≡ []
  none_as o w a ps e h = ap (λ (x : Option ℕ). atom_faults scope x a ps) e ∙ none_wide before v mirrors fine w a ps h

  pub sound_plain : (b : Always) (ps : List VPlace) → IsNextBlock v (plain_block b) → always_faults before b ps ≡ []
  sound_plain b ps h =
      none_of_both _ _
      (none_of_both _ _ (no_clock_fault b.clock (place_at 2 ps) h.0.clocked)
      (no_register_fault b.target h.0.width (place_at 3 ps) h.0.register (h.1 b.target (inl refl))))
      (none_as (bits_of register_bits scope b.target) h.0.width b.source (drop 4 ps)
      (register_is before v mirrors fine b.target h.0.width h.0.register) h.0.wide)

  no_reset_fault : (n : List ℕ) (p : VPlace) → In (nets v) (n, 1) → reset_faults before n p ≡ []
  no_reset_fault n p m =
      let bits = net_bits before v mirrors fine n 1 m in
      none_of_both _ _ (bits_named kind_bits p n (kind_of scope n) 1 bits)
      (ap (λ (o : Option ℕ). width_faults (Some 1) o p) bits ∙ met_width (Some 1) 1 p refl)

  none_tested : (b : Resetting) (ps : List VPlace) → IsResetting v b → (In (written_names v) b.target → ⊥) → tested_faults before b ps ≡ []
  none_tested b ps r free =
      let w = b.value.width in
      let needed = bits_of register_bits scope b.target in
      let bits : needed ≡ Some w = register_is before v mirrors fine b.target w r.register in
      let narrow = fine_narrow v fine b.target w (reg_is_net v (b.target, w) r.register) in
      none_of_both _ _
      (none_of_both _ _
      (none_of_both _ _ (no_reset_fault b.reset (place_at 0 ps) r.bit) (none_again b.reset b.tested (place_at 2 ps) r.one_reset))
      (no_register_fault b.target w (place_at 3 ps) r.register free))
      (own_none needed (Some w) (is_constant_fit w (constant_number b.value)) (place_at 4 ps) w refl
      (constant_fits w (constant_number b.value) narrow r.constant_fits)
      (subst (λ (o : Option ℕ). IsMet o w) (sym bits) refl))

  by_edge : (o : Option Edge) (b : Resetting) (ps : List VPlace) → IsResetting v b → (In (written_names v) b.target → ⊥)
      → IsEdge v b.target b.value.width o → resetting_faults_by before o b ps ≡ []
  by_edge None b ps r free edge = none_tested b (drop 2 ps) r free
  by_edge (Some x) b ps r free edge =
      none_of_both _ _
      (none_of_both _ _
      (none_of_both _ _ (no_clock_fault x.clock (place_at 2 ps) edge.0) (none_tested b (drop 5 ps) r free))
      (none_again b.target x.target (place_at 11 ps) edge.1))
      (none_as (bits_of register_bits scope b.target) b.value.width x.source (drop 12 ps)
      (register_is before v mirrors fine b.target b.value.width r.register) edge.2)

  pub sound_resetting : (b : Resetting) (ps : List VPlace) → IsNextBlock v (resetting_block b) → resetting_faults before b ps ≡ []
  sound_resetting b ps h = by_edge b.edge b ps h.0 (h.1 b.target (inl refl)) h.0.clocked

  word_bits_of : (name : List ℕ) (w : Write) → IsWrite v name w → (x : ℕ) × (bits_of word_bits scope w.array ≡ Some x) × HasWidth (nets v) x w.source
  word_bits_of name w h = (
    h.array.width,
    word_is before v mirrors fine w.array h.array.width (h.array, h.is_array, h.named ∙ sym h.one_array, refl),
    h.source_wide,
  )

  none_put : (name : List ℕ) (w : Write) (ps : List VPlace) → IsWrite v name w → written_faults before w ps ≡ []
  none_put name w ps h =
      let r = word_bits_of name w h in
      none_of_both _ _ (none_at before v mirrors fine None w.index (drop 2 ps) h.index_sound tt)
      (none_as (bits_of word_bits scope w.array) r.0 w.source (behind (atom_tokens w.index) (drop 2 ps)) r.1 r.2)

  none_more : (name : List ℕ) (ws : List Write) (ps : List VPlace) → AllByRecursion (IsWrite v name) ws → more_writes_faults before name ws ps ≡ []
  none_more name [] ps h = refl
  none_more name (w ∷ ws) ps h =
      none_of_both _ _
      (none_of_both _ _
      (none_of_both _ _ (none_wide before v mirrors fine 1 w.condition (drop 1 ps) h.0.condition_wide)
      (none_again name w.array (place_at 0 (at_array before w ps)) h.0.one_array))
      (none_put name w (at_array before w ps) h.0))
      (none_more name ws (behind (write_tokens w) ps) h.1)

  none_all : (ws : List Write) (ps : List VPlace) → AreWrites v ws → ((n : List ℕ) → In (first_array ws) n → In (written_names v) n → ⊥)
      → writes_faults before ws ps ≡ []
  none_all [] ps h free = refl
  none_all (w ∷ ws) ps h free =
      let p = place_at 0 (at_array before w ps) in
      let r = word_bits_of w.array w h.0 in
      none_of_both _ _
      (none_of_both _ _
      (none_of_both _ _
      (none_of_both _ _ (none_wide before v mirrors fine 1 w.condition (drop 1 ps) h.0.condition_wide)
      (bits_named word_bits p w.array (kind_of scope w.array) r.0 r.1))
      (none_written w.array p (free w.array (inl refl))))
      (none_put w.array w (at_array before w ps) h.0))
      (none_more w.array ws (behind (write_tokens w) ps) h.1)

  pub sound_writing : (b : Writing) (ps : List VPlace) → IsNextBlock v (writing_block b) → writing_faults before b ps ≡ []
  sound_writing b ps h =
      none_of_both _ _ (no_clock_fault b.clock (place_at 2 ps) h.0.0) (none_all b.writes (drop 4 ps) h.0.1 h.1)
