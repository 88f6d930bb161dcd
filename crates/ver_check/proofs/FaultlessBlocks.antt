-- A block without a fault is sound, and writes what no block before it writes.
use Rattle.std.proofs.Common.{◌≡◌, ℕ, ◌<◌, ◌^◌, List, [], ◌∷◌, refl, sym, ap, ◌∙◌, subst}
use Rattle.std.specs.Prelude.{Option, Some, None, drop}
use Rattle.std.specs.List.{AllByRecursion}
use Rattle.fir_base.specs.Lists.{In}
use Rattle.ver_ast.specs.declared.place.VPlace.{VPlace}
use Rattle.ver_ast.specs.declared.tree.Verilog.{Verilog}
use Rattle.ver_ast.specs.declared.tree.Always.{Always}
use Rattle.ver_ast.specs.declared.tree.Edge.{Edge}
use Rattle.ver_ast.specs.declared.tree.Resetting.{Resetting}
use Rattle.ver_ast.specs.declared.tree.Write.{Write}
use Rattle.ver_ast.specs.declared.tree.Writing.{Writing}
use Rattle.ver_ast.specs.AtomForms.{constant_number}
use Rattle.ver_ast.specs.AtomWidths.{atom_width}
use Rattle.ver_ast.specs.Grammar.{atom_tokens, write_tokens}
use Rattle.ver_ast.specs.Nets.{clocks, first_array, nets, plain_block, regs, resetting_block, writing_block}
use Rattle.ver_ast.specs.Valid.{AreWrites, IsEdge, IsWrite}
use Rattle.ver_valid.specs.working.Scopes.{HasArray, IsFine}
use Rattle.ver_valid.specs.working.Walks.{IsNextBlock, written_names}
use Rattle.ver_check.specs.Scopes.{Scope, bits_of, kind_of, register_bits, word_bits}
use Rattle.ver_places.specs.Places.{behind, place_at}
use Rattle.ver_check.specs.OperandFaults.{atom_faults, is_constant_fit, name_faults, own_faults}
use Rattle.ver_check.specs.SideFaults.{clock_faults}
use Rattle.ver_check.specs.ItemFaults.{Before, always_faults, at_array, driven_faults, driver_of, more_writes_faults, register_faults, reset_faults, resetting_faults, resetting_faults_by, tested_faults, writes_faults, writing_faults, written_faults}
use Rattle.ver_check.specs.working.Laws.{IsShallowAtom, IsShallowEdge, IsShallowWrite}
use Rattle.ver_check.proofs.Blocks.{again_same}
use Rattle.ver_check.proofs.DriverNames.{not_driven, only_target}
use Rattle.ver_check.proofs.Faultless.{first_empty, second_empty}
use Rattle.ver_check.proofs.OwnFaults.{IsMet, constant_is, named_bits, own_fit}
use Rattle.ver_check.proofs.FaultlessOperands.{faultless_operand}
use Rattle.ver_check.proofs.FaultlessSides.{faultless_clock, of_width, operand_of}
use Rattle.ver_check.proofs.ReadNames.{register_known, reset_bits, target_bits}
use Rattle.ver_check.proofs.Mirrors.{Mirrors, bits_net, bits_register, bits_word, clock_in}

module _ (before : Before) (v : Verilog) (mirrors : Mirrors before v) (fine : IsFine v) where
  abbrev scope : Scope
  scope = before.scope

  a_clock : (n : List ℕ) (p : VPlace) → clock_faults p n (kind_of scope n) ≡ [] → In (clocks v) n
  a_clock n p e = clock_in before v mirrors fine n (faultless_clock before v mirrors fine p n e)

  not_written : (n : List ℕ) (p : VPlace) → driven_faults p n (driver_of before.written n) ≡ [] → In (written_names v) n → ⊥
  not_written n p e = not_driven before.written (written_names v) mirrors.written n p e

  -- a register that no block before writes
  a_register : (n : List ℕ) (p : VPlace) → register_faults before n p ≡ []
      → (w : ℕ) × (bits_of register_bits scope n ≡ Some w) × In (regs v) (n, w) × (In (written_names v) n → ⊥)
  a_register n p e =
      let r = register_known before n p e in (
        r.0,
        r.1,
        bits_register before v mirrors fine n r.0 r.1,
        not_written n p (second_empty (name_faults register_bits p n (kind_of scope n)) _ e),
      )

  pub faultless_plain : (b : Always) (ps : List VPlace) → always_faults before b ps ≡ [] → IsShallowAtom b.source → IsNextBlock v (plain_block b)
  faultless_plain b ps e s =
      let front = first_empty _ _ e in
      let r = a_register b.target (place_at 3 ps) (second_empty _ _ front) in
      let needed = bits_of register_bits scope b.target in
      let f = faultless_operand before v mirrors fine needed b.source (drop 4 ps) (second_empty _ _ e) in (
        record {
          clocked = a_clock b.clock (place_at 2 ps) (first_empty _ _ front);
          width = r.0;
          register = r.2;
          wide = record {
            operand = operand_of before v mirrors fine needed b.source f s;
            wide = subst (λ (o : Option ℕ). IsMet o (atom_width (nets v) b.source)) r.1 f.met;
          };
        },
        λ n m k. only_target (written_names v) b.target n r.3 m k,
      )

  -- what an asynchronous block tests and shows
  record IsTested (b : Resetting) : Type 0 where
    bit : In (nets v) (b.reset, 1)
    one_reset : b.tested ≡ b.reset
    bits : bits_of register_bits scope b.target ≡ Some b.value.width
    fits : constant_number b.value < 2 ^ b.value.width
    free : In (written_names v) b.target → ⊥

  a_reset : (n : List ℕ) (p : VPlace) → reset_faults before n p ≡ [] → In (nets v) (n, 1)
  a_reset n p e = bits_net before v mirrors fine n 1 (reset_bits before n p e)

  tested_block : (b : Resetting) (ps : List VPlace) → tested_faults before b ps ≡ [] → IsTested b
  tested_block b ps e =
      let front = first_empty _ _ e in
      let first = first_empty _ _ front in
      let r = a_register b.target (place_at 3 ps) (second_empty _ _ front) in
      let needed = bits_of register_bits scope b.target in
      let fit = is_constant_fit b.value.width (constant_number b.value) in
      let own : own_faults needed (Some b.value.width) fit (place_at 4 ps) ≡ [] = second_empty _ _ e in
      record {
        bit = a_reset b.reset (place_at 0 ps) (first_empty _ _ first);
        one_reset = sym (again_same before b.reset b.tested (place_at 2 ps) (second_empty _ _ first));
        bits = target_bits before b ps e;
        fits = (constant_is b.value.width (constant_number b.value) (own_fit needed (Some b.value.width) fit (place_at 4 ps) own)).1;
        free = r.3;
      }

  tested_sound : (b : Resetting) → IsTested b → IsEdge v b.target b.value.width b.edge → IsNextBlock v (resetting_block b)
  tested_sound b t edge = (
    record {
      bit = t.bit;
      one_reset = t.one_reset;
      register = bits_register before v mirrors fine b.target b.value.width t.bits;
      constant_fits = t.fits;
      clocked = edge;
    },
    λ n m k. only_target (written_names v) b.target n t.free m k,
  )

  by_edge : (o : Option Edge) (b : Resetting) (ps : List VPlace) → resetting_faults_by before o b ps ≡ [] → IsShallowEdge o
      → IsTested b × IsEdge v b.target b.value.width o
  by_edge None b ps e s = (tested_block b (drop 2 ps) e, tt)
  by_edge (Some x) b ps e s =
      let front = first_empty _ _ e in
      let first = first_empty _ _ front in
      let t = tested_block b (drop 5 ps) (second_empty _ _ first) in
      let needed = bits_of register_bits scope b.target in
      let f = faultless_operand before v mirrors fine needed x.source (drop 12 ps) (second_empty _ _ e) in (
        t,
        (
          a_clock x.clock (place_at 2 ps) (first_empty _ _ first),
          sym (again_same before b.target x.target (place_at 11 ps) (second_empty _ _ front)),
          record {
            operand = operand_of before v mirrors fine needed x.source f s;
            wide = subst (λ (o : Option ℕ). IsMet o (atom_width (nets v) x.source)) t.bits f.met;
          },
        ),
      )

  pub faultless_resetting : (b : Resetting) (ps : List VPlace) → resetting_faults before b ps ≡ [] → IsShallowEdge b.edge → IsNextBlock v (resetting_block b)
  faultless_resetting b ps e s = let r = by_edge b.edge b ps e s in tested_sound b r.0 r.1

  a_write : (name : List ℕ) (w : Write) (x : ℕ) (ps qs : List VPlace) → HasArray v name x → bits_of word_bits scope w.array ≡ Some x → w.array ≡ name
      → atom_faults scope (Some 1) w.condition ps ≡ [] → written_faults before w qs ≡ [] → IsShallowWrite w → IsWrite v name w
  a_write name w x ps qs k bits same condition written s =
      let needed = bits_of word_bits scope w.array in
      let index = faultless_operand before v mirrors fine None w.index (drop 2 qs) (first_empty _ _ written) in
      let source = faultless_operand before v mirrors fine needed w.source (behind (atom_tokens w.index) (drop 2 qs)) (second_empty _ _ written) in
      let wide : atom_width (nets v) w.source ≡ x = subst (λ (o : Option ℕ). IsMet o (atom_width (nets v) w.source)) bits source.met in
      record {
        one_array = same;
        array = k.0;
        is_array = k.1;
        named = k.2;
        condition_wide = of_width before v mirrors fine 1 w.condition ps condition s.0;
        index_sound = operand_of before v mirrors fine None w.index index s.1;
        source_wide = record { operand = operand_of before v mirrors fine needed w.source source s.2; wide = wide ∙ sym k.3 };
      }

  more_writes : (name : List ℕ) (x : ℕ) (ws : List Write) (ps : List VPlace) → HasArray v name x → bits_of word_bits scope name ≡ Some x
      → more_writes_faults before name ws ps ≡ [] → AllByRecursion IsShallowWrite ws → AllByRecursion (IsWrite v name) ws
  more_writes name x [] ps k bits e s = tt
  more_writes name x (w ∷ ws) ps k bits e s =
      let here = first_empty _ _ e in
      let front = first_empty _ _ here in
      let same = again_same before name w.array (place_at 0 (at_array before w ps)) (second_empty _ _ front) in (
        a_write name w x (drop 1 ps) (at_array before w ps) k (ap (bits_of word_bits scope) (sym same) ∙ bits) (sym same) (first_empty _ _ front)
            (second_empty _ _ here) s.0,
        more_writes name x ws (behind (write_tokens w) ps) k bits (second_empty _ _ e) s.1,
      )

  all_writes : (ws : List Write) (ps : List VPlace) → writes_faults before ws ps ≡ []
      → AllByRecursion IsShallowWrite ws → AreWrites v ws × ((n : List ℕ) → In (first_array ws) n → In (written_names v) n → ⊥)
  all_writes [] ps e s = (tt, λ n m k. m)
  all_writes (w ∷ ws) ps e s =
      let here = first_empty _ _ e in
      let front = first_empty _ _ here in
      let first = first_empty _ _ front in
      let p = place_at 0 (at_array before w ps) in
      let r = named_bits word_bits p w.array (kind_of scope w.array) (second_empty _ _ first) in
      let k = bits_word before v mirrors fine w.array r.0 r.1 in
      let free = not_written w.array p (second_empty _ _ front) in (
        (
          a_write w.array w r.0 (drop 1 ps) (at_array before w ps) k r.1 refl (first_empty _ _ first) (second_empty _ _ here) s.0,
          more_writes w.array r.0 ws (behind (write_tokens w) ps) k r.1 (second_empty _ _ e) s.1,
        ),
        λ n m i. only_target (written_names v) w.array n free m i,
      )

  pub faultless_writing : (b : Writing) (ps : List VPlace) → writing_faults before b ps ≡ [] → AllByRecursion IsShallowWrite b.writes
      → IsNextBlock v (writing_block b)
  faultless_writing b ps e s =
      let clock = a_clock b.clock (place_at 2 ps) (first_empty _ _ e) in
      let r = all_writes b.writes (drop 4 ps) (second_empty _ _ e) s in
      ((clock, r.0), r.1)
