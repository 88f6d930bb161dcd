-- Operands by number: the pieces of each form, and what is read of them.
use Rattle.std.proofs.Common.{◌≡◌, ℕ, zero, suc, ◌+◌, ◌-◌, ◌%◌, ◌^◌, ◌<◌, ◌≤◌, min, List, [], ◌∷◌, ◌++◌, length, get_or, refl, sym, ap, ◌∙◌, subst, arith, append_assoc, append-nil}
use Rattle.std.specs.Prelude.{Option, Some, None, unwrap_or, Result, OnOk, Ok, Err, flat_map, sum_by, slice_index, Vec}
use Rattle.std.specs.declared.alloc.Global.{Global}
use Rattle.std.proofs.Math.Nat.{mod-eq_of_lt}
use Rattle.fir_bits.proofs.Powers.{pow_le}
use Rattle.ver_ast.specs.declared.tree.Verilog.{Verilog}
use Rattle.ver_ast.specs.declared.tree.Constant.{Constant}
use Rattle.ver_ast.specs.AtomForms.{number_of, constant_number}
use Rattle.ver_ast.specs.Atoms.{AtomTree, net, constant, bit_select, part_select, atoms_of}
use Rattle.ver_ast.specs.AtomWidths.{atom_width}
use Rattle.ver_ast.specs.Nets.{nets, names_of, width_among}
use Rattle.ver_ast.specs.SoundSides.{IsSound}
use Rattle.ver_ast.specs.Valid.{Valid}
use Rattle.ver_ast.specs.working.AtomSizes.{atom_size, atoms_size}
use Rattle.ver_ast.proofs.NextFits.{width_there}
use Rattle.fir_base.specs.Lists.{In}
use Rattle.ver_sim.specs.declared.piece.Piece.{Piece}
use Rattle.ver_sim.specs.declared.piece.Piece.TheVariants as piece
use Rattle.ver_sim.specs.declared.operand.Operand.{Operand}
use Rattle.ver_sim.specs.declared.operand.Operand.TheVariants as operand
use Rattle.ver_sim.specs.declared.read.Read.{Read}
use Rattle.ver_sim.specs.declared.tables.Tables.{Tables}
use Rattle.ver_sim.specs.working.Valued.{place_among, valued}
use Rattle.ver_sim.specs.working.Pieces.{piece_places, piece_width, copied_pieces, pieces_number, pieces_of}
use Rattle.ver_sim.specs.working.Operands.{operand_number, operand_places}
use Rattle.ver_sim.specs.working.Reads.{IsReadOf}
use Rattle.ver_sim.specs.working.Tables.{Know}
use Rattle.ver_sim.proofs.KnownNames.{wide_is_net, net_is_valued}
use Rattle.ver_sim.proofs.OperandPieces.{pieces_are, pieces_width, sound_narrow}
use Rattle.ver_sim.proofs.ReadPlaces.{atom_reads, place_of_one}

-- a number that fits a width is in its type
pub fitting_number : (o : Option ℕ) (w : ℕ) → w ≤ 128 → number_of o < 2 ^ w → unwrap_or o 0 ≡ number_of o
fitting_number (Some x) w narrow h = refl
fitting_number None w narrow h = absurd (omega (arith, h, pow_le w 128 narrow))

-- what is told of the places and the widths of nets
abbrev pub TellsPlace : Tables → List ℕ → ℕ → Type 0
TellsPlace t n place = (v : Verilog) → Know v t → In (valued v) n → place ≡ place_among (valued v) n

abbrev pub TellsWidth : Tables → List ℕ → ℕ → Type 0
TellsWidth t n width = (v : Verilog) → Know v t → In (names_of (nets v)) n → width ≡ width_among (nets v) n

pub net_place : (t : Tables) (n : List ℕ) (place : ℕ) → TellsPlace t n place → (v : Verilog) → Know v t → 1 ≤ width_among (nets v) n → place ≡ place_among (valued v) n
net_place t n place tells v k le = tells v k (net_is_valued v n (wide_is_net v n le))

-- the piece of each form that has one
pub net_piece : (t : Tables) (n : List ℕ) (place width : ℕ) → TellsPlace t n place → TellsWidth t n width → (v : Verilog) → Know v t → IsSound (nets v) (net n)
    → piece.Part place 0 width ∷ [] ≡ pieces_of v (net n)
net_piece t n place width p w v k s =
    ap (λ (x : ℕ). piece.Part x 0 width ∷ []) (net_place t n place p v k s)
    ∙ ap (λ (x : ℕ). piece.Part (place_among (valued v) n) 0 x ∷ []) (w v k (wide_is_net v n s))

pub constant_piece : (c : Constant) (x : ℕ) → x ≡ unwrap_or c.number 0 → (v : Verilog) → IsSound (nets v) (constant c.width (constant_number c))
    → piece.Number x c.width ∷ [] ≡ pieces_of v (constant c.width (constant_number c))
constant_piece c x e v s = ap (λ (y : ℕ). piece.Number y c.width ∷ []) (e ∙ fitting_number c.number c.width s.1 s.2)

pub bit_piece : (t : Tables) (n : List ℕ) (place i : ℕ) → TellsPlace t n place → (v : Verilog) → Know v t → IsSound (nets v) (bit_select n i)
    → piece.Part place i 1 ∷ [] ≡ pieces_of v (bit_select n i)
bit_piece t n place i p v k s = ap (λ (x : ℕ). piece.Part x i 1 ∷ []) (net_place t n place p v k (omega (arith, s.0)))

pub part_piece : (t : Tables) (n : List ℕ) (place hi lo less width : ℕ) → TellsPlace t n place → less ≡ hi - lo → width ≡ min (less + 1) 4294967295
    → (v : Verilog) → Know v t → IsSound (nets v) (part_select n hi lo) → piece.Part place lo width ∷ [] ≡ pieces_of v (part_select n hi lo)
part_piece t n place hi lo less width p l w v k s =
    let some : 1 ≤ width_among (nets v) n = omega (arith, s.0) in
    let narrow = (k.valid.narrow n (width_among (nets v) n) (width_there (nets v) n some)).1 in
    let wide : width ≡ hi + 1 - lo = omega (arith, l, w, s.1, s.2, narrow) in
    ap (λ (x : ℕ). piece.Part x lo width ∷ []) (net_place t n place p v k some) ∙ ap (λ (x : ℕ). piece.Part (place_among (valued v) n) lo x ∷ []) wide

-- what is put for a form is put for the operand
pub put_form : {E : Type 0} → (result : Result (Unit {0}) E) (new old : List Piece) (p : Piece) (a b : AtomTree) (t : Tables) → b ≡ a
    → ((v : Verilog) → Know v t → IsSound (nets v) b → p ∷ [] ≡ pieces_of v b) → OnOk result (new ≡ old ++ p ∷ [])
    → OnOk result ((v : Verilog) → Know v t → IsSound (nets v) a → new ≡ old ++ pieces_of v a)
put_form (Ok x) new old p a b t e h n =
    λ v k s. n ∙ ap (λ (ps : List Piece). old ++ ps) (h v k (subst (IsSound (nets v)) (sym e) s)) ∙ ap (λ (c : AtomTree). old ++ pieces_of v c) e
put_form (Err x) new old p a b t e h n = tt

-- an operand of a list is no larger than the list
pub item_size : (atoms : List AtomTree) (i : ℕ) (d : AtomTree) → i < length atoms → atom_size (get_or atoms i d) ≤ atoms_size (atoms_of atoms)
item_size [] i d h = absurd (omega arith)
item_size (a ∷ more) zero d h = omega arith
item_size (a ∷ more) (suc i) d h = omega (arith, item_size more i d (omega arith))

-- copies, one more
pub copies_next : (now new start part : List Piece) (count counter : ℕ) → counter < count → now ++ copied_pieces (count - counter) part ≡ start
    → new ≡ now ++ part → new ++ copied_pieces (count - (counter + 1)) part ≡ start
copies_next now new start part count counter lt h n =
    let left : count - counter ≡ suc (count - (counter + 1)) = omega (arith, lt) in
    ap (λ (ps : List Piece). ps ++ copied_pieces (count - (counter + 1)) part) n ∙ append_assoc now part (copied_pieces (count - (counter + 1)) part)
    ∙ ap (λ (j : ℕ). now ++ copied_pieces j part) (sym left) ∙ h

pub copies_none : (now start part : List Piece) (count counter : ℕ) → count ≤ counter → now ++ copied_pieces (count - counter) part ≡ start → now ≡ start
copies_none now start part count counter le h =
    let none : count - counter ≡ 0 = omega (arith, le) in
    sym (append-nil now) ∙ ap (λ (j : ℕ). now ++ copied_pieces j part) (sym none) ∙ h

-- what is read of the forms
pub net_read : (t : Tables) (n : List ℕ) (place width : ℕ) → TellsPlace t n place → TellsWidth t n width → (v : Verilog) → Know v t → IsSound (nets v) (net n)
    → IsReadOf v (record { operand = operand.Net place; width = width }) (net n)
net_read t n place width p w v k s = record {
  operand_is = record {
    same = λ values fit. ap (slice_index values) (net_place t n place p v k s);
    reads = λ q m. place_of_one v q n (subst (λ (x : ℕ). In (x ∷ []) q) (net_place t n place p v k s) m);
  };
  width_is = w v k (wide_is_net v n s);
}

pub constant_read : (c : Constant) (x : ℕ) → x ≡ unwrap_or c.number 0 → (v : Verilog) → IsSound (nets v) (constant c.width (constant_number c))
    → IsReadOf v (record { operand = operand.Constant x; width = c.width }) (constant c.width (constant_number c))
constant_read c x e v s = record {
  operand_is = record { same = λ values fit. e ∙ fitting_number c.number c.width s.1 s.2; reads = λ q m. absurd m };
  width_is = refl;
}

pub pieces_read : (r : Read) (out : Vec Piece Global) (v : Verilog) → Valid v → (a : AtomTree) → IsSound (nets v) a → out.items ≡ pieces_of v a
    → r.operand ≡ operand.Pieces out → r.width ≡ sum_by piece_width out.items % 2 ^ 32 → IsReadOf v r a
pieces_read r out v valid a s is o w =
    let narrow = sound_narrow v valid a s in
    record {
      operand_is = record {
        same = λ values fit. ap (operand_number values) o ∙ ap (λ (ps : List Piece). pieces_number values ps 0) is ∙ pieces_are v values fit a s narrow;
        reads = λ q m. atom_reads v q a (subst (λ (ps : List Piece). In (flat_map piece_places ps) q) is (subst (λ (x : Operand). In (operand_places x) q) o m));
      };
      width_is =
          w ∙ ap (λ (ps : List Piece). sum_by piece_width ps % 2 ^ 32) is ∙ ap (λ (n : ℕ). n % 2 ^ 32) (pieces_width v a)
          ∙ mod-eq_of_lt {n = atom_width (nets v) a} {m = 2 ^ 32} (omega (arith, narrow));
    }
