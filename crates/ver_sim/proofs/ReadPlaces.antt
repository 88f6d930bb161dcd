-- The pieces of an operand, and the operands of a right side, read the nets that stand in them.
use Rattle.std.proofs.Common.{ℕ, zero, suc, List, [], ◌∷◌, ◌++◌, refl, inl, inr, ◌⊎◌, ⊎_elim, subst}
use Rattle.std.specs.Prelude.{flat_map}
use Rattle.fir_base.specs.Lists.{In}
use Rattle.fir_base.proofs.Members.{in_left, in_right, in_either, in_flat_map}
use Rattle.ver_ast.specs.declared.tree.Verilog.{Verilog}
use Rattle.ver_ast.specs.declared.tree.Rhs.{Rhs}
use Rattle.ver_ast.specs.Atoms.{AtomTree, net, constant, bit_select, part_select, concat, repeat, AtomTrees, no_atoms, atom_before}
use Rattle.ver_ast.specs.Names.{atom_names, joined_names, rhs_atoms, rhs_names}
use Rattle.ver_sim.specs.declared.operand.Operand.{Operand}
use Rattle.ver_sim.specs.declared.piece.Piece.{Piece}
use Rattle.ver_sim.specs.working.Valued.{place_among, valued, IsPlaceAmong}
use Rattle.ver_sim.specs.working.Pieces.{copied_pieces, more_pieces, piece_places, pieces_of}
use Rattle.ver_sim.specs.working.Operands.{IsOperandOf, operand_places}
use Rattle.ver_sim.proofs.PairLists.{flat_map-append}

module _ (v : Verilog) (q : ℕ) where
  pub place_of_one : (n : List ℕ) → In (place_among (valued v) n ∷ []) q → IsPlaceAmong v (n ∷ []) q
  place_of_one n (inl e) = (n, inl refl, e)
  place_of_one n (inr m) = absurd m

  among_more : (ns ms : List (List ℕ)) → ((n : List ℕ) → In ns n → In ms n) → IsPlaceAmong v ns q → IsPlaceAmong v ms q
  among_more ns ms more p = (p.0, more p.0 p.1, p.2)

  abbrev Reads : List Piece → Type 0
  Reads ps = In (flat_map piece_places ps) q

  either_reads : (ps rs : List Piece) → Reads (ps ++ rs) → Reads ps ⊎ Reads rs
  either_reads ps rs m = in_either (flat_map piece_places ps) (flat_map piece_places rs) q (subst (λ (qs : List ℕ). In qs q) (flat_map-append piece_places ps rs) m)

  copied_reads : (n : ℕ) (ps : List Piece) → Reads (copied_pieces n ps) → Reads ps
  copied_reads zero ps m = absurd m
  copied_reads (suc n) ps m = ⊎_elim (λ (i : Reads ps). i) (λ (i : Reads (copied_pieces n ps)). copied_reads n ps i) (either_reads ps (copied_pieces n ps) m)

  mutual
    pub atom_reads : (a : AtomTree) → Reads (pieces_of v a) → IsPlaceAmong v (atom_names a) q
    atom_reads (net n) m = place_of_one n m
    atom_reads (constant width value) m = absurd m
    atom_reads (bit_select n i) m = place_of_one n m
    atom_reads (part_select n hi lo) m = place_of_one n m
    atom_reads (concat a more) m =
        ⊎_elim
        (λ (i : Reads (pieces_of v a)). among_more (atom_names a) (atom_names a ++ joined_names more) (in_left (atom_names a) (joined_names more)) (atom_reads a i))
        (λ (i : Reads (more_pieces v more)). among_more (joined_names more) (atom_names a ++ joined_names more) (in_right (atom_names a) (joined_names more)) (more_reads more i))
        (either_reads (pieces_of v a) (more_pieces v more) m)
    atom_reads (repeat count a) m = atom_reads a (copied_reads count (pieces_of v a) m)

    more_reads : (more : AtomTrees) → Reads (more_pieces v more) → IsPlaceAmong v (joined_names more) q
    more_reads no_atoms m = absurd m
    more_reads (atom_before a more) m =
        ⊎_elim
        (λ (i : Reads (pieces_of v a)). among_more (atom_names a) (atom_names a ++ joined_names more) (in_left (atom_names a) (joined_names more)) (atom_reads a i))
        (λ (i : Reads (more_pieces v more)). among_more (joined_names more) (atom_names a ++ joined_names more) (in_right (atom_names a) (joined_names more)) (more_reads more i))
        (either_reads (pieces_of v a) (more_pieces v more) m)

  -- an operand of a right side
  pub operand_reads : (r : Rhs) (a : AtomTree) (o : Operand) → In (rhs_atoms r) a → IsOperandOf v o a → In (operand_places o) q → IsPlaceAmong v (rhs_names r) q
  operand_reads r a o i h m = among_more (atom_names a) (rhs_names r) (λ n j. in_flat_map atom_names (rhs_atoms r) a n i j) (h.reads q m)

  pub pair_reads : (r : Rhs) (a b : AtomTree) (o p : Operand) → In (rhs_atoms r) a → In (rhs_atoms r) b → IsOperandOf v o a → IsOperandOf v p b
      → In (operand_places o ++ operand_places p) q → IsPlaceAmong v (rhs_names r) q
  pair_reads r a b o p i j h k m =
      ⊎_elim
      (λ (l : In (operand_places o) q). operand_reads r a o i h l)
      (λ (l : In (operand_places p) q). operand_reads r b p j k l)
      (in_either (operand_places o) (operand_places p) q m)
