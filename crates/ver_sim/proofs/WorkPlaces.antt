-- What is computed hangs on the places alone that are read.
use Rattle.std.proofs.Common.{◌≡◌, ℕ, ◌+◌, ◌*◌, ◌/◌, ◌%◌, ◌^◌, List, [], ◌∷◌, ◌++◌, cond, true, refl, ap, ◌∙◌, inl}
use Rattle.std.specs.Prelude.{◌==◌, flat_map, take, drop, slice_get, slice_index, Some}
use Rattle.fir_base.specs.Lists.{In}
use Rattle.fir_base.proofs.Members.{in_left, in_right}
use Rattle.fir_bits.specs.Integers.{reading, bits_of, shifted_down}
use Rattle.ver_ast.specs.SideValues.{unary_value, binary_value, signed_value}
use Rattle.ver_sim.specs.declared.operand.Operand.{Operand}
use Rattle.ver_sim.specs.declared.operand.Operand.TheVariants as operand
use Rattle.ver_sim.specs.declared.piece.Piece.{Piece}
use Rattle.ver_sim.specs.declared.piece.Piece.TheVariants as piece
use Rattle.ver_sim.specs.declared.work.Work.{Work}
use Rattle.ver_sim.specs.declared.work.Work.TheVariants as work
use Rattle.ver_sim.specs.working.Operands.{operand_number, operand_places}
use Rattle.ver_sim.specs.working.Pieces.{piece_number, piece_places, piece_width, pieces_number}
use Rattle.ver_sim.specs.working.Works.{narrow, work_number, work_places}

module _ (old new : List ℕ) where
  -- the places have the same values
  abbrev pub AgreeAt : List ℕ → Type 0
  AgreeAt places = (q : ℕ) → In places q → slice_index new q ≡ slice_index old q

  first_of_two : (ps qs : List ℕ) → AgreeAt (ps ++ qs) → AgreeAt ps
  first_of_two ps qs h q m = h q (in_left ps qs q m)

  last_of_two : (ps qs : List ℕ) → AgreeAt (ps ++ qs) → AgreeAt qs
  last_of_two ps qs h q m = h q (in_right ps qs q m)

  same_piece : (p : Piece) → AgreeAt (piece_places p) → piece_number new p ≡ piece_number old p
  same_piece (piece.Part place low width) h = ap (λ (x : ℕ). x / 2 ^ low % 2 ^ width) (h place (inl refl))
  same_piece (piece.Number number width) h = refl

  same_pieces : (ps : List Piece) (before : ℕ) → AgreeAt (flat_map piece_places ps) → pieces_number new ps before ≡ pieces_number old ps before
  unfolding pieces_number
  same_pieces [] before h = refl
  same_pieces (p ∷ ps) before h =
      let rest = flat_map piece_places ps in
      ap (λ (x : ℕ). pieces_number new ps ((before * 2 ^ piece_width p + x) % 2 ^ 128)) (same_piece p (first_of_two (piece_places p) rest h))
      ∙ same_pieces ps ((before * 2 ^ piece_width p + piece_number old p) % 2 ^ 128) (last_of_two (piece_places p) rest h)

  same_operand : (a : Operand) → AgreeAt (operand_places a) → operand_number new a ≡ operand_number old a
  same_operand (operand.Net place) h = h place (inl refl)
  same_operand (operand.Constant number) h = refl
  same_operand (operand.Pieces pieces) h = same_pieces pieces.items 0 h

  -- two operands, in what is made of their numbers
  same_pair : {B : Type 0} → (f : ℕ → ℕ → B) (a b : Operand) → AgreeAt (operand_places a ++ operand_places b)
      → f (operand_number new a) (operand_number new b) ≡ f (operand_number old a) (operand_number old b)
  same_pair f a b h =
      ap (λ (x : ℕ). f x (operand_number new b)) (same_operand a (first_of_two (operand_places a) (operand_places b) h))
      ∙ ap (f (operand_number old a)) (same_operand b (last_of_two (operand_places a) (operand_places b) h))

  pub same_work : (state : List ℕ) (w : Work) → AgreeAt (work_places w) → work_number w state new ≡ work_number w state old
  same_work state (work.Show a) h = ap Some (same_operand a h)
  same_work state (work.Unary op width a) h = ap (λ (x : ℕ). Some (unary_value op (narrow width) x)) (same_operand a h)
  same_work state (work.Binary op width a b) h = same_pair (λ (x y : ℕ). binary_value op (narrow width) x y) a b h
  same_work state (work.Signed op width a b) h =
      same_pair (λ (x y : ℕ). signed_value op (narrow width) (reading true (narrow width) x) (reading true (narrow width) y)) a b h
  same_work state (work.SignedShift from to a b) h =
      same_pair (λ (x y : ℕ). Some (bits_of (narrow to) (shifted_down (reading true (narrow from) x) y))) a b h
  same_work state (work.Choose c a b) h =
      let rest = operand_places a ++ operand_places b in
      ap (λ (x : ℕ). Some (cond (x == 1) (operand_number new a) (operand_number new b))) (same_operand c (first_of_two (operand_places c) rest h))
      ∙ same_pair (λ (x y : ℕ). Some (cond (operand_number old c == 1) x y)) a b (last_of_two (operand_places c) rest h)
  same_work state (work.Word base depth index) h = ap (slice_get (take depth (drop base state))) (same_operand index h)
  same_work state (work.Reset reset value word) h = ap (λ (x : ℕ). Some (cond (x == 1) value (slice_index state word))) (h reset (inl refl))
