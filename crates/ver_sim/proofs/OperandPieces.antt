-- The pieces of an operand have its value and its width.
use Rattle.std.proofs.Common.{◌≡◌, ℕ, zero, suc, ◌+◌, ◌*◌, ◌/◌, ◌%◌, ◌^◌, ◌<◌, ◌≤◌, List, [], ◌∷◌, ◌++◌, refl, sym, ap, ◌∙◌, arith}
use Rattle.std.specs.Prelude.{sum_by}
use Rattle.std.proofs.Math.Nat.{mul_assoc, add-mul, mod-eq_of_lt, le-mul_of_pos_right}
use Rattle.std.proofs.lemmas.Nat.{pow-add, pow_pos}
use Rattle.std.proofs.lemmas.List.Sums.{sum_by-append}
use Rattle.fir_bits.proofs.Powers.{pow_le}
use Rattle.fir_base.specs.Ticks.{Env}
use Rattle.ver_ast.specs.declared.tree.Verilog.{Verilog}
use Rattle.ver_ast.specs.Atoms.{AtomTree, net, constant, bit_select, part_select, concat, repeat, AtomTrees, no_atoms, atom_before}
use Rattle.ver_ast.specs.AtomValues.{copies, atom_value, joined_value}
use Rattle.ver_ast.specs.AtomWidths.{atom_width, joined_width}
use Rattle.ver_ast.specs.SoundSides.{IsSound, AreSound}
use Rattle.ver_ast.specs.Nets.{nets, width_among}
use Rattle.ver_ast.specs.Valid.{Valid}
use Rattle.ver_ast.proofs.Widths.{atom_fits}
use Rattle.ver_ast.proofs.NextFits.{names_fit, width_there}
use Rattle.ver_order.specs.working.Laws.{FitNets}
use Rattle.ver_sim.specs.declared.piece.Piece.{Piece}
use Rattle.ver_sim.specs.working.Valued.{env_of}
use Rattle.ver_sim.specs.working.Pieces.{piece_width, piece_number, pieces_number, copied_pieces, pieces_of, more_pieces}

-- the same without an end
whole : List ℕ → List Piece → ℕ → ℕ
whole values [] before = before
whole values (p ∷ ps) before = whole values ps (before * 2 ^ piece_width p + piece_number values p)

whole_append : (values : List ℕ) (ps qs : List Piece) (before : ℕ) → whole values (ps ++ qs) before ≡ whole values qs (whole values ps before)
unfolding whole
whole_append values [] qs before = refl
whole_append values (p ∷ ps) qs before = whole_append values ps qs (before * 2 ^ piece_width p + piece_number values p)

-- what stands in front is never more than the whole
front_le : (values : List ℕ) (ps : List Piece) (before : ℕ) → before ≤ whole values ps before
unfolding whole
front_le values [] before = omega arith
front_le values (p ∷ ps) before =
    let grown : before ≤ before * 2 ^ piece_width p = le-mul_of_pos_right before (pow_pos (piece_width p)) in
    omega (arith, grown, front_le values ps (before * 2 ^ piece_width p + piece_number values p))

-- nothing is cut where the whole has 128 bits
no_cut : (values : List ℕ) (ps : List Piece) (before : ℕ) → whole values ps before < 2 ^ 128 → pieces_number values ps before ≡ whole values ps before
unfolding whole pieces_number
no_cut values [] before lt = refl
no_cut values (p ∷ ps) before lt =
    let now = before * 2 ^ piece_width p + piece_number values p in
    let small : now % 2 ^ 128 ≡ now = mod-eq_of_lt {n = now} {m = 2 ^ 128} (omega (arith, lt, front_le values ps now)) in
    ap (pieces_number values ps) small ∙ no_cut values ps now lt

-- two parts behind a front
regroup : (f x y a b : ℕ) → (f * 2 ^ a + x) * 2 ^ b + y ≡ f * 2 ^ (a + b) + (x * 2 ^ b + y)
regroup f x y a b =
    let spread = add-mul (f * 2 ^ a) x (2 ^ b) in
    let joined : f * 2 ^ a * 2 ^ b ≡ f * 2 ^ (a + b) = mul_assoc f (2 ^ a) (2 ^ b) ∙ ap (λ (p : ℕ). f * p) (sym (pow-add 2 a b)) in
    omega (arith, spread, joined)

-- a sound operand of a valid tree has 128 bits at most
pub sound_narrow : (v : Verilog) → Valid v → (a : AtomTree) → IsSound (nets v) a → atom_width (nets v) a ≤ 128
sound_narrow v valid (net n) s = (valid.narrow n (width_among (nets v) n) (width_there (nets v) n s)).1
sound_narrow v valid (constant width value) s = s.1
sound_narrow v valid (bit_select n i) s = omega arith
sound_narrow v valid (part_select n hi lo) s =
    let some : 1 ≤ width_among (nets v) n = omega (arith, s.0) in
    omega (arith, s.1, s.2, (valid.narrow n (width_among (nets v) n) (width_there (nets v) n some)).1)
sound_narrow v valid (concat a more) s = s.2
sound_narrow v valid (repeat count a) s = s.2

copied_width : (n : ℕ) (ps : List Piece) → sum_by piece_width (copied_pieces n ps) ≡ n * sum_by piece_width ps
copied_width zero ps = omega arith
copied_width (suc n) ps = omega (arith, sum_by-append piece_width ps (copied_pieces n ps), copied_width n ps)

mutual
  -- the widths of the pieces together
  pub pieces_width : (v : Verilog) (a : AtomTree) → sum_by piece_width (pieces_of v a) ≡ atom_width (nets v) a
  pieces_width v (net n) = omega arith
  pieces_width v (constant width value) = omega arith
  pieces_width v (bit_select n i) = omega arith
  pieces_width v (part_select n hi lo) = omega arith
  pieces_width v (concat a more) = omega (arith, sum_by-append piece_width (pieces_of v a) (more_pieces v more), pieces_width v a, more_width v more)
  pieces_width v (repeat count a) = copied_width count (pieces_of v a) ∙ ap (λ (w : ℕ). count * w) (pieces_width v a)

  more_width : (v : Verilog) (more : AtomTrees) → sum_by piece_width (more_pieces v more) ≡ joined_width (nets v) more
  more_width v no_atoms = refl
  more_width v (atom_before a more) = omega (arith, sum_by-append piece_width (pieces_of v a) (more_pieces v more), pieces_width v a, more_width v more)

module _ (v : Verilog) (values : List ℕ) (fit : FitNets v (env_of v values)) where
  abbrev env : Env
  env = env_of v values

  copied_whole : (n w x : ℕ) (ps : List Piece) → ((f : ℕ) → whole values ps f ≡ f * 2 ^ w + x) → (f : ℕ) → whole values (copied_pieces n ps) f ≡ f * 2 ^ (n * w) + copies n w x
  unfolding whole
  copied_whole zero w x ps h f =
      let zeros : 0 * w ≡ 0 = omega arith in
      let none : 2 ^ (0 * w) ≡ 1 = ap (λ (k : ℕ). 2 ^ k) zeros in
      omega (arith, ap (λ (k : ℕ). f * k) none)
  copied_whole (suc n) w x ps h f =
      let sum : w + n * w ≡ suc n * w = omega arith in
      whole_append values ps (copied_pieces n ps) f ∙ ap (whole values (copied_pieces n ps)) (h f) ∙ copied_whole n w x ps h (f * 2 ^ w + x)
      ∙ regroup f x (copies n w x) w (n * w) ∙ ap (λ (k : ℕ). f * 2 ^ k + (x * 2 ^ (n * w) + copies n w x)) sum

  mutual
    unfolding whole

    atom_whole : (a : AtomTree) → IsSound (nets v) a → (f : ℕ) → whole values (pieces_of v a) f ≡ f * 2 ^ atom_width (nets v) a + atom_value (nets v) env a
    atom_whole (net n) s f =
        let w = width_among (nets v) n in
        let below : env n < 2 ^ w = fit n w (width_there (nets v) n s) in
        let one : env n / 2 ^ 0 ≡ env n = omega arith in
        ap (λ (x : ℕ). f * 2 ^ w + x) (ap (λ (x : ℕ). x % 2 ^ w) one ∙ mod-eq_of_lt {n = env n} {m = 2 ^ w} below)
    atom_whole (constant width value) s f = refl
    atom_whole (bit_select n i) s f = refl
    atom_whole (part_select n hi lo) s f = refl
    atom_whole (concat a more) s f =
        whole_append values (pieces_of v a) (more_pieces v more) f ∙ ap (whole values (more_pieces v more)) (atom_whole a s.0 f)
        ∙ more_whole more s.1 (f * 2 ^ atom_width (nets v) a + atom_value (nets v) env a)
        ∙ regroup f (atom_value (nets v) env a) (joined_value (nets v) env more) (atom_width (nets v) a) (joined_width (nets v) more)
    atom_whole (repeat count a) s f =
        copied_whole count (atom_width (nets v) a) (atom_value (nets v) env a) (pieces_of v a) (atom_whole a s.0) f

    more_whole : (more : AtomTrees) → AreSound (nets v) more → (f : ℕ) → whole values (more_pieces v more) f ≡ f * 2 ^ joined_width (nets v) more + joined_value (nets v) env more
    more_whole no_atoms s f = let one : 2 ^ 0 ≡ 1 = refl in omega (arith, ap (λ (k : ℕ). f * k) one)
    more_whole (atom_before a more) s f =
        whole_append values (pieces_of v a) (more_pieces v more) f ∙ ap (whole values (more_pieces v more)) (atom_whole a s.0 f)
        ∙ more_whole more s.1 (f * 2 ^ atom_width (nets v) a + atom_value (nets v) env a)
        ∙ regroup f (atom_value (nets v) env a) (joined_value (nets v) env more) (atom_width (nets v) a) (joined_width (nets v) more)

  pub pieces_are : (a : AtomTree) → IsSound (nets v) a → atom_width (nets v) a ≤ 128 → pieces_number values (pieces_of v a) 0 ≡ atom_value (nets v) env a
  pieces_are a s le =
      let value : whole values (pieces_of v a) 0 ≡ atom_value (nets v) env a = atom_whole a s 0 ∙ (omega arith) in
      let below : atom_value (nets v) env a < 2 ^ atom_width (nets v) a = atom_fits (nets v) env a s (names_fit (nets v) env fit a s) in
      let room : 2 ^ atom_width (nets v) a ≤ 2 ^ 128 = pow_le (atom_width (nets v) a) 128 le in
      no_cut values (pieces_of v a) 0 (omega (arith, value, below, room)) ∙ value
