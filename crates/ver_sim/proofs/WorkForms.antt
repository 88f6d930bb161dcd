-- The works of right sides, form by form.
use Rattle.std.proofs.Common.{◌≡◌, ℕ, ◌≤◌, List, ◌++◌, refl, sym, ap, ◌∙◌, inl, inr, ⊎_elim, arith}
use Rattle.std.specs.Prelude.{Some, true, cond, ◌==◌, slice_get, take, drop}
use Rattle.fir_base.specs.Lists.{In}
use Rattle.fir_base.proofs.Members.{in_either}
use Rattle.fir_bits.specs.Integers.{reading, bits_of, shifted_down}
use Rattle.ver_ast.specs.declared.tree.Verilog.{Verilog}
use Rattle.ver_ast.specs.declared.tree.Rhs.TheVariants as rhs
use Rattle.ver_ast.specs.declared.tree.UnaryOp.{UnaryOp}
use Rattle.ver_ast.specs.declared.tree.BinaryOp.{BinaryOp}
use Rattle.ver_ast.specs.declared.tree.SignedOp.{SignedOp}
use Rattle.ver_ast.specs.Atoms.{AtomTree}
use Rattle.ver_ast.specs.AtomValues.{atom_value}
use Rattle.ver_ast.specs.AtomWidths.{atom_width}
use Rattle.ver_ast.specs.Nets.{nets, variables}
use Rattle.ver_ast.specs.SideValues.{unary_value, binary_value, signed_value}
use Rattle.ver_ast.specs.Stores.{store_of}
use Rattle.ver_sim.specs.declared.declarations.Span.{Span}
use Rattle.ver_sim.specs.declared.read.Read.{Read}
use Rattle.ver_sim.specs.declared.work.Work.TheVariants as work
use Rattle.ver_sim.specs.working.Valued.{env_of}
use Rattle.ver_sim.specs.working.FlatStates.{base_of, depth_of}
use Rattle.ver_sim.specs.working.Operands.{operand_number, operand_places}
use Rattle.ver_sim.specs.working.Reads.{IsReadOf}
use Rattle.ver_sim.specs.working.Works.{narrow}
use Rattle.ver_sim.specs.working.WorksOf.{IsWorkOf}
use Rattle.ver_sim.proofs.ReadPlaces.{operand_reads, pair_reads}
use Rattle.ver_sim.proofs.WordSpans.{words_are}

narrow_is : (w : ℕ) → w ≤ 128 → narrow w ≡ w
narrow_is w le = omega (arith, le)

module _ (v : Verilog) where
  -- a width that is read counts as the operand's
  width_read : (r : Read) (a : AtomTree) → IsReadOf v r a → atom_width (nets v) a ≤ 128 → narrow r.width ≡ atom_width (nets v) a
  width_read r a h le = ap narrow h.width_is ∙ narrow_is (atom_width (nets v) a) le

  pub atom_work : (a : AtomTree) (r : Read) (w : ℕ) → IsReadOf v r a → IsWorkOf v (work.Show r.operand) w (rhs.Atom a)
  atom_work a r w h = record {
    same = λ state values sf fit. ap Some (h.operand_is.same values fit);
    reads = λ q m. operand_reads v q (rhs.Atom a) a r.operand (inl refl) h.operand_is m;
  }

  pub unary_work : (op : UnaryOp) (a : AtomTree) (r : Read) (w : ℕ) → IsReadOf v r a → atom_width (nets v) a ≤ 128 → IsWorkOf v (work.Unary op r.width r.operand) w (rhs.Unary op a)
  unary_work op a r w h le = record {
    same = λ state values sf fit.
        ap (λ (u : ℕ). Some (unary_value op u (operand_number values r.operand))) (width_read r a h le)
        ∙ ap (λ (x : ℕ). Some (unary_value op (atom_width (nets v) a) x)) (h.operand_is.same values fit);
    reads = λ q m. operand_reads v q (rhs.Unary op a) a r.operand (inl refl) h.operand_is m;
  }

  pub binary_work : (op : BinaryOp) (a b : AtomTree) (r s : Read) (w : ℕ) → IsReadOf v r a → IsReadOf v s b → w ≤ 128
      → IsWorkOf v (work.Binary op w r.operand s.operand) w (rhs.Binary a op b)
  binary_work op a b r s w h k le = record {
    same = λ state values sf fit.
        ap (λ (u : ℕ). binary_value op u (operand_number values r.operand) (operand_number values s.operand)) (narrow_is w le)
        ∙ ap (λ (x : ℕ). binary_value op w x (operand_number values s.operand)) (h.operand_is.same values fit)
        ∙ ap (λ (y : ℕ). binary_value op w (atom_value (nets v) (env_of v values) a) y) (k.operand_is.same values fit);
    reads = λ q m. pair_reads v q (rhs.Binary a op b) a b r.operand s.operand (inl refl) (inr (inl refl)) h.operand_is k.operand_is m;
  }

  pub signed_work : (op : SignedOp) (a b : AtomTree) (r s : Read) (w : ℕ) → IsReadOf v r a → IsReadOf v s b → atom_width (nets v) a ≤ 128
      → atom_width (nets v) a ≡ atom_width (nets v) b → IsWorkOf v (work.Signed op r.width r.operand s.operand) w (rhs.Signed a op b)
  signed_work op a b r s w h k le alike = record {
    same = λ state values sf fit.
        let u = atom_width (nets v) a in
        let x = atom_value (nets v) (env_of v values) a in
        let y = atom_value (nets v) (env_of v values) b in
        ap (λ (n : ℕ). signed_value op n (reading true n (operand_number values r.operand)) (reading true n (operand_number values s.operand))) (width_read r a h le)
        ∙ ap (λ (n : ℕ). signed_value op u (reading true u n) (reading true u (operand_number values s.operand))) (h.operand_is.same values fit)
        ∙ ap (λ (n : ℕ). signed_value op u (reading true u x) (reading true u n)) (k.operand_is.same values fit)
        ∙ ap (λ (n : ℕ). signed_value op u (reading true u x) (reading true n y)) alike;
    reads = λ q m. pair_reads v q (rhs.Signed a op b) a b r.operand s.operand (inl refl) (inr (inl refl)) h.operand_is k.operand_is m;
  }

  pub shift_work : (a b : AtomTree) (r s : Read) (w : ℕ) → IsReadOf v r a → IsReadOf v s b → atom_width (nets v) a ≤ 128 → w ≤ 128
      → IsWorkOf v (work.SignedShift r.width w r.operand s.operand) w (rhs.SignedShift a b)
  shift_work a b r s w h k le to = record {
    same = λ state values sf fit.
        let u = atom_width (nets v) a in
        let x = atom_value (nets v) (env_of v values) a in
        ap (λ (n : ℕ). Some (bits_of n (shifted_down (reading true (narrow r.width) (operand_number values r.operand)) (operand_number values s.operand)))) (narrow_is w to)
        ∙ ap (λ (n : ℕ). Some (bits_of w (shifted_down (reading true n (operand_number values r.operand)) (operand_number values s.operand)))) (width_read r a h le)
        ∙ ap (λ (n : ℕ). Some (bits_of w (shifted_down (reading true u n) (operand_number values s.operand)))) (h.operand_is.same values fit)
        ∙ ap (λ (n : ℕ). Some (bits_of w (shifted_down (reading true u x) n))) (k.operand_is.same values fit);
    reads = λ q m. pair_reads v q (rhs.SignedShift a b) a b r.operand s.operand (inl refl) (inr (inl refl)) h.operand_is k.operand_is m;
  }

  pub choose_work : (c a b : AtomTree) (q r s : Read) (w : ℕ) → IsReadOf v q c → IsReadOf v r a → IsReadOf v s b
      → IsWorkOf v (work.Choose q.operand r.operand s.operand) w (rhs.Conditional c a b)
  choose_work c a b q r s w g h k = record {
    same = λ state values sf fit.
        ap (λ (n : ℕ). Some (cond (n == 1) (operand_number values r.operand) (operand_number values s.operand))) (g.operand_is.same values fit)
        ∙ ap (λ (n : ℕ). Some (cond (atom_value (nets v) (env_of v values) c == 1) n (operand_number values s.operand))) (h.operand_is.same values fit)
        ∙ ap (λ (n : ℕ). Some (cond (atom_value (nets v) (env_of v values) c == 1) (atom_value (nets v) (env_of v values) a) n)) (k.operand_is.same values fit);
    reads = λ i m. ⊎_elim
        (λ (j : In (operand_places q.operand) i). operand_reads v i (rhs.Conditional c a b) c q.operand (inl refl) g.operand_is j)
        (λ (j : In (operand_places r.operand ++ operand_places s.operand) i).
        pair_reads v i (rhs.Conditional c a b) a b r.operand s.operand (inr (inl refl)) (inr (inr (inl refl))) h.operand_is k.operand_is j)
        (in_either (operand_places q.operand) (operand_places r.operand ++ operand_places s.operand) i m);
  }

  pub word_work : (m : List ℕ) (a : AtomTree) (r : Read) (span : Span) (w : ℕ) → IsReadOf v r a → span ≡ record { base = base_of (variables v) m; depth = depth_of (variables v) m }
      → IsWorkOf v (work.Word span.base span.depth r.operand) w (rhs.Word m a)
  word_work m a r span w h e = record {
    same = λ state values sf fit.
        ap (λ (s : Span). slice_get (take s.depth (drop s.base state)) (operand_number values r.operand)) e
        ∙ ap (λ (ws : List ℕ). slice_get ws (operand_number values r.operand)) (sym (words_are (variables v) state m))
        ∙ ap (slice_get (store_of (variables v) state m)) (h.operand_is.same values fit);
    reads = λ q i. operand_reads v q (rhs.Word m a) a r.operand (inl refl) h.operand_is i;
  }
