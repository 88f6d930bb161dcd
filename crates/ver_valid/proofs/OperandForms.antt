-- Each form of an operand is judged by its parts.
use Rattle.std.proofs.Common.{◌≡◌, ℕ, ◌+◌, ◌-◌, ◌*◌, ◌≤◌, List, refl, sym, ap, ◌∙◌, subst, arith}
use Rattle.std.specs.Prelude.{Result}
use Rattle.fir_base.specs.Lists.{In}
use Rattle.fir_base.specs.declared.refused.Refused.{Refused}
use Rattle.ver_ast.specs.declared.tree.Verilog.{Verilog}
use Rattle.ver_ast.specs.declared.tree.Constant.{Constant}
use Rattle.ver_ast.specs.Atoms.{AtomTree, net, constant, bit_select, part_select, concat, repeat, AtomTrees, no_atoms, atom_before}
use Rattle.ver_ast.specs.AtomForms.{constant_number}
use Rattle.ver_ast.specs.AtomWidths.{atom_width, joined_width}
use Rattle.ver_ast.specs.Nets.{SizedNet, nets, width_among}
use Rattle.ver_valid.specs.declared.misfit.Misfit.{Misfit}
use Rattle.ver_valid.specs.declared.scope.Scope.{Scope}
use Rattle.ver_valid.specs.working.Judgement.{Denies, Gives}
use Rattle.ver_valid.specs.working.Declarations.{IsNarrow}
use Rattle.ver_valid.specs.working.Scopes.{IsFine, Tells}
use Rattle.ver_valid.specs.working.Operands.{IsWithin, AreWithin, AreJoined, IsBefore, IsPart, IsCopied, IsSoundConstant}
use Rattle.ver_valid.proofs.Fine.{fine_narrow, fine_width, width_of_net}
use Rattle.ver_valid.proofs.Judging.{denied_more, given_same}

module _ (scope : Scope) (v : Verilog) (t : Tells scope v) where
  fine : IsFine v
  fine = record { once = t.once; narrow = t.narrow }

  pub narrow_net : (n : List ℕ) (w : ℕ) → In (nets v) (n, w) → IsNarrow w
  narrow_net n w m = fine_narrow v fine n w m

  pub known_width : (n : List ℕ) (w : ℕ) → In (nets v) (n, w) → width_among (nets v) n ≡ w
  known_width n w m = fine_width v fine n w m

  module _ (braces : ℕ) (r : Result ℕ (Refused Misfit)) where
    pub net_form : (n : List ℕ) → Gives r (λ w. In (nets v) (n, w)) → Gives r (IsWithin (nets v) braces (net n))
    net_form n h =
        given_same r (λ w. In (nets v) (n, w)) (IsWithin (nets v) braces (net n))
        (λ w m. let is = known_width n w m in (subst (λ (x : ℕ). 1 ≤ x) (sym is) (narrow_net n w m).0, omega arith, is))
        (λ w i. subst (λ (x : ℕ). In (nets v) (n, x)) i.2 (width_of_net (nets v) n i.0))
        h

    pub constant_form : (c : Constant) → Gives r (λ w. IsSoundConstant c × (c.width ≡ w))
        → Gives r (IsWithin (nets v) braces (constant c.width (constant_number c)))
    constant_form c h =
        given_same r (λ w. IsSoundConstant c × (c.width ≡ w)) (IsWithin (nets v) braces (constant c.width (constant_number c)))
        (λ w i. ((i.0.0.0, i.0.0.1, i.0.1), omega arith, i.1))
        (λ w i. (((i.0.0, i.0.1), i.0.2), i.2))
        h

    pub bit_form : (n : List ℕ) (i : ℕ) → Gives r (IsPart (nets v) n i i) → Gives r (IsWithin (nets v) braces (bit_select n i))
    bit_form n i h =
        given_same r (IsPart (nets v) n i i) (IsWithin (nets v) braces (bit_select n i))
        (λ w p. let wide = p.3 in ((p.0, p.2), omega arith, omega arith))
        (λ w p. let wide = p.2 in (p.0.0, omega arith, p.0.1, omega arith))
        h

    pub part_form : (n : List ℕ) (hi lo : ℕ) → Gives r (IsPart (nets v) n hi lo) → Gives r (IsWithin (nets v) braces (part_select n hi lo))
    part_form n hi lo h =
        given_same r (IsPart (nets v) n hi lo) (IsWithin (nets v) braces (part_select n hi lo))
        (λ w p. ((p.0, p.1, p.2), omega arith, p.3))
        (λ w p. (p.0.0, p.0.1, p.0.2, p.2))
        h

-- concatenations: too many braces, a part that is not sound, or all parts sound
module _ (nets : List SizedNet) (braces : ℕ) (a : AtomTree) (more : AtomTrees) where
  abbrev Whole : ℕ → Type 0
  Whole = IsWithin nets braces (concat a more)

  pub concat_braces : (e : Refused Misfit) → Denies e ((u : ℕ) × (u + 1 ≡ braces)) → Denies e ((w : ℕ) × Whole w)
  concat_braces e d =
      denied_more e ((u : ℕ) × (u + 1 ≡ braces)) ((w : ℕ) × Whole w) (λ w. let deep = w.1.1 in (braces - 1, omega arith)) d

  module _ (left : ℕ) (one : left + 1 ≡ braces) where
    first_within : (w : ℕ) → Whole w → IsWithin nets left a (atom_width nets a)
    first_within w i = let deep = i.1 in (i.0.0, omega arith, refl)

    others_within : (w : ℕ) → Whole w → AreJoined nets left more (joined_width nets more)
    others_within w i = let deep = i.1 in let sum = i.0.2 in ((i.0.1, omega arith), refl, omega arith)

    pub concat_first : (e : Refused Misfit) → Denies e ((u : ℕ) × IsWithin nets left a u) → Denies e ((w : ℕ) × Whole w)
    concat_first e d =
        denied_more e ((u : ℕ) × IsWithin nets left a u) ((w : ℕ) × Whole w) (λ w. (atom_width nets a, first_within w.0 w.1)) d

    pub concat_others : (e : Refused Misfit) → Denies e ((u : ℕ) × AreJoined nets left more u) → Denies e ((w : ℕ) × Whole w)
    concat_others e d =
        denied_more e ((u : ℕ) × AreJoined nets left more u) ((w : ℕ) × Whole w) (λ w. (joined_width nets more, others_within w.0 w.1)) d

    pub concat_form : (r : Result ℕ (Refused Misfit)) (f o : ℕ) → IsWithin nets left a f → AreJoined nets left more o
        → Gives r (λ w. (f + o ≡ w) × (w ≤ 128)) → Gives r Whole
    concat_form r f o i j h =
        let first = i.2 in let others = j.1 in let deep = i.1 in let deeper = j.0.1 in
        given_same r (λ w. (f + o ≡ w) × (w ≤ 128)) Whole
        (λ w s. let sum = s.0 in let small = s.1 in ((i.0, j.0.0, omega arith), omega arith, omega arith))
        (λ w s. let sum = s.2 in let small = s.0.2 in (omega arith, omega arith))
        h

module _ (nets : List SizedNet) (braces count : ℕ) (a : AtomTree) where
  abbrev Copies : ℕ → Type 0
  Copies = IsWithin nets braces (repeat count a)

  pub repeat_braces : (e : Refused Misfit) → Denies e ((u : ℕ) × (u + 2 ≡ braces)) → Denies e ((w : ℕ) × Copies w)
  repeat_braces e d =
      denied_more e ((u : ℕ) × (u + 2 ≡ braces)) ((w : ℕ) × Copies w) (λ w. let deep = w.1.1 in (braces - 2, omega arith)) d

  module _ (left : ℕ) (two : left + 2 ≡ braces) where
    pub repeat_copied : (e : Refused Misfit) → Denies e ((u : ℕ) × IsWithin nets left a u) → Denies e ((w : ℕ) × Copies w)
    repeat_copied e d =
        denied_more e ((u : ℕ) × IsWithin nets left a u) ((w : ℕ) × Copies w)
        (λ w. let deep = w.1.1 in (atom_width nets a, (w.1.0.0, omega arith, refl))) d

    pub repeat_form : (r : Result ℕ (Refused Misfit)) (x : ℕ) → IsWithin nets left a x → Gives r (IsCopied count x) → Gives r Copies
    repeat_form r x i h =
        let deep = i.1 in
        let product : count * atom_width nets a ≡ count * x = ap (λ (y : ℕ). count * y) i.2 in
        given_same r (IsCopied count x) Copies
        (λ w s. let is : count * atom_width nets a ≡ w = product ∙ s.1 in
        ((i.0, s.0, subst (λ (y : ℕ). y ≤ 128) (sym is) s.2), omega arith, is))
        (λ w s. let is : count * x ≡ w = sym product ∙ s.2 in (s.0.1, is, subst (λ (y : ℕ). y ≤ 128) s.2 s.0.2))
        h

-- operands beside each other, one by one
module _ (nets : List SizedNet) (braces : ℕ) (all : AtomTrees) where
  pub joined_none : (rest : AtomTrees) (width : ℕ) → rest ≡ no_atoms → IsBefore nets braces all rest width → width ≤ 128
      → AreJoined nets braces all width × ((u : ℕ) → AreJoined nets braces all u → u ≡ width)
  joined_none rest width e b small =
      let none : joined_width nets rest ≡ 0 = ap (joined_width nets) e in
      let sum = b.sum in
      let here : AreWithin nets braces no_atoms = (tt, omega arith) in (
        (b.ahead (subst (AreWithin nets braces) (sym e) here), omega arith, small),
        λ u j. let other = j.1 in omega arith,
      )

  module _ (a : AtomTree) (next rest : AtomTrees) (width : ℕ) (is : rest ≡ atom_before a next) (b : IsBefore nets braces all rest width) where
    split : AreWithin nets braces all → IsWithin nets braces a (atom_width nets a) × AreWithin nets braces next
    split w =
        let here : AreWithin nets braces (atom_before a next) = subst (AreWithin nets braces) is (b.behind w) in
        let deep = here.1 in
        ((here.0.0, omega arith, refl), (here.0.1, omega arith))

    sums : width + (atom_width nets a + joined_width nets next) ≡ joined_width nets all
    sums = subst (λ (x : AtomTrees). width + joined_width nets x ≡ joined_width nets all) is b.sum

    pub joined_part : (e : Refused Misfit) → Denies e ((u : ℕ) × IsWithin nets braces a u) → Denies e ((w : ℕ) × AreJoined nets braces all w)
    joined_part e d =
        denied_more e ((u : ℕ) × IsWithin nets braces a u) ((w : ℕ) × AreJoined nets braces all w)
        (λ w. (atom_width nets a, (split w.1.0).0)) d

    pub joined_sum : (e : Refused Misfit) (x : ℕ) → IsWithin nets braces a x → Denies e ((w : ℕ) × ((width + x ≡ w) × (w ≤ 128)))
        → Denies e ((w : ℕ) × AreJoined nets braces all w)
    joined_sum e x i d =
        let here = sums in let wide = i.2 in
        denied_more e ((w : ℕ) × ((width + x ≡ w) × (w ≤ 128))) ((w : ℕ) × AreJoined nets braces all w)
        (λ w. let sum = w.1.1 in let small = w.1.2 in (width + x, (refl, omega arith))) d

    pub joined_more : (x s : ℕ) → IsWithin nets braces a x → width + x ≡ s → IsBefore nets braces all next s
    joined_more x s i e =
        let here = sums in let wide = i.2 in
        record {
          ahead = λ w. b.ahead (subst (AreWithin nets braces) (sym is) (let deep = i.1 in let deeper = w.1 in ((i.0, w.0), omega arith)));
          behind = λ w. (split w).1;
          sum = omega arith;
        }
