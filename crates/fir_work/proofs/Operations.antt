-- Operations of a net: their results have the net's widths, and what a form gives is their number.
use Rattle.std.proofs.Common.{◌≡◌, ℕ, ◌≤◌, Bool, true, false, not, ◌&&◌, if◌then◌else◌, Result, Ok, Err, List, [], ◌∷◌, map, slice_index, length, eqb, arith, refl, ap, sym, subst, ◌∙◌}
use Rattle.std.specs.Prelude.{nat_le}
use Rattle.std.specs.List.{AllByRecursion}
use Rattle.std.proofs.lemmas.Bool.{leb-true, eqb-true}
use Rattle.fir_bits.specs.Forms.{form_of, has_kinds, takes, first_type, second_type, no_type}
use Rattle.fir_bits.specs.Widths.{width_of, is_narrow}
use Rattle.fir_bits.specs.Types.{is_legal, signed_of}
use Rattle.fir_bits.specs.working.Types.{typed, typed_at}
use Rattle.fir_bits.specs.Operators.{no_operand, operation_value, outcome}
use Rattle.fir_bits.specs.declared.operators.PrimOp.{PrimOp}
use Rattle.fir_bits.specs.declared.operators.Form.{Form}
use Rattle.fir_bits.specs.declared.operators.Form.TheVariants.{Pair, Shift, Single, WithInteger, WithRange}
use Rattle.fir_bits.specs.declared.types.NumTy.{NumTy}
use Rattle.fir_bits.specs.declared.types.OpFault.{OpFault}
use Rattle.fir_bits.specs.declared.types.OpFault.TheVariants.{Kinds, Over, Legality}
use Rattle.fir_net.specs.declared.reads.Read.{Read}
use Rattle.fir_net.specs.declared.node.Operation.{Operation}
use Rattle.fir_net.specs.declared.node.Node.TheVariants as node
use Rattle.fir_net.specs.declared.net.FlatNet.{FlatNet}
use Rattle.fir_net.specs.working.IsNet.{IsOperation, node_type, read_type}
use Rattle.fir_work.specs.declared.work.Work.{Work}
use Rattle.fir_work.specs.working.Forms.{HasWidth, IsPairWork, IsSingleWork}
use Rattle.fir_work.specs.working.Numbers.{Fits, place, type_read, value_in}
use Rattle.fir_work.specs.working.Tasks.{IsNodeTask}

both : (x y : Bool) → (x && y) ≡ true → (x ≡ true) × (y ≡ true)
both true y h = (refl, h)
both false y h = cc

no_length : (n : ℕ) (ns : List ℕ) → eqb (length (n ∷ ns)) 0 ≡ true → ⊥
no_length n ns h = let none = eqb-true (length (n ∷ ns)) 0 h in omega arith

-- all tests are passed where there is a type, and it is the one that they guard
passed : (kinds narrow legal : Bool) (t u : NumTy)
    → (if not kinds then Err Kinds else if not narrow then Err Over else if not legal then Err Legality else Ok t) ≡ Ok u → (narrow ≡ true) × (legal ≡ true) × (t ≡ u)
passed true true true t u e = (refl, refl, cc)
passed true true false t u e = cc
passed true false legal t u e = cc
passed false narrow legal t u e = cc

-- an operation on two operands takes no integers
no_more : (form : Form) (a b : NumTy) (ns : List ℕ) → takes form (a ∷ b ∷ []) ns ≡ true → ns ≡ []
no_more form a b [] h = refl
no_more Pair a b (n ∷ ns) h = absurd (no_length n ns (both (eqb (length (n ∷ ns)) 0) (has_kinds Pair (a ∷ b ∷ [])) h).0)
no_more Shift a b (n ∷ ns) h = absurd (no_length n ns (both (eqb (length (n ∷ ns)) 0) (has_kinds Shift (a ∷ b ∷ [])) h).0)
no_more Single a b (n ∷ ns) h = cc
no_more WithInteger a b (n ∷ ns) h = cc
no_more WithRange a b (n ∷ ns) h = cc

no_integers : (op : PrimOp) (a b : NumTy) (ns : List ℕ) (t : NumTy) → typed op (a ∷ b ∷ []) ns ≡ Ok t → ns ≡ []
no_integers op a b ns t e = no_more (form_of op) a b ns (taken (takes (form_of op) (a ∷ b ∷ []) ns) (typed_at op a b (slice_index ns 0) (slice_index ns 1)) t e)
  where
    taken : (kinds : Bool) (r : Result NumTy OpFault) (u : NumTy) → (if not kinds then Err Kinds else r) ≡ Ok u → kinds ≡ true
    taken true r u h = refl
    taken false r u h = cc

typed_width : (op : PrimOp) (args : List NumTy) (ints : List ℕ) (t : NumTy) → typed op args ints ≡ Ok t
    → HasWidth op (first_type args) (second_type args) (slice_index ints 0) (slice_index ints 1) t.width
typed_width op args ints t e =
    let a = first_type args in
    let b = second_type args in
    let n = slice_index ints 0 in
    let m = slice_index ints 1 in
    let r = width_of op a.signed a.width b.width n m in
    let tests = passed (takes (form_of op) args ints) (is_narrow op a.signed a.width b.width n m) (is_legal op a.width n m) (record { signed = signed_of op a.signed; width = r }) t e in
    let same : r ≡ t.width = ap (λ (u : NumTy). u.width) tests.2 in
    let all = both (nat_le a.width 128 && nat_le b.width 128) (nat_le r 128) tests.0 in
    let operands = both (nat_le a.width 128) (nat_le b.width 128) all.0 in
    record {
      first = leb-true a.width 128 operands.0;
      second = leb-true b.width 128 operands.1;
      narrow = subst (λ (w : ℕ). w ≤ 128) same (leb-true r 128 all.1);
      legal = tests.1;
      is = sym same;
    }

module _ (net : FlatNet) (o : Operation) (is : IsOperation net.leaves net.nodes o) where
  abbrev ints : List ℕ
  ints = o.integers

  width_at : (rs : List Read) → o.reads ≡ rs
      → HasWidth o.op (first_type (map (type_read net) rs)) (second_type (map (type_read net) rs)) (slice_index ints 0) (slice_index ints 1) o.width
  width_at rs reads =
      typed_width o.op (map (type_read net) rs) ints (record { signed = o.signed; width = o.width })
      (ap (λ (xs : List Read). typed o.op (map (read_type net.leaves net.nodes) xs) ints) (sym reads) ∙ is.has_type)

  module _ (a : Read) (reads : o.reads ≡ a ∷ []) where
    pub single_width : HasWidth o.op (type_read net a) no_type (slice_index ints 0) (slice_index ints 1) o.width
    single_width = width_at (a ∷ []) reads

    pub single_task : (w : Work) → IsSingleWork o.op (type_read net a) (slice_index ints 0) (slice_index ints 1) o.width w
        → IsNodeTask net (node.Operation o) (record { first = place net a; second = 0; third = 0; work = w })
    single_task w form = record {
      runs = λ ns fits. form.runs net ns _ _;
      gives = λ ns fits.
          form.gives net ns _ _ _ (subst (AllByRecursion (Fits net ns)) reads fits).0
          ∙ ap (λ (r : ℕ). operation_value o.op r (value_in net ns a) no_operand (slice_index ints 0) (slice_index ints 1)) single_width.is
          ∙ ap (λ (rs : List Read). (outcome o.op (map (value_in net ns) rs) ints).value.number) (sym reads);
    }

  module _ (a b : Read) (reads : o.reads ≡ a ∷ b ∷ []) where
    none : ints ≡ []
    none =
        no_integers o.op (type_read net a) (type_read net b) ints (node_type (node.Operation o))
        (ap (λ (xs : List Read). typed o.op (map (read_type net.leaves net.nodes) xs) ints) (sym reads) ∙ is.has_type)

    pub pair_width : HasWidth o.op (type_read net a) (type_read net b) 0 0 o.width
    pair_width =
        subst (λ (ns : List ℕ). HasWidth o.op (type_read net a) (type_read net b) (slice_index ns 0) (slice_index ns 1) o.width) none
        (width_at (a ∷ b ∷ []) reads)

    pub pair_task : (w : Work) → IsPairWork o.op (type_read net a) (type_read net b) o.width w
        → IsNodeTask net (node.Operation o) (record { first = place net a; second = place net b; third = 0; work = w })
    pair_task w form = record {
      runs = λ ns fits. form.runs net ns _ _;
      gives = λ ns fits.
          let two = subst (AllByRecursion (Fits net ns)) reads fits in
          form.gives net ns _ _ _ two.0 two.1.0
          ∙ ap (λ (r : ℕ). operation_value o.op r (value_in net ns a) (value_in net ns b) 0 0) pair_width.is
          ∙ ap (λ (ns' : List ℕ). (outcome o.op (value_in net ns a ∷ value_in net ns b ∷ []) ns').value.number) (sym none)
          ∙ ap (λ (rs : List Read). (outcome o.op (map (value_in net ns) rs) ints).value.number) (sym reads);
    }
