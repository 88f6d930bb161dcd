-- What the nets of a node mean.
-- They are sound, each reads what is known before it, and the last one has the node's value.
use Rattle.std.proofs.Common.{◌≡◌, ℕ, ◌≤◌, Bool, List, [], ◌∷◌, ◌++◌, map, length, Ok, refl, sym, ap, ◌∙◌, subst, inl, inr, arith}
use Rattle.std.specs.Prelude.{slice_index}
use Rattle.std.specs.List.{AllByRecursion}
use Rattle.fir_base.proofs.Each.{each_more}
use Rattle.fir_base.specs.Ticks.{Env}
use Rattle.fir_bits.specs.Forms.{form_of}
use Rattle.fir_bits.specs.working.Types.{typed}
use Rattle.fir_bits.specs.Widths.{width_of}
use Rattle.fir_bits.specs.working.Operators.{type_of}
use Rattle.fir_bits.specs.Operators.{operation_value, first_operand, second_operand, applied}
use Rattle.fir_bits.specs.declared.operators.PrimOp.{PrimOp}
use Rattle.fir_bits.specs.declared.operators.PrimOp.TheVariants as op
use Rattle.fir_bits.specs.declared.types.NumTy.{NumTy}
use Rattle.fir_bits.specs.declared.values.Num.{Num}
use Rattle.fir_net.specs.working.Values.{at_width, chosen}
use Rattle.fir_net.specs.working.IsNet.{IsChoice}
use Rattle.ver_ast.specs.Atoms.{net}
use Rattle.ver_ast.specs.Nets.{SizedNet}
use Rattle.ver_build.specs.declared.held.Held.{Held}
use Rattle.ver_build.specs.declared.right_sides.Inner.{Inner}
use Rattle.ver_build.specs.working.Held.{whole_net}
use Rattle.ver_build.specs.working.Operands.{atom_at}
use Rattle.ver_build.specs.working.Places.{source_name}
use Rattle.ver_build.specs.working.Texts.{division_width, zero_test, divisor, between, guarded, one_rhs, division_inners, operation_inners, helper, helper_count, mux_rhs, first_held, second_held, third_held}
use Rattle.ver_build.proofs.Standing.{Stands, FitsSource, AllStand, AllHold, IsKnown, DeclaresInners, FitsInners, RestInners, HaveValues, IsSoundInner, ReadsInTurn}
use Rattle.ver_build.proofs.Fitted.{zero_env, zero_fits, held_as, holds_vector, held_is}
use Rattle.ver_build.proofs.OperandAtoms.{atom_gives}
use Rattle.ver_build.proofs.OperandNames.{side_names, atom_known, between_known, one_known}
use Rattle.ver_build.proofs.OperandLists.{first_stands, second_stands, all_stand, all_hold, first_holds, second_holds, first_known, second_known, third_known, IsTyped, typed_as}
use Rattle.ver_build.proofs.RightSides.{Means, choice_side}
use Rattle.ver_build.proofs.OperationSides.{HasKinds, one_means}
use Rattle.ver_build.proofs.DivisionNets.{settled, division_sound, division_means}
use Rattle.ver_build.proofs.OperatorValues.{IsOfKind, division, is_div, is_rem, binary_operator, signed_operator, at_width-own}

-- what holds of the nets of a division and of an operation with one net holds of those of each operation
by_kind : (P : PrimOp → ℕ → List Inner → Type 0) (o : PrimOp) (r : ℕ) (a b : Held) (n m : ℕ) (helpers : List (List ℕ)) (name : List ℕ)
    → (IsOfKind o division
    → P o 3 (division_inners (signed_operator o) (binary_operator o) r a b helpers name))
    → ((IsOfKind o division → ⊥) → P o 0 (record { name = name; width = r; rhs = one_rhs o r a b n m } ∷ []))
    → P o (helper_count o) (operation_inners o r a b n m helpers name)
by_kind P op.Div r a b n m helpers name h k = h is_div
by_kind P op.Rem r a b n m helpers name h k = h is_rem
by_kind P _ r a b n m helpers name h k = k (λ e. elim e [ ])

-- what is known stays so
more : (known : List (List ℕ)) (x : List ℕ) (h : Held) → IsKnown known h → IsKnown (x ∷ known) h
more known x h is = each_more (source_name h.source) known (x ∷ known) (λ y i. inr i) is

division_reads : (known : List (List ℕ)) (a b : Held) → IsKnown known a → IsKnown known b → (o : PrimOp) (r : ℕ) (helpers : List (List ℕ)) (name : List ℕ)
    → ReadsInTurn known (division_inners (signed_operator o) (binary_operator o) r a b helpers name)
division_reads known a b is_a is_b o r helpers name =
    let w = division_width r a b in
    let zero = helper helpers 0 in
    let by = helper helpers 1 in
    let value = helper helpers 2 in
    let second = zero ∷ known in
    let third = by ∷ second in
    let fourth = value ∷ third in
    let s = signed_operator o in
    let p = binary_operator o in (
      side_names known (zero_test w b) (atom_known known w b is_b, (tt, tt)),
      (
        side_names second (divisor w zero b) ((inl refl, tt), (tt, (atom_known second w b (more known zero b is_b), tt))),
        (
          side_names third (between s p w a (net by)) (between_known third s p w a (net by) (more second by a (more known zero a is_a))
              (inl refl, tt)),
          (
            side_names fourth (guarded r zero (whole_net value a.signed w))
                ((inr (inr (inl refl)), tt), (tt, (atom_known fourth r (whole_net value a.signed w) (inl refl, tt), tt))),
            tt,
          ),
        ),
      ),
    )

-- an operation with one net, at the width of its type
one_at : (nets : List SizedNet) (env : Env) (o : PrimOp) (a b : Held) (n m : ℕ) (t : NumTy) → (IsOfKind o division → ⊥) → IsTyped o a b n m t → 1 ≤ t.width
    → Stands nets a → Stands nets b → FitsSource env a.source → FitsSource env b.source
    → Means nets env t.width (operation_value o t.width (held_as env a) (held_as env b) n m) (one_rhs o t.width a b n m)
one_at nets env o a b n m t h is some is_a is_b below_a below_b =
    subst (λ (r : ℕ). Means nets env r (operation_value o r (held_as env a) (held_as env b) n m) (one_rhs o r a b n m)) (sym is.width)
    (one_means nets env a b is_a is_b below_a below_b n m o h is.kinds is.legal (subst (λ (r : ℕ). 1 ≤ r) is.width some)
    (subst (λ (r : ℕ). r ≤ 128) is.width is.narrow))

division_kinds : (o : PrimOp) (s t : Bool) → IsOfKind o division → HasKinds (form_of o) s t → s ≡ t
division_kinds o s t is_div k = k
division_kinds o s t is_rem k = k

module _ (o : PrimOp) (ks : List ℕ) (hs : List Held) (helpers : List (List ℕ)) (name : List ℕ) where
  abbrev pub operation_nets : ℕ → List Inner
  operation_nets r = operation_inners o r (first_held hs) (second_held hs) (slice_index ks 0) (slice_index ks 1) helpers name

  pub operation_names : (r : ℕ) → length helpers ≡ helper_count o → map (λ i. i.name) (operation_nets r) ≡ helpers ++ name ∷ []
  operation_names r =
      by_kind (λ o count is. length helpers ≡ count → map (λ i. i.name) is ≡ helpers ++ name ∷ []) o r (first_held hs) (second_held hs)
      (slice_index ks 0) (slice_index ks 1) helpers name
      (λ h. three helpers) (λ h. none helpers)
    where
      three : (xs : List (List ℕ)) → length xs ≡ 3 → helper xs 0 ∷ helper xs 1 ∷ helper xs 2 ∷ name ∷ [] ≡ xs ++ name ∷ []
      three (x ∷ y ∷ z ∷ []) e = refl
      three [] e = absurd (omega arith)
      three (x ∷ []) e = absurd (omega arith)
      three (x ∷ y ∷ []) e = absurd (omega arith)
      three (x ∷ y ∷ z ∷ u ∷ xs) e = absurd (omega arith)

      none : (xs : List (List ℕ)) → length xs ≡ 0 → name ∷ [] ≡ xs ++ name ∷ []
      none [] e = refl
      none (x ∷ xs) e = absurd (omega arith)

  pub operation_reads : (r : ℕ) (known : List (List ℕ)) → AllByRecursion (IsKnown known) hs → ReadsInTurn known (operation_nets r)
  operation_reads r known is =
      let a = first_held hs in
      let b = second_held hs in
      let n = slice_index ks 0 in
      let m = slice_index ks 1 in
      let known_a = first_known known hs is in
      let known_b = second_known known hs is in
      by_kind (λ o count is. ReadsInTurn known is) o r a b n m helpers name
      (λ h. division_reads known a b known_a known_b o r helpers name)
      (λ h. (side_names known (one_rhs o r a b n m) (one_known known r a b n m known_a known_b o), tt))

  pub operation_sound : (nets : List SizedNet) (ts : List NumTy) (t : NumTy) → typed o ts ks ≡ Ok t → 1 ≤ t.width → AllStand nets hs ts
      → DeclaresInners nets (operation_nets t.width) → AllByRecursion (IsSoundInner nets) (operation_nets t.width)
  operation_sound nets ts t is some stand =
      let a = first_held hs in
      let b = second_held hs in
      let n = slice_index ks 0 in
      let m = slice_index ks 1 in
      let there_a = (first_stands nets hs ts stand).stands in
      let there_b = (second_stands nets hs ts stand).stands in
      let rule = typed_as nets o hs ts ks t is stand in
      by_kind (λ o count is. DeclaresInners nets is → AllByRecursion (IsSoundInner nets) is) o t.width a b n m helpers name
      (λ h. division_sound nets a b there_a there_b o h helpers name t.width some rule.narrow)
      (λ h declared.
      let means = one_at nets zero_env o a b n m t h rule some there_a there_b (zero_fits a.source) (zero_fits b.source) in
      (record { side = means.sound; some = some; narrow = rule.narrow }, tt))

  pub operation_means : (nets : List SizedNet) (env : Env) (vs : List Num) (t : NumTy) → typed o (map type_of vs) ks ≡ Ok t → 1 ≤ t.width
      → AllHold nets env hs vs → DeclaresInners nets (operation_nets t.width) → FitsInners env (operation_nets t.width)
      → RestInners nets env (operation_nets t.width)
      → HaveValues nets env (operation_nets t.width) × (env name ≡ (applied o vs ks).number)
  operation_means nets env vs t is some hold declared fits rest =
      let a = first_held hs in
      let b = second_held hs in
      let n = slice_index ks 0 in
      let m = slice_index ks 1 in
      let stand = all_stand nets env hs vs hold in
      let there_a = (first_stands nets hs (map type_of vs) stand).stands in
      let there_b = (second_stands nets hs (map type_of vs) stand).stands in
      let holds_a = first_holds nets env hs vs hold in
      let holds_b = second_holds nets env hs vs hold in
      let rule = typed_as nets o hs (map type_of vs) ks t is stand in
      let made = by_kind (λ o count is. DeclaresInners nets is → FitsInners env is → RestInners nets env is
      → HaveValues nets env is × (env name ≡ operation_value o t.width (held_as env a) (held_as env b) n m)) o t.width a b n m helpers name
      (λ h declared. division_means nets a b there_a there_b o h helpers name t.width some rule.narrow declared
      env holds_a.below holds_b.below n m (division_kinds o a.signed b.signed h rule.kinds) rule.width)
      (λ h declared fits rest.
      let means = one_at nets env o a b n m t h rule some there_a there_b holds_a.below holds_b.below in
      let end = settled _ (env name) _ means.value rest.0 in
      ((end.0, tt), end.1)) declared fits rest in
      let x = first_operand vs in
      let y = second_operand vs in (
        made.0,
        made.1 ∙ ap (λ (r : ℕ). operation_value o r (held_as env a) (held_as env b) n m) rule.width
            ∙ ap (λ (v : Num). operation_value o (width_of o v.signed v.value.width b.width n m) v (held_as env b) n m)
            (sym (held_is nets env a x holds_a))
            ∙ ap (λ (v : Num). operation_value o (width_of o x.signed x.value.width v.value.width n m) x v n m) (sym (held_is nets env b y holds_b)),
      )

-- a choice between two values, from values or types one after the other
choice_mean : (nets : List SizedNet) (env : Env) (hs : List Held) (vs : List Num) (t : NumTy) → IsChoice t (map type_of vs) → 1 ≤ t.width
    → AllHold nets env hs vs
    → Means nets env t.width (chosen t vs).value.number (mux_rhs t.width hs) × (t.width ≤ 128)
choice_mean nets env (h ∷ k ∷ l ∷ []) (c ∷ a ∷ b ∷ []) t rule some hold =
    let one : c.value.width ≡ 1 = ap (λ (x : NumTy). x.width) rule.0 in
    let value : at_width c 1 ≡ c.value.number = ap (at_width c) (sym one) ∙ at_width-own c in
    let narrow_a = (holds_vector nets env k a hold.1.0).narrow in
    let narrow_b = (holds_vector nets env l b hold.1.1.0).narrow in
    let narrow : t.width ≤ 128 = omega (arith, rule.3) in (
      choice_side nets env t.width c.value.number (at_width a t.width) (at_width b t.width) (atom_at 1 h) (atom_at t.width k) (atom_at t.width l)
          (rw value at (atom_gives nets env 1 h c hold.0 (omega arith) (omega arith))) (atom_gives nets env t.width k a hold.1.0 some narrow)
          (atom_gives nets env t.width l b hold.1.1.0 some narrow),
      narrow,
    )
choice_mean nets env hs [] t rule some hold = absurd rule
choice_mean nets env hs (c ∷ []) t rule some hold = absurd rule
choice_mean nets env hs (c ∷ a ∷ []) t rule some hold = absurd rule
choice_mean nets env hs (c ∷ a ∷ b ∷ d ∷ vs) t rule some hold = absurd rule
choice_mean nets env [] (c ∷ a ∷ b ∷ []) t rule some hold = absurd hold
choice_mean nets env (h ∷ []) (c ∷ a ∷ b ∷ []) t rule some hold = absurd hold.1
choice_mean nets env (h ∷ k ∷ []) (c ∷ a ∷ b ∷ []) t rule some hold = absurd hold.1.1
choice_mean nets env (h ∷ k ∷ l ∷ g ∷ hs) (c ∷ a ∷ b ∷ []) t rule some hold = absurd hold.1.1.1

module _ (hs : List Held) (name : List ℕ) where
  abbrev pub choice_nets : ℕ → List Inner
  choice_nets r = record { name = name; width = r; rhs = mux_rhs r hs } ∷ []

  pub choice_reads : (r : ℕ) (known : List (List ℕ)) → AllByRecursion (IsKnown known) hs → ReadsInTurn known (choice_nets r)
  choice_reads r known is = (
    side_names known (mux_rhs r hs) (
      atom_known known 1 (first_held hs) (first_known known hs is),
      (
        atom_known known r (second_held hs) (second_known known hs is),
        (atom_known known r (third_held hs) (third_known known hs is), tt),
      ),
    ),
    tt,
  )

  pub choice_sound : (nets : List SizedNet) (ts : List NumTy) (t : NumTy) → IsChoice t ts → 1 ≤ t.width → AllStand nets hs ts
      → AllByRecursion (IsSoundInner nets) (choice_nets t.width)
  choice_sound nets ts t is some stand =
      let there = all_hold nets hs ts stand in
      let means = choice_mean nets zero_env hs (map (held_as zero_env) hs) t (subst (IsChoice t) (sym there.1) is) some there.0 in
      (record { side = means.0.sound; some = some; narrow = means.1 }, tt)

  pub choice_means : (nets : List SizedNet) (env : Env) (vs : List Num) (t : NumTy) → IsChoice t (map type_of vs) → 1 ≤ t.width
      → AllHold nets env hs vs → RestInners nets env (choice_nets t.width)
      → HaveValues nets env (choice_nets t.width) × (env name ≡ (chosen t vs).value.number)
  choice_means nets env vs t is some hold rest =
      let end = settled _ (env name) _ (choice_mean nets env hs vs t is some hold).0.value rest.0 in
      ((end.0, tt), end.1)
