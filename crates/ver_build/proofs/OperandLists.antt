-- The first operands of a node, from all of them, and what its type says of them.
use Rattle.std.proofs.Common.{◌≡◌, ℕ, ◌≤◌, Bool, true, false, not, if◌then◌else◌, List, [], ◌∷◌, map, Ok, Err, refl, sym, ap, ◌∙◌}
use Rattle.std.specs.Prelude.{slice_index, IsTrue}
use Rattle.std.specs.Bool.{beq}
use Rattle.std.specs.List.{AllByRecursion}
use Rattle.std.proofs.lemmas.Bool.{and_parts, not-true, leb-true}
use Rattle.fir_base.specs.Ticks.{Env}
use Rattle.fir_bits.specs.Forms.{form_of, has_kinds, takes, first_type, second_type}
use Rattle.fir_bits.specs.Widths.{width_of, is_narrow}
use Rattle.fir_bits.specs.Types.{signed_of, is_legal}
use Rattle.fir_bits.specs.working.Types.{typed}
use Rattle.fir_bits.specs.working.Operators.{type_of}
use Rattle.fir_bits.specs.Operators.{first_operand, second_operand}
use Rattle.fir_bits.specs.declared.operators.PrimOp.{PrimOp}
use Rattle.fir_bits.specs.declared.operators.Form.{Form}
use Rattle.fir_bits.specs.declared.operators.Form.TheVariants as form
use Rattle.fir_bits.specs.declared.types.NumTy.{NumTy}
use Rattle.fir_bits.specs.declared.types.OpFault.TheVariants.{Kinds, Over, Legality}
use Rattle.fir_bits.specs.declared.values.Num.{Num}
use Rattle.ver_ast.specs.Nets.{SizedNet}
use Rattle.ver_build.specs.declared.held.Held.{Held}
use Rattle.ver_build.specs.working.Texts.{first_held, second_held, third_held}
use Rattle.ver_build.proofs.Standing.{StandsAs, Holds, AllStand, AllHold, IsKnown}
use Rattle.ver_build.proofs.Fitted.{none_stands, none_holds, zero_env, zero_fits, held_as, holds_itself}
use Rattle.ver_build.proofs.OperationSides.{HasKinds}

pub first_stands : (nets : List SizedNet) (hs : List Held) (ts : List NumTy) → AllStand nets hs ts → StandsAs nets (first_held hs) (first_type ts)
first_stands nets [] [] is = record { stands = none_stands nets; signed = refl; width = refl }
first_stands nets (h ∷ hs) (t ∷ ts) is = is.0
first_stands nets [] (t ∷ ts) is = absurd is
first_stands nets (h ∷ hs) [] is = absurd is

pub second_stands : (nets : List SizedNet) (hs : List Held) (ts : List NumTy) → AllStand nets hs ts → StandsAs nets (second_held hs) (second_type ts)
second_stands nets [] [] is = record { stands = none_stands nets; signed = refl; width = refl }
second_stands nets (h ∷ hs) (t ∷ ts) is = first_stands nets hs ts is.1
second_stands nets [] (t ∷ ts) is = absurd is
second_stands nets (h ∷ hs) [] is = absurd is

pub all_stand : (nets : List SizedNet) (env : Env) (hs : List Held) (vs : List Num) → AllHold nets env hs vs → AllStand nets hs (map type_of vs)
all_stand nets env [] [] is = tt
all_stand nets env (h ∷ hs) (v ∷ vs) is = (is.0.standing, all_stand nets env hs vs is.1)
all_stand nets env [] (v ∷ vs) is = absurd is
all_stand nets env (h ∷ hs) [] is = absurd is

pub first_holds : (nets : List SizedNet) (env : Env) (hs : List Held) (vs : List Num) → AllHold nets env hs vs
    → Holds nets env (first_held hs) (first_operand vs)
first_holds nets env [] [] is = none_holds nets env
first_holds nets env (h ∷ hs) (v ∷ vs) is = is.0
first_holds nets env [] (v ∷ vs) is = absurd is
first_holds nets env (h ∷ hs) [] is = absurd is

pub second_holds : (nets : List SizedNet) (env : Env) (hs : List Held) (vs : List Num) → AllHold nets env hs vs
    → Holds nets env (second_held hs) (second_operand vs)
second_holds nets env [] [] is = none_holds nets env
second_holds nets env (h ∷ hs) (v ∷ vs) is = first_holds nets env hs vs is.1
second_holds nets env [] (v ∷ vs) is = absurd is
second_holds nets env (h ∷ hs) [] is = absurd is

pub first_known : (known : List (List ℕ)) (hs : List Held) → AllByRecursion (IsKnown known) hs → IsKnown known (first_held hs)
first_known known [] is = tt
first_known known (h ∷ hs) is = is.0

pub second_known : (known : List (List ℕ)) (hs : List Held) → AllByRecursion (IsKnown known) hs → IsKnown known (second_held hs)
second_known known [] is = tt
second_known known (h ∷ hs) is = first_known known hs is.1

pub third_known : (known : List (List ℕ)) (hs : List Held) → AllByRecursion (IsKnown known) hs → IsKnown known (third_held hs)
third_known known [] is = tt
third_known known (h ∷ hs) is = second_known known hs is.1

-- values that stand hold numbers of their types, where each net is 0
pub all_hold : (nets : List SizedNet) (hs : List Held) (ts : List NumTy) → AllStand nets hs ts
    → AllHold nets zero_env hs (map (held_as zero_env) hs) × (map type_of (map (held_as zero_env) hs) ≡ ts)
all_hold nets [] [] is = (tt, refl)
all_hold nets (h ∷ hs) (t ∷ ts) is =
    let others = all_hold nets hs ts is.1 in
    let same : type_of (held_as zero_env h) ≡ t = types_equal h t is.0.signed is.0.width in (
      (holds_itself nets zero_env h is.0.stands (zero_fits h.source), others.0),
      ap (λ (x : NumTy). x ∷ map type_of (map (held_as zero_env) hs)) same
          ∙ ap (λ xs. t ∷ xs) others.1,
    )
  where
    types_equal : (h : Held) (t : NumTy) → h.signed ≡ t.signed → h.width ≡ t.width → type_of (held_as zero_env h) ≡ t
    types_equal h t e f =
        let made : Bool → ℕ → NumTy = λ s w. record { signed = s; width = w } in
        ap (λ (s : Bool). made s h.width) e ∙ ap (made t.signed) f
all_hold nets [] (t ∷ ts) is = absurd is
all_hold nets (h ∷ hs) [] is = absurd is

-- what an operation on two values of such types has to keep to
pub record IsTyped (o : PrimOp) (a b : Held) (n m : ℕ) (t : NumTy) : Type 0 where
  pub kinds : HasKinds (form_of o) a.signed b.signed
  pub legal : IsTrue (is_legal o a.width n m)
  pub width : t.width ≡ width_of o a.signed a.width b.width n m
  pub narrow : t.width ≤ 128

-- all tests are passed where there is a type
passed : (kinds narrow legal : Bool) (made t : NumTy)
    → (if not kinds then Err Kinds else if not narrow then Err Over else if not legal then Err Legality else Ok made) ≡ Ok t
    → (kinds ≡ true) × (narrow ≡ true) × (legal ≡ true) × (made ≡ t)
passed true true true made t e = (refl, refl, refl, cc)
passed true true false made t e = cc
passed true false legal made t e = cc
passed false narrow legal made t e = cc

same_kinds : (x y : Bool) → beq x y ≡ true → x ≡ y
same_kinds true true e = refl
same_kinds false false e = refl
same_kinds true false e = cc
same_kinds false true e = cc

kinds_are : (f : Form) (ts : List NumTy) → has_kinds f ts ≡ true → HasKinds f (first_type ts).signed (second_type ts).signed
kinds_are form.Pair ts e = same_kinds (first_type ts).signed (second_type ts).signed e
kinds_are form.Shift ts e = not-true (second_type ts).signed e
kinds_are _ ts e = tt

pub typed_as : (nets : List SizedNet) (o : PrimOp) (hs : List Held) (ts : List NumTy) (ks : List ℕ) (t : NumTy) → typed o ts ks ≡ Ok t
    → AllStand nets hs ts
    → IsTyped o (first_held hs) (second_held hs) (slice_index ks 0) (slice_index ks 1) t
typed_as nets o hs ts ks t is stand =
    let n = slice_index ks 0 in
    let m = slice_index ks 1 in
    let a = first_type ts in
    let b = second_type ts in
    let first = first_stands nets hs ts stand in
    let second = second_stands nets hs ts stand in
    let made : NumTy = record { signed = signed_of o a.signed; width = width_of o a.signed a.width b.width n m } in
    let all = passed (takes (form_of o) ts ks) (is_narrow o a.signed a.width b.width n m) (is_legal o a.width n m) made t is in
    let signed_a = first.signed in
    let width_a = first.width in
    let signed_b = second.signed in
    let width_b = second.width in
    record {
      kinds = rw (signed_a, signed_b) (kinds_are (form_of o) ts (and_parts _ (has_kinds (form_of o) ts) all.0).1);
      legal = rw width_a all.2;
      width = rw (signed_a, width_a, width_b) (ap (λ (x : NumTy). x.width) (sym all.3));
      narrow = rw (← all.3) (leb-true _ _ (and_parts _ _ all.1).1);
    }
