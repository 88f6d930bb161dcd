-- The operations of one bit on UInts, as truths.
use Rattle.std.proofs.Common.{◌≡◌, ℕ, zero, suc, ◌+◌, ◌-◌, ◌<◌, ◌^◌, ◌==◌, [], ◌∷◌, Bool, true, false, ◌&&◌, nat_eq, nat_lt, if◌then◌else◌, pos, refl, sym, ap, ◌∙◌, subst, arith}
use Rattle.std.specs.Prelude.{int_lt}
use Rattle.std.specs.Ordering.{int_eq}
use Rattle.std.proofs.lemmas.Bool.{le-leb}
use Rattle.std.proofs.lemmas.Bool.Decides.{Decides-eqb, Decides-int_eq, same_from_decides}
use Rattle.fir_bits.specs.Operators.{flag, integer_of, outcome}
use Rattle.fir_bits.specs.Values.{is_negative}
use Rattle.fir_bits.specs.Integers.{reading}
use Rattle.fir_bits.specs.declared.operators.PrimOp.TheVariants.{And, Eq, Lt}
use Rattle.fir_bits.specs.declared.types.NumTy.{NumTy}
use Rattle.fir_bits.specs.declared.values.Num.{Num}
use Rattle.fir_net.specs.working.IsNet.{one_bit}
use Rattle.fir_net.specs.working.Values.{IsOfType, at_width, chosen, number_of}

-- a truth as a number
abbrev pub truth : Bool → Num
truth b = number_of one_bit (flag b)

pub own_width : (ty : NumTy) (n : ℕ) → at_width (number_of ty n) ty.width ≡ n
own_width ty n =
    let test = le-leb ty.width ty.width (omega arith) in
    rw test (by (ty.signed && is_negative ty.width n))
  where
    by : (b : Bool) → (if b then n + (2 ^ ty.width - 2 ^ ty.width) else n) ≡ n
    by true = omega arith
    by false = refl

one_of_two : (n : ℕ) → n < 2 → n ≡ flag (nat_eq n 1)
one_of_two zero h = refl
one_of_two (suc zero) h = refl
one_of_two (suc (suc n)) h = absurd (omega (arith, h))

-- a value of one bit is a truth
pub bit_is : (v : Num) → IsOfType one_bit v → v ≡ truth (nat_eq v.value.number 1)
bit_is v is =
    let signed : v.signed ≡ false = ap (λ (t : NumTy). t.signed) is.is in
    let width : v.value.width ≡ 1 = ap (λ (t : NumTy). t.width) is.is in
    let below : v.value.number < 2 ^ 1 = subst (λ (w : ℕ). v.value.number < 2 ^ w) width is.bits.below in
    by v.signed v.value.width v.value.number signed width below
  where
    by : (s : Bool) (w n : ℕ) → s ≡ false → w ≡ 1 → n < 2 ^ 1 → record { signed = s; value = record { width = w; number = n } } ≡ truth (nat_eq n 1)
    by s w n e f h = rw (e, f) (ap (λ (m : ℕ). record { signed = false; value = record { width = 1; number = m } }) (one_of_two n (omega (arith, h))))

unsigned : (v : Num) → v.signed ≡ false → integer_of v ≡ pos v.value.number
unsigned v e = ap (λ (s : Bool). reading s v.value.width v.value.number) e

pub same_truth : (x y : Num) → x.signed ≡ false → y.signed ≡ false → outcome Eq (x ∷ y ∷ []) [] ≡ truth (nat_eq x.value.number y.value.number)
same_truth x y e f =
    ap truth (ap (λ i. int_eq i (integer_of y)) (unsigned x e) ∙ ap (int_eq (pos x.value.number)) (unsigned y f) ∙ numbers x.value.number y.value.number)
  where
    same_number : (m n : ℕ) → pos m ≡ pos n → m ≡ n
    same_number m n e = cc

    numbers : (m n : ℕ) → int_eq (pos m) (pos n) ≡ nat_eq m n
    numbers m n =
        let test = Decides-int_eq (pos m) (pos n) in
        sym (same_from_decides (m == n) (int_eq (pos m) (pos n)) (Decides-eqb m n) (λ t. same_number m n (test.0 t), λ e. test.1 (ap pos e)))

pub less_truth : (x y : Num) → x.signed ≡ false → y.signed ≡ false → outcome Lt (x ∷ y ∷ []) [] ≡ truth (nat_lt x.value.number y.value.number)
less_truth x y e f = ap truth (ap (λ i. int_lt i (integer_of y)) (unsigned x e) ∙ ap (int_lt (pos x.value.number)) (unsigned y f))

pub both_truth : (a b : Bool) → outcome And (truth a ∷ truth b ∷ []) [] ≡ truth (a && b)
both_truth true true = refl
both_truth true false = refl
both_truth false true = refl
both_truth false false = refl

-- a choice by a truth
pub choice_is : (ty : NumTy) (b : Bool) (x y : Num) → chosen ty (truth b ∷ x ∷ y ∷ []) ≡ number_of ty (if b then at_width x ty.width else at_width y ty.width)
choice_is ty true x y = refl
choice_is ty false x y = refl
