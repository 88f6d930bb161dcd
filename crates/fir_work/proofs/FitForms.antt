-- The forms of a number at another width.
use Rattle.std.proofs.Common.{◌≡◌, ℕ, zero, suc, ◌⊎◌, add-one, ◌+◌, ◌-◌, ◌/◌, ◌%◌, ◌*◌, ◌^◌, ◌<◌, ◌≤◌, ◌==◌, Bool, true, false, not, ◌||◌, if◌then◌else◌, arith, refl, ap, sym, ◌∙◌, inl, inr}
use Rattle.std.proofs.lemmas.Bool.{cases_lt, lt-ltb, le-ltb, le-leb, lt-leb, eq-eqb, ne_eqb, eqb-true}
use Rattle.std.proofs.lemmas.Nat.{pow-add, pow_pos, div_below, le-div}
use Rattle.fir_bits.proofs.Powers.{pow_le}
use Rattle.fir_bits.specs.Values.{extended, is_negative, low_bits}
use Rattle.fir_bits.specs.declared.types.NumTy.{NumTy}
use Rattle.fir_net.specs.working.Values.{number_of, at_width}
use Rattle.fir_work.specs.declared.work.Work.TheVariants as work
use Rattle.fir_work.specs.working.Works.{extension}
use Rattle.fir_work.specs.working.Forms.{IsFitWork, plain}
use Rattle.fir_work.proofs.Numbers.{mod_wide}
use Rattle.fir_work.proofs.Fields.{low_field}

-- a number that is not extended by its sign, or at its own width, is itself
extended_plain : (s : Bool) (w x to : ℕ) → (not s || w == to) ≡ true → extended s w x to ≡ x
extended_plain false w x to h = refl
extended_plain true w x to h = filled (is_negative w x) w x to (eqb-true w to h)
  where
    filled : (b : Bool) (v n e : ℕ) → v ≡ e → (if b then n + (2 ^ e - 2 ^ v) else n) ≡ n
    filled false v n e same = refl
    filled true v n e same = let powers : 2 ^ v ≡ 2 ^ e = ap (λ k. 2 ^ k) same in omega arith

-- at a lesser width it is cut, at a greater one extended
cut_is : (t : NumTy) (to x : ℕ) → to < t.width → at_width (number_of t x) to ≡ x % 2 ^ to
cut_is t to x less = ap (λ (b : Bool). if b then extended t.signed t.width x to else low_bits to x) (lt-leb t.width to less)

wide_is : (t : NumTy) (to x : ℕ) → t.width ≤ to → at_width (number_of t x) to ≡ extended t.signed t.width x to
wide_is t to x wider = ap (λ (b : Bool). if b then extended t.signed t.width x to else low_bits to x) (le-leb t.width to wider)

pub plain_is : (t : NumTy) (to x : ℕ) → t.width ≤ to → plain t to ≡ true → at_width (number_of t x) to ≡ x
plain_is t to x wider is = wide_is t to x wider ∙ extended_plain t.signed t.width x to is

pub cut_form : (t : NumTy) (to g : ℕ) → to < t.width → g + 1 ≡ 2 ^ to → IsFitWork t to (work.Field 0 g)
cut_form t to g less is = record {
  runs = λ net ns x y. omega arith;
  gives = λ net ns x y z below. low_field to g x is ∙ sym (cut_is t to x less);
}

-- a number of w bits has its top bit just where it has a bit from there on
pub top_bit : (w x : ℕ) → x < 2 ^ w → ((x / 2 ^ (w - 1) ≡ 0) × (2 * x < 2 ^ w)) ⊎ ((x / 2 ^ (w - 1) ≡ 0 → ⊥) × (2 ^ w ≤ 2 * x))
top_bit zero x below = let none : x ≡ 0 = omega arith in inl (rw none (omega arith, omega arith))
top_bit (suc k) x below =
    let e : suc k - 1 ≡ k = omega arith in
    let double : 2 ^ suc k ≡ 2 ^ k * 2 ^ 1 = ap (λ i. 2 ^ i) (sym (add-one k)) ∙ pow-add 2 k 1 in
    rw e
    (elim (cases_lt x (2 ^ k)) [
      | inl h ↦ inl (let small = div_below x (2 ^ k) 1 (pow_pos k) (omega arith) in omega arith, omega arith)
      | inr h ↦ inr (λ none. let great = le-div 1 x (2 ^ k) (pow_pos k) (omega arith) in omega arith, omega arith)
    ])

-- what is signed and narrower is filled where it has that bit
extension_is : (w to own all x : ℕ) → own + 1 ≡ 2 ^ w → all + 1 ≡ 2 ^ to → w ≤ to → to ≤ 128 → x < 2 ^ w → extension x (w - 1) (all - own) ≡ extended true w x to
extension_is w to own all x is_own is_all wider narrow below =
    let powers = pow_le w to wider in
    elim (top_bit w x below) [
      | inl h ↦ rw (eq-eqb (x / 2 ^ (w - 1)) 0 h.0, le-ltb (2 ^ w - 1) (2 * x) (omega (arith, h.1))) refl
      | inr h ↦ rw (ne_eqb (x / 2 ^ (w - 1)) 0 h.0, lt-ltb (2 ^ w - 1) (2 * x) (omega (arith, h.1))) (mod_wide (x + (all - own)) to 128 (omega arith) narrow ∙ omega arith)
    ]

not_plain : (s : Bool) (w to : ℕ) → (not s || w == to) ≡ false → s ≡ true
not_plain true w to h = refl
not_plain false w to h = cc

pub extend_form : (t : NumTy) (to own all : ℕ) → own + 1 ≡ 2 ^ t.width → all + 1 ≡ 2 ^ to → t.width ≤ to → to ≤ 128 → plain t to ≡ false → IsFitWork t to (work.Extend (t.width - 1) (all - own))
extend_form t to own all is_own is_all wider narrow other = record {
  runs = λ net ns x y. omega arith;
  gives = λ net ns x y z below.
      extension_is t.width to own all x is_own is_all wider narrow below
      ∙ ap (λ (s : Bool). extended s t.width x to) (sym (not_plain t.signed t.width to other)) ∙ sym (wide_is t to x wider);
}
