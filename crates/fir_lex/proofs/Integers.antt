-- The digits of an integer at the front, and its number.
use Rattle.std.proofs.Common.{◌≡◌, ℕ, zero, suc, ◌+◌, ◌-◌, ◌≤◌, Bool, true, false, ◌||◌, List, [], ◌∷◌, length, take, drop, refl, sym, ap, ◌∙◌, arith}
use Rattle.std.specs.Prelude.{slice_range, nat_eq}
use Rattle.std.proofs.lemmas.List.{length-drop}
use Rattle.fir_base.specs.Digits.{decimal_value}
use Rattle.fir_lex.specs.declared.token.Kind.{Kind}
use Rattle.fir_lex.specs.declared.token.Kind.TheVariants as kind
use Rattle.fir_lex.specs.working.Numbers.{digits_of, HasNumber}

abbrev is_sign : ℕ → Bool
is_sign b = nat_eq b 43 || nat_eq b 45

-- ---- the digits of so many bytes

unsigned : (sign : ℕ) (b : ℕ) (bs : List ℕ) → b ∷ bs ≡ drop sign (b ∷ bs) → sign ≤ length (b ∷ bs) → sign ≡ 0
unsigned sign b bs e le = omega (arith, ap length e, length-drop sign (b ∷ bs))

signed : (sign : ℕ) (b : ℕ) (bs : List ℕ) → bs ≡ drop sign (b ∷ bs) → sign ≤ length (b ∷ bs) → sign ≡ 1
signed sign b bs e le = omega (arith, ap length e, length-drop sign (b ∷ bs))

taken_at : (sign count b : ℕ) (bs : List ℕ) (t : Bool) → is_sign b ≡ t → digits_of (b ∷ bs) ≡ drop sign (b ∷ bs) → sign ≤ length (b ∷ bs) → digits_of (take (sign + suc count) (b ∷ bs)) ≡ take (suc count) (drop sign (b ∷ bs))
taken_at sign count b bs true t e le =
    let one = signed sign b bs (rw t at e) le in
    let more : sign + suc count ≡ suc (suc count) = omega arith in
    rw (more, one, t) refl
taken_at sign count b bs false t e le =
    let none = unsigned sign b bs (rw t at e) le in
    let same : sign + suc count ≡ suc count = omega arith in
    rw (same, none, t) refl

digits_taken : (sign count : ℕ) (s : List ℕ) → digits_of s ≡ drop sign s → sign ≤ length s → 1 ≤ count → digits_of (take (sign + count) s) ≡ take count (drop sign s)
digits_taken sign zero s e le some = absurd (omega arith)
digits_taken zero (suc count) [] e le some = let same : 0 + suc count ≡ suc count = omega arith in rw same refl
digits_taken (suc sign) (suc count) [] e le some = absurd (omega arith)
digits_taken sign (suc count) (b ∷ bs) e le some = taken_at sign count b bs (is_sign b) refl e le

-- ---- the number

pub integer_has : (k : Kind) (s ds : List ℕ) (sign count from upto n : ℕ) → k ≡ kind.Integer n → from ≡ 0 → upto ≡ sign + count → digits_of s ≡ drop sign s → sign ≤ length s → 1 ≤ count → ds ≡ take count (drop sign s) → n ≡ decimal_value ds → HasNumber k (slice_range s from upto)
integer_has k s ds sign count from upto n is first last e le some digits number =
    let taken = digits_taken sign count s e le some in
    let whole : sign + count - 0 ≡ sign + count = omega arith in
    rw (is, first, last, whole) (number ∙ ap decimal_value (digits ∙ sym taken))
