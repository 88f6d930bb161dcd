-- Lengths to an end that is looked for byte by byte: what a loop at an index keeps.
use Rattle.std.proofs.Common.{◌≡◌, ℕ, suc, ◌+◌, ◌<◌, ◌≤◌, Bool, true, false, cond, ◌&&◌, not, List, [], ◌∷◌, length, get_or, drop, Option, Some, None, refl, sym, ap, ◌∙◌, zero-add, arith}
use Rattle.std.specs.Prelude.{option_map, nat_eq}
use Rattle.std.proofs.lemmas.List.{drop_more, drop_all}
use Rattle.fir_lex.specs.working.Bytes.{ends_line}
use Rattle.fir_lex.specs.working.Front.{string_length, information_length, Within, within_step, is_closed, block_length, comment_length}

-- ---- a length, seen from an index

abbrev pub ahead : ℕ → Option ℕ → Option ℕ
ahead i None = None
ahead i (Some n) = Some (i + n)

abbrev some : ℕ → Option ℕ
some n = Some n

pub ahead_more : (i : ℕ) (o : Option ℕ) → ahead (i + 1) o ≡ ahead i (option_map suc o)
ahead_more i None = refl
ahead_more i (Some n) = let e : i + 1 + n ≡ i + suc n = omega arith in ap some e

pub ahead_zero : (o : Option ℕ) → ahead 0 o ≡ o
ahead_zero None = refl
ahead_zero (Some n) = ap some (zero-add n)

ahead_here : (i : ℕ) → ahead i (Some 0) ≡ Some i
ahead_here i = let e : i + 0 ≡ i = omega arith in ap some e

-- ---- strings

pub string_ends : (escaped : Bool) (s : List ℕ) → ends_line s ≡ true → string_length escaped s ≡ None
string_ends escaped [] h = refl
string_ends escaped (b ∷ bs) h = rw h refl

pub string_closes : (escaped : Bool) (b : ℕ) (bs : List ℕ) → ends_line (b ∷ bs) ≡ false → (not escaped && nat_eq b 34) ≡ true → string_length escaped (b ∷ bs) ≡ Some 0
string_closes escaped b bs h e = rw (h, e) refl

pub string_goes_on : (escaped : Bool) (b : ℕ) (bs : List ℕ) → ends_line (b ∷ bs) ≡ false → (not escaped && nat_eq b 34) ≡ false → string_length escaped (b ∷ bs) ≡ option_map suc (string_length (not escaped && nat_eq b 92) bs)
string_goes_on escaped b bs h e = rw (h, e) refl

abbrev pub string_at : Bool → List ℕ → ℕ → Option ℕ
string_at escaped s i = ahead i (string_length escaped (drop i s))

pub string_at_line_end : (escaped : Bool) (s : List ℕ) (i : ℕ) → ends_line (drop i s) ≡ true → string_at escaped s i ≡ None
string_at_line_end escaped s i h = ap (ahead i) (string_ends escaped (drop i s) h)

pub string_at_end : (escaped : Bool) (s : List ℕ) (i : ℕ) → length s ≤ i → string_at escaped s i ≡ None
string_at_end escaped s i past = ap (λ (r : List ℕ). ahead i (string_length escaped r)) (drop_all i s past)

abbrev here : List ℕ → ℕ → List ℕ
here s i = get_or s i 0 ∷ drop (i + 1) s

not_ending : (s : List ℕ) (i : ℕ) → i < length s → ends_line (drop i s) ≡ false → ends_line (here s i) ≡ false
not_ending s i lt h = ap ends_line (sym (drop_more s i 0 lt)) ∙ h

pub string_at_quote : (escaped : Bool) (s : List ℕ) (i : ℕ) → i < length s → ends_line (drop i s) ≡ false → (not escaped && nat_eq (get_or s i 0) 34) ≡ true → string_at escaped s i ≡ Some i
string_at_quote escaped s i lt h e =
    ap (λ (r : List ℕ). ahead i (string_length escaped r)) (drop_more s i 0 lt) ∙ ap (ahead i) (string_closes escaped (get_or s i 0) (drop (i + 1) s) (not_ending s i lt h) e) ∙ ahead_here i

pub string_at_more : (escaped : Bool) (s : List ℕ) (i : ℕ) → i < length s → ends_line (drop i s) ≡ false → (not escaped && nat_eq (get_or s i 0) 34) ≡ false → string_at (not escaped && nat_eq (get_or s i 0) 92) s (i + 1) ≡ string_at escaped s i
string_at_more escaped s i lt h e =
    ahead_more i (string_length (not escaped && nat_eq (get_or s i 0) 92) (drop (i + 1) s))
    ∙ sym (ap (λ (r : List ℕ). ahead i (string_length escaped r)) (drop_more s i 0 lt) ∙ ap (ahead i) (string_goes_on escaped (get_or s i 0) (drop (i + 1) s) (not_ending s i lt h) e))

-- ---- file information

pub information_ends : (backslash : Bool) (s : List ℕ) → ends_line s ≡ true → information_length backslash s ≡ None
information_ends backslash [] h = refl
information_ends backslash (b ∷ bs) h = rw h refl

pub information_closes : (backslash : Bool) (b : ℕ) (bs : List ℕ) → ends_line (b ∷ bs) ≡ false → (not backslash && nat_eq b 93) ≡ true → information_length backslash (b ∷ bs) ≡ Some 0
information_closes backslash b bs h e = rw (h, e) refl

pub information_goes_on : (backslash : Bool) (b : ℕ) (bs : List ℕ) → ends_line (b ∷ bs) ≡ false → (not backslash && nat_eq b 93) ≡ false → information_length backslash (b ∷ bs) ≡ option_map suc (information_length (nat_eq b 92) bs)
information_goes_on backslash b bs h e = rw (h, e) refl

abbrev pub information_at : Bool → List ℕ → ℕ → Option ℕ
information_at backslash s i = ahead i (information_length backslash (drop i s))

pub information_at_line_end : (backslash : Bool) (s : List ℕ) (i : ℕ) → ends_line (drop i s) ≡ true → information_at backslash s i ≡ None
information_at_line_end backslash s i h = ap (ahead i) (information_ends backslash (drop i s) h)

pub information_at_end : (backslash : Bool) (s : List ℕ) (i : ℕ) → length s ≤ i → information_at backslash s i ≡ None
information_at_end backslash s i past = ap (λ (r : List ℕ). ahead i (information_length backslash r)) (drop_all i s past)

pub information_at_bracket : (backslash : Bool) (s : List ℕ) (i : ℕ) → i < length s → ends_line (drop i s) ≡ false → (not backslash && nat_eq (get_or s i 0) 93) ≡ true → information_at backslash s i ≡ Some i
information_at_bracket backslash s i lt h e =
    ap (λ (r : List ℕ). ahead i (information_length backslash r)) (drop_more s i 0 lt) ∙ ap (ahead i) (information_closes backslash (get_or s i 0) (drop (i + 1) s) (not_ending s i lt h) e) ∙ ahead_here i

pub information_at_more : (backslash : Bool) (s : List ℕ) (i : ℕ) → i < length s → ends_line (drop i s) ≡ false → (not backslash && nat_eq (get_or s i 0) 93) ≡ false → information_at (nat_eq (get_or s i 0) 92) s (i + 1) ≡ information_at backslash s i
information_at_more backslash s i lt h e =
    ahead_more i (information_length (nat_eq (get_or s i 0) 92) (drop (i + 1) s))
    ∙ sym (ap (λ (r : List ℕ). ahead i (information_length backslash r)) (drop_more s i 0 lt) ∙ ap (ahead i) (information_goes_on backslash (get_or s i 0) (drop (i + 1) s) (not_ending s i lt h) e))

-- ---- comments

pub comment_ends : (s : List ℕ) → ends_line s ≡ true → comment_length s ≡ 0
comment_ends [] h = refl
comment_ends (b ∷ bs) h = rw h refl

pub comment_goes_on : (b : ℕ) (bs : List ℕ) → ends_line (b ∷ bs) ≡ false → comment_length (b ∷ bs) ≡ suc (comment_length bs)
comment_goes_on b bs h = rw h refl

pub comment_at_line_end : (s : List ℕ) (i : ℕ) → ends_line (drop i s) ≡ true → i + comment_length (drop i s) ≡ i
comment_at_line_end s i h = omega (arith, comment_ends (drop i s) h)

pub comment_at_end : (s : List ℕ) (i : ℕ) → length s ≤ i → i + comment_length (drop i s) ≡ i
comment_at_end s i past = omega (arith, ap comment_length (drop_all i s past))

pub comment_at_more : (s : List ℕ) (i : ℕ) → i < length s → ends_line (drop i s) ≡ false → i + 1 + comment_length (drop (i + 1) s) ≡ i + comment_length (drop i s)
comment_at_more s i lt h =
    omega (arith, ap comment_length (drop_more s i 0 lt), comment_goes_on (get_or s i 0) (drop (i + 1) s) (not_ending s i lt h))

-- ---- annotation blocks

abbrev pub block_at : Within → List ℕ → ℕ → Option ℕ
block_at within s i = ahead i (block_length within (drop i s))

pub block_step : (within : Within) (b : ℕ) (bs : List ℕ) (t : Bool) → is_closed (within_step within b) ≡ t → block_length within (b ∷ bs) ≡ cond t (Some 1) (option_map suc (block_length (within_step within b) bs))
block_step within b bs t e = rw e refl

pub block_at_end : (within : Within) (s : List ℕ) (i : ℕ) → length s ≤ i → block_at within s i ≡ None
block_at_end within s i past = ap (λ (r : List ℕ). ahead i (block_length within r)) (drop_all i s past)

pub block_at_bracket : (within : Within) (s : List ℕ) (i : ℕ) → i < length s → is_closed (within_step within (get_or s i 0)) ≡ true → block_at within s i ≡ Some (i + 1)
block_at_bracket within s i lt e =
    ap (λ (r : List ℕ). ahead i (block_length within r)) (drop_more s i 0 lt) ∙ ap (ahead i) (block_step within (get_or s i 0) (drop (i + 1) s) true e)

pub block_at_more : (within : Within) (s : List ℕ) (i : ℕ) → i < length s → is_closed (within_step within (get_or s i 0)) ≡ false → block_at (within_step within (get_or s i 0)) s (i + 1) ≡ block_at within s i
block_at_more within s i lt e =
    ahead_more i (block_length (within_step within (get_or s i 0)) (drop (i + 1) s))
    ∙ sym (ap (λ (r : List ℕ). ahead i (block_length within r)) (drop_more s i 0 lt) ∙ ap (ahead i) (block_step within (get_or s i 0) (drop (i + 1) s) false e))

-- ---- tests of two parts

pub first_fails : (a b : Bool) → a ≡ true → (not a && b) ≡ false
first_fails true b h = refl
first_fails false b h = absurd cc

pub first_passes : (a b : Bool) → a ≡ false → b ≡ (not a && b)
first_passes true b h = absurd cc
first_passes false b h = refl

pub second_fails : (a b : Bool) → b ≡ false → (a && b) ≡ false
second_fails true b h = h
second_fails false b h = refl

pub first_stays : (a b : Bool) → a ≡ true → not a ≡ (not a && b)
first_stays true b h = refl
first_stays false b h = absurd cc
