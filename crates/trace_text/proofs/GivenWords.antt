-- The words of a register and of an array that are read, and the values that fit or do not.
use Rattle.std.proofs.Common.{◌≡◌, ℕ, ◌+◌, ◌^◌, ◌<◌, ◌≤◌, List, [], ◌∷◌, length, true, false, nat_lt, codes, Option, Some, None, inl, inr, refl, arith}
use Rattle.std.proofs.lemmas.Bool.{le-ltb}
use Rattle.ver_words.specs.Names.{is_word}
use Rattle.trace_text.specs.declared.fault.Cause.TheVariants.{Absent, Wide}
use Rattle.trace_text.specs.declared.shape.FoundWord.{FoundWord}
use Rattle.trace_text.specs.Lines.{line_limit, words_of}
use Rattle.trace_text.specs.Spelling.{is_value, hexadecimal_of, is_decimal, decimal_of}
use Rattle.trace_text.specs.Shapes.{TraceShape, state_widths, found}
use Rattle.trace_text.specs.SpelledLines.{IsInitLine}
use Rattle.trace_text.specs.LineFaults.{init_words, wide}
use Rattle.trace_text.specs.working.Readings.{first_cause}
use Rattle.trace_text.proofs.FoundPlaces.{found_within}

abbrev pub word_at : ℕ → ℕ → Option ℕ → FoundWord
word_at place width depth = record { place = place; width = width; depth = depth }

-- the value at the place, in each line that has these words
abbrev pub Gives : TraceShape → List (List ℕ) → ℕ → ℕ → Type 0
Gives shape words place value =
    ((line : List ℕ) → length line ≤ line_limit → words_of line ≡ codes "init" ∷ words → IsInitLine shape line place value) × (place < length (state_widths shape.state))

module _ (shape : TraceShape) (name digits : List ℕ) (place width value : ℕ) where
  pub register_given : is_word name ≡ true → is_value digits ≡ true → found shape name ≡ Some (word_at place width None) → hexadecimal_of digits ≡ value → value < 2 ^ width
      → Gives shape (name ∷ digits ∷ []) place value
  register_given spelled digits_spelled named is fits =
      let within = found_within 0 shape.state name (word_at place width None) named in (
        λ line short words. inl (record {
          short = short;
          name = name;
          digits = digits;
          words = words;
          name_spelled = spelled;
          width = width;
          named = named;
          digits_spelled = digits_spelled;
          is = is;
          fits = fits;
        }),
        omega arith,
      )

  pub array_given : (address : List ℕ) (depth offset : ℕ) → is_word name ≡ true → is_decimal address ≡ true → is_value digits ≡ true → found shape name ≡ Some (word_at place width (Some depth))
      → offset ≡ decimal_of address → offset < depth → hexadecimal_of digits ≡ value → value < 2 ^ width → Gives shape (name ∷ address ∷ digits ∷ []) (place + offset) value
  array_given address depth offset spelled address_spelled digits_spelled named offset_is below is fits =
      let within = found_within 0 shape.state name (word_at place width (Some depth)) named in (
        λ line short words. inr (record {
          short = short;
          name = name;
          address = address;
          digits = digits;
          words = words;
          name_spelled = spelled;
          first = place;
          width = width;
          depth = depth;
          named = named;
          address_spelled = address_spelled;
          within = omega arith;
          place_is = omega arith;
          digits_spelled = digits_spelled;
          is = is;
          fits = fits;
        }),
        omega arith,
      )

-- an address that the array does not have
pub address_told : (shape : TraceShape) (name address digits : List ℕ) (place width depth : ℕ) → is_word name ≡ true → is_decimal address ≡ true → is_value digits ≡ true
    → found shape name ≡ Some (word_at place width (Some depth)) → depth ≤ decimal_of address
    → first_cause (init_words shape (name ∷ address ∷ digits ∷ [])) ≡ Some (Absent (6 + length name) (length address))
address_told shape name address digits place width depth spelled address_spelled digits_spelled named beyond =
    let past : nat_lt (decimal_of address) depth ≡ false = le-ltb (decimal_of address) depth beyond in
    rw (spelled, address_spelled, digits_spelled, named, past) refl

-- a number that does not fit the width
pub none_fit : (k width : ℕ) (digits : List ℕ) → 2 ^ width ≤ hexadecimal_of digits → wide k width digits ≡ Wide k width ∷ []
none_fit k width digits high = let above : nat_lt (hexadecimal_of digits) (2 ^ width) ≡ false = le-ltb (hexadecimal_of digits) (2 ^ width) high in rw above
