-- Init lines are those in which nothing is wrong.
-- The name is a word of the state, a register with a value or an array with an address and a value, and the value fits.
use Rattle.std.proofs.Common.{◌≡◌, ℕ, ◌+◌, ◌^◌, ◌<◌, ◌≤◌, List, [], ◌∷◌, ◌++◌, length, Bool, true, false, nat_lt, nat_le, refl, arith, codes, Option, Some, None, inl, inr}
use Rattle.std.proofs.lemmas.Bool.{ltb-true, lt-ltb, leb-true}
use Rattle.ver_words.specs.Names.{is_word}
use Rattle.trace_text.specs.declared.fault.Cause.{Cause}
use Rattle.trace_text.specs.declared.fault.Cause.TheVariants.{Misspelled, Count, Absent}
use Rattle.trace_text.specs.Lines.{line_limit, words_of}
use Rattle.trace_text.specs.Spelling.{is_value, hexadecimal_of, is_decimal, decimal_of}
use Rattle.trace_text.specs.declared.shape.FoundWord.{FoundWord}
use Rattle.trace_text.specs.Shapes.{TraceShape, found}
use Rattle.trace_text.specs.SpelledLines.{IsRegisterLine, IsArrayLine, IsInitLine}
use Rattle.trace_text.specs.LineFaults.{unless, absent_name, register_named, array_named, wide_word, init_words, init_count, init_faults}
use Rattle.fir_base.proofs.Empty.{empty_right}
use Rattle.fir_base.proofs.Tests.{chosen}
use Rattle.trace_text.proofs.EmptyLists.{parts, passes, passed}
use Rattle.trace_text.proofs.TickLines.{word_fits, not_wide}

-- what a name stands for
abbrev word_at : ℕ → ℕ → Option ℕ → Option FoundWord
word_at place width depth = Some (record { place = place; width = width; depth = depth })

-- a register that is there, and fits the value
record IsRegister (o : Option FoundWord) (value : ℕ) : Type 0 where
  place : ℕ
  width : ℕ
  there : o ≡ word_at place width None
  fits : value < 2 ^ width

register_at : (k place width : ℕ) (depth : Option ℕ) (name w : List ℕ) → register_named (word_at place width depth) name ≡ [] → wide_word k (word_at place width depth) w ≡ []
    → IsRegister (word_at place width depth) (hexadecimal_of w)
register_at k place width None name w h g = record { place = place; width = width; there = refl; fits = word_fits k width w g }
register_at k place width (Some depth) name w h g = let e : absent_name name ≡ [] = h in cc

register_there : (k : ℕ) (o : Option FoundWord) (name w : List ℕ) → register_named o name ≡ [] → wide_word k o w ≡ [] → IsRegister o (hexadecimal_of w)
register_there k None name w h g = cc
register_there k (Some f) name w h g = register_at k f.place f.width f.depth name w h g

-- an array that is there, has the address, and fits the value
record IsArray (o : Option FoundWord) (address value : ℕ) : Type 0 where
  place : ℕ
  width : ℕ
  depth : ℕ
  there : o ≡ word_at place width (Some depth)
  within : address < depth
  fits : value < 2 ^ width

abbrev address_absent : List ℕ → List ℕ → Cause
address_absent name address = Absent (6 + length name) (length address)

array_at : (k place width : ℕ) (depth : Option ℕ) (name address w : List ℕ) → array_named (word_at place width depth) name address ≡ [] → wide_word k (word_at place width depth) w ≡ []
    → IsArray (word_at place width depth) (decimal_of address) (hexadecimal_of w)
array_at k place width None name address w h g = let e : absent_name name ≡ [] = h in cc
array_at k place width (Some depth) name address w h g = record {
  place = place;
  width = width;
  depth = depth;
  there = refl;
  within = ltb-true (decimal_of address) depth (passes (nat_lt (decimal_of address) depth) (address_absent name address) h);
  fits = word_fits k width w g;
}

array_there : (k : ℕ) (o : Option FoundWord) (name address w : List ℕ) → array_named o name address ≡ [] → wide_word k o w ≡ [] → IsArray o (decimal_of address) (hexadecimal_of w)
array_there k None name address w h g = cc
array_there k (Some f) name address w h g = array_at k f.place f.width f.depth name address w h g

-- an init line has three or four words
at_most_four : (n : ℕ) → init_count n ≡ [] → n ≤ 4
at_most_four n h =
    elim (chosen (nat_lt n 3) (Count n 3 ∷ []) (unless (nat_le n 4) (Count n 4)) [] h) [
      | inl a ↦ let e : Count n 3 ∷ [] ≡ [] = a.1 in cc
      | inr a ↦ leb-true n 4 (passes (nat_le n 4) (Count n 4) a.1)
    ]

abbrev pub InitSpelled : TraceShape → List ℕ → Type 0
InitSpelled shape line = (place : ℕ) × (value : ℕ) × IsInitLine shape line place value

module _ (shape : TraceShape) (line : List ℕ) (short : length line ≤ line_limit) where
  register_spelled : (name digits : List ℕ) → words_of line ≡ codes "init" ∷ name ∷ digits ∷ [] → init_words shape (name ∷ digits ∷ []) ≡ [] → InitSpelled shape line
  register_spelled name digits words h =
      let o = found shape name in
      let a = unless (is_word name) (Misspelled 2) in
      let b = unless (is_value digits) (Misspelled 3) in
      let p = parts (a ++ b ++ register_named o name) (wide_word 3 o digits) h in
      let q = parts (a ++ b) (register_named o name) p.0 in
      let r = parts a b q.0 in
      let f = register_there 3 o name digits q.1 p.1 in
      let here : IsRegisterLine shape line f.place (hexadecimal_of digits) = record {
        short = short;
        name = name;
        digits = digits;
        words = words;
        name_spelled = passes (is_word name) (Misspelled 2) r.0;
        width = f.width;
        named = f.there;
        digits_spelled = passes (is_value digits) (Misspelled 3) r.1;
        is = refl;
        fits = f.fits;
      } in
      (f.place, hexadecimal_of digits, inl here)

  array_spelled : (name address digits : List ℕ) → words_of line ≡ codes "init" ∷ name ∷ address ∷ digits ∷ [] → init_words shape (name ∷ address ∷ digits ∷ []) ≡ [] → InitSpelled shape line
  array_spelled name address digits words h =
      let o = found shape name in
      let a = unless (is_word name) (Misspelled 2) in
      let b = unless (is_decimal address) (Misspelled 3) in
      let c = unless (is_value digits) (Misspelled 4) in
      let p = parts (a ++ b ++ c ++ array_named o name address) (wide_word 4 o digits) h in
      let q = parts (a ++ b ++ c) (array_named o name address) p.0 in
      let r = parts (a ++ b) c q.0 in
      let s = parts a b r.0 in
      let f = array_there 4 o name address digits q.1 p.1 in
      let here : IsArrayLine shape line (f.place + decimal_of address) (hexadecimal_of digits) = record {
        short = short;
        name = name;
        address = address;
        digits = digits;
        words = words;
        name_spelled = passes (is_word name) (Misspelled 2) s.0;
        first = f.place;
        width = f.width;
        depth = f.depth;
        named = f.there;
        address_spelled = passes (is_decimal address) (Misspelled 3) s.1;
        within = f.within;
        place_is = refl;
        digits_spelled = passes (is_value digits) (Misspelled 4) r.1;
        is = refl;
        fits = f.fits;
      } in
      (f.place + decimal_of address, hexadecimal_of digits, inr here)

  words_spelled : (ws : List (List ℕ)) → words_of line ≡ codes "init" ∷ ws → init_count (1 + length ws) ≡ [] → init_words shape ws ≡ [] → InitSpelled shape line
  words_spelled [] words n h = let e : Count 1 3 ∷ [] ≡ [] = n in cc
  words_spelled (name ∷ []) words n h = let e : Count 2 3 ∷ [] ≡ [] = n in cc
  words_spelled (name ∷ digits ∷ []) words n h = register_spelled name digits words h
  words_spelled (name ∷ address ∷ digits ∷ []) words n h = array_spelled name address digits words h
  words_spelled (a ∷ b ∷ c ∷ d ∷ ws) words n h = let few = at_most_four (1 + length (a ∷ b ∷ c ∷ d ∷ ws)) n in absurd (omega arith)

  pub init_spelled : (after : Bool) (ws : List (List ℕ)) → words_of line ≡ codes "init" ∷ ws → init_faults shape after ws ≡ [] → (after ≡ false) × InitSpelled shape line
  init_spelled true ws words h = let e : Misspelled 1 ∷ [] ≡ [] = empty_right (init_count (1 + length ws)) (Misspelled 1 ∷ []) h in cc
  init_spelled false ws words h = let p = parts (init_count (1 + length ws)) (init_words shape ws) h in (refl, words_spelled ws words p.0 p.1)

pub register_faultless : (shape : TraceShape) (line : List ℕ) (place value : ℕ) (i : IsRegisterLine shape line place value) → init_faults shape false (i.name ∷ i.digits ∷ []) ≡ []
register_faultless shape line place value i =
    let fits : hexadecimal_of i.digits < 2 ^ i.width = rw i.is i.fits in
    rw (i.name_spelled, i.digits_spelled, i.named) (not_wide 3 i.width i.digits fits)

pub array_faultless : (shape : TraceShape) (line : List ℕ) (place value : ℕ) (i : IsArrayLine shape line place value) → init_faults shape false (i.name ∷ i.address ∷ i.digits ∷ []) ≡ []
array_faultless shape line place value i =
    let fits : hexadecimal_of i.digits < 2 ^ i.width = rw i.is i.fits in
    let there = passed (nat_lt (decimal_of i.address) i.depth) (address_absent i.name i.address) (lt-ltb (decimal_of i.address) i.depth i.within) in
    rw (i.name_spelled, i.address_spelled, i.digits_spelled, i.named) (rw there (not_wide 4 i.width i.digits fits))
