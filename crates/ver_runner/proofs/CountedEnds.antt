-- A line with a number of rounds is the line without it, but for its end.
use Rattle.std.proofs.Common.{◌≡◌, ℕ, zero, suc, ◌==◌, ◌/◌, ◌%◌, ◌≤◌, List, [], ◌∷◌, ◌++◌, length, map, cond, true, false, Bool, refl, sym, ap, ◌∙◌, arith, length-append}
use Rattle.std.specs.Prelude.{Option, Some, None, codes, decimal}
use Rattle.std.specs.Fmt.{digits, digits_onto, digit_glyph}
use Rattle.std.proofs.lemmas.List.{append_assoc, append-nil}
use Rattle.fir_bits.specs.Values.{BitVector}
use Rattle.trace_text.specs.OutputLines.{round_words, spaced, value_text, words_of_state}
use Rattle.ver_runner.specs.working.Laws.{CountsEndLines, with_count}

onto_some : (k base n : ℕ) (acc : List ℕ) → 1 ≤ length acc → 1 ≤ length (digits_onto k base false n acc)
onto_some zero base n acc some = some
onto_some (suc k) base n acc some = by (n / base == 0) (onto_some k base (n / base) (digit_glyph false (n % base) ∷ acc) (omega arith))
  where
    by : (b : Bool) → 1 ≤ length (digits_onto k base false (n / base) (digit_glyph false (n % base) ∷ acc))
        → 1 ≤ length (cond b (digit_glyph false (n % base) ∷ acc) (digits_onto k base false (n / base) (digit_glyph false (n % base) ∷ acc)))
    by true rest = omega arith
    by false rest = rest

some_digit : (k base n : ℕ) → 1 ≤ length (digits_onto (suc k) base false n [])
some_digit k base n = by (n / base == 0) (onto_some k base (n / base) (digit_glyph false (n % base) ∷ []) (omega arith))
  where
    by : (b : Bool) → 1 ≤ length (digits_onto k base false (n / base) (digit_glyph false (n % base) ∷ []))
        → 1 ≤ length (cond b (digit_glyph false (n % base) ∷ []) (digits_onto k base false (n / base) (digit_glyph false (n % base) ∷ [])))
    by true rest = omega arith
    by false rest = rest

has_digits : (n : ℕ) → 1 ≤ length (digits 16 false n)
unfolding digits
has_digits n = some_digit 63 16 n

-- a word of a value has a digit
value_some : (v : BitVector) → 1 ≤ length (value_text v)
value_some v = let some = has_digits v.number in rw (length-append) (omega (arith, some))

-- words that are not empty
data AreSome : List (List ℕ) → Type 0 where
  no_words : AreSome []
  some_word : (b : ℕ) (bs : List ℕ) (ws : List (List ℕ)) → AreSome ws → AreSome ((b ∷ bs) ∷ ws)

word_more : (w : List ℕ) (ws : List (List ℕ)) → 1 ≤ length w → AreSome ws → AreSome (w ∷ ws)
word_more [] ws some rest = absurd (omega arith)
word_more (b ∷ bs) ws some rest = some_word b bs ws rest

values_some : (vs : List BitVector) → AreSome (map value_text vs)
values_some [] = no_words
values_some (v ∷ vs) = word_more (value_text v) (map value_text vs) (value_some v) (values_some vs)

state_some : (o : Option (List BitVector)) → AreSome (words_of_state o)
state_some None = no_words
state_some (Some vs) = some_word 124 [] (map value_text vs) (values_some vs)

joined_some : (ws us : List (List ℕ)) → AreSome ws → AreSome us → AreSome (ws ++ us)
joined_some ws us no_words u = u
joined_some ws us (some_word b bs rest h) u = some_word b bs (rest ++ us) (joined_some rest us h u)

-- a number behind words
behind : (w : List ℕ) (ws : List (List ℕ)) (count : ℕ) → spaced ((w ∷ ws) ++ round_words (Some count)) ≡ spaced (w ∷ ws) ++ (codes " ; " ++ decimal count)
behind w [] count = refl
behind w (v ∷ vs) count = ap (λ l. w ++ 32 ∷ l) (behind v vs count) ∙ sym (append_assoc w (32 ∷ spaced (v ∷ vs)) (codes " ; " ++ decimal count))

-- where the first is not empty, nor are all
first_some : (b : ℕ) (bs : List ℕ) (ws : List (List ℕ)) (count : ℕ)
    → spaced ((b ∷ bs) ∷ ws) ++ (codes " ; " ++ decimal count) ≡ with_count (spaced ((b ∷ bs) ∷ ws)) count
first_some b bs [] count = sym (append_assoc (b ∷ bs) (codes " ; ") (decimal count))
first_some b bs (v ∷ vs) count = sym (append_assoc ((b ∷ bs) ++ 32 ∷ spaced (v ∷ vs)) (codes " ; ") (decimal count))

ends : (ws : List (List ℕ)) (count : ℕ) → AreSome ws → spaced (ws ++ round_words (Some count)) ≡ with_count (spaced ws) count
ends ws count no_words = refl
ends ws count (some_word b bs rest h) = behind (b ∷ bs) rest count ∙ first_some b bs rest count

pub counts_end_lines : CountsEndLines
counts_end_lines outputs state count =
    let ws = map value_text outputs ++ words_of_state state in
    let some = joined_some (map value_text outputs) (words_of_state state) (values_some outputs) (state_some state) in
    record {
      words = spaced ws;
      plain_is = ap (λ us. spaced us ++ codes "\n") (append-nil ws);
      counted_is = ap (λ l. l ++ codes "\n") (ends ws count some);
    }
