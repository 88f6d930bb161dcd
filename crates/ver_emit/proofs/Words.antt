-- Words in a text, and opening parentheses.
-- Bytes of a word go on with it, and any other byte closes it.
use Rattle.std.proofs.Common.{◌≡◌, ℕ, List, [], ◌∷◌, ◌++◌, true, false, Option, Some, None, refl, sym, ap, ◌∙◌, append_assoc, append-nil, arith}
use Rattle.std.specs.Prelude.{IsTrue, option_map, nat_eq, ◌||◌}
use Rattle.std.specs.List.{list_all}
use Rattle.std.proofs.lemmas.Bool.{and_parts, or_parts}
use Rattle.std.proofs.lemmas.Bool.Decides.{nat_tests}
use Rattle.ver_words.specs.Names.{is_word}
use Rattle.fir_base.specs.Bytes.{is_word_start, is_word_byte}
use Rattle.ver_ast.specs.Tokens.{VToken, word, sign}
use Rattle.ver_ast.specs.working.TokenSteps.{Pending, in_word, in_sign, TokenStep, is_double, go_on, begin, tokens_from, tokens}
use Rattle.ver_emit.proofs.ReadText.{Reads}

-- a text whose first byte goes on with no word and with no constant
abbrev pub Closes : List ℕ → Type 0
Closes [] = ⊥
Closes (b ∷ bs) = (is_word_byte b || nat_eq b 63) ≡ false

-- the bytes of a word go on with the pending one
word_run : (w begun rest : List ℕ) (ts : List VToken) → list_all is_word_byte w ≡ true → tokens_from (in_word (begun ++ w)) rest ≡ Some ts
    → tokens_from (in_word begun) (w ++ rest) ≡ Some ts
unfolding tokens_from
word_run [] begun rest ts h e = ap (λ p. tokens_from (in_word p) rest) (sym (append-nil begun)) ∙ e
word_run (b ∷ bs) begun rest ts h e =
    let p = and_parts (is_word_byte b) (list_all is_word_byte bs) h in
    let regrouped = ap (λ q. tokens_from (in_word q) rest) (append_assoc begun (b ∷ []) bs) in
    let go : tokens_from (in_word (begun ++ b ∷ [])) (bs ++ rest) ≡ Some ts = word_run bs (begun ++ b ∷ []) rest ts p.1 (regrouped ∙ e) in
    rw (p.0, go) refl

-- a token before the closed ones, where there is a rest
behind : (t : VToken) (closed : List VToken) (o : Option (List VToken)) (ts : List VToken) → option_map (λ r. closed ++ r) o ≡ Some ts
    → option_map (λ r. (t ∷ closed) ++ r) o ≡ Some (t ∷ ts)
behind t closed None ts e = absurd cc
behind t closed (Some r) ts e = cc

-- a closed token stands before those of the byte that closes it
pub closed_behind : (t : VToken) (s : TokenStep) (rest : Pending → Option (List VToken)) (ts : List VToken) → go_on s rest ≡ Some ts
    → go_on (option_map (λ p. (t ∷ p.0, p.1)) s) rest ≡ Some (t ∷ ts)
closed_behind t None rest ts e = absurd cc
closed_behind t (Some s) rest ts e = behind t s.0 (rest s.1) ts e

-- a pending word is closed
close_word : (w rest : List ℕ) (ts : List VToken) → Closes rest → tokens rest ≡ Some ts → tokens_from (in_word w) rest ≡ Some (word w ∷ ts)
unfolding tokens_from
close_word w [] ts c e = absurd c
close_word w (b ∷ bs) ts c e =
    let p = or_parts (is_word_byte b) (nat_eq b 63) c in
    rw p.0 (closed_behind (word w) (begin b) (λ next. tokens_from next bs) ts e)

-- a word before a text that closes it
word_read : (w rest : List ℕ) (ts : List VToken) → IsTrue (is_word w) → Closes rest → tokens rest ≡ Some ts
    → tokens (w ++ rest) ≡ Some (word w ∷ ts)
unfolding tokens_from
word_read [] rest ts h c e = absurd cc
word_read (b ∷ bs) rest ts h c e =
    let p = and_parts (is_word_start b) (list_all is_word_byte bs) h in
    let close = close_word (b ∷ bs) rest ts c e in
    let run : tokens_from (in_word (b ∷ [])) (bs ++ rest) ≡ Some (word (b ∷ bs) ∷ ts) = word_run bs (b ∷ []) rest _ p.1 close in
    rw (p.0, run) refl

pub word_spelled : (w rest : List ℕ) (gs : List VToken) → IsTrue (is_word w) → Closes rest → Reads rest gs → Reads (w ++ rest) (word w ∷ gs)
word_spelled w rest gs h c r = record { read = word w ∷ r.read; is_read = word_read w rest r.read h c r.is_read; alike = (refl, r.alike) }

-- a text whose first byte makes no mark with an opening parenthesis before it
abbrev pub OpensNoMark : List ℕ → Type 0
OpensNoMark [] = ⊥
OpensNoMark (b ∷ bs) = is_double 40 b ≡ false

-- as a word begins
pub word_opens_no_mark : (w rest : List ℕ) → IsTrue (is_word w) → OpensNoMark (w ++ rest)
word_opens_no_mark [] rest h = absurd cc
word_opens_no_mark (b ∷ bs) rest h =
    let start : is_word_start b ≡ true = (and_parts (is_word_start b) (list_all is_word_byte bs) h).0 in
    grind (arith, nat_tests)

-- a pending opening parenthesis is closed
close_parenthesis : (rest : List ℕ) (ts : List VToken) → OpensNoMark rest → tokens rest ≡ Some ts → tokens_from (in_sign 40) rest ≡ Some (sign 40 ∷ ts)
unfolding tokens_from
close_parenthesis [] ts o e = absurd o
close_parenthesis (b ∷ bs) ts o e = rw o (closed_behind (sign 40) (begin b) (λ next. tokens_from next bs) ts e)

-- an opening parenthesis before a text that makes no mark with it
parenthesis_read : (rest : List ℕ) (ts : List VToken) → OpensNoMark rest → tokens rest ≡ Some ts → tokens (40 ∷ rest) ≡ Some (sign 40 ∷ ts)
unfolding tokens_from
parenthesis_read rest ts o e = rw (close_parenthesis rest ts o e) refl

pub parenthesis_spelled : (rest : List ℕ) (gs : List VToken) → OpensNoMark rest → Reads rest gs → Reads (40 ∷ rest) (sign 40 ∷ gs)
parenthesis_spelled rest gs o r = record { read = sign 40 ∷ r.read; is_read = parenthesis_read rest r.read o r.is_read; alike = (refl, r.alike) }
