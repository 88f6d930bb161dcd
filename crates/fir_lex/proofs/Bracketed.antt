-- Annotation blocks: counting open brackets goes over what stands between two brackets as over nothing.
use Rattle.std.proofs.Common.{◌≡◌, ◌≢◌, ℕ, suc, ◌+◌, ◌-◌, true, false, eqb, List, [], ◌∷◌, ◌++◌, length, Option, Some, None, refl, sym, ap, ◌∙◌, append_assoc, length-append, arith}
use Rattle.std.specs.Prelude.{option_map}
use Rattle.std.proofs.lemmas.Bool.{ne_eqb}
use Rattle.std.proofs.lemmas.List.Elements.{recursion_from_All}
use Rattle.fir_lex.specs.working.Front.{Within, in_brackets, in_string, bracket_step, within_step, is_closed, block_length}
use Rattle.fir_lex.specs.Enclosed.{Character, plain, escaped, IsCharacter, Nested, nothing, byte_then, string_then, brackets_then, nested_bytes, IsNested}
use Rattle.fir_lex.proofs.Lengths.{block_step, ahead, ahead_zero}
use Rattle.fir_lex.proofs.Quoted.{bytes_of_characters, EachCharacter}

-- ---- steps

pub step_to : (within next : Within) (b : ℕ) (bs : List ℕ) → within_step within b ≡ next → is_closed next ≡ false
    → block_length within (b ∷ bs) ≡ option_map suc (block_length next bs)
step_to within next b bs e stays =
    block_step within b bs false (ap is_closed e ∙ stays) ∙ ap (λ (w : Within). option_map suc (block_length w bs)) e

pub still_open : (depth : ℕ) → eqb (suc depth) 0 ≡ false
still_open depth = ne_eqb (suc depth) 0 (λ e. absurd (omega arith))

pub plain_step : (depth b : ℕ) → b ≢ 34 → b ≢ 91 → b ≢ 93 → bracket_step depth b ≡ in_brackets depth
plain_step depth b quote opening closing = rw (ne_eqb b 34 quote, ne_eqb b 91 opening, ne_eqb b 93 closing) refl

-- ---- lengths

suc_ahead : (n : ℕ) (o : Option ℕ) → option_map suc (ahead n o) ≡ ahead (suc n) o
suc_ahead n None = refl
suc_ahead n (Some m) = let e : suc (n + m) ≡ suc n + m = omega arith in ap {B = Option ℕ} (λ (k : ℕ). Some k) e

ahead_twice : (m n : ℕ) (o : Option ℕ) → ahead m (ahead n o) ≡ ahead (m + n) o
ahead_twice m n None = refl
ahead_twice m n (Some k) = let e : m + (n + k) ≡ m + n + k = omega arith in ap {B = Option ℕ} (λ (j : ℕ). Some j) e

-- a byte, and then so many
after_byte : (within next : Within) (b : ℕ) (bs : List ℕ) (n : ℕ) (o : Option ℕ) → within_step within b ≡ next → is_closed next ≡ false
    → block_length next bs ≡ ahead n o → block_length within (b ∷ bs) ≡ ahead (suc n) o
after_byte within next b bs n o e stays rest = step_to within next b bs e stays ∙ ap (option_map suc) rest ∙ suc_ahead n o

-- ---- strings, and what stands between brackets

string_taken : (cs : List Character) (depth : ℕ) (behind : List ℕ) (n : ℕ) (o : Option ℕ) → EachCharacter cs
    → block_length (in_brackets (suc depth)) behind ≡ ahead n o
    → block_length (in_string false (suc depth)) (bytes_of_characters cs ++ 34 ∷ behind) ≡ ahead (length (bytes_of_characters cs) + suc n) o
string_taken [] depth behind n o all rest =
    let e : suc n ≡ 0 + suc n = omega arith in
    after_byte (in_string false (suc depth)) (in_brackets (suc depth)) 34 behind n o refl (still_open depth) rest ∙ ap (λ (k : ℕ). ahead k o) e
string_taken (plain b ∷ cs) depth behind n o all rest =
    let next : within_step (in_string false (suc depth)) b ≡ in_string false (suc depth) = rw (ne_eqb b 34 all.0.0, ne_eqb b 92 all.0.1) refl in
    let e : suc (length (bytes_of_characters cs) + suc n) ≡ suc (length (bytes_of_characters cs)) + suc n = omega arith in
    after_byte (in_string false (suc depth)) (in_string false (suc depth)) b (bytes_of_characters cs ++ 34 ∷ behind)
    (length (bytes_of_characters cs) + suc n) o next refl (string_taken cs depth behind n o all.1 rest)
    ∙ ap (λ (k : ℕ). ahead k o) e
string_taken (escaped b ∷ cs) depth behind n o all rest =
    let e : suc (suc (length (bytes_of_characters cs) + suc n)) ≡ suc (suc (length (bytes_of_characters cs))) + suc n = omega arith in
    after_byte (in_string false (suc depth)) (in_string true (suc depth)) 92 (b ∷ bytes_of_characters cs ++ 34 ∷ behind)
    (suc (length (bytes_of_characters cs) + suc n)) o refl refl
    (after_byte (in_string true (suc depth)) (in_string false (suc depth)) b (bytes_of_characters cs ++ 34 ∷ behind)
    (length (bytes_of_characters cs) + suc n) o refl refl (string_taken cs depth behind n o all.1 rest))
    ∙ ap (λ (k : ℕ). ahead k o) e

-- between two bytes, and behind them
pub between : (first last : ℕ) (inner rest behind : List ℕ) → (((first ∷ inner) ++ last ∷ []) ++ rest) ++ behind ≡ first ∷ (inner ++ last ∷ (rest ++ behind))
between first last inner rest behind =
    ap {B = List ℕ} (λ (s : List ℕ). first ∷ s) (append_assoc (inner ++ last ∷ []) rest behind ∙ append_assoc inner (last ∷ []) (rest ++ behind))

long : (first last : ℕ) (inner rest : List ℕ) → suc (length inner + suc (length rest)) ≡ length (((first ∷ inner) ++ last ∷ []) ++ rest)
long first last inner rest = ap suc (sym (ap length (append_assoc inner (last ∷ []) rest) ∙ length-append inner (last ∷ rest)))

pub nested_taken : (t : Nested) (depth : ℕ) (behind : List ℕ) → IsNested t
    → block_length (in_brackets (suc depth)) (nested_bytes t ++ behind) ≡ ahead (length (nested_bytes t)) (block_length (in_brackets (suc depth)) behind)
nested_taken nothing depth behind h = sym (ahead_zero (block_length (in_brackets (suc depth)) behind))
nested_taken (byte_then b rest) depth behind h =
    after_byte (in_brackets (suc depth)) (in_brackets (suc depth)) b (nested_bytes rest ++ behind) (length (nested_bytes rest))
    (block_length (in_brackets (suc depth)) behind)
    (plain_step (suc depth) b h.0 h.1 h.2) (still_open depth) (nested_taken rest depth behind h.3)
nested_taken (string_then content rest) depth behind h =
    let o = block_length (in_brackets (suc depth)) behind in
    let inner = bytes_of_characters h.0.0 in
    rw h.0.2
    (ap (block_length (in_brackets (suc depth))) (between 34 34 inner (nested_bytes rest) behind)
    ∙ after_byte (in_brackets (suc depth)) (in_string false (suc depth)) 34 (inner ++ 34 ∷ (nested_bytes rest ++ behind))
    (length inner + suc (length (nested_bytes rest))) o refl refl
    (string_taken h.0.0 depth (nested_bytes rest ++ behind) (length (nested_bytes rest)) o (recursion_from_All IsCharacter h.0.0 h.0.1)
    (nested_taken rest depth behind h.1))
    ∙ ap (λ (k : ℕ). ahead k o) (long 34 34 inner (nested_bytes rest)))
nested_taken (brackets_then inner rest) depth behind h =
    let o = block_length (in_brackets (suc depth)) behind in
    let opens : suc depth + 1 ≡ suc (suc depth) = omega arith in
    let closes : suc (suc depth) - 1 ≡ suc depth = omega arith in
    ap (block_length (in_brackets (suc depth))) (between 91 93 (nested_bytes inner) (nested_bytes rest) behind)
    ∙ after_byte (in_brackets (suc depth)) (in_brackets (suc (suc depth))) 91 (nested_bytes inner ++ 93 ∷ (nested_bytes rest ++ behind))
    (length (nested_bytes inner) + suc (length (nested_bytes rest))) o (ap in_brackets opens) (still_open (suc depth))
    (nested_taken inner (suc depth) (93 ∷ (nested_bytes rest ++ behind)) h.0
    ∙ ap (ahead (length (nested_bytes inner)))
    (after_byte (in_brackets (suc (suc depth))) (in_brackets (suc depth)) 93 (nested_bytes rest ++ behind) (length (nested_bytes rest)) o
    (ap in_brackets closes) (still_open depth) (nested_taken rest depth behind h.1))
    ∙ ahead_twice (length (nested_bytes inner)) (suc (length (nested_bytes rest))) o)
    ∙ ap (λ (k : ℕ). ahead k o) (long 91 93 (nested_bytes inner) (nested_bytes rest))

-- a block, behind its first bracket
pub block_taken : (t : Nested) (behind : List ℕ) → IsNested t
    → block_length (in_brackets 1) (nested_bytes t ++ 93 ∷ behind) ≡ Some (length (nested_bytes t) + 1)
block_taken t behind h = nested_taken t 0 (93 ∷ behind) h ∙ ap (ahead (length (nested_bytes t))) (block_step (in_brackets 1) 93 behind true refl)
