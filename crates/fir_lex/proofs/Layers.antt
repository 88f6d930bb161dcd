-- Annotation blocks: where open brackets are counted to their end, the bytes are layers of what stands between brackets, one for each open bracket.
use Rattle.std.proofs.Common.{◌≡◌, ◌≢◌, ℕ, zero, suc, ◌+◌, ◌-◌, ◌<◌, Bool, true, false, ◌&&◌, not, eqb, List, [], ◌∷◌, ◌++◌, length, Some, refl, sym, ap, ◌∙◌, subst, arith}
use Rattle.std.specs.List.{AllByRecursion}
use Rattle.std.proofs.lemmas.Bool.{eqb-true, eqb-false, ne_eqb}
use Rattle.std.proofs.lemmas.List.Elements.{All-from_recursion}
use Rattle.fir_lex.specs.working.Front.{Within, in_brackets, in_string, bracket_step, within_step, is_closed, block_length}
use Rattle.fir_lex.specs.Enclosed.{IsCharacter, Nested, nothing, byte_then, string_then, brackets_then, nested_bytes, IsNested}
use Rattle.fir_lex.proofs.Lengths.{block_step}
use Rattle.fir_lex.proofs.OneLine.{before}
use Rattle.fir_lex.proofs.Quoted.{CharactersFrom, character_more}
use Rattle.fir_lex.proofs.Bracketed.{step_to, plain_step, between}

-- layers, each with the bracket that closes it, and what stands behind them
abbrev pub layered : List Nested → List ℕ → List ℕ
layered [] behind = behind
layered (t ∷ ts) behind = nested_bytes t ++ 93 ∷ layered ts behind

-- as many layers as brackets are open
pub record Layered (depth : ℕ) (bytes : List ℕ) (n : ℕ) : Type 0 where
  pub first : Nested
  pub others : List Nested
  pub behind : List ℕ
  pub deep : suc (length others) ≡ depth
  pub nested : IsNested first × AllByRecursion IsNested others
  pub parts : bytes ≡ layered (first ∷ others) behind
  pub long : length bytes ≡ n + length behind

-- within a string first
pub record InString (escaped : Bool) (depth : ℕ) (bytes : List ℕ) (n : ℕ) : Type 0 where
  pub content : List ℕ
  pub after : List ℕ
  pub count : ℕ
  pub characters : CharactersFrom escaped content
  pub parts : bytes ≡ content ++ 34 ∷ after
  pub layers : Layered depth after count
  pub long : length bytes ≡ n + length layers.behind

abbrev pub Found : Within → List ℕ → ℕ → Type 0
Found (in_brackets depth) bytes n = Layered depth bytes n
Found (in_string escaped depth) bytes n = InString escaped depth bytes n

abbrev HasOpen : Within → Type 0
HasOpen (in_brackets depth) = 0 < depth
HasOpen (in_string escaped depth) = 0 < depth

-- ---- a byte more within brackets

byte_more : (depth b : ℕ) (bs : List ℕ) (n m : ℕ) → b ≢ 34 → b ≢ 91 → b ≢ 93 → n ≡ suc m → Layered depth bs m → Layered depth (b ∷ bs) n
byte_more depth b bs n m quote opening closing e l = record {
  first = byte_then b l.first;
  others = l.others;
  behind = l.behind;
  deep = l.deep;
  nested = ((quote, opening, closing, l.nested.0), l.nested.1);
  parts = ap {B = List ℕ} (λ (s : List ℕ). b ∷ s) l.parts;
  long = let long = l.long in omega arith;
}

string_more : (depth : ℕ) (bs : List ℕ) (n m : ℕ) → n ≡ suc m → InString false depth bs m → Layered depth (34 ∷ bs) n
string_more depth bs n m e s =
    let l = s.layers in record {
      first = string_then s.content l.first;
      others = l.others;
      behind = l.behind;
      deep = l.deep;
      nested = (((s.characters.0, All-from_recursion IsCharacter s.characters.0 s.characters.1, s.characters.2), l.nested.0), l.nested.1);
      parts =
          ap {B = List ℕ} (λ (x : List ℕ). 34 ∷ x) (s.parts ∙ ap (λ (x : List ℕ). s.content ++ 34 ∷ x) l.parts)
          ∙ sym (between 34 34 s.content (nested_bytes l.first) (93 ∷ layered l.others l.behind));
      long = let long = s.long in omega arith;
    }

opened : (depth : ℕ) (bs : List ℕ) (n : ℕ) (inner : Nested) (others : List Nested) (behind : List ℕ) → 0 < depth → suc (length others) ≡ depth + 1
    → IsNested inner → AllByRecursion IsNested others → bs ≡ layered (inner ∷ others) behind → suc (length bs) ≡ n + length behind → Layered depth (91 ∷ bs) n
opened depth bs n inner [] behind some deep is all parts long = absurd (omega arith)
opened depth bs n inner (t ∷ ts) behind some deep is all parts long = record {
  first = brackets_then inner t;
  others = ts;
  behind = behind;
  deep = omega arith;
  nested = ((is, all.0), all.1);
  parts = ap {B = List ℕ} (λ (x : List ℕ). 91 ∷ x) parts ∙ sym (between 91 93 (nested_bytes inner) (nested_bytes t) (93 ∷ layered ts behind));
  long = long;
}

opening_more : (depth : ℕ) (bs : List ℕ) (n m : ℕ) → 0 < depth → n ≡ suc m → Layered (depth + 1) bs m → Layered depth (91 ∷ bs) n
opening_more depth bs n m some e l = opened depth bs n l.first l.others l.behind some l.deep l.nested.0 l.nested.1 l.parts (let long = l.long in omega arith)

closing_more : (depth : ℕ) (bs : List ℕ) (n m : ℕ) → n ≡ suc m → Layered depth bs m → Layered (suc depth) (93 ∷ bs) n
closing_more depth bs n m e l = record {
  first = nothing;
  others = l.first ∷ l.others;
  behind = l.behind;
  deep = ap suc l.deep;
  nested = (tt, l.nested);
  parts = ap {B = List ℕ} (λ (x : List ℕ). 93 ∷ x) l.parts;
  long = let long = l.long in omega arith;
}

last_closed : (bs : List ℕ) (n : ℕ) → n ≡ 1 → Layered 1 (93 ∷ bs) n
last_closed bs n e = record {
  first = nothing;
  others = [];
  behind = bs;
  deep = refl;
  nested = (tt, tt);
  parts = refl;
  long = omega arith;
}

-- ---- a byte more within a string

string_closed : (depth : ℕ) (bs : List ℕ) (n m : ℕ) → n ≡ suc m → Layered depth bs m → InString false depth (34 ∷ bs) n
string_closed depth bs n m e l = record {
  content = [];
  after = bs;
  count = m;
  characters = ([], tt, refl);
  parts = refl;
  layers = l;
  long = let long = l.long in omega arith;
}

character_before : (flag : Bool) (depth b : ℕ) (bs : List ℕ) (n m : ℕ) → n ≡ suc m → (not flag && eqb b 34) ≡ false
    → InString (not flag && eqb b 92) depth bs m → InString flag depth (b ∷ bs) n
character_before flag depth b bs n m e stays s = record {
  content = b ∷ s.content;
  after = s.after;
  count = s.count;
  characters = character_more flag b s.content stays s.characters;
  parts = ap {B = List ℕ} (λ (x : List ℕ). b ∷ x) s.parts;
  layers = s.layers;
  long = let long = s.long in omega arith;
}

-- ---- all bytes

abbrev Deeper : List ℕ → Type 0
Deeper bs = (within : Within) (m : ℕ) → HasOpen within → block_length within bs ≡ Some m → Found within bs m

-- to a next state that is not closed
on_to : (within next : Within) (b : ℕ) (bs : List ℕ) (n : ℕ) (goal : Type 0) → Deeper bs → block_length within (b ∷ bs) ≡ Some n
    → within_step within b ≡ next → is_closed next ≡ false → HasOpen next → ((m : ℕ) → n ≡ suc m → Found next bs m → goal) → goal
on_to within next b bs n goal deeper h e stays some then =
    let less = before (block_length next bs) n (sym (step_to within next b bs e stays) ∙ h) in
    then less.count less.next (deeper next less.count some less.found)

opening_next : (depth b : ℕ) → b ≡ 91 → bracket_step depth b ≡ in_brackets (depth + 1)
opening_next depth b e = rw e refl

closing_next : (depth b : ℕ) → b ≡ 93 → bracket_step (suc depth) b ≡ in_brackets depth
closing_next depth b e = let closes : suc depth - 1 ≡ depth = omega arith in rw e (ap in_brackets closes)

not_empty : (depth : ℕ) → 0 < depth → eqb depth 0 ≡ false
not_empty depth some = ne_eqb depth 0 (λ e. absurd (omega arith))

abbrev at_byte : ℕ → List ℕ → ℕ → ℕ → Type 0
at_byte depth bs n b = Layered depth (b ∷ bs) n

at_closing : (depth b : ℕ) (bs : List ℕ) (n : ℕ) → Deeper bs → block_length (in_brackets (suc depth)) (b ∷ bs) ≡ Some n → b ≡ 93
    → Layered (suc depth) (b ∷ bs) n
at_closing zero b bs n deeper h e =
    let one : Some 1 ≡ Some n = sym (block_step (in_brackets 1) b bs true (ap is_closed (closing_next 0 b e))) ∙ h in
    subst (at_byte 1 bs n) (sym e) (last_closed bs n cc)
at_closing (suc depth) b bs n deeper h e =
    on_to (in_brackets (suc (suc depth))) (in_brackets (suc depth)) b bs n (Layered (suc (suc depth)) (b ∷ bs) n) deeper h (closing_next (suc depth) b e)
    (not_empty (suc depth) (omega arith)) (omega arith)
    (λ m less found. subst (at_byte (suc (suc depth)) bs n) (sym e) (closing_more (suc depth) bs n m less found))

in_brackets_more : (depth b : ℕ) (bs : List ℕ) (n : ℕ) → Deeper bs → block_length (in_brackets (suc depth)) (b ∷ bs) ≡ Some n → (t u v : Bool) → eqb b 34 ≡ t
    → eqb b 91 ≡ u → eqb b 93 ≡ v → Layered (suc depth) (b ∷ bs) n
in_brackets_more depth b bs n deeper h true u v p q r =
    let e = eqb-true b 34 p in
    on_to (in_brackets (suc depth)) (in_string false (suc depth)) b bs n (Layered (suc depth) (b ∷ bs) n) deeper h (rw e refl) refl (omega arith)
    (λ m less found. subst (at_byte (suc depth) bs n) (sym e) (string_more (suc depth) bs n m less found))
in_brackets_more depth b bs n deeper h false true v p q r =
    let e = eqb-true b 91 q in
    on_to (in_brackets (suc depth)) (in_brackets (suc depth + 1)) b bs n (Layered (suc depth) (b ∷ bs) n) deeper h (opening_next (suc depth) b e)
    (not_empty (suc depth + 1) (omega arith)) (omega arith)
    (λ m less found. subst (at_byte (suc depth) bs n) (sym e) (opening_more (suc depth) bs n m (omega arith) less found))
in_brackets_more depth b bs n deeper h false false true p q r = at_closing depth b bs n deeper h (eqb-true b 93 r)
in_brackets_more depth b bs n deeper h false false false p q r =
    on_to (in_brackets (suc depth)) (in_brackets (suc depth)) b bs n (Layered (suc depth) (b ∷ bs) n) deeper h
    (plain_step (suc depth) b (eqb-false b 34 p) (eqb-false b 91 q) (eqb-false b 93 r)) (not_empty (suc depth) (omega arith)) (omega arith)
    (λ m less found. byte_more (suc depth) b bs n m (eqb-false b 34 p) (eqb-false b 91 q) (eqb-false b 93 r) less found)

in_string_more : (flag : Bool) (depth b : ℕ) (bs : List ℕ) (n : ℕ) → 0 < depth → Deeper bs → block_length (in_string flag depth) (b ∷ bs) ≡ Some n
    → (t : Bool) → eqb b 34 ≡ t → InString flag depth (b ∷ bs) n
in_string_more true depth b bs n some deeper h t p =
    on_to (in_string true depth) (in_string false depth) b bs n (InString true depth (b ∷ bs) n) deeper h refl refl some
    (λ m less found. character_before true depth b bs n m less refl found)
in_string_more false depth b bs n some deeper h true p =
    let e = eqb-true b 34 p in
    on_to (in_string false depth) (in_brackets depth) b bs n (InString false depth (b ∷ bs) n) deeper h (rw e refl) (not_empty depth some) some
    (λ m less found. subst (λ (c : ℕ). InString false depth (c ∷ bs) n) (sym e) (string_closed depth bs n m less found))
in_string_more false depth b bs n some deeper h false p =
    on_to (in_string false depth) (in_string (eqb b 92) depth) b bs n (InString false depth (b ∷ bs) n) deeper h (rw p refl) refl some
    (λ m less found. character_before false depth b bs n m less p found)

found : (bytes : List ℕ) → Deeper bytes
found [] (in_brackets depth) n some h = absurd (cc)
found [] (in_string flag depth) n some h = absurd (cc)
found (b ∷ bs) (in_brackets zero) n some h = absurd (omega arith)
found (b ∷ bs) (in_brackets (suc depth)) n some h = in_brackets_more depth b bs n (found bs) h (eqb b 34) (eqb b 91) (eqb b 93) refl refl refl
found (b ∷ bs) (in_string flag depth) n some h = in_string_more flag depth b bs n some (found bs) h (eqb b 34) refl

-- ---- a block, behind its first bracket

pub record Block (bytes : List ℕ) (n : ℕ) : Type 0 where
  pub inner : Nested
  pub behind : List ℕ
  pub nested : IsNested inner
  pub parts : bytes ≡ nested_bytes inner ++ 93 ∷ behind
  pub long : length bytes ≡ n + length behind

block_of : (bytes : List ℕ) (n : ℕ) (inner : Nested) (others : List Nested) (behind : List ℕ) → suc (length others) ≡ 1 → IsNested inner
    → bytes ≡ layered (inner ∷ others) behind → length bytes ≡ n + length behind → Block bytes n
block_of bytes n inner [] behind deep is parts long = record { inner = inner; behind = behind; nested = is; parts = parts; long = long }
block_of bytes n inner (t ∷ ts) behind deep is parts long = absurd (omega arith)

pub block : (bytes : List ℕ) (n : ℕ) → block_length (in_brackets 1) bytes ≡ Some n → Block bytes n
block bytes n h =
    let l : Layered 1 bytes n = found bytes (in_brackets 1) n (omega arith) h in block_of bytes n l.first l.others l.behind l.deep l.nested.0 l.parts l.long
