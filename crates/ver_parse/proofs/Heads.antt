-- What the token at hand is, by what is seen of it.
use Rattle.std.proofs.Common.{◌≡◌, ℕ, ◌+◌, ◌-◌, ◌<◌, ◌≤◌, List, [], ◌∷◌, drop, Bool, true, false, ◌||◌, ◌&&◌, not, nat_eq, nat_le, Option, Some, None, is_some, refl, sym, ap, ◌∙◌, subst}
use Rattle.ver_ast.specs.declared.tree.Constant.{Constant}
use Rattle.ver_ast.specs.Tokens.{VToken, word, digit_zero, number, constant, sign, double, signed_shift, signed_word, question_digit}
use Rattle.ver_ast.specs.Pieces.{PlacedToken}
use Rattle.ver_ast.specs.Spells.{IsAlike, counted}
use Rattle.ver_lex.specs.declared.lexeme.Lexeme.{Lexeme}
use Rattle.ver_lex.specs.declared.lexeme.Lexeme.TheVariants as lexeme
use Rattle.ver_lex.specs.declared.lexeme.Next.{Next}
use Rattle.ver_lex.specs.working.Lexemes.{Sees, IsCountedConstant}
use Rattle.ver_parse.specs.Depths.{opened_by}
use Rattle.ver_parse.specs.declared.parser.Parser.{Parser}
use Rattle.ver_parse.specs.working.Symbols.{Symbol}
use Rattle.ver_parse.specs.working.Steps.{takes, step}
use Rattle.ver_parse.specs.working.Reading.{is_brace}
use Rattle.ver_parse.specs.working.Reads.{rest, IsFirst, Leads}
use Rattle.ver_parse.specs.working.Fixed.{is_plain, TestsTo, HeadIs, Took, Keeps, IsFull}
use Rattle.ver_parse.specs.declared.stop.Stop.TheVariants.{Depth}
use Rattle.std.proofs.lemmas.Bool.{eqb-true, eq-eqb, ne_eqb, lt-leb}
use Rattle.fir_base.proofs.SameNames.{name_is, name_same}
use Rattle.ver_words.specs.Names.{is_word, IsName}
use Rattle.ver_words.specs.Reserved.{is_reserved}
use Rattle.ver_ast.specs.AtomForms.{constant_number}
use Rattle.ver_ast.specs.Spells.{IsInType}
use Rattle.ver_parse.specs.working.Symbols.{a_token, a_name, a_number, a_constant, a_direction, an_item, an_atom, other_side, behind_atom, a_signed_operator}
use Rattle.ver_parse.specs.working.Steps.{same_token, is_name, only_if, refuses, direction_of, by_direction, keyword_of, keyword_word, behind_keyword, by_keyword, signed_op, binary_of, by_signed}
use Rattle.fir_base.specs.declared.direction.Direction.{Direction}
use Rattle.fir_base.specs.declared.direction.Direction.TheVariants.{Input, Output}
use Rattle.ver_parse.specs.declared.keyword.Keyword.{Keyword}
use Rattle.ver_parse.specs.declared.keyword.Keyword.TheVariants as key
use Rattle.ver_ast.specs.declared.tree.UnaryOp.{UnaryOp}
use Rattle.ver_ast.specs.declared.tree.UnaryOp.TheVariants as unary
use Rattle.ver_ast.specs.declared.tree.BinaryOp.{BinaryOp}
use Rattle.ver_ast.specs.declared.tree.BinaryOp.TheVariants as binary
use Rattle.ver_ast.specs.declared.tree.SignedOp.{SignedOp}
use Rattle.ver_ast.specs.declared.tree.SignedOp.TheVariants as signed
use Rattle.ver_ast.specs.Grammar.{unary_sign, binary_token, unsigned_op, direction_keyword}
use Rattle.ver_parse.specs.working.Fixed.{fixed_token, is_word_token, is_number_token}
use Rattle.ver_parse.specs.declared.fixed.Fixed.{Fixed}
use Rattle.ver_parse.specs.declared.fixed.Fixed.TheVariants as fixed
use Rattle.ver_parse.proofs.Turns.{is_constant_token, is_name_token}
use Rattle.ver_parse.proofs.Leading.{took}

opened_by_plain : (d b : ℕ) (x y : Bool) → nat_eq b 123 ≡ x → nat_eq b 125 ≡ y → not (x || y) ≡ true → opened_by d (sign b) ≡ d
opened_by_plain d b false false e i h = rw (e, i) refl
opened_by_plain d b true y e i h = absurd (cc)
opened_by_plain d b false true e i h = absurd (cc)

-- such a token opens and closes no brace
pub plain_depth : (d : ℕ) (t : VToken) → is_plain t ≡ true → opened_by d t ≡ d
plain_depth d (sign b) h = opened_by_plain d b (nat_eq b 123) (nat_eq b 125) refl refl h
plain_depth d (word w) h = refl
plain_depth d digit_zero h = refl
plain_depth d (number n) h = refl
plain_depth d (constant w x) h = refl
plain_depth d (double a b) h = refl
plain_depth d signed_shift h = refl
plain_depth d signed_word h = refl
plain_depth d question_digit h = refl

plain_sign : (b : ℕ) (x y c : Bool) → nat_eq b 123 ≡ x → not (x || y) ≡ true → (nat_eq b 123 && c) ≡ false
plain_sign b false y c e h = rw e refl
plain_sign b true y c e h = absurd (cc)

pub plain_room : (d : ℕ) (t : VToken) → is_plain t ≡ true → (is_brace t && nat_le 256 d) ≡ false
plain_room d (sign b) h = plain_sign b (nat_eq b 123) (nat_eq b 125) (nat_le 256 d) refl h
plain_room d (word w) h = refl
plain_room d digit_zero h = refl
plain_room d (number n) h = refl
plain_room d (constant w x) h = refl
plain_room d (double a b) h = refl
plain_room d signed_shift h = refl
plain_room d signed_word h = refl
plain_room d question_digit h = refl

-- the first token is taken
pub took_first : {x y : Parser} {n : Next} (f : IsFirst x n) → rest y ≡ drop 1 (rest x) → y.depth ≡ x.depth → is_plain f.token.token ≡ true → Took f.token.token x y
took_first {x = x} f r d h = record {
  place = f.token.place;
  tokens_are = f.tokens_are ∙ ap (λ ts. f.token ∷ ts) (sym (r ∙ ap (λ ts. drop 1 ts) f.tokens_are));
  depth_is = d ∙ sym (plain_depth x.depth f.token.token h);
  room = plain_room x.depth f.token.token h;
}

-- and it is this one
pub took_as : {x y : Parser} {n : Next} (t : VToken) (f : IsFirst x n) → rest y ≡ drop 1 (rest x) → y.depth ≡ x.depth → f.token.token ≡ t → is_plain t ≡ true → Took t x y
took_as {x = x} {y = y} t f r d e h = subst (λ u. Took u x y) e (took_first f r d (subst (λ u. is_plain u ≡ true) (sym e) h))

pub head_is : {x : Parser} {n : Next} (test : VToken → Bool) (b : Bool) (f : IsFirst x n) → test f.token.token ≡ b → HeadIs test b x
head_is test b f h = record { tests = subst (λ us. TestsTo test b us) (sym f.tokens_are) h }

pub seen_as : (l k : Lexeme) (t : VToken) → Sees l t → l ≡ k → Sees k t
seen_as l k t h e = subst (λ j. Sees j t) e h

-- ---- numbers and constants

pub not_number : (l : Lexeme) (t : VToken) → Sees l t → (l ≡ lexeme.Zero → ⊥) → ((n : ℕ) → l ≡ lexeme.Number n → ⊥) → is_number_token t ≡ false
not_number lexeme.Zero t e z n = absurd (z refl)
not_number (lexeme.Number x) t e z n = absurd (n x refl)
not_number (lexeme.Word s) t e z n = rw e refl
not_number (lexeme.Constant c) t (w, x, e, i) z n = rw e refl
not_number (lexeme.Sign b) t e z n = rw e refl
not_number (lexeme.Double a b) t e z n = rw e refl
not_number lexeme.SignedShift t e z n = rw e refl
not_number lexeme.SignedWord t e z n = rw e refl
not_number lexeme.QuestionDigit t e z n = rw e refl

pub took_number : {x y : Parser} {n : Next} (k : ℕ) (f : IsFirst x n) → rest y ≡ drop 1 (rest x) → y.depth ≡ x.depth → Sees (lexeme.Number k) f.token.token → Leads (a_number ∷ []) (number k ∷ []) [] x y
took_number k f r d (m, e, i) = took a_number [] (number k) (took_as (number m) f r d e refl) refl i

pub took_zero : {x y : Parser} {n : Next} (f : IsFirst x n) → rest y ≡ drop 1 (rest x) → y.depth ≡ x.depth → f.token.token ≡ digit_zero → Leads (a_number ∷ []) (number 0 ∷ []) [] x y
took_zero f r d e = took a_number [] (number 0) (took_as digit_zero f r d e refl) refl refl

pub took_constant : {x y : Parser} {n : Next} (c : Constant) (f : IsFirst x n) → rest y ≡ drop 1 (rest x) → y.depth ≡ x.depth → Sees (lexeme.Constant c) f.token.token
    → Leads (a_constant ∷ []) (constant c.width (constant_number c) ∷ []) [] x y
took_constant c f r d (w, v, e, i) =
    took a_constant [] (constant c.width (constant_number c)) (took_as (constant w v) f r d e refl) refl (i.width_is, i.number_is)

pub not_constant : (l : Lexeme) (t : VToken) → Sees l t → ((c : Constant) → l ≡ lexeme.Constant c → ⊥) → is_constant_token t ≡ false
unfolding is_constant_token
not_constant (lexeme.Constant c) t e n = absurd (n c refl)
not_constant lexeme.Zero t e n = rw e refl
not_constant (lexeme.Number x) t (m, e, i) n = rw e refl
not_constant (lexeme.Word s) t e n = rw e refl
not_constant (lexeme.Sign b) t e n = rw e refl
not_constant (lexeme.Double a b) t e n = rw e refl
not_constant lexeme.SignedShift t e n = rw e refl
not_constant lexeme.SignedWord t e n = rw e refl
not_constant lexeme.QuestionDigit t e n = rw e refl

pub in_type : (c : Constant) (t : VToken) → Sees (lexeme.Constant c) t → IsInType c.number
in_type c t (w, v, e, i) = i.in_type

-- ---- a token that is tried

pub doubles_are : (a b c d : ℕ) (x y : Bool) → nat_eq c a ≡ x → nat_eq d b ≡ y → (x && y) ≡ true → double c d ≡ double a b
doubles_are a b c d true true e i h = ap (λ (n : ℕ). double n d) (eqb-true c a e) ∙ ap (λ (n : ℕ). double a n) (eqb-true d b i)
doubles_are a b c d true false e i h = absurd (cc)
doubles_are a b c d false y e i h = absurd (cc)

pub same_is : (g t : VToken) → same_token g t ≡ true → t ≡ g
same_is (word v) (word w) h = ap word (name_is w v h)
same_is digit_zero digit_zero h = refl
same_is (sign a) (sign b) h = ap sign (eqb-true b a h)
same_is (double a b) (double c d) h = doubles_are a b c d (nat_eq c a) (nat_eq d b) refl refl h
same_is signed_word signed_word h = refl
same_is signed_shift signed_shift h = refl
same_is _ _ h = absurd (cc)

-- it is this token, and so it is taken
pub tried : {x y : Parser} {n : Next} (g : VToken) (f : IsFirst x n) → rest y ≡ drop 1 (rest x) → y.depth ≡ x.depth → is_plain g ≡ true → same_token g f.token.token ≡ true → Took g x y
tried g f r d h e = took_as g f r d (same_is g f.token.token e) h

pub not_tried : {x : Parser} {n : Next} (g : VToken) (f : IsFirst x n) → same_token g f.token.token ≡ false → Keeps (same_token g) x x
not_tried g f e = record { same = refl; head = head_is (same_token g) false f e }

-- ---- words

pub not_word : (l : Lexeme) (t : VToken) → Sees l t → ((s : _) → l ≡ lexeme.Word s → ⊥) → is_word_token t ≡ false
not_word (lexeme.Word s) t e n = absurd (n s refl)
not_word lexeme.Zero t e n = rw e refl
not_word (lexeme.Number x) t (m, e, i) n = rw e refl
not_word (lexeme.Constant c) t (w, x, e, i) n = rw e refl
not_word (lexeme.Sign b) t e n = rw e refl
not_word (lexeme.Double a b) t e n = rw e refl
not_word lexeme.SignedShift t e n = rw e refl
not_word lexeme.SignedWord t e n = rw e refl
not_word lexeme.QuestionDigit t e n = rw e refl

named_no : (t : VToken) → is_word_token t ≡ false → is_name_token t ≡ false
unfolding is_name_token
named_no (word w) h = absurd (cc)
named_no digit_zero h = refl
named_no (number n) h = refl
named_no (constant w x) h = refl
named_no (sign b) h = refl
named_no (double a b) h = refl
named_no signed_shift h = refl
named_no signed_word h = refl
named_no question_digit h = refl

pub not_named : (l : Lexeme) (t : VToken) → Sees l t → ((s : _) → l ≡ lexeme.Word s → ⊥) → is_name_token t ≡ false
not_named l t e n = named_no t (not_word l t e n)

pub reserved : (w : List ℕ) (t : VToken) → t ≡ word w → is_name w ≡ false → is_name_token t ≡ false
unfolding is_name_token
reserved w t e h = rw e h

pub took_name : {x y : Parser} {n : Next} (w : List ℕ) (f : IsFirst x n) → rest y ≡ drop 1 (rest x) → y.depth ≡ x.depth → f.token.token ≡ word w → is_name w ≡ true → Leads (a_name ∷ []) (word w ∷ []) [] x y
took_name w f r d e h = took a_name [] (word w) (took_as (word w) f r d e refl) (ap (λ (c : Bool). only_if c []) h) refl

both_true : (a b : Bool) → (a && b) ≡ true → (a ≡ true) × (b ≡ true)
both_true true true h = (refl, refl)
both_true true false h = absurd (cc)
both_true false b h = absurd (cc)

pub named : (w : List ℕ) → is_name w ≡ true → IsName w
named w h = let p = both_true (is_word w) (not (is_reserved w)) h in record { spelled = p.0; free = p.1 }

-- ---- tokens that are spelled in one way

eqb-same : (a : ℕ) → nat_eq a a ≡ true
eqb-same a = eq-eqb a a refl

pub took_token : {x y : Parser} (f : Fixed) → Took (fixed_token f) x y → Leads (a_token (fixed_token f) ∷ []) (fixed_token f ∷ []) [] x y
took_token (fixed.Word w) h = took (a_token (word w.now)) [] (word w.now) h (ap (λ (c : Bool). only_if c []) (name_same w.now)) refl
took_token fixed.Zero h = took (a_token digit_zero) [] digit_zero h refl refl
took_token (fixed.Sign b) h = took (a_token (sign b)) [] (sign b) h (ap (λ (c : Bool). only_if c []) (eqb-same b)) refl
took_token (fixed.Double a b) h =
    let e : (nat_eq a a && nat_eq b b) ≡ true = rw (eqb-same a, eqb-same b) refl in
    took (a_token (double a b)) [] (double a b) h (ap (λ (c : Bool). only_if c []) e) refl
took_token fixed.SignedShift h = took (a_token signed_shift) [] signed_shift h refl refl
took_token fixed.SignedWord h = took (a_token signed_word) [] signed_word h refl refl

-- ---- braces

pub took_brace : {x : Parser} {n : Next} (y z : Parser) (f : IsFirst x n) → rest y ≡ drop 1 (rest x) → rest z ≡ rest y → z.depth ≡ x.depth + 1 → x.depth < 256 → same_token (sign 123) f.token.token ≡ true → Took (sign 123) x z
took_brace {x = x} y z f r e d room i = record {
  place = f.token.place;
  tokens_are = f.tokens_are ∙ ap (λ ts. f.token ∷ ts) (sym (e ∙ r ∙ ap (λ ts. drop 1 ts) f.tokens_are)) ∙ ap (λ (g : VToken). record { token = g; place = f.token.place } ∷ rest z) (same_is (sign 123) f.token.token i);
  depth_is = d;
  room = lt-leb 256 x.depth room;
}

pub took_closing : {x : Parser} {n : Next} (y z : Parser) (f : IsFirst x n) → rest y ≡ drop 1 (rest x) → rest z ≡ rest y → z.depth ≡ x.depth - 1 → same_token (sign 125) f.token.token ≡ true → Took (sign 125) x z
took_closing {x = x} y z f r e d i = record {
  place = f.token.place;
  tokens_are = f.tokens_are ∙ ap (λ ts. f.token ∷ ts) (sym (e ∙ r ∙ ap (λ ts. drop 1 ts) f.tokens_are)) ∙ ap (λ (g : VToken). record { token = g; place = f.token.place } ∷ rest z) (same_is (sign 125) f.token.token i);
  depth_is = d;
  room = refl;
}

pub is_full : {x : Parser} {n : Next} (f : IsFirst x n) → same_token (sign 123) f.token.token ≡ true → 256 ≤ x.depth → IsFull x (Depth n.place)
is_full f i h = record {
  place = f.token.place;
  more = f.more;
  stop_is = ap (λ p. Depth p) f.place_is;
  tokens_are = f.tokens_are ∙ ap (λ (g : VToken). record { token = g; place = f.token.place } ∷ f.more) (same_is (sign 123) f.token.token i);
  full = h;
}

-- ---- operators

pub keeps : {x : Parser} {n : Next} (test : VToken → Bool) (f : IsFirst x n) → test f.token.token ≡ false → Keeps test x x
keeps test f e = record { same = refl; head = head_is test false f e }

unary_plain : (op : UnaryOp) → is_plain (sign (unary_sign op)) ≡ true
unary_plain unary.Not = refl
unary_plain unary.And = refl
unary_plain unary.Or = refl
unary_plain unary.Xor = refl

pub took_unary : {x y : Parser} {n : Next} (op : UnaryOp) (f : IsFirst x n) → rest y ≡ drop 1 (rest x) → y.depth ≡ x.depth → f.token.token ≡ sign (unary_sign op) → Took (sign (unary_sign op)) x y
took_unary op f r d e = took_as (sign (unary_sign op)) f r d e (unary_plain op)

binary_plain : (op : BinaryOp) → is_plain (binary_token op) ≡ true
binary_plain binary.Add = refl
binary_plain binary.Sub = refl
binary_plain binary.Mul = refl
binary_plain binary.Div = refl
binary_plain binary.Rem = refl
binary_plain binary.And = refl
binary_plain binary.Or = refl
binary_plain binary.Xor = refl
binary_plain binary.Shl = refl
binary_plain binary.Shr = refl
binary_plain binary.Eq = refl
binary_plain binary.Neq = refl
binary_plain binary.Lt = refl
binary_plain binary.Leq = refl
binary_plain binary.Gt = refl
binary_plain binary.Geq = refl

pub took_binary : {x y : Parser} {n : Next} (op : BinaryOp) (f : IsFirst x n) → rest y ≡ drop 1 (rest x) → y.depth ≡ x.depth → f.token.token ≡ binary_token op → Took (binary_token op) x y
took_binary op f r d e = took_as (binary_token op) f r d e (binary_plain op)

signed_takes : (op : SignedOp) → step a_signed_operator (binary_token (unsigned_op op)) ≡ takes []
signed_takes signed.Div = refl
signed_takes signed.Rem = refl
signed_takes signed.Lt = refl
signed_takes signed.Leq = refl
signed_takes signed.Gt = refl
signed_takes signed.Geq = refl

pub binary_self : (op : BinaryOp) → IsAlike (binary_token op) (binary_token op)
binary_self binary.Add = refl
binary_self binary.Sub = refl
binary_self binary.Mul = refl
binary_self binary.Div = refl
binary_self binary.Rem = refl
binary_self binary.And = refl
binary_self binary.Or = refl
binary_self binary.Xor = refl
binary_self binary.Shl = refl
binary_self binary.Shr = refl
binary_self binary.Eq = refl
binary_self binary.Neq = refl
binary_self binary.Lt = refl
binary_self binary.Leq = refl
binary_self binary.Gt = refl
binary_self binary.Geq = refl

pub reads_signed : {x y : Parser} {n : Next} (op : SignedOp) (f : IsFirst x n) → rest y ≡ drop 1 (rest x) → y.depth ≡ x.depth → f.token.token ≡ binary_token (unsigned_op op)
    → Leads (a_signed_operator ∷ []) (binary_token (unsigned_op op) ∷ []) [] x y
reads_signed op f r d e = took a_signed_operator [] (binary_token (unsigned_op op)) (took_binary (unsigned_op op) f r d e) (signed_takes op) (binary_self (unsigned_op op))

pub binary_behind : (op : BinaryOp) → step behind_atom (binary_token op) ≡ takes (an_atom ∷ [])
binary_behind binary.Add = refl
binary_behind binary.Sub = refl
binary_behind binary.Mul = refl
binary_behind binary.Div = refl
binary_behind binary.Rem = refl
binary_behind binary.And = refl
binary_behind binary.Or = refl
binary_behind binary.Xor = refl
binary_behind binary.Shl = refl
binary_behind binary.Shr = refl
binary_behind binary.Eq = refl
binary_behind binary.Neq = refl
binary_behind binary.Lt = refl
binary_behind binary.Leq = refl
binary_behind binary.Gt = refl
binary_behind binary.Geq = refl

pub reads_binary : {x y : Parser} (op : BinaryOp) → Took (binary_token op) x y → Leads (behind_atom ∷ []) (binary_token op ∷ []) (an_atom ∷ []) x y
reads_binary op w = took behind_atom (an_atom ∷ []) (binary_token op) w (binary_behind op) (binary_self op)

unary_takes : (op : UnaryOp) → step other_side (sign (unary_sign op)) ≡ takes (an_atom ∷ [])
unary_takes unary.Not = refl
unary_takes unary.And = refl
unary_takes unary.Or = refl
unary_takes unary.Xor = refl

pub reads_unary : {x y : Parser} (op : UnaryOp) → Took (sign (unary_sign op)) x y → Leads (other_side ∷ []) (sign (unary_sign op) ∷ []) (an_atom ∷ []) x y
reads_unary op w = took other_side (an_atom ∷ []) (sign (unary_sign op)) w (unary_takes op) refl

-- ---- words that begin something

direction_takes : (d : Direction) → step a_direction (word (direction_keyword d)) ≡ takes []
direction_takes Input = refl
direction_takes Output = refl

pub reads_direction : {x y : Parser} {n : Next} (d : Direction) (f : IsFirst x n) → rest y ≡ drop 1 (rest x) → y.depth ≡ x.depth → f.token.token ≡ word (direction_keyword d) → Leads (a_direction ∷ []) (word (direction_keyword d) ∷ []) [] x y
reads_direction d f r e i = took a_direction [] (word (direction_keyword d)) (took_as (word (direction_keyword d)) f r e i refl) (direction_takes d) refl

unfoldable pub is_direction : VToken → Bool
is_direction (word w) = is_some (direction_of w)
is_direction _ = false

no_direction_by : (o : Option Direction) → is_some o ≡ false → by_direction o [] ≡ refuses
no_direction_by None h = refl
no_direction_by (Some d) h = absurd (cc)

pub no_direction : (t : VToken) → is_direction t ≡ false → step a_direction t ≡ refuses
unfolding is_direction
no_direction (word w) h = no_direction_by (direction_of w) h
no_direction (sign b) h = refl
no_direction digit_zero h = refl
no_direction (number n) h = refl
no_direction (constant w x) h = refl
no_direction (double a b) h = refl
no_direction signed_shift h = refl
no_direction signed_word h = refl
no_direction question_digit h = refl

pub other_word : (w : List ℕ) (t : VToken) → t ≡ word w → None ≡ direction_of w → is_direction t ≡ false
unfolding is_direction
other_word w t e h = ap is_direction e ∙ ap is_some (sym h)

directed_no : (t : VToken) → is_word_token t ≡ false → is_direction t ≡ false
unfolding is_direction
directed_no (word w) h = absurd (cc)
directed_no (sign b) h = refl
directed_no digit_zero h = refl
directed_no (number n) h = refl
directed_no (constant w x) h = refl
directed_no (double a b) h = refl
directed_no signed_shift h = refl
directed_no signed_word h = refl
directed_no question_digit h = refl

pub not_direction : (l : Lexeme) (t : VToken) → Sees l t → ((s : _) → l ≡ lexeme.Word s → ⊥) → is_direction t ≡ false
not_direction l t e n = directed_no t (not_word l t e n)

keyword_takes : (k : Keyword) → step an_item (word (keyword_word k)) ≡ takes (behind_keyword k)
keyword_takes key.Wire = refl
keyword_takes key.Reg = refl
keyword_takes key.Assign = refl
keyword_takes key.Always = refl

pub reads_keyword : {x y : Parser} {n : Next} (k : Keyword) (f : IsFirst x n) → rest y ≡ drop 1 (rest x) → y.depth ≡ x.depth → f.token.token ≡ word (keyword_word k) → Leads (an_item ∷ []) (word (keyword_word k) ∷ []) (behind_keyword k) x y
reads_keyword k f r d e = took an_item (behind_keyword k) (word (keyword_word k)) (took_as (word (keyword_word k)) f r d e refl) (keyword_takes k) refl

unfoldable pub is_keyword : VToken → Bool
is_keyword (word w) = is_some (keyword_of w)
is_keyword _ = false

no_keyword_by : (o : Option Keyword) → is_some o ≡ false → by_keyword o [] ≡ refuses
no_keyword_by None h = refl
no_keyword_by (Some k) h = absurd (cc)

pub no_keyword : (t : VToken) → is_keyword t ≡ false → step an_item t ≡ refuses
unfolding is_keyword
no_keyword (word w) h = no_keyword_by (keyword_of w) h
no_keyword (sign b) h = refl
no_keyword digit_zero h = refl
no_keyword (number n) h = refl
no_keyword (constant w x) h = refl
no_keyword (double a b) h = refl
no_keyword signed_shift h = refl
no_keyword signed_word h = refl
no_keyword question_digit h = refl

pub no_key : (w : List ℕ) (t : VToken) → t ≡ word w → None ≡ keyword_of w → is_keyword t ≡ false
unfolding is_keyword
no_key w t e h = ap is_keyword e ∙ ap is_some (sym h)

keyed_no : (t : VToken) → is_word_token t ≡ false → is_keyword t ≡ false
unfolding is_keyword
keyed_no (word w) h = absurd (cc)
keyed_no (sign b) h = refl
keyed_no digit_zero h = refl
keyed_no (number n) h = refl
keyed_no (constant w x) h = refl
keyed_no (double a b) h = refl
keyed_no signed_shift h = refl
keyed_no signed_word h = refl
keyed_no question_digit h = refl

pub not_keyword : (l : Lexeme) (t : VToken) → Sees l t → ((s : _) → l ≡ lexeme.Word s → ⊥) → is_keyword t ≡ false
not_keyword l t e n = keyed_no t (not_word l t e n)

no_signed_by : (o : Option SignedOp) → is_some o ≡ false → by_signed o [] ≡ refuses
no_signed_by None h = refl
no_signed_by (Some k) h = absurd (cc)

abbrev pub is_signed : VToken → Bool
is_signed t = is_some (signed_op (binary_of t))

pub no_signed : (t : VToken) → is_signed t ≡ false → step a_signed_operator t ≡ refuses
no_signed t h = no_signed_by (signed_op (binary_of t)) h
