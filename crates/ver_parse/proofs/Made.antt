-- What a step tells of the trees in the place of a symbol.
use Rattle.std.proofs.Common.{◌≡◌, ℕ, List, [], ◌∷◌, ◌++◌, Bool, true, false, ◌&&◌, nat_eq, if◌then◌else◌, Option, Some, None, codes, refl, sym, ap, ◌∙◌, subst}
use Rattle.std.specs.Str.{bytes_eq}
use Rattle.std.proofs.lemmas.Bool.{eqb-true}
use Rattle.fir_base.proofs.SameNames.{name_is}
use Rattle.fir_base.specs.declared.direction.Direction.{Direction}
use Rattle.fir_base.specs.declared.direction.Direction.TheVariants.{Input, Output}
use Rattle.ver_ast.specs.declared.tree.UnaryOp.{UnaryOp}
use Rattle.ver_ast.specs.declared.tree.UnaryOp.TheVariants as unary
use Rattle.ver_ast.specs.declared.tree.BinaryOp.{BinaryOp}
use Rattle.ver_ast.specs.declared.tree.BinaryOp.TheVariants as binary
use Rattle.ver_ast.specs.declared.tree.SignedOp.{SignedOp}
use Rattle.ver_ast.specs.declared.tree.SignedOp.TheVariants as signed
use Rattle.ver_ast.specs.Grammar.{direction_keyword, unary_sign, binary_token, unsigned_op}
use Rattle.ver_ast.specs.Spells.{IsAlike}
use Rattle.ver_ast.specs.Tokens.{VToken, word, digit_zero, number, constant, sign, double, signed_shift, signed_word, question_digit}
use Rattle.ver_parse.specs.declared.keyword.Keyword.{Keyword}
use Rattle.ver_parse.specs.declared.keyword.Keyword.TheVariants as key
use Rattle.ver_parse.specs.working.Symbols.{Symbol}
use Rattle.ver_parse.specs.working.Steps.{Step, takes, skips, refuses, only_if, same_token, direction_of, by_direction, keyword_of, keyword_word, unary_of, unary_of_sign, binary_of, binary_sign, binary_double, signed_op}
use Rattle.ver_parse.proofs.Heads.{same_is, doubles_are}
use Rattle.ver_parse.proofs.Trees.{own, Tree, spell, Trees, spell_all}

-- a tree in the place of the symbol, spelled with a token alike to this one before these others
pub record Makes (s : Symbol) (t : VToken) (others : List VToken → List VToken) : Type 0 where
  pub tree : Tree s
  pub token : VToken
  pub alike : IsAlike token t
  pub spelled : (rest : List VToken) → spell s tree rest ≡ token ∷ others rest

abbrev pub Tells : Symbol → VToken → Step → Type 0
Tells s t (takes ss) = (x : Trees ss) → Makes s t (spell_all ss x)
Tells s t skips = (x : Tree s) × ((rest : List VToken) → spell s x rest ≡ rest)
Tells s t refuses = Unit {0}

pub if_so : (s : Symbol) (t : VToken) (c : Bool) (u v : Step) → (c ≡ true → Tells s t u) → Tells s t v → Tells s t (if c then u else v)
if_so s t true u v p q = p refl
if_so s t false u v p q = q

pub only_so : (s : Symbol) (t : VToken) (c : Bool) (ss : List Symbol) → (c ≡ true → Tells s t (takes ss)) → Tells s t (only_if c ss)
only_so s t true ss p = p refl
only_so s t false ss p = tt

pub is_sign : (b k : ℕ) → nat_eq b k ≡ true → sign k ≡ sign b
is_sign b k h = ap sign (sym (eqb-true b k h))

pub is_word_of : (w k : List ℕ) → bytes_eq w k ≡ true → word k ≡ word w
is_word_of w k h = ap word (sym (name_is w k h))

pub is_double : (a b c d : ℕ) → (nat_eq a c && nat_eq b d) ≡ true → double c d ≡ double a b
is_double a b c d h = sym (doubles_are c d a b (nat_eq a c) (nat_eq b d) refl refl h)

pub own_alike : (g t : VToken) → same_token g t ≡ true → IsAlike (own g) t
own_alike (word v) t h = sym (same_is (word v) t h)
own_alike digit_zero t h = sym (same_is digit_zero t h)
own_alike (sign a) t h = sym (same_is (sign a) t h)
own_alike (double a b) t h = sym (same_is (double a b) t h)
own_alike signed_word t h = sym (same_is signed_word t h)
own_alike signed_shift t h = sym (same_is signed_shift t h)
own_alike _ _ h = absurd (cc)

-- ---- the operators and words of a table

some_is : {A : Type 0} (a z : A) → Some a ≡ Some z → a ≡ z
some_is a z e = cc

-- the first entry, or one of the others
first_or : {A : Type 0} (P : A → Type 0) (c : Bool) (a : A) (o : Option A) → (c ≡ true → P a) → ((z : A) → o ≡ Some z → P z) → (z : A) → (if c then Some a else o) ≡ Some z → P z
first_or P true a o p q z e = subst P (some_is a z e) (p refl)
first_or P false a o p q z e = q z e

none_of : {A : Type 0} (P : A → Type 0) (z : A) → None ≡ Some z → P z
none_of P z e = absurd (cc)

unary_sign_is : (b : ℕ) (z : UnaryOp) → unary_of_sign b ≡ Some z → sign (unary_sign z) ≡ sign b
unary_sign_is b =
    let P : UnaryOp → Type 0 = λ op. sign (unary_sign op) ≡ sign b in
    first_or P (nat_eq b 126) unary.Not _ (is_sign b 126)
    (first_or P (nat_eq b 38) unary.And _ (is_sign b 38)
    (first_or P (nat_eq b 124) unary.Or _ (is_sign b 124)
    (first_or P (nat_eq b 94) unary.Xor _ (is_sign b 94)
    (none_of P))))

pub unary_is : (t : VToken) (z : UnaryOp) → unary_of t ≡ Some z → sign (unary_sign z) ≡ t
unary_is (sign b) z e = unary_sign_is b z e
unary_is _ z e = absurd (cc)

binary_sign_is : (b : ℕ) (z : BinaryOp) → binary_sign b ≡ Some z → binary_token z ≡ sign b
binary_sign_is b =
    let P : BinaryOp → Type 0 = λ op. binary_token op ≡ sign b in
    first_or P (nat_eq b 43) binary.Add _ (is_sign b 43)
    (first_or P (nat_eq b 45) binary.Sub _ (is_sign b 45)
    (first_or P (nat_eq b 42) binary.Mul _ (is_sign b 42)
    (first_or P (nat_eq b 47) binary.Div _ (is_sign b 47)
    (first_or P (nat_eq b 37) binary.Rem _ (is_sign b 37)
    (first_or P (nat_eq b 38) binary.And _ (is_sign b 38)
    (first_or P (nat_eq b 124) binary.Or _ (is_sign b 124)
    (first_or P (nat_eq b 94) binary.Xor _ (is_sign b 94)
    (first_or P (nat_eq b 60) binary.Lt _ (is_sign b 60)
    (first_or P (nat_eq b 62) binary.Gt _ (is_sign b 62)
    (none_of P))))))))))

binary_double_is : (a b : ℕ) (z : BinaryOp) → binary_double a b ≡ Some z → binary_token z ≡ double a b
binary_double_is a b =
    let P : BinaryOp → Type 0 = λ op. binary_token op ≡ double a b in
    first_or P (nat_eq a 60 && nat_eq b 60) binary.Shl _ (is_double a b 60 60)
    (first_or P (nat_eq a 62 && nat_eq b 62) binary.Shr _ (is_double a b 62 62)
    (first_or P (nat_eq a 61 && nat_eq b 61) binary.Eq _ (is_double a b 61 61)
    (first_or P (nat_eq a 33 && nat_eq b 61) binary.Neq _ (is_double a b 33 61)
    (first_or P (nat_eq a 60 && nat_eq b 61) binary.Leq _ (is_double a b 60 61)
    (first_or P (nat_eq a 62 && nat_eq b 61) binary.Geq _ (is_double a b 62 61)
    (none_of P))))))

pub binary_is : (t : VToken) (z : BinaryOp) → binary_of t ≡ Some z → binary_token z ≡ t
binary_is (sign b) z e = binary_sign_is b z e
binary_is (double a b) z e = binary_double_is a b z e
binary_is _ z e = absurd (cc)

pub signed_is : (o : Option BinaryOp) (z : SignedOp) → signed_op o ≡ Some z → o ≡ Some (unsigned_op z)
signed_is (Some binary.Div) z e = ap (λ op. Some (unsigned_op op)) (some_is signed.Div z e)
signed_is (Some binary.Rem) z e = ap (λ op. Some (unsigned_op op)) (some_is signed.Rem z e)
signed_is (Some binary.Lt) z e = ap (λ op. Some (unsigned_op op)) (some_is signed.Lt z e)
signed_is (Some binary.Leq) z e = ap (λ op. Some (unsigned_op op)) (some_is signed.Leq z e)
signed_is (Some binary.Gt) z e = ap (λ op. Some (unsigned_op op)) (some_is signed.Gt z e)
signed_is (Some binary.Geq) z e = ap (λ op. Some (unsigned_op op)) (some_is signed.Geq z e)
signed_is _ z e = absurd (cc)

pub direction_is : (w : List ℕ) (z : Direction) → direction_of w ≡ Some z → word (direction_keyword z) ≡ word w
direction_is w =
    let P : Direction → Type 0 = λ d. word (direction_keyword d) ≡ word w in
    first_or P (bytes_eq w (codes "input")) Input _ (is_word_of w (codes "input"))
    (first_or P (bytes_eq w (codes "output")) Output _ (is_word_of w (codes "output")) (none_of P))

pub keyword_is : (w : List ℕ) (z : Keyword) → keyword_of w ≡ Some z → word (keyword_word z) ≡ word w
keyword_is w =
    let P : Keyword → Type 0 = λ k. word (keyword_word k) ≡ word w in
    first_or P (bytes_eq w (codes "wire")) key.Wire _ (is_word_of w (codes "wire"))
    (first_or P (bytes_eq w (codes "reg")) key.Reg _ (is_word_of w (codes "reg"))
    (first_or P (bytes_eq w (codes "assign")) key.Assign _ (is_word_of w (codes "assign"))
    (first_or P (bytes_eq w (codes "always")) key.Always _ (is_word_of w (codes "always")) (none_of P))))
