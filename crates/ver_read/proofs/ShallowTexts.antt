-- Nowhere in the tokens of a text are more than 256 braces open exactly where no operand of its tree opens more.
use Rattle.std.proofs.Common.{◌≡◌, ℕ, ◌≤◌, List, [], ◌∷◌, ◌++◌, map, fold, refl, sym, ap, ◌∙◌, subst, append-nil, arith}
use Rattle.ver_ast.specs.declared.tree.Verilog.{Verilog}
use Rattle.ver_ast.specs.Tokens.{VToken, word, digit_zero, number, constant, sign, double, signed_shift, signed_word, question_digit}
use Rattle.ver_ast.specs.Pieces.{PlacedToken}
use Rattle.ver_ast.specs.Grammar.{module_tokens}
use Rattle.ver_ast.specs.Spells.{IsAlike, AreAlike}
use Rattle.ver_parse.specs.Depths.{opened_by, IsShallow}
use Rattle.ver_check.specs.working.Laws.{IsShallow as IsShallowTree}
use Rattle.ver_read.proofs.Braces.{Low}
use Rattle.ver_read.proofs.BracesOfItems.{at_module}

abbrev opened : ℕ → List PlacedToken → ℕ
opened d ts = fold (λ n t. opened_by n t.token) d ts

alike_opens : (g t : VToken) (d : ℕ) → IsAlike g t → opened_by d g ≡ opened_by d t
alike_opens (number n) digit_zero d h = refl
alike_opens (number n) (number m) d h = refl
alike_opens (number n) (word w) d h = absurd h
alike_opens (number n) (constant w x) d h = absurd h
alike_opens (number n) (sign b) d h = absurd h
alike_opens (number n) (double a b) d h = absurd h
alike_opens (number n) signed_shift d h = absurd h
alike_opens (number n) signed_word d h = absurd h
alike_opens (number n) question_digit d h = absurd h
alike_opens (constant v y) (constant w x) d h = refl
alike_opens (constant v y) digit_zero d h = absurd h
alike_opens (constant v y) (number m) d h = absurd h
alike_opens (constant v y) (word w) d h = absurd h
alike_opens (constant v y) (sign b) d h = absurd h
alike_opens (constant v y) (double a b) d h = absurd h
alike_opens (constant v y) signed_shift d h = absurd h
alike_opens (constant v y) signed_word d h = absurd h
alike_opens (constant v y) question_digit d h = absurd h
alike_opens (word w) t d h = ap (opened_by d) h
alike_opens digit_zero t d h = ap (opened_by d) h
alike_opens (sign b) t d h = ap (opened_by d) h
alike_opens (double a b) t d h = ap (opened_by d) h
alike_opens signed_shift t d h = ap (opened_by d) h
alike_opens signed_word t d h = ap (opened_by d) h
alike_opens question_digit t d h = ap (opened_by d) h

-- along tokens that are alike as many are open
low_alike : (gs : List VToken) (ts : List PlacedToken) (d : ℕ) → AreAlike gs ts → ((front back : List PlacedToken) → ts ≡ front ++ back → opened d front ≤ 256) → Low d gs
low_alike [] [] d a h = h [] [] refl
low_alike [] (t ∷ ts) d a h = absurd a
low_alike (g ∷ gs) [] d a h = absurd a
low_alike (g ∷ gs) (t ∷ ts) d a h = (
  h [] (t ∷ ts) refl,
  subst (λ n. Low n gs) (sym (alike_opens g t.token d a.0))
      (low_alike gs ts (opened_by d t.token) a.1 (λ front back e. h (t ∷ front) back (ap (λ us. t ∷ us) e))),
)

alike_low : (gs : List VToken) (ts : List PlacedToken) (d : ℕ) → AreAlike gs ts → Low d gs → (front back : List PlacedToken) → ts ≡ front ++ back → opened d front ≤ 256
alike_low [] [] d a l [] back e = l
alike_low [] [] d a l (u ∷ front) back e = absurd (cc)
alike_low [] (t ∷ ts) d a l front back e = absurd a
alike_low (g ∷ gs) [] d a l front back e = absurd a
alike_low (g ∷ gs) (t ∷ ts) d a l [] back e = l.0
alike_low (g ∷ gs) (t ∷ ts) d a l (u ∷ front) back e =
    let same : t ≡ u = cc in
    let rest : ts ≡ front ++ back = cc in
    subst (λ x. opened (opened_by d x.token) front ≤ 256) same
    (alike_low gs ts (opened_by d t.token) a.1 (subst (λ n. Low n gs) (alike_opens g t.token d a.0) l.1) front back rest)

module _ (v : Verilog) (ts : List PlacedToken) (alike : AreAlike (module_tokens v) ts) where
  pub tree_is_shallow : IsShallow ts → IsShallowTree v
  tree_is_shallow h = ((at_module v []).0 (subst (Low 0) (sym (append-nil (module_tokens v))) (low_alike (module_tokens v) ts 0 alike h))).0

  pub tokens_are_shallow : IsShallowTree v → IsShallow ts
  tokens_are_shallow h = alike_low (module_tokens v) ts 0 alike (subst (Low 0) (append-nil (module_tokens v)) ((at_module v []).1 (h, omega arith)))
