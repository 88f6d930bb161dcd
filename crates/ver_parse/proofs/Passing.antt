-- Reading the tokens of the grammar, and tokens alike to them.
use Rattle.std.proofs.Common.{◌≡◌, ◌⊎◌, inl, inr, ℕ, List, [], ◌∷◌, ◌++◌, Bool, true, false, ◌&&◌, not, Option, Some, None, refl, sym, ap, ◌∙◌, subst}
use Rattle.ver_words.specs.Names.{IsName}
use Rattle.ver_ast.specs.Pieces.{PlacedToken}
use Rattle.ver_ast.specs.Spells.{IsAlike, AreAlike}
use Rattle.ver_ast.specs.Tokens.{VToken, word, digit_zero, number, constant, sign, double, signed_shift, signed_word, question_digit}
use Rattle.ver_parse.specs.working.Symbols.{Symbol, a_token, a_name}
use Rattle.ver_parse.specs.working.Steps.{Step, takes, skips, refuses, is_name, only_if, step}
use Rattle.ver_parse.specs.working.Reading.{by_step, behind, with_next, follows}
use Rattle.ver_parse.proofs.Stopping.{follows_none, follows_on}

-- what is expected behind these tokens of the grammar
unfoldable pub reads : List Symbol → List VToken → Option (List Symbol)
reads todo [] = Some todo
reads todo (t ∷ ts) = with_next (behind todo t) (λ next. reads next ts)

pub taken : (s : Symbol) (ss : List Symbol) (t : VToken) (todo : List Symbol) (ts : List VToken) → step s t ≡ takes ss → reads (s ∷ todo) (t ∷ ts) ≡ reads (ss ++ todo) ts
unfolding reads
taken s ss t todo ts e = ap (λ u. with_next (by_step u todo (behind todo t)) (λ next. reads next ts)) e

pub reads_alike : (todo other : List Symbol) (t : VToken) (ts : List VToken) → behind todo t ≡ behind other t → reads todo (t ∷ ts) ≡ reads other (t ∷ ts)
unfolding reads
reads_alike todo other t ts e = ap (λ o. with_next o (λ next. reads next ts)) e

pub is_named : (w : List ℕ) → IsName w → is_name w ≡ true
is_named w h = rw (h.spelled, h.free) refl

-- a name where one may stand
pub name_taken : (s : Symbol) (ss : List Symbol) (w : List ℕ) (todo : List Symbol) (ts : List VToken) → IsName w → step s (word w) ≡ only_if (is_name w) ss → reads (s ∷ todo) (word w ∷ ts) ≡ reads (ss ++ todo) ts
name_taken s ss w todo ts h e = taken s ss (word w) todo ts (e ∙ ap (λ (c : Bool). only_if c ss) (is_named w h))

pub name_reads : (w : List ℕ) (todo : List Symbol) (ts : List VToken) → IsName w → reads (a_name ∷ todo) (word w ∷ ts) ≡ reads todo ts
name_reads w todo ts h = name_taken a_name [] w todo ts h refl

-- ---- tokens alike

-- a step takes the tokens alike to those that it takes
abbrev SameStep : Symbol → VToken → VToken → Type 0
SameStep s g t = (step s g ≡ refuses) ⊎ (step s t ≡ step s g)

number_no_token : (g : VToken) (n : ℕ) → step (a_token g) (number n) ≡ refuses
number_no_token (word w) n = refl
number_no_token digit_zero n = refl
number_no_token (number m) n = refl
number_no_token (constant w x) n = refl
number_no_token (sign b) n = refl
number_no_token (double a b) n = refl
number_no_token signed_shift n = refl
number_no_token signed_word n = refl
number_no_token question_digit n = refl

constant_no_token : (g : VToken) (w x : ℕ) → step (a_token g) (constant w x) ≡ refuses
constant_no_token (word v) w x = refl
constant_no_token digit_zero w x = refl
constant_no_token (number m) w x = refl
constant_no_token (constant v y) w x = refl
constant_no_token (sign b) w x = refl
constant_no_token (double a b) w x = refl
constant_no_token signed_shift w x = refl
constant_no_token signed_word w x = refl
constant_no_token question_digit w x = refl

same_zero : (s : Symbol) (n : ℕ) → SameStep s (number n) digit_zero
same_zero (a_token g) n = inl (number_no_token g n)
same_zero _ n = inr refl

same_number : (s : Symbol) (n m : ℕ) → SameStep s (number n) (number m)
same_number (a_token g) n m = inl (number_no_token g n)
same_number _ n m = inr refl

same_constant : (s : Symbol) (w x v y : ℕ) → SameStep s (constant w x) (constant v y)
same_constant (a_token g) w x v y = inl (constant_no_token g w x)
same_constant _ w x v y = inr refl

same_step_number : (s : Symbol) (n : ℕ) (t : VToken) → IsAlike (number n) t → SameStep s (number n) t
same_step_number s n digit_zero h = same_zero s n
same_step_number s n (number m) h = same_number s n m
same_step_number s n _ h = absurd h

same_step_constant : (s : Symbol) (w x : ℕ) (t : VToken) → IsAlike (constant w x) t → SameStep s (constant w x) t
same_step_constant s w x (constant v y) h = same_constant s w x v y
same_step_constant s w x _ h = absurd h

same_step : (s : Symbol) (g t : VToken) → IsAlike g t → SameStep s g t
same_step s (number n) t h = same_step_number s n t h
same_step s (constant w x) t h = same_step_constant s w x t h
same_step s g t h = inr (ap (λ u. step s u) (sym h))

by_same : (u : Step) (todo next : List Symbol) (a b : Option (List Symbol)) → (a ≡ Some next → b ≡ Some next) → by_step u todo a ≡ Some next → by_step u todo b ≡ Some next
by_same (takes ss) todo next a b r e = e
by_same skips todo next a b r e = r e
by_same refuses todo next a b r e = absurd (cc)

by_alike : (s : Symbol) (g t : VToken) (todo next : List Symbol) (a b : Option (List Symbol)) → SameStep s g t → (a ≡ Some next → b ≡ Some next) → by_step (step s g) todo a ≡ Some next
    → by_step (step s t) todo b ≡ Some next
by_alike s g t todo next a b (inl refused) r e = let none : None ≡ Some next = sym (ap (λ u. by_step u todo a) refused) ∙ e in absurd (cc)
by_alike s g t todo next a b (inr same) r e = ap (λ u. by_step u todo b) same ∙ by_same (step s g) todo next a b r e

behind_alike : (todo next : List Symbol) (g t : VToken) → IsAlike g t → behind todo g ≡ Some next → behind todo t ≡ Some next
behind_alike [] next g t h e = absurd (cc)
behind_alike (s ∷ todo) next g t h e = by_alike s g t todo next (behind todo g) (behind todo t) (same_step s g t h) (behind_alike todo next g t h) e

follows_by : (todo last : List Symbol) (g : VToken) (t : PlacedToken) (gs : List VToken) (ts : List PlacedToken) (o : Option (List Symbol)) → behind todo g ≡ o → IsAlike g t.token
    → with_next o (λ next. reads next gs) ≡ Some last → ((next : List Symbol) → reads next gs ≡ Some last → follows next ts ≡ Some last) → follows todo (t ∷ ts) ≡ Some last
follows_by todo last g t gs ts None e h r k = absurd (cc)
follows_by todo last g t gs ts (Some next) e h r k = follows_on todo next t ts (behind_alike todo next g t.token h e) ∙ k next r

-- tokens alike to those that are read
pub follows_alike : (gs : List VToken) (ts : List PlacedToken) (todo last : List Symbol) → AreAlike gs ts → reads todo gs ≡ Some last → follows todo ts ≡ Some last
unfolding reads
follows_alike [] [] todo last h e = follows_none todo ∙ e
follows_alike [] (t ∷ ts) todo last h e = absurd h
follows_alike (g ∷ gs) [] todo last h e = absurd h
follows_alike (g ∷ gs) (t ∷ ts) todo last h e = follows_by todo last g t gs ts (behind todo g) refl h.0 e (λ next r. follows_alike gs ts next last h.1 r)
