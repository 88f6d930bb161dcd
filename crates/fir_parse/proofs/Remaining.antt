-- The tokens that are left, by the index of the next.
use Rattle.std.proofs.Common.{◌++◌, ◌≡◌, ℕ, suc, ◌+◌, ◌<◌, ◌≤◌, List, [], ◌∷◌, length, drop, map, slice_get, Some, None, refl, sym, ap, ◌∙◌, inl, inr, add-one}
use Rattle.std.proofs.Math.Seq.{drop-cons}
use Rattle.std.proofs.lemmas.Option.{slice_get_within, get_or_from_slice_get, slice_get_cases}
use Rattle.std.proofs.lemmas.List.{drop_all}
use Rattle.fir_lex.specs.Tokens.{Placed, line_end}
use Rattle.fir_ast.specs.declared.place.Place.{Place}
use Rattle.fir_parse.specs.Lexemes.{Terminal, terminal_of}
use Rattle.fir_parse.specs.declared.lexeme.Lexeme.{Lexeme}
use Rattle.fir_parse.specs.declared.lexeme.Lexeme.TheVariants.{End}
use Rattle.fir_parse.specs.working.AtHand.{StandsFirst, first_of}

behind_first : (x : Placed) (l r : List Placed) → l ≡ x ∷ r → map terminal_of l ≡ terminal_of x ∷ drop 1 (map terminal_of l)
behind_first x l r e = rw e refl

-- the token at an index is the first of what is left there
pub at_hand : (ts : List Placed) (i : ℕ) (x : Placed) → slice_get ts i ≡ Some x → map terminal_of (drop i ts) ≡ terminal_of x ∷ drop 1 (map terminal_of (drop i ts))
at_hand ts i x e = behind_first x (drop i ts) (drop (suc i) ts) (drop-cons ts i x (slice_get_within ts i x e) ∙ ap (λ y. y ∷ drop (suc i) ts) (get_or_from_slice_get ts i x x e))

past_length : (ts : List Placed) (i : ℕ) → slice_get ts i ≡ None → length ts ≤ i
past_length ts i e = elim (slice_get_cases ts i).1 [ inl x ↦ absurd cc | inr x ↦ x.0 ]

-- past the last token nothing is left
pub at_the_end : (ts : List Placed) (i : ℕ) → slice_get ts i ≡ None → map terminal_of (drop i ts) ≡ []
at_the_end ts i e = ap (map terminal_of) (drop_all i ts (past_length ts i e))

any : Placed
any = record { token = line_end; place = record { line = 1; col = 1 } }

-- what is left behind the next token
pub rest_behind : (ts : List Placed) (i : ℕ) → i < length ts → map terminal_of (drop (i + 1) ts) ≡ drop 1 (map terminal_of (drop i ts))
rest_behind ts i lt = rw (add-one i) (sym (ap (λ l. drop 1 (map terminal_of l)) (drop-cons ts i any lt)))

pub nothing_left : (ts : List Placed) (i : ℕ) → length ts ≤ i → map terminal_of (drop i ts) ≡ []
nothing_left ts i le = ap (map terminal_of) (drop_all i ts le)

filled : (x : Terminal) (l a : List Terminal) → a ≡ x ∷ l → a ≡ [] → ⊥
filled x l a h e = cc

past_end : (ts : List Placed) (i : ℕ) → map terminal_of (drop i ts) ≡ [] → length ts ≤ i
past_end ts i e = elim (slice_get_cases ts i).1 [ inl x ↦ absurd (filled _ _ _ (at_hand ts i x.0 x.2) e) | inr x ↦ x.0 ]

none_at_end : (l : Lexeme) (p : Place) (a : List Terminal) → StandsFirst a l p → l ≡ End → a ≡ []
none_at_end End p a h e = h
none_at_end _ p a h e = absurd cc

-- where the end is at hand all tokens are behind it
pub all_behind : (l : Lexeme) (p : Place) (ts : List Placed) (i : ℕ) → StandsFirst (map terminal_of (drop i ts)) l p → l ≡ End → length ts ≤ i
all_behind l p ts i h e = past_end ts i (none_at_end l p _ h e)

hand_first : (l : Lexeme) (p : Place) (a : List Terminal) → (l ≡ End → a ≡ []) → StandsFirst (first_of l p ++ a) l p
hand_first End p a e = e refl
hand_first _ p a e = refl

-- what is at hand stands first, whatever follows
pub stands_at_hand : (l : Lexeme) (p : Place) (ts : List Placed) (i : ℕ) → (l ≡ End → length ts ≤ i) → StandsFirst (first_of l p ++ map terminal_of (drop i ts)) l p
stands_at_hand l p ts i e = hand_first l p _ (λ is. nothing_left ts i (e is))

behind_hand : (l : Lexeme) (p : Place) (a : List Terminal) → (l ≡ End → a ≡ []) → drop 1 (first_of l p ++ a) ≡ a
behind_hand End p a e = rw (e refl) refl
behind_hand _ p a e = refl

with_hand : (l : Lexeme) (p : Place) (a : List Terminal) → StandsFirst a l p → first_of l p ++ drop 1 a ≡ a
with_hand End p a h = rw h refl
with_hand _ p a h = sym h

-- a token at hand and those behind its index
pub joined : (l : Lexeme) (p : Place) (ts : List Placed) (i : ℕ) → StandsFirst (map terminal_of (drop i ts)) l p → i < length ts → first_of l p ++ map terminal_of (drop (i + 1) ts) ≡ map terminal_of (drop i ts)
joined l p ts i h lt = rw (rest_behind ts i lt) (with_hand l p _ h)

-- behind the last token the end is at hand
pub joined_at_end : (l : Lexeme) (p : Place) (ts : List Placed) (i : ℕ) → StandsFirst (map terminal_of (drop i ts)) l p → length ts ≤ i → first_of l p ++ map terminal_of (drop i ts) ≡ map terminal_of (drop i ts)
joined_at_end l p ts i h le = ap (λ a. first_of l p ++ a) (nothing_left ts i le ∙ sym (ap (drop 1) (nothing_left ts i le))) ∙ with_hand l p _ h

-- what is left behind the token at hand
pub left_behind : (l : Lexeme) (p : Place) (ts : List Placed) (i : ℕ) → (l ≡ End → length ts ≤ i) → drop 1 (first_of l p ++ map terminal_of (drop i ts)) ≡ map terminal_of (drop i ts)
left_behind l p ts i e = behind_hand l p _ (λ is. nothing_left ts i (e is))
