-- The tokens that are left, by the index of the next.
use Rattle.std.proofs.Common.{◌≡◌, ℕ, suc, ◌+◌, ◌<◌, ◌≤◌, List, [], ◌∷◌, length, drop, slice_get, Option, Some, None, refl, sym, ap, ◌∙◌, inl, inr, add-one}
use Rattle.std.proofs.Math.Seq.{drop-cons}
use Rattle.std.proofs.lemmas.Option.{slice_get_within, get_or_from_slice_get, slice_get_cases}
use Rattle.std.proofs.lemmas.List.{drop_all}
use Rattle.ver_ast.specs.declared.place.VPlace.{VPlace}
use Rattle.ver_ast.specs.Tokens.{digit_zero}
use Rattle.ver_ast.specs.Pieces.{PlacedToken}
use Rattle.ver_lex.specs.declared.lexeme.Next.{Next}
use Rattle.ver_lex.specs.working.Lexemes.{Sees, NextAt}
use Rattle.ver_parse.specs.working.Reads.{IsFirst, IsEnd}
use Rattle.ver_parse.specs.declared.parser.Parser.{Parser}
use Rattle.ver_parse.specs.declared.stop.Stop.TheVariants.{AtEnd}

first_at : (ts : List PlacedToken) (i : ℕ) (x : PlacedToken) → slice_get ts i ≡ Some x → drop i ts ≡ x ∷ drop (suc i) ts
first_at ts i x e = drop-cons ts i x (slice_get_within ts i x e) ∙ ap (λ y. y ∷ drop (suc i) ts) (get_or_from_slice_get ts i x x e)

found_by : (p : Parser) (n : Next) (o : Option PlacedToken) → slice_get p.tokens.now.tokens p.next ≡ o → NextAt (Some n) o → IsFirst p n
found_by p n (Some t) e (s, i) = record { token = t; more = drop (suc p.next) p.tokens.now.tokens; tokens_are = first_at p.tokens.now.tokens p.next t e; seen = s; place_is = i }
found_by p n None e h = absurd h

-- the token at an index is the first of what is left there
pub found : (p : Parser) (n : Next) → NextAt (Some n) (slice_get p.tokens.now.tokens p.next) → IsFirst p n
found p n h = found_by p n (slice_get p.tokens.now.tokens p.next) refl h

past_length : (ts : List PlacedToken) (i : ℕ) → slice_get ts i ≡ None → length ts ≤ i
past_length ts i e = elim (slice_get_cases ts i).1 [ inl x ↦ absurd cc | inr x ↦ x.0 ]

none_by : (ts : List PlacedToken) (i : ℕ) (o : Option PlacedToken) → slice_get ts i ≡ o → NextAt None o → drop i ts ≡ []
none_by ts i None e h = drop_all i ts (past_length ts i e)
none_by ts i (Some t) e h = absurd h

-- past the last token nothing is left
pub none_left : (p : Parser) → NextAt None (slice_get p.tokens.now.tokens p.next) → IsEnd p AtEnd
none_left p h = record { nothing_left = none_by p.tokens.now.tokens p.next (slice_get p.tokens.now.tokens p.next) refl h; stop_is = refl }

any : PlacedToken
any = record { token = digit_zero; place = record { line = 1; col = 1 } }

-- what is left behind the next token
pub rest_behind : (ts : List PlacedToken) (i : ℕ) → i < length ts → drop (i + 1) ts ≡ drop 1 (drop i ts)
rest_behind ts i lt = rw (add-one i) (sym (ap (λ l. drop 1 l) (drop-cons ts i any lt)))
