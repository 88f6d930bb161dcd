-- The tokens of a text show one fault at most.
use Rattle.std.proofs.Common.{◌≡◌, ◌⊎◌, inl, inr, ℕ, ◌+◌, ◌≤◌, List, [], ◌∷◌, ◌++◌, fold, Option, Some, None, refl, sym, ap, ◌∙◌, subst, append_assoc, arith}
use Rattle.std.proofs.lemmas.List.{append-nil}
use Rattle.ver_ast.specs.declared.place.VPlace.{VPlace}
use Rattle.ver_ast.specs.declared.tree.Verilog.{Verilog}
use Rattle.ver_ast.specs.Tokens.{VToken, sign}
use Rattle.ver_ast.specs.Pieces.{PlacedToken}
use Rattle.ver_fault.specs.Faults.{VFault}
use Rattle.ver_lex.specs.declared.bad_byte.BadByte.{BadByte}
use Rattle.ver_parse.specs.Fronts.{AreTokensOf, IsText, IsFront, StopsAt}
use Rattle.ver_parse.specs.Depths.{opened_by, open_braces, IsShallow}
use Rattle.ver_parse.specs.TextFaults.{byte_fault, syntax_fault, depth_fault, ShowsUnexpected, ShowsDepth, ShowsAt, IsTokenFault, TokensFault}

-- ---- fronts and depths

front_of : (p q : List PlacedToken) → IsFront (p ++ q) → IsFront p
front_of p q (more, x) = (q ++ more, subst IsText (append_assoc p q more) x)

opened_from : (d : ℕ) (ts : List PlacedToken) (t : PlacedToken) → fold (λ n u. opened_by n u.token) d (ts ++ t ∷ []) ≡ opened_by (fold (λ n u. opened_by n u.token) d ts) t.token
opened_from d [] t = refl
opened_from d (u ∷ ts) t = opened_from (opened_by d u.token) ts t

one_deeper : (ts : List PlacedToken) (t : PlacedToken) → t.token ≡ sign 123 → open_braces ts ≡ 256 → open_braces (ts ++ t ∷ []) ≡ 257
one_deeper ts t e h = opened_from 0 ts t ∙ ap (λ (g : VToken). opened_by (open_braces ts) g) e ∙ ap (λ (n : ℕ). n + 1) h

-- nothing begins with all of these and is within the limit, where a fault is shown before
earlier : (a : List PlacedToken) (t : PlacedToken) (b m whole : List PlacedToken) (f : VFault) → ShowsAt a t b f → whole ≡ a ++ t ∷ m → IsFront whole → IsShallow whole → ⊥
earlier a t b m whole f (inl s) e front shallow =
    s.stops (front_of (a ++ t ∷ []) m (subst IsFront (e ∙ sym (append_assoc a (t ∷ []) m)) front))
earlier a t b m whole f (inr s) e front shallow =
    let low : open_braces (a ++ t ∷ []) ≤ 256 = shallow (a ++ t ∷ []) m (e ∙ sym (append_assoc a (t ∷ []) m)) in
    let deep : open_braces (a ++ t ∷ []) ≡ 257 = one_deeper a t s.is_brace s.full in
    absurd (omega arith)

shown_front : (a : List PlacedToken) (t : PlacedToken) (b : List PlacedToken) (f : VFault) → ShowsAt a t b f → IsFront a × IsShallow a
shown_front a t b f (inl s) = (s.begins, s.shallow)
shown_front a t b f (inr s) = (front_of a (t ∷ []) s.begins, s.shallow)

-- ---- two places in a list

-- one and the same, or one before the other
data Apart (a : List PlacedToken) (t : PlacedToken) (c : List PlacedToken) (u : PlacedToken) : Type 0 where
  same : a ≡ c → t ≡ u → Apart a t c u
  before : (m : List PlacedToken) → c ≡ a ++ t ∷ m → Apart a t c u
  behind : (m : List PlacedToken) → a ≡ c ++ u ∷ m → Apart a t c u

head_same : (x y : PlacedToken) (xs ys : List PlacedToken) → x ∷ xs ≡ y ∷ ys → x ≡ y
head_same x y xs ys e = cc

tail_same : (x y : PlacedToken) (xs ys : List PlacedToken) → x ∷ xs ≡ y ∷ ys → xs ≡ ys
tail_same x y xs ys e = cc

further : (x y : PlacedToken) (a : List PlacedToken) (t : PlacedToken) (c : List PlacedToken) (u : PlacedToken) → x ≡ y → Apart a t c u → Apart (x ∷ a) t (y ∷ c) u
further x y a t c u e (same p q) = same (ap (λ z. z ∷ a) e ∙ ap (λ l. y ∷ l) p) q
further x y a t c u e (before m p) = before m (ap (λ l. y ∷ l) p ∙ ap (λ z. z ∷ (a ++ t ∷ m)) (sym e))
further x y a t c u e (behind m p) = behind m (ap (λ l. x ∷ l) p ∙ ap (λ z. z ∷ (c ++ u ∷ m)) e)

apart : (a : List PlacedToken) (t : PlacedToken) (b c : List PlacedToken) (u : PlacedToken) (d : List PlacedToken) → a ++ t ∷ b ≡ c ++ u ∷ d → Apart a t c u
apart [] t b [] u d e = same refl (head_same t u b d e)
apart [] t b (y ∷ c) u d e = before c (ap (λ z. z ∷ c) (sym (head_same t y b (c ++ u ∷ d) e)))
apart (x ∷ a) t b [] u d e = behind a (ap (λ z. z ∷ a) (head_same x u (a ++ t ∷ b) d e))
apart (x ∷ a) t b (y ∷ c) u d e = further x y a t c u (head_same x y _ _ e) (apart a t b c u d (tail_same x y (a ++ t ∷ b) (c ++ u ∷ d) e))

-- ---- one fault

at_one : (a : List PlacedToken) (t : PlacedToken) (b d : List PlacedToken) (f g : VFault) → ShowsAt a t b f → ShowsAt a t d g → f ≡ g
at_one a t b d f g (inl s) (inl r) = s.fault_is ∙ sym r.fault_is
at_one a t b d f g (inr s) (inr r) = s.fault_is ∙ sym r.fault_is
at_one a t b d f g (inl s) (inr r) = absurd (s.stops r.begins)
at_one a t b d f g (inr s) (inl r) = absurd (r.stops s.begins)

by_places : (a : List PlacedToken) (t : PlacedToken) (b c : List PlacedToken) (u : PlacedToken) (d : List PlacedToken) (f g : VFault) → Apart a t c u → ShowsAt a t b f → ShowsAt c u d g → f ≡ g
by_places a t b c u d f g (same p q) s r = at_one a t b d f g s (subst (λ z. ShowsAt a z d g) (sym q) (subst (λ l. ShowsAt l u d g) (sym p) r))
by_places a t b c u d f g (before m p) s r = let x = shown_front c u d g r in absurd (earlier a t b m c f s p x.0 x.1)
by_places a t b c u d f g (behind m p) s r = let x = shown_front a t b f s in absurd (earlier c u d m a g r p x.0 x.1)

token_faults : (ts : List PlacedToken) (f g : VFault) → IsTokenFault ts f → IsTokenFault ts g → f ≡ g
token_faults ts f g s r =
    by_places s.front s.token s.back r.front r.token r.back f g (apart s.front s.token s.back r.front r.token r.back (sym s.tokens_are ∙ r.tokens_are)) s.shows r.shows

none_before : (ts : List PlacedToken) (f : VFault) → IsTokenFault ts f → IsFront ts → IsShallow ts → ⊥
none_before ts f s front shallow = earlier s.front s.token s.back s.back ts f s.shows s.tokens_are front shallow

pub one_fault : (end : VPlace) (ts : List PlacedToken) (bad : Option BadByte) (f g : VFault) → TokensFault end ts bad f → TokensFault end ts bad g → f ≡ g
one_fault end ts None f g (inl s) (inl r) = token_faults ts f g s r
one_fault end ts None f g (inl s) (inr r) = absurd (none_before ts f s r.begins r.shallow)
one_fault end ts None f g (inr s) (inl r) = absurd (none_before ts g r s.begins s.shallow)
one_fault end ts None f g (inr s) (inr r) = s.fault_is ∙ sym r.fault_is
one_fault end ts (Some b) f g (inl s) (inl r) = token_faults ts f g s r
one_fault end ts (Some b) f g (inl s) (inr (e, front, shallow)) = absurd (none_before ts f s front shallow)
one_fault end ts (Some b) f g (inr (e, front, shallow)) (inl r) = absurd (none_before ts g r front shallow)
one_fault end ts (Some b) f g (inr (e, p, x)) (inr (i, q, y)) = e ∙ sym i

pub no_tree : (end : VPlace) (ts : List PlacedToken) (f : VFault) (v : Verilog) → AreTokensOf v ts → IsShallow ts → TokensFault end ts None f → ⊥
no_tree end ts f v tree shallow (inl s) = none_before ts f s ([], subst IsText (sym (append-nil ts)) (v, tree)) shallow
no_tree end ts f v tree shallow (inr s) = s.stops (v, tree)
