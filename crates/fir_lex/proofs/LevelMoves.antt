-- Levels: a move is one that opens or one that closes, where the base level stands behind the levels that are open.
use Rattle.std.proofs.Common.{◌≡◌, ℕ, ◌<◌, ◌≤◌, Bool, true, false, eqb, ltb, List, [], ◌∷◌, ◌++◌, map, Option, Some, None, refl, sym, ap, ◌∙◌, inl, inr, ◌⊎◌, arith}
use Rattle.std.specs.Prelude.{option_map}
use Rattle.std.specs.List.{AllByRecursion}
use Rattle.std.proofs.lemmas.Bool.{eqb-true, eq-eqb, ne_eqb, ltb-true, lt-ltb, le-ltb}
use Rattle.std.proofs.lemmas.List.Elements.{All-nil, All-cons, recursion_from_All}
use Rattle.fir_base.proofs.Empty.{empty_right}
use Rattle.fir_lex.specs.Tokens.{Token, level_opens, level_closes}
use Rattle.fir_lex.specs.working.Levels.{Move, closing, move_out, innermost, move_to}
use Rattle.fir_lex.specs.TokensOf.{OpensLevel, ClosesLevels}

-- the open levels, and the base
abbrev pub with_base : List ℕ → List ℕ
with_base levels = levels ++ 0 ∷ []

abbrev closings : List ℕ → List Token
closings = map (λ level. level_closes)

abbrev pub Moves : ℕ → List ℕ → Move → Type 0
Moves n levels m = OpensLevel n (with_base levels) m.tokens (with_base m.levels) ⊎ ClosesLevels n (with_base levels) m.tokens (with_base m.levels)

-- ---- what a move is

record Closed (o : Option Move) (m : Move) : Type 0 where
  pub inner : Move
  pub found : o ≡ Some inner
  pub is : closing inner ≡ m

same_some : (x y : Move) → Some x ≡ Some y → x ≡ y
same_some x y e = cc

closed : (o : Option Move) (m : Move) → option_map closing o ≡ Some m → Closed o m
closed None m e = absurd (cc)
closed (Some x) m e = record { inner = x; found = refl; is = same_some (closing x) m e }

abbrev MovesOut : ℕ → List ℕ → Move → Type 0
MovesOut n levels m = ClosesLevels n (with_base levels) m.tokens (with_base m.levels)

stays_at : (n : ℕ) (levels outer : List ℕ) (m : Move) → with_base levels ≡ n ∷ outer → record { tokens = []; levels = levels } ≡ m → MovesOut n levels m
stays_at n levels outer m e same =
    ([], outer, e, All-nil (λ level. n < level), sym (ap (λ (x : Move). x.tokens) same), ap (λ (x : Move). with_base x.levels) (sym same) ∙ e)

stays : (n : ℕ) (levels outer : List ℕ) (m : Move) → with_base levels ≡ n ∷ outer → Some (record { tokens = []; levels = levels }) ≡ Some m
    → MovesOut n levels m
stays n levels outer m e is = stays_at n levels outer m e (same_some (record { tokens = []; levels = levels }) m is)

base_out : (n : ℕ) (m : Move) (t : Bool) → eqb n 0 ≡ t → move_out n [] ≡ Some m → MovesOut n [] m
base_out n m true e h = stays n [] [] m (ap {B = List ℕ} (λ (x : ℕ). x ∷ []) (sym (eqb-true n 0 e))) (rw e at h)
base_out n m false e h = let none : None ≡ Some m = rw e at h in absurd (cc)

closes_more : (n x : ℕ) (xs : List ℕ) (inner m : Move) → n < x → closing inner ≡ m → MovesOut n xs inner → MovesOut n (x ∷ xs) m
closes_more n x xs inner m lt is rest = (
  x ∷ rest.0,
  rest.1,
  ap {B = List ℕ} (λ (s : List ℕ). x ∷ s) rest.2,
  All-cons (λ level. n < level) x rest.0 lt rest.3,
  sym (ap (λ (y : Move). y.tokens) is) ∙ ap {B = List Token} (λ (ts : List Token). level_closes ∷ ts) rest.4,
  sym (ap (λ (y : Move). with_base y.levels) is) ∙ rest.5,
)

out_more : (n x : ℕ) (xs : List ℕ) (m : Move) (t u : Bool) → eqb n x ≡ t → ltb n x ≡ u → ((inner : Move) → move_out n xs ≡ Some inner → MovesOut n xs inner)
    → move_out n (x ∷ xs) ≡ Some m → MovesOut n (x ∷ xs) m
out_more n x xs m true u e f deep h = stays n (x ∷ xs) (with_base xs) m (ap {B = List ℕ} (λ (y : ℕ). y ∷ with_base xs) (sym (eqb-true n x e))) (rw e at h)
out_more n x xs m false true e f deep h =
    let c = closed (move_out n xs) m (rw (e, f) at h) in closes_more n x xs c.inner m (ltb-true n x f) c.is (deep c.inner c.found)
out_more n x xs m false false e f deep h = let none : None ≡ Some m = rw (e, f) at h in absurd (cc)

out_found : (n : ℕ) (levels : List ℕ) (m : Move) → move_out n levels ≡ Some m → MovesOut n levels m
out_found n [] m h = base_out n m (eqb n 0) refl h
out_found n (x ∷ xs) m h = out_more n x xs m (eqb n x) (ltb n x) refl refl (λ inner e. out_found n xs inner e) h

opens_more : (n : ℕ) (levels outer : List ℕ) (m : Move) → with_base levels ≡ innermost levels ∷ outer → innermost levels < n
    → record { tokens = level_opens ∷ []; levels = n ∷ levels } ≡ m → Moves n levels m
opens_more n levels outer m first lt same =
    inl (innermost levels, outer, first, lt, sym (ap (λ (x : Move). x.tokens) same), sym (ap (λ (x : Move). with_base x.levels) same))

inner_first : (levels : List ℕ) → (outer : List ℕ) × (with_base levels ≡ innermost levels ∷ outer)
inner_first [] = ([], refl)
inner_first (x ∷ xs) = (with_base xs, refl)

by_depth : (n : ℕ) (levels : List ℕ) (m : Move) (t : Bool) → ltb (innermost levels) n ≡ t → move_to n levels ≡ Some m → Moves n levels m
by_depth n levels m true e h =
    let first = inner_first levels in
    opens_more n levels first.0 m first.1 (ltb-true (innermost levels) n e)
    (same_some (record { tokens = level_opens ∷ []; levels = n ∷ levels }) m (rw e at h))
by_depth n levels m false e h = inr (out_found n levels m (rw e at h))

pub move_found : (n : ℕ) (levels : List ℕ) (m : Move) → move_to n levels ≡ Some m → Moves n levels m
move_found n levels m h = by_depth n levels m (ltb (innermost levels) n) refl h

-- ---- what is a move

pub record Taken (n : ℕ) (levels : List ℕ) (tokens : List Token) (after : List ℕ) : Type 0 where
  pub move : Move
  pub moves : move_to n levels ≡ Some move
  pub tokens_are : move.tokens ≡ tokens
  pub levels_are : with_base move.levels ≡ after

record Out (n : ℕ) (levels : List ℕ) (tokens : List Token) (after : List ℕ) : Type 0 where
  pub move : Move
  pub moves : move_out n levels ≡ Some move
  pub tokens_are : move.tokens ≡ tokens
  pub levels_are : with_base move.levels ≡ after
  pub within : n ≤ innermost levels

same_head : (x y : ℕ) (xs ys : List ℕ) → x ∷ xs ≡ y ∷ ys → (x ≡ y) × (xs ≡ ys)
same_head x y xs ys e = (cc, cc)

out_taken : (n : ℕ) (levels closed outer : List ℕ) → with_base levels ≡ closed ++ n ∷ outer → AllByRecursion (λ level. n < level) closed
    → Out n levels (closings closed) (n ∷ outer)
out_taken n [] [] outer e all =
    let same = same_head 0 n [] outer e in record {
      move = record { tokens = []; levels = [] };
      moves = rw (eq-eqb n 0 (sym same.0)) refl;
      tokens_are = refl;
      levels_are = e;
      within = omega arith;
    }
out_taken n [] (c ∷ cs) outer e all = let off = empty_right cs (n ∷ outer) (sym (same_head 0 c [] (cs ++ n ∷ outer) e).1) in absurd (cc)
out_taken n (x ∷ xs) [] outer e all =
    let same = same_head x n (with_base xs) outer e in record {
      move = record { tokens = []; levels = x ∷ xs };
      moves = rw (eq-eqb n x (sym same.0)) refl;
      tokens_are = refl;
      levels_are = e;
      within = omega arith;
    }
out_taken n (x ∷ xs) (c ∷ cs) outer e all =
    let same = same_head x c (with_base xs) (cs ++ n ∷ outer) e in
    let rest = out_taken n xs cs outer same.1 all.1 in
    let deeper : n < x = omega arith in record {
      move = closing rest.move;
      moves = rw (ne_eqb n x (λ f. absurd (omega arith)), lt-ltb n x deeper) (ap (option_map closing) rest.moves);
      tokens_are = ap {B = List Token} (λ (ts : List Token). level_closes ∷ ts) rest.tokens_are;
      levels_are = rest.levels_are;
      within = omega arith;
    }

pub move_taken : (n : ℕ) (levels : List ℕ) (tokens : List Token) (after : List ℕ)
    → OpensLevel n (with_base levels) tokens after ⊎ ClosesLevels n (with_base levels) tokens after → Taken n levels tokens after
move_taken n levels tokens after (inl o) =
    let first = inner_first levels in
    let same = same_head (innermost levels) o.0 first.0 o.1 (sym first.1 ∙ o.2) in
    let lt = o.3 in
    let deeper : innermost levels < n = omega arith in record {
      move = record { tokens = level_opens ∷ []; levels = n ∷ levels };
      moves = rw (lt-ltb (innermost levels) n deeper) refl;
      tokens_are = sym o.4;
      levels_are = sym o.5;
    }
move_taken n levels tokens after (inr c) =
    let out = out_taken n levels c.0 c.1 c.2 (recursion_from_All (λ level. n < level) c.0 c.3) in record {
      move = out.move;
      moves = rw (le-ltb (innermost levels) n out.within) out.moves;
      tokens_are = out.tokens_are ∙ sym c.4;
      levels_are = out.levels_are ∙ sym c.5;
    }
