-- Moves between levels, as a loop makes them.
use Rattle.std.proofs.Common.{◌≡◌, ℕ, ◌+◌, ◌-◌, ◌<◌, ◌≤◌, List, [], ◌∷◌, ◌++◌, length, get_or, take, reverse, Option, Some, None, refl, sym, ap, subst, ◌∙◌, append_assoc, arith}
use Rattle.std.specs.Prelude.{option_map}
use Rattle.std.proofs.lemmas.Bool.{eq-eqb, ne_eqb, lt-ltb, le-ltb}
use Rattle.std.proofs.lemmas.List.{reverse-append, take_more, take_all, append-nil, map-append, length-reverse}
use Rattle.fir_ast.specs.declared.place.Place.{Place}
use Rattle.fir_lex.specs.Tokens.{Placed, level_opens, level_closes}
use Rattle.fir_lex.specs.working.Levels.{Move, closing, move_out, innermost, move_to}
use Rattle.fir_lex.specs.working.Lexed.{placed_at, closed_at}
use Rattle.fir_lex.specs.working.Steps.{moved}

-- ---- the innermost level stands last

pub reverse_push : (xs : List ℕ) (x : ℕ) → reverse (xs ++ x ∷ []) ≡ x ∷ reverse xs
reverse_push xs x = reverse-append xs (x ∷ [])

reverse_last : (xs : List ℕ) → 0 < length xs → reverse xs ≡ get_or xs (length xs - 1) 0 ∷ reverse (take (length xs - 1) xs)
reverse_last xs some =
    let whole : take (length xs - 1 + 1) xs ≡ xs = take_all (length xs - 1 + 1) xs (omega arith) in
    let parts : take (length xs - 1 + 1) xs ≡ take (length xs - 1) xs ++ get_or xs (length xs - 1) 0 ∷ [] = take_more xs (length xs - 1) 0 (omega arith) in
    ap reverse (sym whole ∙ parts) ∙ reverse_push (take (length xs - 1) xs) (get_or xs (length xs - 1) 0)

-- ---- opening

abbrev pair : List Placed → List ℕ → Option (List Placed × List ℕ)
pair ts levels = Some (ts, levels)

pub opens : (ts : List Placed) (p : Place) (n : ℕ) (levels : List ℕ) → innermost (reverse levels) < n → moved ts p (move_to n (reverse levels)) ≡ Some (ts ++ record { token = level_opens; place = p } ∷ [], reverse (levels ++ n ∷ []))
opens ts p n levels deeper = rw (lt-ltb _ _ deeper) (ap (pair (ts ++ record { token = level_opens; place = p } ∷ [])) (sym (reverse_push levels n)))

pub does_not_open : (ts : List Placed) (p : Place) (n : ℕ) (levels : List ℕ) → n ≤ innermost levels → moved ts p (move_to n levels) ≡ moved ts p (move_out n levels)
does_not_open ts p n levels within = rw (le-ltb _ _ within) refl

-- ---- closing

one_closes : (ts : List Placed) (p : Place) (o : Option Move) → moved ts p (option_map closing o) ≡ moved (ts ++ record { token = level_closes; place = p } ∷ []) p o
one_closes ts p None = refl
one_closes ts p (Some m) = ap (λ (x : List Placed). Some (x, m.levels)) (sym (append_assoc ts (record { token = level_closes; place = p } ∷ []) (placed_at p m.tokens)))

out_closes : (ts : List Placed) (p : Place) (n m : ℕ) (ms : List ℕ) → n < m → moved ts p (move_out n (m ∷ ms)) ≡ moved (ts ++ record { token = level_closes; place = p } ∷ []) p (move_out n ms)
out_closes ts p n m ms lt = rw (ne_eqb n m (λ e. absurd (omega (arith, lt, e))), lt-ltb n m lt) (one_closes ts p (move_out n ms))

out_of_empty : (levels : List ℕ) → length levels ≤ 0 → innermost (reverse levels) ≡ 0
out_of_empty [] h = refl
out_of_empty (n ∷ ns) h = absurd (omega arith)

pub closes : (ts : List Placed) (p : Place) (n : ℕ) (levels : List ℕ) → n < innermost (reverse levels) → moved ts p (move_out n (reverse levels)) ≡ moved (ts ++ record { token = level_closes; place = p } ∷ []) p (move_out n (reverse (take (length levels - 1) levels)))
closes ts p n [] lt = absurd (omega arith)
closes ts p n (x ∷ xs) lt =
    let parts = reverse_last (x ∷ xs) (omega arith) in
    let below : n < get_or (x ∷ xs) (length (x ∷ xs) - 1) 0 = subst (λ (r : List ℕ). n < innermost r) parts lt in
    ap (λ (r : List ℕ). moved ts p (move_out n r)) parts ∙ out_closes ts p n (get_or (x ∷ xs) (length (x ∷ xs) - 1) 0) (reverse (take (length (x ∷ xs) - 1) (x ∷ xs))) below

pub fewer : (n : ℕ) (levels : List ℕ) → n < innermost (reverse levels) → 0 < length levels
fewer n [] lt = absurd (omega arith)
fewer n (x ∷ xs) lt = omega arith

-- ---- where the closing ends

pub meets : (ts : List Placed) (p : Place) (n : ℕ) (levels : List ℕ) → innermost levels ≡ n → moved ts p (move_out n levels) ≡ Some (ts, levels)
meets ts p n [] e = rw (eq-eqb n 0 (sym e)) (ap (λ (x : List Placed). pair x []) (append-nil ts))
meets ts p n (m ∷ ms) e = rw (eq-eqb n m (sym e)) (ap (λ (x : List Placed). pair x (m ∷ ms)) (append-nil ts))

pub misses : (ts : List Placed) (p : Place) (n : ℕ) (levels : List ℕ) → innermost levels ≤ n → (innermost levels ≡ n → ⊥) → moved ts p (move_out n levels) ≡ None
misses ts p n [] le ne = rw (ne_eqb n 0 (λ e. ne (sym e))) refl
misses ts p n (m ∷ ms) le ne = rw (ne_eqb n m (λ e. ne (sym e)), le-ltb n m le) refl

-- ---- all close

abbrev pub closer : Place → Placed
closer p = record { token = level_closes; place = p }

pub closed_more : (p : Place) (levels : List ℕ) (i : ℕ) → i < length levels → closed_at p (take (i + 1) levels) ≡ closed_at p (take i levels) ++ closer p ∷ []
closed_more p levels i lt = ap (closed_at p) (take_more levels i 0 lt) ∙ map-append (λ level. closer p) (take i levels) (get_or levels i 0 ∷ [])

pub closed_reversed : (p : Place) (levels : List ℕ) → closed_at p (reverse levels) ≡ closed_at p levels
closed_reversed p levels = same (reverse levels) levels (length-reverse levels) where
  same : (xs ys : List ℕ) → length xs ≡ length ys → closed_at p xs ≡ closed_at p ys
  same [] [] e = refl
  same [] (y ∷ ys) e = absurd (omega arith)
  same (x ∷ xs) [] e = absurd (omega arith)
  same (x ∷ xs) (y ∷ ys) e = ap {B = List Placed} (λ r. closer p ∷ r) (same xs ys (omega arith))

pub close_more : (ts us vs : List Placed) (p : Place) (levels : List ℕ) (i : ℕ) → i < length levels → us ≡ ts ++ closed_at p (take i levels) → vs ≡ us ++ closer p ∷ [] → vs ≡ ts ++ closed_at p (take (i + 1) levels)
close_more ts us vs p levels i lt so_far one =
    one ∙ ap (λ (x : List Placed). x ++ closer p ∷ []) so_far ∙ append_assoc ts (closed_at p (take i levels)) (closer p ∷ []) ∙ ap (λ (x : List Placed). ts ++ x) (sym (closed_more p levels i lt))
