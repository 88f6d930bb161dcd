-- Writes in one list of words are writes of the words of each name, and the words of a name stand in it from its base on.
use Rattle.std.proofs.Common.{◌≡◌, ℕ, zero, suc, ◌+◌, ◌<◌, ◌≤◌, List, [], ◌∷◌, ◌++◌, length, map, take, drop, set, get_or, cond, true, false, Bool, refl, sym, ap, ◌∙◌, inl, inr, subst, arith, length-set, length-append}
use Rattle.std.specs.Prelude.{flat_map, replicate, nat_lt, slice_set}
use Rattle.std.specs.Str.{bytes_eq}
use Rattle.std.proofs.lemmas.Bool.{cond-true, cond-false, ltb-true, ltb-false}
use Rattle.std.proofs.lemmas.List.{at_drop_more, take-append-drop, take-set-le, drop-set-lt, drop-set-add, set_past, length-take, length-drop, length-replicate}
use Rattle.fir_base.specs.Lists.{In, Distinct}
use Rattle.fir_base.proofs.Members.{in_map}
use Rattle.fir_base.proofs.SameNames.{name_is, name_other, name_same}
use Rattle.ver_ast.specs.Nets.{Variable, variable_names, variable_widths}
use Rattle.ver_ast.specs.Stores.{Store, store_of, state_of}
use Rattle.ver_ast.specs.Next.{Put, put_one, put_all}
use Rattle.ver_sim.specs.working.FlatStates.{base_of, depth_of, FlatPut, flat, flat_one, flat_all}

take-set-below : (d p x : ℕ) (xs : List ℕ) → p < d → take d (set xs p x) ≡ set (take d xs) p x
take-set-below zero p x xs lt = absurd (omega arith)
take-set-below (suc d) p x [] lt = refl
take-set-below (suc d) zero x (y ∷ ys) lt = refl
take-set-below (suc d) (suc p) x (y ∷ ys) lt = ap (λ zs. y ∷ zs) (take-set-below d p x ys (omega arith))

-- a write among the first d words, as the words see it
here : (d p x : ℕ) (xs : List ℕ) (b : Bool) → nat_lt p d ≡ b → take d (cond b (set xs (0 + p) x) xs) ≡ set (take d xs) p x
here d p x xs true e = ap (λ (j : ℕ). take d (set xs j x)) (omega arith) ∙ take-set-below d p x xs (ltb-true p d e)
here d p x xs false e =
    let past : length (take d xs) ≤ p = omega (arith, ltb-false p d e, length-take d xs) in
    sym (set_past (take d xs) p x past)

-- and those behind
behind : (d p x : ℕ) (xs : List ℕ) (b : Bool) → nat_lt p d ≡ b → drop d (cond b (set xs (0 + p) x) xs) ≡ drop d xs
behind d p x xs true e = drop-set-lt d xs (0 + p) x (omega (arith, ltb-true p d e))
behind d p x xs false e = refl

-- a write behind the first d words
front_same : (d base p x : ℕ) (xs : List ℕ) (b : Bool) → take d (cond b (set xs ((d + base) + p) x) xs) ≡ take d xs
front_same d base p x xs true = take-set-le d xs ((d + base) + p) x (omega arith)
front_same d base p x xs false = refl

back_moved : (d base p x : ℕ) (xs : List ℕ) (b : Bool) → drop d (cond b (set xs ((d + base) + p) x) xs) ≡ cond b (set (drop d xs) (base + p) x) (drop d xs)
back_moved d base p x xs true =
    let e : (d + base) + p ≡ d + (base + p) = omega arith in
    ap (λ (j : ℕ). drop d (set xs j x)) e ∙ drop-set-add d xs (base + p) x
back_moved d base p x xs false = refl

-- a write by number is the write by name
one_put : (ks : List Variable) (p : Put) (state m : List ℕ) → store_of ks (flat_one (flat ks p) state) m ≡ put_one p (store_of ks state) m
one_put [] p state m = by (bytes_eq p.name m)
  where
    by : (b : Bool) → [] ≡ cond b (slice_set [] p.place p.word) []
    by true = refl
    by false = refl
one_put (k ∷ ks) p state m = by (bytes_eq k.name p.name) (bytes_eq k.name m) refl refl (one_put ks p (drop k.depth state) m)
  where
    new : Bool → List ℕ
    new b = flat_one (record { base = cond b 0 (k.depth + base_of ks p.name); depth = cond b k.depth (depth_of ks p.name); place = p.place; word = p.word }) state

    by : (b c : Bool) → bytes_eq k.name p.name ≡ b → bytes_eq k.name m ≡ c
        → store_of ks (flat_one (flat ks p) (drop k.depth state)) m ≡ put_one p (store_of ks (drop k.depth state)) m
        → cond c (take k.depth (new b)) (store_of ks (drop k.depth (new b)) m)
        ≡ cond (bytes_eq p.name m) (slice_set (cond c (take k.depth state) (store_of ks (drop k.depth state) m)) p.place p.word) (cond c (take k.depth state) (store_of ks (drop k.depth state) m))
    by true true e f ih =
        let same : bytes_eq p.name m ≡ true = ap (λ (n : List ℕ). bytes_eq n m) (sym (name_is k.name p.name e)) ∙ f in
        here k.depth p.place p.word state (nat_lt p.place k.depth) refl ∙ sym (cond-true (bytes_eq p.name m) _ _ same)
    by true false e f ih =
        let other : bytes_eq p.name m ≡ false = ap (λ (n : List ℕ). bytes_eq n m) (sym (name_is k.name p.name e)) ∙ f in
        ap (λ (xs : List ℕ). store_of ks xs m) (behind k.depth p.place p.word state (nat_lt p.place k.depth) refl) ∙ sym (cond-false (bytes_eq p.name m) _ _ other)
    by false true e f ih =
        let other : bytes_eq p.name m ≡ false = name_other p.name m (λ s. absurd (apart (ap (bytes_eq k.name) s))) in
        front_same k.depth (base_of ks p.name) p.place p.word state (nat_lt p.place (depth_of ks p.name)) ∙ sym (cond-false (bytes_eq p.name m) _ _ other)
      where
        apart : bytes_eq k.name p.name ≡ bytes_eq k.name m → ⊥
        apart q = let no-such : false ≡ true = sym e ∙ q ∙ f in cc
    by false false e f ih =
        ap (λ (xs : List ℕ). store_of ks xs m) (back_moved k.depth (base_of ks p.name) p.place p.word state (nat_lt p.place (depth_of ks p.name))) ∙ ih

pub puts_by_number : (ks : List Variable) (ps : List Put) (state : List ℕ) → store_of ks (flat_all (map (flat ks) ps) state) ≡ put_all ps (store_of ks state)
puts_by_number ks [] state = refl
puts_by_number ks (p ∷ ps) state = puts_by_number ks ps (flat_one (flat ks p) state) ∙ ap (put_all ps) (λ i m. one_put ks p state m i)

length-flat_one : (p : FlatPut) (state : List ℕ) → length (flat_one p state) ≡ length state
length-flat_one p state = by (nat_lt p.place p.depth)
  where
    by : (b : Bool) → length (cond b (slice_set state (p.base + p.place) p.word) state) ≡ length state
    by true = length-set state (p.base + p.place) p.word
    by false = refl

pub length-flat_all : (ps : List FlatPut) (state : List ℕ) → length (flat_all ps state) ≡ length state
length-flat_all [] state = refl
length-flat_all (p ∷ ps) state = length-flat_all ps (flat_one p state) ∙ length-flat_one p state

-- the words of all names, one behind the other, are the state
same_words : (f g : Store) (ks : List Variable) → ((k : Variable) → In ks k → f k.name ≡ g k.name) → state_of ks f ≡ state_of ks g
same_words f g [] h = refl
same_words f g (k ∷ ks) h = rw (h k (inl refl), same_words f g ks (λ q m. h q (inr m))) refl

whole_state : (ks : List Variable) (state : List ℕ) → Distinct (variable_names ks) → length state ≡ length (variable_widths ks) → state_of ks (store_of ks state) ≡ state
whole_state [] [] d l = refl
whole_state [] (x ∷ xs) d l = absurd (omega (arith, l))
whole_state (k ∷ ks) state d l =
    let long : length (drop k.depth state) ≡ length (variable_widths ks) =
    omega (arith, l, length-drop k.depth state, length-append (replicate k.depth k.width) (variable_widths ks), length-replicate k.depth k.width) in
    let first : store_of (k ∷ ks) state k.name ≡ take k.depth state = cond-true (bytes_eq k.name k.name) _ _ (name_same k.name) in
    let others : state_of ks (store_of (k ∷ ks) state) ≡ state_of ks (store_of ks (drop k.depth state)) =
    same_words (store_of (k ∷ ks) state) (store_of ks (drop k.depth state)) ks
    (λ q m. cond-false (bytes_eq k.name q.name) _ _ (name_other k.name q.name (λ s. d.0 (subst (In (variable_names ks)) (sym s) (in_map (λ (j : Variable). j.name) ks q m))))) in
    ap (λ xs. xs ++ state_of ks (store_of (k ∷ ks) state)) first
    ∙ ap (λ ys. take k.depth state ++ ys) (others ∙ whole_state ks (drop k.depth state) d.1 long)
    ∙ take-append-drop k.depth state

-- writes by number leave the state that the writes by name leave
pub flat_state : (ks : List Variable) (ps : List Put) (state : List ℕ) → Distinct (variable_names ks) → length state ≡ length (variable_widths ks)
    → flat_all (map (flat ks) ps) state ≡ state_of ks (put_all ps (store_of ks state))
flat_state ks ps state d l =
    sym (whole_state ks (flat_all (map (flat ks) ps) state) d (length-flat_all (map (flat ks) ps) state ∙ l)) ∙ ap (state_of ks) (puts_by_number ks ps state)

flat_all-append : (ps qs : List FlatPut) (state : List ℕ) → flat_all (ps ++ qs) state ≡ flat_all qs (flat_all ps state)
flat_all-append [] qs state = refl
flat_all-append (p ∷ ps) qs state = flat_all-append ps qs (flat_one p state)

-- one block more
pub block_next : {X : Type 0} → (f : X → List FlatPut) (xs : List X) (i : ℕ) (x : X) (state new start : List ℕ) → i < length xs → x ≡ get_or xs i x
    → flat_all (flat_map f (drop i xs)) state ≡ start → new ≡ flat_all (f x) state → flat_all (flat_map f (drop (i + 1) xs)) new ≡ start
block_next f xs i x state new start lt is h n =
    ap (flat_all (flat_map f (drop (i + 1) xs))) n ∙ sym (flat_all-append (f x) (flat_map f (drop (i + 1) xs)) state)
    ∙ ap (λ y. flat_all (f y ++ flat_map f (drop (i + 1) xs)) state) is ∙ sym (at_drop_more (λ ys. flat_all (flat_map f ys) state) xs i x lt) ∙ h
