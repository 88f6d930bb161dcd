-- The map of places, word by word: what it finds, that no name stands twice, and that the places are few.
use Rattle.std.proofs.Common.{◌≡◌, ℕ, ◌+◌, ◌<◌, ◌≤◌, List, [], ◌∷◌, ◌++◌, length, take, drop, get_or, Bool, true, false, cond, refl, sym, ap, ◌∙◌, subst, inl, inr, arith, add-zero, zero-add}
use Rattle.std.specs.Prelude.{Option, Some, None, is_some, map, sum_by}
use Rattle.std.specs.Option.{option_or}
use Rattle.std.specs.BTreeMap.{BTreeMap, get}
use Rattle.std.specs.BTreeMap as tree
use Rattle.std.specs.Cmp.Lexicographic.{slice_cmp}
use Rattle.std.specs.Ordering.{nat_cmp}
use Rattle.std.specs.Str.{bytes_eq}
use Rattle.std.proofs.lemmas.Slice.Eq.{bytes_eq-Decides}
use Rattle.std.proofs.lemmas.Map.Text.{is_eq-slice_cmp}
use Rattle.std.proofs.lemmas.List.{take_more, drop_more, map-append, take-append-drop}
use Rattle.std.proofs.lemmas.List.Sums.{sum_by-cons, sum_by_push, sum_by_more_le}
use Rattle.fir_base.specs.Lists.{In, Distinct}
use Rattle.trace_text.specs.declared.shape.StateWord.{StateWord}
use Rattle.trace_text.specs.declared.shape.FoundWord.{FoundWord}
use Rattle.trace_text.specs.Shapes.{found_from, size_of}
use Rattle.trace_text.specs.working.Shapes.{array_size}
use Rattle.trace_text.specs.working.Places.{HasPlaces}
use Rattle.fir_base.proofs.Twins.{apart, distinct_more}
use Rattle.trace_text.proofs.FoundPlaces.{one_or_array}

abbrev names : List StateWord → List (List ℕ)
names = map (λ s. s.name)

-- what a word is found as at a place
abbrev pub found_at : ℕ → StateWord → FoundWord
found_at place s = record { place = place; width = s.width; depth = s.depth }

or_cond : (b : Bool) (x : FoundWord) (y z : Option FoundWord) → cond b (Some x) (option_or y z) ≡ option_or (cond b (Some x) y) z
or_cond true x y z = refl
or_cond false x y z = refl

-- the last word is found where none before it is
found_last : (p : ℕ) (front : List StateWord) (s : StateWord) (name : List ℕ)
    → found_from p (front ++ s ∷ []) name ≡ option_or (found_from p front name) (cond (bytes_eq s.name name) (Some (found_at (p + sum_by size_of front) s)) None)
found_last p [] s name = rw (add-zero p) refl
found_last p (x ∷ front) s name =
    let place : (p + size_of x) + sum_by size_of front ≡ p + sum_by size_of (x ∷ front) = omega (arith, sum_by-cons size_of x front) in
    ap (cond (bytes_eq x.name name) (Some (found_at p x)))
    (found_last (p + size_of x) front s name ∙ ap (λ k. option_or (found_from (p + size_of x) front name) (cond (bytes_eq s.name name) (Some (found_at k s)) None)) place)
    ∙ or_cond (bytes_eq x.name name) (found_at p x) (found_from (p + size_of x) front name) (cond (bytes_eq s.name name) (Some (found_at (p + sum_by size_of (x ∷ front)) s)) None)

-- a name is found where it stands
in_found : (p : ℕ) (ss : List StateWord) (name : List ℕ) → In (names ss) name → is_some (found_from p ss name) ≡ true
in_found p [] name h = absurd h
in_found p (s ∷ ss) name (inl e) = rw ((bytes_eq-Decides s.name name).1 e) refl
in_found p (s ∷ ss) name (inr h) =
    elim (bytes_eq s.name name) as (λ b. is_some (cond b (Some (found_at p s)) (found_from (p + size_of s) ss name)) ≡ true) [ true ↦ refl | false ↦ in_found (p + size_of s) ss name h ]

found_in : (p : ℕ) (ss : List StateWord) (name : List ℕ) → is_some (found_from p ss name) ≡ true → In (names ss) name
found_in p [] name h = cc
found_in p (s ∷ ss) name h =
    let one : (b : Bool) → bytes_eq s.name name ≡ b → In (names (s ∷ ss)) name =
    λ b. elim b as (λ b. bytes_eq s.name name ≡ b → In (names (s ∷ ss)) name) [
      | true ↦ λ e. inl ((bytes_eq-Decides s.name name).0 e)
      | false ↦ λ e. inr (found_in (p + size_of s) ss name (ap (λ b. is_some (cond b (Some (found_at p s)) (found_from (p + size_of s) ss name))) (sym e) ∙ h))
    ] in
    one (bytes_eq s.name name) refl

-- a look-up in a map with one more entry, which was not there
new_found : (b : Bool) (e : FoundWord) (old : Option FoundWord) (ss : Option FoundWord) → (b ≡ true → is_some ss ≡ false) → old ≡ ss → cond b (Some e) old ≡ option_or ss (cond b (Some e) None)
new_found true e old None h same = refl
new_found true e old (Some x) h same = absurd (let k : true ≡ false = h refl in cc)
new_found false e old None h same = same
new_found false e old (Some x) h same = same

places_last : (m n : BTreeMap (List ℕ) FoundWord) (front : List StateWord) (s : StateWord) (key : List ℕ) (e : FoundWord) → key ≡ s.name → e ≡ found_at (sum_by size_of front) s
    → tree.Updates (slice_cmp nat_cmp) m n key (Some e) → is_some (get (slice_cmp nat_cmp) m key) ≡ false → HasPlaces m front → HasPlaces n (front ++ s ∷ [])
places_last m n front s key e named is u new h = record {
  each = λ q.
      let missing : bytes_eq key q ≡ true → is_some (found_from 0 front q) ≡ false =
      λ t. ap is_some (sym (h.each q)) ∙ ap (λ k. is_some (get (slice_cmp nat_cmp) m k)) (sym ((bytes_eq-Decides key q).0 t)) ∙ new in
      u.0 q ∙ ap (λ b. cond b (Some e) (get (slice_cmp nat_cmp) m q)) (is_eq-slice_cmp key q)
      ∙ new_found (bytes_eq key q) e (get (slice_cmp nat_cmp) m q) (found_from 0 front q) missing (h.each q)
      ∙ ap (λ k. option_or (found_from 0 front q) (cond (bytes_eq k q) (Some e) None)) named
      ∙ ap (λ f. option_or (found_from 0 front q) (cond (bytes_eq s.name q) (Some f) None)) (is ∙ ap (λ k. found_at k s) (sym (zero-add (sum_by size_of front))))
      ∙ sym (found_last 0 front s q);
}

-- there are no more words than registers and words of arrays
words_few : (ss : List StateWord) → sum_by size_of ss ≤ length ss + sum_by array_size ss
words_few [] = omega arith
words_few (s ∷ ss) = omega (arith, words_few ss, one_or_array s, sum_by-cons size_of s ss, sum_by-cons array_size s ss)

-- a word behind the first so many
module _ (ss : List StateWord) (i : ℕ) (s : StateWord) (within : i < length ss) (is : s ≡ get_or ss i s) where
  front_more : take (i + 1) ss ≡ take i ss ++ s ∷ []
  front_more = take_more ss i s within ∙ ap (λ x. take i ss ++ x ∷ []) (sym is)

  whole : ss ≡ take i ss ++ s ∷ drop (i + 1) ss
  whole = sym (take-append-drop i ss) ∙ ap (λ rest. take i ss ++ rest) (drop_more ss i s within ∙ ap (λ x. x ∷ drop (i + 1) ss) (sym is))

  pub places_more : (m n : BTreeMap (List ℕ) FoundWord) (key : List ℕ) (place : ℕ) → key ≡ s.name → place ≡ sum_by size_of (take i ss)
      → tree.Updates (slice_cmp nat_cmp) m n key (Some (found_at place s)) → is_some (get (slice_cmp nat_cmp) m key) ≡ false → HasPlaces m (take i ss) → HasPlaces n (take (i + 1) ss)
  places_more m n key place named at u new h = rw front_more (places_last m n (take i ss) s key (found_at place s) named (ap (λ k. found_at k s) at) u new h)

  -- its name is not among those before it
  pub once_more : (m : BTreeMap (List ℕ) FoundWord) (key : List ℕ) → key ≡ s.name → is_some (get (slice_cmp nat_cmp) m key) ≡ false → HasPlaces m (take i ss)
      → Distinct (names (take i ss)) → Distinct (names (take (i + 1) ss))
  once_more m key named new h d =
      let missing : In (names (take i ss)) s.name → ⊥ = λ k.
      let there = in_found 0 (take i ss) s.name k in
      let found : is_some (get (slice_cmp nat_cmp) m key) ≡ true = ap is_some (h.each key ∙ ap (found_from 0 (take i ss)) named) ∙ there in
      cc in
      rw (front_more, map-append) (distinct_more (names (take i ss)) s.name d missing)

  pub twice : (m : BTreeMap (List ℕ) FoundWord) (key : List ℕ) → key ≡ s.name → is_some (get (slice_cmp nat_cmp) m key) ≡ true → HasPlaces m (take i ss) → Distinct (names ss) → ⊥
  twice m key named known h d =
      let there : is_some (found_from 0 (take i ss) s.name) ≡ true = ap is_some (sym (h.each key ∙ ap (found_from 0 (take i ss)) named)) ∙ known in
      let parts : names ss ≡ names (take i ss) ++ s.name ∷ names (drop (i + 1) ss) = ap names whole ∙ map-append (λ (s : StateWord). s.name) (take i ss) (s ∷ drop (i + 1) ss) in
      apart (names (take i ss)) (s.name ∷ names (drop (i + 1) ss)) (subst Distinct parts d) s.name (found_in 0 (take i ss) s.name there) (inl refl)

  pub place_more : (place size : ℕ) → place ≡ sum_by size_of (take i ss) → size ≡ size_of s → place + size ≡ sum_by size_of (take (i + 1) ss)
  place_more place size p q = rw (p, q, front_more) (sym (sum_by_push size_of (take i ss) s))

  pub place_few : sum_by size_of (take i ss) + size_of s ≤ length ss + sum_by array_size ss
  place_few =
      let more : sum_by size_of (take i ss) + size_of s ≤ sum_by size_of ss = rw is (sum_by_more_le size_of ss i s within) in
      omega (arith, more, words_few ss)
