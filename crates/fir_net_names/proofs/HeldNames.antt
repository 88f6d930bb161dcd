-- Sets of names, the lists that they hold, and lists of the same names.
use Rattle.std.proofs.Common.{◌≡◌, ℕ, List, [], ◌∷◌, ◌++◌, Bool, true, false, cond, ◌||◌, refl, sym, ap, ◌∙◌, inl, inr, ⊎_elim}
use Rattle.std.specs.BTreeSet.{BTreeSet, contains}
use Rattle.std.specs.BTreeSet as sorted
use Rattle.std.specs.BTreeMap.{is_at}
use Rattle.std.specs.List.{list_any}
use Rattle.std.specs.Cmp.Lexicographic.{slice_cmp}
use Rattle.std.specs.Ordering.{nat_cmp}
use Rattle.std.specs.Str.{bytes_eq}
use Rattle.std.proofs.lemmas.Map.Text.{is_eq-slice_cmp}
use Rattle.std.proofs.lemmas.Bool.{false_from_ne_true, or_cases, or_left, or_right}
use Rattle.fir_base.specs.Words.{is_among}
use Rattle.fir_base.specs.Lists.{In}
use Rattle.fir_base.proofs.SameNames.{name_is, name_same}
use Rattle.fir_net_names.specs.working.NameSets.{Holds}

-- a choice of two tests, as a condition
or_as_cond : (b c : Bool) → cond b true c ≡ (b || c)
or_as_cond true c = refl
or_as_cond false c = refl

-- the last of three tests comes first
or_first : (a b c : Bool) → (a || (b || c)) ≡ (b || (a || c))
or_first true true c = refl
or_first true false c = refl
or_first false true c = refl
or_first false false c = refl

pub or_none : (b : Bool) → b ≡ (b || false)
or_none true = refl
or_none false = refl

-- a name is among joined names if it is among some of them
pub among_joined : (names others : List (List ℕ)) (n : List ℕ) → is_among (names ++ others) n ≡ (is_among others n || is_among names n)
among_joined [] others n = or_none (is_among others n)
among_joined (m ∷ names) others n = ap (λ b. bytes_eq m n || b) (among_joined names others n) ∙ or_first (bytes_eq m n) (is_among others n) (is_among names n)

-- a name is among others whether it stands at the end or before them
pub among_last : (names : List (List ℕ)) (name n : List ℕ) → is_among (names ++ name ∷ []) n ≡ is_among (name ∷ names) n
among_last [] name n = refl
among_last (m ∷ names) name n = ap (λ b. bytes_eq m n || b) (among_last names name n) ∙ or_first (bytes_eq m n) (bytes_eq name n) (is_among names n)

-- an empty set
pub holds_none : (set : BTreeSet (List ℕ)) → sorted.IsEmpty set → Holds set []
holds_none set empty = record { each = λ n. ap (list_any (is_at (slice_cmp nat_cmp n))) empty }

-- a set with one more name
pub holds_first : (old new : BTreeSet (List ℕ)) (names : List (List ℕ)) (name : List ℕ) → sorted.Updates (slice_cmp nat_cmp) old new name true → Holds old names → Holds new (name ∷ names)
holds_first old new names name u h = record {
  each = λ n. u.0 n ∙ ap (λ b. cond b true (contains (slice_cmp nat_cmp) old n)) (is_eq-slice_cmp name n) ∙ ap (cond (bytes_eq name n) true) (h.each n) ∙ or_as_cond (bytes_eq name n) (is_among names n);
}

-- a list with the same names
pub holds_same : (set : BTreeSet (List ℕ)) (names others : List (List ℕ)) → ((n : List ℕ) → is_among names n ≡ is_among others n) → Holds set names → Holds set others
holds_same set names others same h = record { each = λ n. h.each n ∙ same n }

-- a name is among names, or not
among : (names : List (List ℕ)) (n : List ℕ) → is_among names n ≡ true → In names n
among [] n e = absurd (cc)
among (m ∷ ms) n e =
    ⊎_elim (λ (t : bytes_eq m n ≡ true). inl (name_is m n t)) (λ (t : is_among ms n ≡ true). inr (among ms n t)) (or_cases (bytes_eq m n) (is_among ms n) e)

pub is_named : (names : List (List ℕ)) (n : List ℕ) → In names n → is_among names n ≡ true
is_named [] n m = absurd m
is_named (k ∷ ks) n (inl e) = or_left (bytes_eq k n) (is_among ks n) (ap (bytes_eq k) (sym e) ∙ name_same k)
is_named (k ∷ ks) n (inr m) = or_right (bytes_eq k n) (is_among ks n) (is_named ks n m)

pub same_names : (xs ys : List (List ℕ)) → ((n : List ℕ) → In xs n → In ys n) → ((n : List ℕ) → In ys n → In xs n) → (n : List ℕ) → is_among xs n ≡ is_among ys n
same_names xs ys to from n = by (is_among xs n) refl
  where
    by : (b : Bool) → is_among xs n ≡ b → is_among xs n ≡ is_among ys n
    by true e = e ∙ sym (is_named ys n (to n (among xs n e)))
    by false e = e ∙ sym (false_from_ne_true (is_among ys n) (λ t. let p : is_among xs n ≡ true = is_named xs n (from n (among ys n t)) in cc))
