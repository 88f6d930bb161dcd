-- Names that bases take one after the other: one more, and that none stands twice and each is spelled as a name.
use Rattle.std.proofs.Common.{◌≡◌, ℕ, List, [], ◌∷◌, ◌++◌, Bool, true, false, ◌||◌, refl, sym, ap, ◌∙◌, inl, inr}
use Rattle.std.specs.Prelude.{not, ◌&&◌}
use Rattle.std.specs.List.{AllByRecursion}
use Rattle.std.specs.Str.{bytes_eq}
use Rattle.std.proofs.lemmas.Bool.{and_parts, or_parts, both_ways, not-true}
use Rattle.fir_base.specs.Words.{is_among}
use Rattle.fir_base.specs.Lists.{In, Distinct}
use Rattle.fir_base.proofs.SameNames.{name_same}
use Rattle.ver_words.specs.Names.{is_word, IsName}
use Rattle.ver_words.specs.Reserved.{is_reserved}
use Rattle.fir_net_names.specs.Names.{is_free, suffixed, IsFirstFree, IsNameFor, AreNamed}
use Rattle.fir_net_names.proofs.Unreserved.{suffixed_word}

-- the first of three tests moves behind the second
or_moved : (a b c : Bool) → (a || (b || c)) ≡ (b || a) || c
or_moved true true c = refl
or_moved true false c = refl
or_moved false true c = refl
or_moved false false c = refl

-- more bases, which get their names behind all others
pub named_joined : (taken bases names later new : List (List ℕ)) → AreNamed taken bases names
    → ((known : List (List ℕ)) → ((x : List ℕ) → is_among known x ≡ (is_among names x || is_among taken x)) → AreNamed known later new)
    → AreNamed taken (bases ++ later) (names ++ new)
named_joined taken [] [] later new h next = next taken (λ x. refl)
named_joined taken [] (n ∷ names) later new h next = absurd h
named_joined taken (b ∷ bases) [] later new h next = absurd h
named_joined taken (b ∷ bases) (n ∷ names) later new h next =
    (h.0, named_joined (n ∷ taken) bases names later new h.1 (λ known same. next known (λ x. same x ∙ or_moved (is_among names x) (bytes_eq n x) (is_among taken x))))

-- one more base
pub named_push : (taken bases names : List (List ℕ)) (base name : List ℕ) → AreNamed taken bases names
    → ((known : List (List ℕ)) → ((x : List ℕ) → is_among known x ≡ (is_among names x || is_among taken x)) → IsNameFor known base name)
    → AreNamed taken (bases ++ base ∷ []) (names ++ name ∷ [])
named_push taken bases names base name h next = named_joined taken bases names (base ∷ []) (name ∷ []) h (λ known same. (next known same, tt))

-- of two lists of the same names the same is free
module _ (xs ys : List (List ℕ)) (same : (n : List ℕ) → is_among xs n ≡ is_among ys n) where
  same_free : (n : List ℕ) → is_free ys n ≡ is_free xs n
  same_free n = ap (λ b. not (is_reserved n) && not b) (sym (same n))

  first_same : (base name : List ℕ) → IsFirstFree xs base name → IsFirstFree ys base name
  first_same base name f = record {
    number = f.number;
    is = f.is;
    free = same_free name ∙ f.free;
    before = λ k low. same_free (suffixed base k) ∙ f.before k low;
  }

  name_same_for : (base name : List ℕ) → IsNameFor xs base name → IsNameFor ys base name
  name_same_for base name h = choose (is_free xs base) refl
    where
      choose : (b : Bool) → is_free xs base ≡ b → IsNameFor ys base name
      choose true e = let is : name ≡ base = rw e at h in let free = same_free base ∙ e in rw free is
      choose false e = let one : IsFirstFree xs base name = rw e at h in let free = same_free base ∙ e in rw free (first_same base name one)

pub named_among_same : (xs ys : List (List ℕ)) → ((n : List ℕ) → is_among xs n ≡ is_among ys n) → (bases names : List (List ℕ)) → AreNamed xs bases names → AreNamed ys bases names
named_among_same xs ys same [] [] h = tt
named_among_same xs ys same [] (name ∷ names) h = absurd h
named_among_same xs ys same (base ∷ bases) [] h = absurd h
named_among_same xs ys same (base ∷ bases) (name ∷ names) h =
    (name_same_for xs ys same base name h.0, named_among_same (name ∷ xs) (name ∷ ys) (λ n. ap (λ b. bytes_eq name n || b) (same n)) bases names h.1)

-- a name that was given was free
name_free : (taken : List (List ℕ)) (base name : List ℕ) → IsNameFor taken base name → is_free taken name ≡ true
name_free taken base name h = choose (is_free taken base) refl
  where
    choose : (b : Bool) → is_free taken base ≡ b → is_free taken name ≡ true
    choose true e = let is : name ≡ base = rw e at h in ap (is_free taken) is ∙ e
    choose false e = let one : IsFirstFree taken base name = rw e at h in one.free

name_word : (taken : List (List ℕ)) (base name : List ℕ) → is_word base ≡ true → IsNameFor taken base name → is_word name ≡ true
name_word taken base name w h = choose (is_free taken base) refl
  where
    choose : (b : Bool) → is_free taken base ≡ b → is_word name ≡ true
    choose true e = let is : name ≡ base = rw e at h in ap is_word is ∙ w
    choose false e = let one : IsFirstFree taken base name = rw e at h in ap is_word one.is ∙ suffixed_word base one.number w

-- it is no name that was taken
name_new : (taken : List (List ℕ)) (base name : List ℕ) → IsNameFor taken base name → is_among taken name ≡ false
name_new taken base name h = not-true _ (and_parts (not (is_reserved name)) (not (is_among taken name)) (name_free taken base name h)).1

name_is_name : (taken : List (List ℕ)) (base name : List ℕ) → is_word base ≡ true → IsNameFor taken base name → IsName name
name_is_name taken base name w h = record {
  spelled = name_word taken base name w h;
  free = (and_parts (not (is_reserved name)) (not (is_among taken name)) (name_free taken base name h)).0;
}

pub names_new : (taken bases names : List (List ℕ)) → AreNamed taken bases names → (n : List ℕ) → In names n → is_among taken n ≡ false
names_new taken [] [] h n m = absurd m
names_new taken [] (name ∷ names) h n m = absurd h
names_new taken (base ∷ bases) [] h n m = absurd h
names_new taken (base ∷ bases) (name ∷ names) h n (inl e) = ap (is_among taken) (sym e) ∙ name_new taken base name h.0
names_new taken (base ∷ bases) (name ∷ names) h n (inr m) = (or_parts (bytes_eq name n) (is_among taken n) (names_new (name ∷ taken) bases names h.1 n m)).1

pub names_distinct : (taken bases names : List (List ℕ)) → AreNamed taken bases names → Distinct names
names_distinct taken [] [] h = tt
names_distinct taken [] (name ∷ names) h = absurd h
names_distinct taken (base ∷ bases) [] h = absurd h
names_distinct taken (base ∷ bases) (name ∷ names) h =
    (λ m. both_ways (bytes_eq name name) (or_parts (bytes_eq name name) (is_among taken name) (names_new (name ∷ taken) bases names h.1 name m)).0 (name_same name), names_distinct (name ∷ taken) bases names h.1)

pub names_spelled : (taken bases names : List (List ℕ)) → AllByRecursion (λ base. is_word base ≡ true) bases → AreNamed taken bases names → AllByRecursion IsName names
names_spelled taken [] [] w h = tt
names_spelled taken [] (name ∷ names) w h = absurd h
names_spelled taken (base ∷ bases) [] w h = absurd h
names_spelled taken (base ∷ bases) (name ∷ names) w h = (name_is_name taken base name w.0 h.0, names_spelled (name ∷ taken) bases names w.1 h.1)
