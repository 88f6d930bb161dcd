-- The names of the nets of operations: none is a leaf's, and none stands twice.
use Rattle.std.proofs.Common.{◌≡◌, ℕ, ◌+◌, ◌^◌, ◌<◌, ◌≤◌, List, [], ◌∷◌, ◌++◌, Bool, true, false, not, ◌||◌, refl, sym, ◌∙◌, inl, inr, arith}
use Rattle.std.specs.Prelude.{codes}
use Rattle.std.specs.Str.{bytes_eq}
use Rattle.fir_base.specs.Lists.{In, Distinct}
use Rattle.fir_base.specs.Words.{is_among}
use Rattle.fir_base.proofs.SameNames.{name_same}
use Rattle.fir_base.proofs.Tests.{both}
use Rattle.fir_base.proofs.Twins.{distinct_joined}
use Rattle.ver_words.specs.Reserved.{is_reserved}
use Rattle.fir_net_names.specs.Names.{is_free, inner_name, AreInner}
use Rattle.fir_net_names.proofs.Untaken.{numbered_apart}
use Rattle.ver_build.specs.working.Places.{AreInnerTo}

among : (names : List (List ℕ)) (x : List ℕ) → In names x → is_among names x ≡ true
among [] x m = absurd m
among (n ∷ names) x (inl e) = rw (e, name_same x) refl
among (n ∷ names) x (inr m) = or_true (bytes_eq n x) (is_among names x) (among names x m)
  where
    or_true : (a b : Bool) → b ≡ true → (a || b) ≡ true
    or_true true b h = refl
    or_true false b h = h

pub not_true : (b : Bool) → not b ≡ true → b ≡ true → ⊥
not_true true h k = cc
not_true false h k = cc

-- a free name with a number
pub record IsNumber (taken : List (List ℕ)) (from to : ℕ) (name : List ℕ) : Type 0 where
  pub number : ℕ
  pub low : from ≤ number
  pub high : number < to
  pub is : name ≡ inner_name number
  pub free : is_free taken name ≡ true

up_to : (taken : List (List ℕ)) (from to : ℕ) (names : List (List ℕ)) → AreInnerTo taken from names to → from ≤ to
up_to taken from to [] h = omega arith
up_to taken from to (n ∷ names) h = let low = h.1.low in let rest = up_to taken (h.0 + 1) to names h.3 in omega arith

pub numbered : (taken : List (List ℕ)) (from to : ℕ) (names : List (List ℕ)) → AreInnerTo taken from names to → (x : List ℕ) → In names x
    → IsNumber taken from to x
numbered taken from to [] h x m = absurd m
numbered taken from to (n ∷ names) h x (inl e) =
    let low = h.1.low in
    let rest = up_to taken (h.0 + 1) to names h.3 in
    record { number = h.0; low = low; high = omega arith; is = sym e ∙ h.2; free = rw (sym e ∙ h.2) h.1.free }
numbered taken from to (n ∷ names) h x (inr m) =
    let low = h.1.low in
    let r = numbered taken (h.0 + 1) to names h.3 x m in
    let least = r.low in
    record { number = r.number; low = omega arith; high = r.high; is = r.is; free = r.free }

names_once : (taken : List (List ℕ)) (from to : ℕ) (names : List (List ℕ)) → to ≤ 2 ^ 127 → AreInnerTo taken from names to → Distinct names
names_once taken from to [] small h = tt
names_once taken from to (n ∷ names) small h = (
  λ m.
      let r = numbered taken (h.0 + 1) to names h.3 n m in
      let low = r.low in
      let high = r.high in
      let same : h.0 ≡ r.number = numbered_apart (codes "_n") h.0 r.number (omega arith) (omega arith) (sym h.2 ∙ r.is) in
      omega arith,
  names_once taken (h.0 + 1) to names small h.3,
)

-- a name that is free is none of those taken
pub free_apart : (taken : List (List ℕ)) (x : List ℕ) → is_free taken x ≡ true → In taken x → ⊥
free_apart taken x free m = not_true (is_among taken x) (both (not (is_reserved x)) (not (is_among taken x)) free).1 (among taken x m)

pub all_once : (taken : List (List ℕ)) (to : ℕ) (names : List (List ℕ)) → Distinct taken → to ≤ 2 ^ 127 → AreInnerTo taken 0 names to
    → Distinct (taken ++ names)
all_once taken to names once small h =
    distinct_joined taken names once (names_once taken 0 to names small h) (λ x m n. free_apart taken x (numbered taken 0 to names h x n).free m)

pub are_inner : (taken : List (List ℕ)) (from to : ℕ) (names : List (List ℕ)) → AreInnerTo taken from names to → AreInner taken from names
are_inner taken from to [] h = tt
are_inner taken from to (x ∷ names) h = (h.0, h.1, h.2, are_inner taken (h.0 + 1) to names h.3)
